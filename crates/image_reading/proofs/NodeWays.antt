-- Why the readers of an image's nodes give what they promise: one law for each way out.
use mathlib.Core.Path.{◌≡◌, refl, sym, ap, ◌∙◌}
use mathlib.Core.List.{List, [], ◌∷◌, ◌++◌, map, append_assoc, append-nil}
use Prim.Native.Nat.{ℕ, zero, suc, ◌+◌, ◌-◌, ◌*◌, ◌<◌, ◌≤◌}
use native.Mathlib.Omega.{arith}
use native.Mathlib.Numerals.{add-one}
use lib.Dec.{ltb}
use lib.ListN.{length, get_or, set, drop, length-append, drop_of_length-le, get_or-eq_default}
use lib.Seq.{sets, drop-cons}
use borrow.Author.Tests.{lt-ltb, ltb-true}
use Rattle.number.specs.Number.{narrow}
use Rattle.plan.specs.Sizes.{most_nodes}
use Rattle.plan.specs.Plan.{Plan, no_node, size, capacity_of}
use Rattle.plan.specs.PlanArrays.{at_node, capacities_row}
use Rattle.plan.proofs.ArrayLaws.{capacities_back}
use Rattle.store.specs.declared.Copy.{Copy}
use Rattle.store.specs.Answers.{RULE}
use Rattle.store.specs.declared.Store.{Store}
use Rattle.store.specs.Layout.{width, column, store_of}
use Rattle.store.proofs.Laying.{append_one, node_grown, counts_written}
use Rattle.wire.specs.Reading.{Got, got, fault, bind, number_at}
use Rattle.wire.proofs.Chains.{bind_got, bind_fault, check_holds, got_or_fault, Gives, gives_got, gives_any, gives_check, gives_bind}
use Rattle.image_reading.specs.ImageReading.{read_copies, read_node, read_nodes}
use Rattle.image_reading.specs.Workers.{with_copies, with_node, with_nodes}
use Rattle.image_reading.proofs.ReadWays.{copies_into}

-- ---- how many copies are read

pub copies_counted : (s : List ℕ) (n at : ℕ) → Gives (λ xs next. length xs ≡ n) (read_copies s n at)
unfolding read_copies
copies_counted s zero at = gives_got refl
copies_counted s (suc n) at = gives_bind _ _ (gives_any _) λ x a _. gives_bind _ _ (copies_counted s n a) λ xs b h. gives_got (ap suc h)

pub node_counted : (s : List ℕ) (capacity at : ℕ) → Gives (λ xs next. length xs ≤ capacity) (read_node s capacity at)
unfolding read_node
node_counted s capacity at =
    gives_bind _ _ (gives_any _) λ count a _.
    gives_check (ltb count (suc capacity)) RULE at _ λ few.
    record {
      each = λ xs next e. let m = ltb-true count (suc capacity) few in omega (arith, (copies_counted s count a).each xs next e);
    }

-- ---- read_node

-- A node, read into a store's places.
abbrev pub node_into : List ℕ → ℕ → ℕ → Store → ℕ → Got Store
node_into s capacity at z n = bind (read_node s capacity at) (λ xs next. got (with_node z n xs) next)

-- What is done with a result needs to agree only where the reading gives it.
bind_given : {A B : Type 0} {R : A → ℕ → Type 0} (g : Got A) (f h : A → ℕ → Got B) → Gives R g → ((x : A) (next : ℕ) → R x next → f x next ≡ h x next)
    → bind g f ≡ bind g h
unfolding bind
bind_given (got x next) f h r same = same x next (r.each x next refl)
bind_given (fault number at) f h r same = refl

module _ (s : List ℕ) (capacity at : ℕ) (z : Store) (n : ℕ) where
  module _ {count a : ℕ} (e : number_at narrow s at ≡ got count a) where
    -- The copies follow.
    pub node_copies : count ≤ capacity
        → node_into s capacity at z n ≡ copies_into s (width * n + count - width * n) a (record z { counts = set z.counts n count }) (width * n)
    unfolding read_node
    node_copies h =
        let m : width * n + count - width * n ≡ count = omega arith in
        let follow = bind_got _ _ e ∙ check_holds (ltb count (suc capacity)) RULE at _ (lt-ltb count (suc capacity) (omega arith)) in
        rw m
        (ap (λ (g : Got (List Copy)). bind g (λ xs next. got (with_node z n xs) next)) follow
        ∙ bind_given (read_copies s count a) (λ xs next. got (with_node z n xs) next)
        (λ xs next. got (with_copies (record z { counts = set z.counts n count }) (width * n) xs) next) (copies_counted s count a)
        (λ xs next many. ap (λ (k : ℕ). got (with_copies (record z { counts = set z.counts n k }) (width * n) xs) next) many))

-- ---- read_nodes

-- The capacity of a node by its lent row is the plan's.
pub capacity_here : (p : Plan) → size p ≤ most_nodes → {capacities : List ℕ} → capacities ≡ capacities_row p → (n : ℕ) {capacity : ℕ}
    → capacity ≡ at_node capacities n → capacity ≡ capacity_of p n
capacity_here p few e n q = q ∙ ap (λ (l : List ℕ). at_node l n) e ∙ capacities_back p few n

-- The nodes read so far, in their places, and what is left to read.
pub record Sofar (s : List ℕ) (p : Plan) (at : ℕ) (before : Store) (n : ℕ) (z : Store) (next : ℕ) : Type 0 where
  pub nodes : List (List Copy)
  pub many : length nodes ≡ n
  pub holds : z ≡ with_nodes before nodes
  pub rest : read_nodes s p at ≡ bind (read_nodes s (drop n p) next) (λ ns end. got (nodes ++ ns) end)

bind_self : {A : Type 0} (g : Got A) → g ≡ bind g (λ x next. got x next)
unfolding bind
bind_self (got x next) = refl
bind_self (fault number at) = refl

pub sofar_none : (s : List ℕ) (p : Plan) (at : ℕ) {z : Store} → z ≡ with_nodes z [] → Sofar s p at z 0 z at
sofar_none s p at e = record { nodes = []; many = refl; holds = e; rest = bind_self (read_nodes s p at) }

-- A node is added after the last.
module _ (before : Store) (ns : List (List Copy)) (xs : List Copy) where
  node_grows : length ns < most_nodes → length xs ≤ width → with_node (with_nodes before ns) (length ns) xs ≡ with_nodes before (ns ++ xs ∷ [])
  unfolding store_of
  node_grows few fits =
      λ t. record {
        plan = before.plan;
        clock = before.clock;
        counts = sym (counts_written (append_one ns xs)) t;
        keys = grow (λ (x : Copy). x.key) t;
        kinds = grow (λ (x : Copy). x.kind) t;
        values = grow (λ (x : Copy). x.value) t;
        stamps = grow (λ (x : Copy). x.stamp) t;
        slots = before.slots;
      }
    where
      none : length (get_or ns (length ns) []) ≤ length xs
      none = let e : get_or ns (length ns) [] ≡ [] = get_or-eq_default ns [] (omega arith) in rw e (omega arith)

      grow : (part : Copy → ℕ) → sets (column part ns) (width * length ns) (map part xs) ≡ column part (ns ++ xs ∷ [])
      grow part = node_grown (append_one ns xs) part few none fits

  rest_grows : (g : Got (List (List Copy)))
      → bind (bind g (λ ms end. got (xs ∷ ms) end)) (λ ms end. got (ns ++ ms) end) ≡ bind g (λ ms end. got ((ns ++ xs ∷ []) ++ ms) end)
  unfolding bind
  rest_grows (got ms end) = ap (λ (l : List (List Copy)). got l end) (sym (append_assoc ns (xs ∷ []) ms))
  rest_grows (fault number at) = refl

-- What a reading that was laid gave.
laid_got : {A : Type 0} (g : Got A) (f : A → Store) {y : Store} {end : ℕ} → bind g (λ x next. got (f x) next) ≡ got y end
    → (x : A) × (g ≡ got x end) × (y ≡ f x)
unfolding bind
laid_got (got x next) f e = (x, cc, cc)
laid_got (fault number at) f e = absurd (got_or_fault e refl)

laid_fault : {A : Type 0} (g : Got A) (f : A → Store) {number at : ℕ} → bind g (λ x next. got (f x) next) ≡ fault number at → g ≡ fault number at
unfolding bind
laid_fault (got x next) f e = absurd (got_or_fault refl e)
laid_fault (fault number at) f e = cc

module _ {s : List ℕ} {p : Plan} {at : ℕ} {before : Store} {n : ℕ} {z : Store} {next : ℕ} (so : Sofar s p at before n z next) where
  -- All nodes are read.
  pub sofar_end : size p ≤ n → got z next ≡ bind (read_nodes s p at) (λ ns end. got (with_nodes before ns) end)
  unfolding read_nodes bind
  sofar_end h =
      let e : read_nodes s p at ≡ got so.nodes next =
      so.rest ∙ ap (λ (q : Plan). bind (read_nodes s q next) (λ ns end. got (so.nodes ++ ns) end)) (drop_of_length-le p h)
      ∙ ap (λ (ns : List (List Copy)). got ns next) (append-nil so.nodes) in
      ap (λ (y : Store). got y next) so.holds ∙ sym (bind_got _ _ e)

  module _ (more : n < size p) {capacity : ℕ} (e : capacity ≡ capacity_of p n) where
    -- The next node of the plan.
    node-next : read_nodes s (drop n p) next
        ≡ bind (read_node s capacity next) (λ xs a. bind (read_nodes s (drop (suc n) p) a) (λ ns end. got (xs ∷ ns) end))
    unfolding read_nodes
    node-next = ap (λ (q : Plan). read_nodes s q next) (drop-cons p n no_node more) ∙ rw e refl

    -- It cannot be read.
    pub sofar_stops : {number place : ℕ} → fault number place ≡ node_into s capacity next z n
        → fault number place ≡ bind (read_nodes s p at) (λ ns end. got (with_nodes before ns) end)
    sofar_stops h = sym (bind_fault _ _ (so.rest ∙ bind_fault _ _ (node-next ∙ bind_fault _ _ (laid_fault (read_node s capacity next) (with_node z n) (sym h)))))

    -- It is read.
    pub sofar_turn : n < most_nodes → capacity ≤ width → {y : Store} {a : ℕ} → got y a ≡ node_into s capacity next z n → Sofar s p at before (n + 1) y a
    sofar_turn few room {y} {a} h =
        let b = laid_got (read_node s capacity next) (with_node z n) (sym h) in
        let xs = b.0 in
        let fits = (node_counted s capacity next).each xs a b.1 in
        let m = so.many in
        record {
          nodes = so.nodes ++ xs ∷ [];
          many = rw length-append (omega arith);
          holds =
              b.2 ∙ ap (λ (y : Store). with_node y n xs) so.holds ∙ ap (λ (k : ℕ). with_node (with_nodes before so.nodes) k xs) (sym m)
              ∙ node_grows before so.nodes xs (omega arith) (omega arith);
          rest =
              so.rest ∙ ap (λ (g : Got (List (List Copy))). bind g (λ ns end. got (so.nodes ++ ns) end)) (node-next ∙ bind_got _ _ b.1)
              ∙ rest_grows before so.nodes xs (read_nodes s (drop (suc n) p) a) ∙ rw add-one refl;
        }
