-- What each step does to the nodes, and what one line sees of it: nothing, one entry, or one carry along an edge.
use mathlib.Core.Path.{◌≡◌, refl, ap, ◌∙◌, subst}
use mathlib.Core.Bool.{Bool, true, false, not, ◌&&◌}
use mathlib.Core.Logic.{◌≢◌}
use mathlib.Core.List.{List, []}
use mathlib.Core.Option.{Option, none, some}
use Prim.Native.Nat.{ℕ, suc, ◌<◌, ◌≤◌}
use native.Mathlib.Omega.{arith}
use native.Mathlib.Decide.{ℕ_discrete}
use lib.Dec.{eqb}
use lib.ListN.{length, get_or, set, length-set}
use lib.Seq.{get_or-set_same, get_or-set_other}
use borrow.Author.Tests.{eq-eqb, ne_eqb}
use Rattle.plan.specs.declared.Edge.{Edge}
use Rattle.plan.specs.Plan.{Hop}
use Rattle.std.specs.Prelude.{Some}
use Rattle.plan.specs.Plan.{Plan, size, capacity_of, edge_of, next}
use Rattle.plan.specs.PlanRules.{IsEdge, PlanRules}
use Rattle.plan.proofs.NextLaws.{edge_next}
use Rattle.store.specs.declared.Copy.{Copy}
use Rattle.store.specs.declared.Slot.{Slot}
use Rattle.store.specs.Answers.{DONE}
use Rattle.store.specs.Copies.{copy, key_of, find, is_some}
use Rattle.store.specs.State.{State, node_at, slot_at, idle, line}
use Rattle.store.specs.StateRules.{StateRules}
use Rattle.store.specs.Calls.{Effect}
use Rattle.steps.specs.Entries.{put, entered, entry}
use Rattle.steps.specs.Carries.{Merged, bit, merge_along, carried_to, carried_out, carry_step}
use Rattle.steps.specs.Searches.{with_slot, start_step, step_step, cancel_step}
use Rattle.steps.proofs.NodeLists.{put_same, put_other}
use Rattle.steps.proofs.Merges.{Merging, KeyMerged, merging, key_merged}
use Rattle.steps.proofs.Merges.KeyMerged.{untouched, carried}
use Rattle.steps.proofs.RulesOnLines.{rising_nodes}
use Rattle.steps.proofs.WaysOut.{EntryWay, entry_way, CarryWay, carry_way, StartWay, start_way, RunningWay, Visit, step_way, Freed, cancel_way}
use Rattle.steps.proofs.WaysOut.EntryWay.{at_last_clock, root_full, enters as copy-enters}
use Rattle.steps.proofs.WaysOut.CarryWay.{no_node, no_edge_lem, merges}
use Rattle.steps.proofs.WaysOut.StartWay.{all-running, starts}
use Rattle.steps.proofs.WaysOut.RunningWay.{no_slot, slot_idle, slot_runs}
use Rattle.steps.proofs.WaysOut.Visit.{finds, never, goes}
use Rattle.steps.proofs.WaysOut.Freed.{freed}

-- A line's copies, by node.
abbrev pub Line : Type 0
Line = ℕ → Option Copy

-- The copy x of the line enters at the root.
pub record Entered (x : Copy) (l l' : Line) : Type 0 where
  pub got : l' 0 ≡ some x
  pub other : (m : ℕ) → m ≢ 0 → l' m ≡ l m

-- The line's copy x goes from node n to its next node t.
pub record Carried (hop : ℕ → Hop) (n t : ℕ) (x : Copy) (l l' : Line) : Type 0 where
  pub had : l n ≡ some x
  pub via : hop n ≡ Some t
  pub gone : l' n ≡ none
  pub got : l' t ≡ some x
  pub other : (m : ℕ) → m ≢ n → m ≢ t → l' m ≡ l m

-- What a step may do to a line, with the number of its carries and of its entries.
pub data LineStep (hop : ℕ → Hop) (clock clock' : ℕ) (l l' : Line) (moves entries : ℕ) : Type 0 where
  same : moves ≡ 0 → entries ≡ 0 → clock ≤ clock' → ((m : ℕ) → l' m ≡ l m) → LineStep hop clock clock' l l' moves entries
  enters : moves ≡ 0 → entries ≡ 1 → (x : Copy) → x.stamp ≡ clock → clock < clock' → Entered x l l'
      → LineStep hop clock clock' l l' moves entries
  carries : moves ≡ 1 → entries ≡ 0 → (n t : ℕ) (x : Copy) → clock ≡ clock' → Carried hop n t x l l'
      → LineStep hop clock clock' l l' moves entries

-- The nodes after an entry: the root has the copy put in, and the others are as they were.
pub entered_root : (x : Copy) (s : State) → 0 < length s.nodes → node_at (entered x s) 0 ≡ put key_of x (node_at s 0)
unfolding entered
entered_root x s h = get_or-set_same s.nodes 0 (put key_of x (node_at s 0)) [] h

pub entered_other : (x : Copy) (s : State) (m : ℕ) → m ≢ 0 → node_at (entered x s) m ≡ node_at s m
unfolding entered
entered_other x s m h = get_or-set_other s.nodes 0 m (put key_of x (node_at s 0)) [] h

-- The nodes after a carry: the node has what stays, the target what it then has, and the others are as they were.
pub carried_from_lem : (n t : ℕ) (m : Merged Copy) (s : State) → n < length s.nodes → n ≢ t → node_at (carried_to n t m s) n ≡ m.stay
unfolding carried_to
carried_from_lem n t m s h e =
    get_or-set_other (set s.nodes n m.stay) t n m.target [] e ∙ get_or-set_same s.nodes n m.stay [] h

pub carried_into : (n t : ℕ) (m : Merged Copy) (s : State) → t < length s.nodes → node_at (carried_to n t m s) t ≡ m.target
unfolding carried_to
carried_into n t m s h = get_or-set_same (set s.nodes n m.stay) t m.target [] (rw length-set h)

pub carried_other : (n t : ℕ) (m : Merged Copy) (s : State) (j : ℕ) → j ≢ n → j ≢ t → node_at (carried_to n t m s) j ≡ node_at s j
unfolding carried_to
carried_other n t m s j a b =
    get_or-set_other (set s.nodes n m.stay) t j m.target [] b ∙ get_or-set_other s.nodes n j m.stay [] a

-- So what holds of the nodes that were set, and of every node before, holds of every node after.
pub every_node-entered : (x : Copy) (s : State) → 0 < length s.nodes → (Holds : ℕ → List Copy → Type 0)
    → Holds 0 (put key_of x (node_at s 0)) → ((j : ℕ) → Holds j (node_at s j)) → (j : ℕ) → Holds j (node_at (entered x s) j)
every_node-entered x s h Holds f g j = go (ℕ_discrete j 0)
  where
    go : Dec (j ≡ 0) → Holds j (node_at (entered x s) j)
    go (yes q) = rw (q, entered_root x s h) f
    go (no q) = rw (entered_other x s j q) (g j)

pub every_node-carried : (n t : ℕ) (m : Merged Copy) (s : State) → n < t → t < length s.nodes → (Holds : ℕ → List Copy → Type 0)
    → Holds n m.stay → Holds t m.target → ((j : ℕ) → Holds j (node_at s j)) → (j : ℕ) → Holds j (node_at (carried_to n t m s) j)
every_node-carried n t m s d h Holds f g r j = go (ℕ_discrete j n) (ℕ_discrete j t)
  where
    go : Dec (j ≡ n) → Dec (j ≡ t) → Holds j (node_at (carried_to n t m s) j)
    go (yes q) c = rw (q, carried_from_lem n t m s (omega arith) (λ (e : n ≡ t). omega arith)) f
    go (no q) (yes c) = rw (c, carried_into n t m s h) g
    go (no q) (no c) = rw (carried_other n t m s j q c) (r j)

-- The slots after a slot was set: that one, and the others as they were.
pub slot_set : (i : ℕ) (q : Slot) (s : State) → i < length s.slots → slot_at (with_slot i q s) i ≡ q
slot_set i q s h = get_or-set_same s.slots i q idle h

pub slot_other : (i : ℕ) (q : Slot) (s : State) (j : ℕ) → j ≢ i → slot_at (with_slot i q s) j ≡ slot_at s j
slot_other i q s j h = get_or-set_other s.slots i j q idle h

-- A node's list gives its line.
line_of : (s : State) (k m : ℕ) (xs : List Copy) → node_at s m ≡ xs → line s k m ≡ find key_of xs k
line_of s k m xs e = ap (λ (l : List Copy). find key_of l k) e

-- An entry is one on its own line, and nothing to the others.
pub entered-line : (x : Copy) (s : State) → 0 < length s.nodes → Entered x (line s x.key) (line (entered x s) x.key)
entered-line x s h =
    record {
      got = line_of (entered x s) x.key 0 _ (entered_root x s h) ∙ put_same key_of x (node_at s 0) x.key refl;
      other = λ m e. line_of (entered x s) x.key m _ (entered_other x s m e);
    }

pub entered_other_line : (x : Copy) (s : State) → 0 < length s.nodes → (k : ℕ) → x.key ≢ k → (m : ℕ) → line (entered x s) k m ≡ line s k m
entered_other_line x s h k e =
    every_node-entered x s h (λ j xs. find key_of xs k ≡ line s k j) (put_other key_of x (node_at s 0) k e) (λ j. refl)

-- Searches leave nodes and clock as they were,
pub record Still (s s' : State) : Type 0 where
  pub nodes : s'.nodes ≡ s.nodes
  pub clock : s'.clock ≡ s.clock

pub start_still : (k : ℕ) (p : Plan) (s : State) → Still s (start_step k p s).after
start_still k p s = go (start_way k p s)
  where
    go : {e : Effect} → StartWay k s e → Still s e.after
    go (all-running h) = record { nodes = refl; clock = refl }
    go (starts i h f g) = record { nodes = refl; clock = refl }

running_still : (Done : Effect → Type 0) (i : ℕ) (s : State) → ((e : Effect) → Done e → Still s e.after)
    → {e : Effect} → RunningWay Done i s e → Still s e.after
running_still Done i s f (no_slot h) = record { nodes = refl; clock = refl }
running_still Done i s f (slot_idle h g) = record { nodes = refl; clock = refl }
running_still Done i s f (slot_runs {e = e} h g d) = f e d

pub step_still : (i : ℕ) (p : Plan) (s : State) → Still s (step_step i p s).after
step_still i p s = running_still (Visit i p s) i s (λ e. go) (step_way i p s)
  where
    go : {e : Effect} → Visit i p s e → Still s e.after
    go (finds x g) = record { nodes = refl; clock = refl }
    go (never g h) = record { nodes = refl; clock = refl }
    go (goes g t h) = record { nodes = refl; clock = refl }

pub cancel_still : (i : ℕ) (p : Plan) (s : State) → Still s (cancel_step i p s).after
cancel_still i p s = running_still (Freed i s) i s (λ e. go) (cancel_way i p s)
  where
    go : {e : Effect} → Freed i s e → Still s e.after
    go freed = record { nodes = refl; clock = refl }

-- and entries and carries the slots.
pub entry_slots : (kind k v : ℕ) (p : Plan) (s : State) → (entry kind k v p s).after.slots ≡ s.slots
entry_slots kind k v p s = go (entry_way kind k v p s)
  where
    go : {e : Effect} → EntryWay kind k v p s e → e.after.slots ≡ s.slots
    go (at_last_clock h) = refl
    go (root_full h f g) = refl
    go (copy-enters h f) = unfold entered in refl

pub carry_slots : (n i : ℕ) (p : Plan) (s : State) → (carry_step n i p s).after.slots ≡ s.slots
carry_slots n i p s = go (carry_way n i p s)
  where
    go : {e : Effect} → CarryWay n i p s e → e.after.slots ≡ s.slots
    go (no_node h) = refl
    go (no_edge_lem h f) = refl
    go (merges d) = unfold carried_out carried_to in refl

-- "A carry carries a line exactly when the node had its copy before and lacks it after": 1 if so, else 0.
abbrev pub carried_from : State → State → ℕ → ℕ → ℕ
carried_from s s' n k = bit (is_some (line s k n) && not (is_some (line s' k n)))

-- 1 if an entry of key j was accepted and j is the line's key, else 0.
abbrev pub entered_on : Effect → ℕ → ℕ → ℕ
entered_on e j k = bit (eqb e.answer.number DONE && eqb j k)

-- A line through a step: from the state before it to the state after it.
abbrev pub LineThrough : Plan → State → Effect → ℕ → ℕ → ℕ → Type 0
LineThrough p s e k moves entries =
    LineStep (λ m. next p m k) s.clock e.after.clock (line s k) (line e.after k) moves entries

-- The state after a carry along edge i of node n.
abbrev pub after_carry : Plan → ℕ → ℕ → State → State
after_carry p n i s = carried_to n (edge_of p n i).target (merge_along p n (edge_of p n i) s) s

pub merging_along : (p : Plan) (n : ℕ) (e : Edge) (s : State)
    → Merging key_of (capacity_of p e.target) e (node_at s n) (node_at s e.target) (merge_along p n e s).stay (merge_along p n e s).target
unfolding merge_along
merging_along p n e s = merging key_of (capacity_of p e.target) e (node_at s n) (node_at s e.target)

not_twice : (b : Bool) → bit (b && not b) ≡ 0
not_twice true = refl
not_twice false = refl

module _ (p : Plan) (rules : PlanRules p) (s : State) (good : StateRules p s) (k : ℕ) where
  -- A line that is left as it was.
  left : (s' : State) → ((m : ℕ) → line s' k m ≡ line s k m) → (n : ℕ)
      → LineStep (λ m. next p m k) s.clock s.clock (line s k) (line s' k) (carried_from s s' n k) 0
  left s' f n =
      same (ap (λ (o : Option Copy). bit (is_some (line s k n) && not (is_some o))) (f n) ∙ not_twice (is_some (line s k n))) refl
      (omega arith) f

  pub entered_step : (x : Copy) → x.stamp ≡ s.clock
      → LineStep (λ m. next p m k) s.clock (suc s.clock) (line s k) (line (entered x s) k) 0 (bit (eqb x.key k))
  entered_step x t = go (ℕ_discrete x.key k)
    where
      root : 0 < length s.nodes
      root = omega (arith, good.a_list_for_each_node, rules.nodes_within)

      go : Dec (x.key ≡ k)
          → LineStep (λ m. next p m k) s.clock (suc s.clock) (line s k) (line (entered x s) k) 0 (bit (eqb x.key k))
      go (yes q) =
          enters refl (ap bit (eq-eqb x.key k q)) x t (omega arith)
          (subst (λ (z : ℕ). Entered x (line s z) (line (entered x s) z)) q (entered-line x s root))
      go (no q) = same refl (ap bit (ne_eqb x.key k q)) (omega arith) (entered_other_line x s root k q)

  pub entry-line : (kind j v : ℕ) → LineThrough p s (entry kind j v p s) k 0 (entered_on (entry kind j v p s) j k)
  entry-line kind j v = go (entry_way kind j v p s)
    where
      go : {e : Effect} → EntryWay kind j v p s e → LineThrough p s e k 0 (entered_on e j k)
      go (at_last_clock h) = same refl refl (omega arith) (λ m. refl)
      go (root_full h f g) = same refl refl (omega arith) (λ m. refl)
      go (copy-enters h f) = unfold entered in entered_step (copy j kind v s.clock) refl

  -- What a carry does to the line's copies in its two nodes,
  pub carried_key : (n : ℕ) (e : Edge)
      → KeyMerged key_of e (node_at s n) (node_at s e.target) (merge_along p n e s).stay (merge_along p n e s).target k
  carried_key n e = key_merged key_of (capacity_of p e.target) e (merging_along p n e s) (rising_nodes p s good n) k

  -- and so to the line.
  pub merged_line : (n i : ℕ) → IsEdge p n i
      → LineStep (λ m. next p m k) s.clock s.clock (line s k) (line (after_carry p n i s) k) (carried_from s (after_carry p n i s) n k) 0
  merged_line n i d = go (carried_key n e)
    where
      e : Edge
      e = edge_of p n i

      t : ℕ
      t = e.target

      m : Merged Copy
      m = merge_along p n e s

      s' : State
      s' = after_carry p n i s

      down : (n < t) × (t < size p)
      down = rules.target_greater_and_exists n i d

      exists : t < length s.nodes
      exists = omega (arith, down.1, good.a_list_for_each_node)

      at_n : line s' k n ≡ find key_of m.stay k
      at_n =
          line_of s' k n m.stay
          (carried_from_lem n t m s (omega (arith, d.node, good.a_list_for_each_node)) (λ (q : n ≡ t). omega (arith, down.0)))

      at_t : line s' k t ≡ find key_of m.target k
      at_t = line_of s' k t m.target (carried_into n t m s exists)

      at_other : (j : ℕ) → j ≢ n → j ≢ t → line s' k j ≡ line s k j
      at_other j a b = line_of s' k j (node_at s j) (carried_other n t m s j a b)

      go : KeyMerged key_of e (node_at s n) (node_at s t) m.stay m.target k
          → LineStep (λ m. next p m k) s.clock s.clock (line s k) (line s' k) (carried_from s s' n k) 0
      go (untouched f g) =
          left s'
          (every_node-carried n t m s down.0 exists (λ j xs. find key_of xs k ≡ line s k j) f g (λ j. refl)) n
      go (carried x f h g c) =
          carries (rw (f, at_n, g)) refl n t x refl
          (record { had = f; via = edge_next p rules n i k d h; gone = at_n ∙ g; got = at_t ∙ c; other = at_other })

  pub carry_line : (n i : ℕ) → LineThrough p s (carry_step n i p s) k (carried_from s (carry_step n i p s).after n k) 0
  carry_line n i = go (carry_way n i p s)
    where
      go : {e : Effect} → CarryWay n i p s e → LineThrough p s e k (carried_from s e.after n k) 0
      go (no_node h) = left s (λ m. refl) n
      go (no_edge_lem h f) = left s (λ m. refl) n
      go (merges d) = unfold carried_out carried_to in merged_line n i d

  -- A search does nothing to any line.
  still_line : (e : Effect) → Still s e.after → LineThrough p s e k 0 0
  still_line e f =
      same refl refl (omega (arith, f.clock)) (λ m. ap (λ (ns : List (List Copy)). find key_of (get_or ns m []) k) f.nodes)

  pub start_line : (j : ℕ) → LineThrough p s (start_step j p s) k 0 0
  start_line j = still_line (start_step j p s) (start_still j p s)

  pub step_line : (i : ℕ) → LineThrough p s (step_step i p s) k 0 0
  step_line i = still_line (step_step i p s) (step_still i p s)

  pub cancel_line : (i : ℕ) → LineThrough p s (cancel_step i p s) k 0 0
  cancel_line i = still_line (cancel_step i p s) (cancel_still i p s)
