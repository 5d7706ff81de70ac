-- The ways of an entry: a bad store, the clock at its last value, a copy replaced, a copy added, and a full root; and what it holds.
use mathlib.Core.Path.{◌≡◌, refl, sym, ap, ◌∙◌}
use mathlib.Core.Bool.{true, false}
use Rattle.std.specs.Prelude.{Some, None}
use mathlib.Core.List.{List, ◌∷◌, ◌++◌}
use mathlib.Core.Option.{none, some}
use Prim.Native.Nat.{ℕ, ◌+◌, ◌<◌, ◌≤◌}
use native.Mathlib.Omega.{arith}
use native.Mathlib.Nat.{zero-add}
use lib.ListN.{length, get_or, take, drop, set, length-set}
use borrow.Author.Tests.{lt-ltb, le-ltb}
use Rattle.lists.proofs.Inserting.{length-put_in}
use Rattle.plan.specs.Plan.{Plan, capacity_of}
use Rattle.plan.specs.PlanArrays.{rows_of, at_node}
use Rattle.plan.specs.declared.rows.Rows.{Rows}
use Rattle.plan.proofs.RowsLent.{capacity_of_lem}
use Rattle.plan_table.specs.PlanTable.{plan_numbered}
use Rattle.store.specs.declared.Copy.{Copy}
use Rattle.store.specs.declared.Outcome.{Outcome}
use Rattle.store.specs.declared.Store.{Store}
use Rattle.store.specs.Answers.{DONE, CLOCK, FULL, answer, bare}
use Rattle.store.specs.Copies.{RESULT, copy, no_copy, key_of, find}
use Rattle.store.specs.State.{State, node_at, last_clock}
use Rattle.store.specs.Layout.{plan_of, width, count_of, state_of, column}
use Rattle.store.specs.StoreRules.{good_store}
use Rattle.store.specs.Calls.{on_store}
use Rattle.store.specs.Workers.{Ordered, below, place_in, opened}
use Rattle.store.proofs.KindLaws.{result_holds}
use Rattle.store.proofs.Laying.{set_one, length-column, counts_written, copy_written, store_is, length_nodes, state_node, state_count, state_copy, state_clock, state_slots}
use Rattle.store.proofs.Opening.{opened_start, opened-set}
use Rattle.store.proofs.Seeking.{below_length, find_rising, find_none}
use Rattle.store.proofs.Lifting.{plan_good, state_good, good_ordered, on_way, on_refusal}
use Rattle.store.proofs.WhichPlan.{capacities_here}
use Rattle.store.proofs.GoodNodes.{node_place, root_there, counts_fit, counts_are, keys_are, kinds_are, values_are, stamps_are}
use Rattle.steps.specs.Entries.{put, room, refused, entered, entry}
use Rattle.steps.specs.Promises.{Enters}
use Rattle.steps.proofs.NodeLists.{room_has, room_free, room_none}
use Rattle.steps.proofs.Putting.{put-replaced, put_added}
use Rattle.entries.specs.Decisions.{Enterable, acceptance, DecidesFor}
use Rattle.entries.proofs.Shifting.{copy-opened}

-- Opened for one place alone, a column is stored into.
opened_one : (c : List ℕ) (at x : ℕ) → at < length c → opened c at at x ≡ set c at x
opened_one c at x h =
    sym (opened-set c at 0 h at (get_or c at 0) x (omega arith)) ∙ ap (λ (l : List ℕ). set l at x) (sym (opened_start c at 0 h))

-- The three ways of an entry on a state.
module _ (kind k v : ℕ) (p : Plan) (s : State) where
  at_last : last_clock ≤ s.clock → entry kind k v p s ≡ refused CLOCK s
  unfolding entry
  at_last h = rw (le-ltb s.clock last_clock h)

  no_room : s.clock < last_clock → room key_of (capacity_of p 0) (node_at s 0) k ≡ false → entry kind k v p s ≡ refused FULL s
  unfolding entry
  no_room h e = rw (lt-ltb s.clock last_clock h, e)

  has_room : s.clock < last_clock → room key_of (capacity_of p 0) (node_at s 0) k ≡ true
      → entry kind k v p s ≡ record { answer = answer DONE s.clock 0 0 0; after = entered (copy k kind v s.clock) s }
  unfolding entry
  has_room h e = rw (lt-ltb s.clock last_clock h, e)

module _ (z : Store) (good : good_store z ≡ true) where
  abbrev p : Plan
  p = plan_of z

  abbrev s : State
  s = state_of z

  abbrev root : List Copy
  root = node_at s 0

  -- The root: it is listed, as long as its count, and its keys stand in the column.
  root_listed : 0 < length s.nodes
  root_listed = omega (arith, length_nodes z, root_there z good)

  root_count : length root ≡ count_of z 0
  root_count = state_count z 0 (root_there z good)

  root_fits : count_of z 0 ≤ width
  root_fits = counts_fit z good 0 (omega arith)

  root_key : (i : ℕ) → i < count_of z 0 → get_or z.keys i 0 ≡ key_of (get_or root i no_copy)
  root_key i h = rw zero-add at (sym (ap key_of (state_copy z 0 i (root_there z good) h)))

  -- "CLOCK: entry at clock 4294967295"
  pub clock_out : (kind k v : ℕ) → last_clock ≤ z.clock → record { answer = bare CLOCK; store = z } ≡ on_store (entry kind k v) z
  unfolding state_of
  clock_out kind k v h = on_refusal (entry kind k v) z good CLOCK (at_last kind k v p s h)

  -- The place of the key among the root's.
  module _ (k at : ℕ) (place : at ≡ place_in z.keys 0 (count_of z 0) k) where
    at_below : at ≡ below key_of root k
    at_below =
        let e = node_place z 0 0 (count_of z 0) k (omega arith) (omega arith) in
        rw (state_node z 0 (root_there z good)) (omega arith)

    at_most : at ≤ count_of z 0
    at_most = omega (arith, at_below, below_length key_of root k, root_count)

    module _ (kind v : ℕ) (early : z.clock < last_clock) where
      abbrev x : Copy
      x = copy k kind v z.clock

      abbrev after : List (List Copy)
      after = set s.nodes 0 (put key_of x root)

      -- An entry that the root has room for: its count and its columns are those of the nodes after the entry.
      done : (end count : ℕ) → room key_of (capacity_of p 0) root k ≡ true → count ≡ length (put key_of x root)
          → ((part : Copy → ℕ) (c : List ℕ) → c ≡ column part s.nodes → opened c at end (part x) ≡ column part after)
          → acceptance (record { at = at; end = end; count = count }) z kind k v ≡ on_store (entry kind k v) z
      unfolding state_of entered
      done end count h n each =
          on_way (entry kind k v) z good (answer DONE z.clock 0 0 0) (entered x s) _ (has_room kind k v p s early h)
          (store_is z.plan (entered x s) _ refl (omega (arith, state_clock z))
          (ap (λ (m : ℕ). set z.counts 0 m) n ∙ ap (λ (l : List ℕ). set l 0 (length (put key_of x root))) (counts_are z good)
          ∙ sym (counts_written (set_one s.nodes 0 (put key_of x root) root_listed)))
          (each (λ (y : Copy). y.key) z.keys (keys_are z good))
          (each (λ (y : Copy). y.kind) z.kinds (kinds_are z good))
          (each (λ (y : Copy). y.value) z.values (values_are z good))
          (each (λ (y : Copy). y.stamp) z.stamps (stamps_are z good)) (sym (state_slots z)))

      -- The root has the key: each column is stored into at the place.
      module _ (held : at < count_of z 0) (same : get_or z.keys at 0 ≡ k) where
        its_key_lem : key_of (get_or root at no_copy) ≡ k
        its_key_lem = sym (root_key at held) ∙ same

        over : put key_of x root ≡ set root at x
        over = put-replaced key_of no_copy x root at at_below (omega (arith, root_count)) its_key_lem

        over_column : (part : Copy → ℕ) (c : List ℕ) → c ≡ column part s.nodes → opened c at at (part x) ≡ column part after
        over_column part c e =
            ap (λ (l : List ℕ). opened l at at (part x)) e
            ∙ opened_one (column part s.nodes) at (part x) (omega (arith, length-column part s.nodes, root_fits))
            ∙ (rw zero-add at
            (copy_written part s.nodes 0 at x root_listed (omega arith) (omega (arith, root_count)) (omega (arith, root_fits))))
            ∙ ap (λ (ys : List Copy). column part (set s.nodes 0 ys)) (sym over)

        found : find key_of root k ≡ some (get_or root at no_copy)
        found = find_rising key_of no_copy root ((state_good z good).keys_strictly_rise 0) k at (omega (arith, root_count)) its_key_lem

        entry-replaced : acceptance (record { at = at; end = at; count = count_of z 0 }) z kind k v ≡ on_store (entry kind k v) z
        entry-replaced =
            done at (count_of z 0) (room_has key_of (capacity_of p 0) root k (get_or root at no_copy) found)
            (sym (ap length over ∙ length-set root at x ∙ root_count)) over_column

      -- The root lacks the key: each column is opened at the place.
      module _ (lacks : at < count_of z 0 → get_or z.keys at 0 ≡ k → ⊥) where
        no_key : at < length root → key_of (get_or root at no_copy) ≡ k → ⊥
        no_key h e = let n = root_count in lacks (omega arith) (root_key at (omega arith) ∙ e)

        between : put key_of x root ≡ take at root ++ x ∷ drop at root
        between = put_added key_of no_copy x root at at_below no_key

        with_column : count_of z 0 < width → (part : Copy → ℕ) (c : List ℕ) → c ≡ column part s.nodes
            → opened c at (count_of z 0) (part x) ≡ column part after
        with_column h part c e =
            ap (λ (l : List ℕ). opened l at (count_of z 0) (part x)) e
            ∙ (rw (zero-add, zero-add, root_count) at
            (copy-opened part s.nodes 0 at x root_listed (omega arith) (omega (arith, at_most, root_count)) (omega (arith, root_count))))
            ∙ ap (λ (ys : List Copy). column part (set s.nodes 0 ys)) (sym between)

        missing : find key_of root k ≡ none
        missing =
            find_none key_of no_copy root ((state_good z good).keys_strictly_rise 0) k
            (λ h e. let b = at_below in no_key (omega arith) (rw at_below e))

        entry_added : count_of z 0 < capacity_of p 0 → count_of z 0 < width
            → acceptance (record { at = at; end = count_of z 0; count = count_of z 0 + 1 }) z kind k v ≡ on_store (entry kind k v) z
        entry_added h w =
            done (count_of z 0) (count_of z 0 + 1) (room_free key_of (capacity_of p 0) root k (omega (arith, root_count)))
            (omega (arith, root_count, ap length between, length-put_in x root at (omega (arith, at_most, root_count)))) (with_column w)

        entry_full : capacity_of p 0 ≤ count_of z 0 → record { answer = bare FULL; store = z } ≡ on_store (entry kind k v) z
        unfolding state_of
        entry_full h =
            on_refusal (entry kind k v) z good FULL
            (no_room kind k v p s early (room_none key_of (capacity_of p 0) root k missing (omega (arith, root_count))))

-- The root's capacity is within a node's places.
pub capacity_few : {s z : Store} {capacity : ℕ} → Enterable s capacity z → capacity ≤ width
capacity_few {z = z} w =
    omega (arith, w.capacity_is, (plan_good z w.good).capacity_within 0 (root_there z w.good))

-- A good store past the check of its clock, and its root's capacity by the rows of its plan.
pub enterable : (z : Store) → good_store z ≡ true → z.clock < last_clock → (r : Rows) → r ≡ rows_of (plan_numbered z.plan) → (capacity : ℕ)
    → capacity ≡ at_node r.capacities 0 → Enterable z capacity z
enterable z good early r r-is capacity capacity-is =
    record {
      good = good;
      early = early;
      counts_are = refl;
      keys_are = refl;
      capacity_is = capacity-is ∙ capacity_of_lem (plan_of z) (plan_good z good) r.capacities (capacities_here z r r-is) 0;
    }

-- Its root is in order.
pub root_ordered : {s z : Store} {capacity : ℕ} → Enterable s capacity z → Ordered z.counts z.keys 0
root_ordered {z = z} w = good_ordered z w.good 0 (omega arith)

-- The decision by the counts and the keys of a store: its three ways.
module _ {s z : Store} {capacity : ℕ} (w : Enterable s capacity z) (k at : ℕ) (place : at ≡ place_in s.keys 0 (count_of s 0) k) where
  -- The store's own place of the key, its count and its keys are these.
  its_place : at ≡ place_in z.keys 0 (count_of z 0) k
  its_place = rw (w.counts_are, w.keys_are) place

  its_count_lem : count_of z 0 ≡ count_of s 0
  its_count_lem = ap (λ (l : List ℕ). get_or l 0 0) w.counts_are

  there : (i : ℕ) → get_or z.keys i 0 ≡ get_or s.keys i 0
  there i = ap (λ (l : List ℕ). get_or l i 0) w.keys_are

  -- "A root copy of that key is replaced",
  pub decides_replaced : at < count_of s 0 → get_or s.keys at 0 ≡ k → DecidesFor z k (Some (record { at = at; end = at; count = count_of s 0 }))
  decides_replaced held same =
      rw (← its_count_lem)
      (record {
        in_root = (omega arith, omega (arith, root_fits z w.good, its_count_lem));
        outcome = λ kind v. entry-replaced z w.good k at its_place kind v w.early (omega (arith, its_count_lem)) (there at ∙ same);
      })

  module _ (lacks : at < count_of s 0 → get_or s.keys at 0 ≡ k → ⊥) where
    its_lacks : at < count_of z 0 → get_or z.keys at 0 ≡ k → ⊥
    its_lacks h e = lacks (omega (arith, its_count_lem)) (sym (there at) ∙ e)

    -- "otherwise one is added if the root has a free place".
    pub decides_added : count_of s 0 < capacity → DecidesFor z k (Some (record { at = at; end = count_of s 0; count = count_of s 0 + 1 }))
    decides_added h =
        let n = its_count_lem in
        let c = w.capacity_is in
        let few = capacity_few w in
        rw (← its_count_lem)
        (record {
          in_root = (at_most z w.good k at its_place, omega arith);
          outcome = λ kind v. entry_added z w.good k at its_place kind v w.early its_lacks (omega arith) (omega arith);
        })

    -- "FULL: root full and lacks the key"
    pub decides_full : capacity ≤ count_of s 0 → DecidesFor z k None
    decides_full h =
        let n = its_count_lem in
        let c = w.capacity_is in
        record { in_root = tt; outcome = λ kind v. entry_full z w.good k at its_place kind v w.early its_lacks (omega arith) }

-- An entry of a result holds the value given.
pub enters_held : (z : Store) (k v held : ℕ) {r : Outcome} → held ≡ v → r ≡ on_store (entry RESULT k held) z → Enters z k v r
enters_held z k v held h e = e ∙ ap (λ (w : ℕ). on_store (entry RESULT k w) z) (h ∙ sym (result_holds v))
