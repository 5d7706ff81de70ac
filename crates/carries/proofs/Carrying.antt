-- A carry on a good store: from the two lists of places to the store of the state after it.
use mathlib.Core.Path.{◌≡◌, refl, sym, ap, ap₂, ◌∙◌}
use mathlib.Core.Bool.{true}
use mathlib.Core.List.{List, [], ◌∷◌, ◌++◌, map}
use Prim.Native.Nat.{ℕ, ◌+◌, ◌-◌, ◌*◌, ◌<◌, ◌≤◌}
use native.Mathlib.Omega.{arith}
use lib.ListN.{length, get_or, set, replicate, length-map, length-set}
use lib.Seq.{sets, set_comm, get_or-set_other}
use borrow.Author.Tests.{lt-ltb, le-ltb}
use Rattle.lists.specs.Indexed.{tabulate}
use Rattle.lists.proofs.Tabulating.{map-tabulate}
use Rattle.plan.specs.declared.Edge.{Edge}
use Rattle.plan.specs.Sizes.{most_nodes}
use Rattle.plan.specs.Plan.{Plan, no_edge, size, capacity_of, edges_of, edge_of}
use Rattle.plan.specs.PlanRules.{IsEdge}
use Rattle.plan.specs.PlanArrays.{RowsOfPlan, at_node, edge_count_in, row_edges, edge_numbered, rows_of}
use Rattle.plan.specs.declared.rows.Rows.{Rows}
use Rattle.plan.proofs.ArrayLaws.{edge_is, edge_some, edge_none}
use Rattle.plan.proofs.RowsLent.{capacity_of_lem, count_of_lem, edge_here}
use native.Mathlib.Decide.{dec_lt}
use Rattle.plan_table.specs.PlanTable.{plan_numbered}
use Rattle.store.specs.declared.Answer.{Answer}
use Rattle.store.specs.declared.Copy.{Copy}
use Rattle.store.specs.declared.Store.{Store}
use Rattle.store.specs.Answers.{DONE, NODE, EDGE, answer, bare}
use Rattle.store.specs.Copies.{no_copy, key_of}
use Rattle.store.specs.State.{State, node_at}
use Rattle.store.specs.Layout.{plan_of, width, places, node_in, copy_of, count_of, node_of, state_of, column}
use Rattle.store.specs.StoreRules.{good_store}
use Rattle.store.specs.Calls.{on_store}
use Rattle.store.specs.Workers.{Within, number_in, itself}
use Rattle.store.proofs.Laying.{OneNode, set_one, node-laid, node_grown, counts_written, store_is, state_node, state_count, length_nodes, state_clock, state_slots}
use Rattle.store.proofs.WhichPlan.{rows_here, capacities_here}
use Rattle.store.proofs.Lifting.{plan_good, state_good, on_way, on_refusal}
use Rattle.store.proofs.GoodNodes.{counts_fit, node_rises, counts_are, keys_are, kinds_are, values_are, stamps_are}
use Rattle.steps.specs.Carries.{Merged, count_held, merge_along, carried_to, carried_out, carry_step}
use Rattle.steps.proofs.Merges.{merging, stay_short, target_long}
use Rattle.steps.proofs.CarryLaws.{carry_done}
use Rattle.merges.specs.declared.Lists.{Lists}
use Rattle.merges.specs.Decisions.{places_in, places_merged, Ready, Decided}
use Rattle.merges.proofs.Passing.{span-length}
use Rattle.moves.specs.Writings.{gather, Movable, carried_column}
use Rattle.std.specs.Prelude.{Some, None}
use Rattle.carries.specs.Settlings.{copies_at, settled_store, Settles, Carriable}
use Rattle.carries.proofs.Mapping.{mapped, merge-map, count_map}
use Rattle.carries.proofs.InPlace.{together, movable}

-- A node's copies are the copies at its places.
at_places : (z : Store) (n : ℕ) → node_of z n ≡ map (copy_of z) (places_in (copies_at z n))
unfolding node_in
at_places z n = sym (map-tabulate (copy_of z) itself (width * n) (count_of z n))

-- The numbers of a column at some places are those of the copies there.
gathered : (part : Copy → ℕ) (copies : ℕ → Copy) (c : List ℕ) → ((j : ℕ) → number_in c j ≡ part (copies j)) → (list : List ℕ)
    → gather c list ≡ map part (map copies list)
gathered part copies c of [] = refl
gathered part copies c of (j ∷ list) = ap₂ (λ (x : ℕ) (l : List ℕ). x ∷ l) (of j) (gathered part copies c of list)

-- Two nodes are written: t then holds ys, and n, which held more copies by k, holds xs.
module _ (ns : List (List Copy)) (n t : ℕ) (xs ys : List Copy) (n-there : n < length ns) (t-there : t < length ns) (apart : n ≡ t → ⊥) where
  first : OneNode t ys ns (set ns t ys)
  first = set_one ns t ys t-there

  second : OneNode n xs (set ns t ys) (set (set ns n xs) t ys)
  second = rw (set_comm ns n t xs ys apart) (set_one (set ns t ys) n xs (rw length-set n-there))

  column_written : (part : Copy → ℕ) → part no_copy ≡ 0 → (k : ℕ) → n < most_nodes → t < most_nodes → length (get_or ns n []) ≤ length xs + k → length xs + k ≤ width
      → length (get_or ns t []) ≤ length ys → length ys ≤ width
      → sets (sets (column part ns) (width * t) (map part ys)) (width * n) (map part xs ++ replicate k 0) ≡ column part (set (set ns n xs) t ys)
  column_written part zero k few fewer over fits grows room =
      ap₂ (λ (c : List ℕ) (x : ℕ). sets c (width * n) (map part xs ++ replicate k x)) (node_grown first part fewer grows room) (sym zero)
      ∙ node-laid second part k few (rw (get_or-set_other ns t n ys [] apart) over) fits

  both_counts : tabulate 0 most_nodes (λ m. length (get_or (set (set ns n xs) t ys) m []))
      ≡ set (set (tabulate 0 most_nodes (λ m. length (get_or ns m []))) n (length xs)) t (length ys)
  both_counts =
      counts_written (set_one (set ns n xs) t ys (rw length-set t-there))
      ∙ ap (λ (l : List ℕ). set l t (length ys)) (counts_written (set_one ns n xs n-there))

-- What a carry comes to, by the counts before and after it.
out_is : (n : ℕ) (e : Edge) (m : Merged Copy) (s : State) (had held kept got left : ℕ) → length (node_at s n) ≡ had
    → length (node_at s e.target) ≡ held → length m.stay ≡ kept → length m.target ≡ got → count_held key_of e m.stay ≡ left
    → carried_out n e m s ≡ record { answer = answer DONE (had - kept) (had - kept - (got - held)) left 0; after = carried_to n e.target m s }
unfolding carried_out
out_is n e m s had held kept got left a b c f g = rw (a, b, c, f, g)

-- The edge i of node n of a good store's plan.
module _ (z : Store) (good : good_store z ≡ true) (n i : ℕ) (d : IsEdge (plan_of z) n i) (e : Edge) (e-is : e ≡ edge_of (plan_of z) n i) where
  abbrev p : Plan
  p = plan_of z

  abbrev s : State
  s = state_of z

  abbrev t : ℕ
  t = e.target

  -- "a target has a greater number than its node and exists"
  target_below : n < t
  target_below = rw e-is ((plan_good z good).target_greater_and_exists n i d).0

  target_there : t < size p
  target_there = rw e-is ((plan_good z good).target_greater_and_exists n i d).1

  target_few : t < most_nodes
  target_few = omega (arith, target_there, (plan_good z good).nodes_within)

  node_few : n < most_nodes
  node_few = omega (arith, target_below, target_few)

  node_there : n < size p
  node_there = d.node

  module _ (capacity : ℕ) (capacity_is : capacity ≡ capacity_of p t) where
    capacity_few : capacity ≤ width
    capacity_few = rw capacity_is ((plan_good z good).capacity_within t target_there).1

    held_within : count_of z t ≤ capacity
    held_within = omega (arith, capacity_is, (state_good z good).counts_within_capacity t target_there, state_count z t target_there)

    -- Its two nodes can be merged.
    store_ready : Ready z.keys capacity (copies_at z n) (copies_at z t)
    store_ready =
        let few = node_few in
        let fewer = target_few in
        let a = counts_fit z good n few in
        let b = held_within in
        let c = capacity_few in
        record {
          node_within = (omega arith, a);
          target_within = (omega arith, b);
          few = c;
          node_rises = node_rises z good n (width * n) (width * n + count_of z n) few refl refl;
          target_rises = node_rises z good t (width * t) (width * t + count_of z t) fewer refl refl;
        }

    -- The merge of their places, and of their copies.
    abbrev places_merged_lem : Merged ℕ
    places_merged_lem = places_merged z.keys capacity e (copies_at z n) (copies_at z t)

    abbrev copies_merged : Merged Copy
    copies_merged = mapped (copy_of z) places_merged_lem

    copied : merge_along p n e s ≡ copies_merged
    unfolding merge_along
    copied =
        rw (state_node z n node_there, state_node z t target_there, at_places z n, at_places z t, ← capacity_is)
        (merge-map key_of (copy_of z) capacity e (places_in (copies_at z n)) (places_in (copies_at z t)))

    module _ {lists : Lists} (decided : Decided places_merged_lem lists) where
      abbrev kept : ℕ
      kept = length lists.stay.items

      abbrev got : ℕ
      got = length lists.target.items

      kept_is : kept ≡ length places_merged_lem.stay
      kept_is = ap length decided.stays

      got_is : got ≡ length places_merged_lem.target
      got_is = ap length decided.gets

      -- The node's count falls, the target's rises, by no more.
      counts_go : (kept ≤ count_of z n) × (count_of z t ≤ got) × (got - count_of z t ≤ count_of z n - kept)
      counts_go =
          let w = merging (number_in z.keys) capacity e (places_in (copies_at z n)) (places_in (copies_at z t)) in
          let a = span-length (width * n) (count_of z n) in
          let b = span-length (width * t) (count_of z t) in
          let k = kept_is in
          let g = got_is in
          let short = stay_short (number_in z.keys) capacity e w in
          let long = target_long (number_in z.keys) capacity e w in
          let sum = together (number_in z.keys) capacity e w in
          (omega arith, omega arith, omega arith)

      -- The columns can be written in place.
      column_movable : Movable lists.stay.items lists.target.items (copies_at z n) (width * t)
      column_movable =
          rw (decided.stays, decided.gets)
          (movable (number_in z.keys) capacity e (copies_at z n) (copies_at z t)
          (omega (arith, target_below, counts_fit z good n node_few)) (omega (arith, got_is, decided.counted, target_few)))

      stays_within : Within lists.stay.items places
      stays_within j h = omega (arith, column_movable.low j h, target_few)

      -- The copies that then stay, and those that the target has.
      abbrev xs : List Copy
      xs = map (copy_of z) places_merged_lem.stay

      abbrev ys : List Copy
      ys = map (copy_of z) places_merged_lem.target

      stay_count : length xs ≡ kept
      stay_count = length-map places_merged_lem.stay (copy_of z) ∙ sym kept_is

      target_count : length ys ≡ got
      target_count = length-map places_merged_lem.target (copy_of z) ∙ sym got_is

      node-apart : n ≡ t → ⊥
      node-apart q = omega (arith, target_below)

      -- One column after the carry.
      column-after : (part : Copy → ℕ) (c : List ℕ) → part no_copy ≡ 0 → c ≡ column part s.nodes → ((j : ℕ) → number_in c j ≡ part (copy_of z j))
          → carried_column c lists.stay.items lists.target.items (copies_at z n) (width * t) ≡ column part (set (set s.nodes n xs) t ys)
      unfolding carried_column
      column-after part c zero c-is of =
          let go = counts_go in
          let a = stay_count in
          let b = target_count in
          let l = length_nodes z in
          let there = target_there in
          let here = node_there in
          let k = kept_is in
          rw (
            decided.stays,
            decided.gets,
            gathered part (copy_of z) c of places_merged_lem.stay,
            gathered part (copy_of z) c of places_merged_lem.target,
            c-is,
          )
          (column_written s.nodes n t xs ys (omega arith) (omega arith) node-apart part zero (count_of z n - length places_merged_lem.stay) node_few target_few
          (omega (arith, state_count z n here)) (omega (arith, counts_fit z good n node_few)) (omega (arith, state_count z t there))
          (omega (arith, decided.counted)))

      -- The store after the carry, and its answer.
      carry_is : (a : Answer) (left : ℕ) → a ≡ answer DONE (count_of z n - kept) (count_of z n - kept - (got - count_of z t)) left 0
          → left ≡ count_held (number_in z.keys) e lists.stay.items
          → record {
            answer = a;
            store = settled_store lists (record { answer = a; node = n; copies = copies_at z n; target = t; start = width * t }) z;
          } ≡ on_store (carry_step n i) z
      unfolding carried_to
      carry_is a left a-is left_is =
          on_way (carry_step n i) z good a (carried_to n t copies_merged s) _
          (carry_done p (plan_good z good) s (state_good z good) n i d
          ∙ ap (λ (f : Edge). carried_out n f (merge_along p n f s) s) (sym e-is)
          ∙ ap (λ (f : Merged Copy). carried_out n e f s) copied
          ∙ out_is n e copies_merged s (count_of z n) (count_of z t) kept got left (state_count z n node_there) (state_count z t target_there) stay_count
          target_count counted
          ∙ ap (λ (x : Answer). record { answer = x; after = carried_to n t copies_merged s }) (sym a-is))
          (store_is z.plan (carried_to n t copies_merged s) _ refl (sym (state_clock z)) counts
          (column-after (λ (x : Copy). x.key) z.keys refl (keys_are z good) (λ j. refl))
          (column-after (λ (x : Copy). x.kind) z.kinds refl (kinds_are z good) (λ j. refl))
          (column-after (λ (x : Copy). x.value) z.values refl (values_are z good) (λ j. refl))
          (column-after (λ (x : Copy). x.stamp) z.stamps refl (stamps_are z good) (λ j. refl))
          (sym (state_slots z)))
        where
          counted : count_held key_of e xs ≡ left
          counted = count_map key_of (copy_of z) e places_merged_lem.stay ∙ sym (left_is ∙ ap (count_held (number_in z.keys) e) decided.stays)

          counts : set (set z.counts n kept) t got ≡ tabulate 0 most_nodes (λ k. length (get_or (set (set s.nodes n xs) t ys) k []))
          counts =
              let l = length_nodes z in
              let there = target_there in
              let here = node_there in
              ap (λ (l : List ℕ). set (set l n kept) t got) (counts_are z good)
              ∙ ap₂ (λ (j k : ℕ). set (set (tabulate 0 most_nodes (λ l. length (node_at s l))) n j) t k) (sym stay_count) (sym target_count)
              ∙ sym (both_counts s.nodes n t xs ys (omega arith) (omega arith) node-apart)

      -- What is settled along the edge.
      store_settled : (a : Answer) (left : ℕ) → a ≡ answer DONE (count_of z n - kept) (count_of z n - kept - (got - count_of z t)) left 0
          → left ≡ count_held (number_in z.keys) e lists.stay.items
          → Settles z n i lists (record { answer = a; node = n; copies = copies_at z n; target = t; start = width * t })
      store_settled a left a-is left_is =
          record {
            nodes = (node_few, target_few);
            counted = decided.counted;
            movable = column_movable;
            outcome = carry_is a left a-is left_is;
          }

-- The same by the counts and the keys of a store, and an edge of its plan.
module _ {s z : Store} {n i : ℕ} {e : Edge} {capacity : ℕ} (w : Carriable s n i e capacity z) where
  -- The node and the target are nodes of a store,
  pub source_few : n < most_nodes
  source_few = node_few z w.good n i w.is_edge e w.edge_is

  pub goal_few : e.target < most_nodes
  goal_few = target_few z w.good n i w.is_edge e w.edge_is

  -- hold no more copies than a node has places,
  pub fits : (m : ℕ) → m < most_nodes → count_of s m ≤ width
  fits m h = rw (← w.counts_are) (counts_fit z w.good m h)

  -- and can be merged.
  pub ready : Ready s.keys capacity (copies_at s n) (copies_at s e.target)
  ready = rw (← w.counts_are, ← w.keys_are) (store_ready z w.good n i w.is_edge e w.edge_is capacity w.capacity_is)

  module _ {lists : Lists} (decided : Decided (places_merged s.keys capacity e (copies_at s n) (copies_at s e.target)) lists) where
    its_decided : Decided (places_merged z.keys capacity e (copies_at z n) (copies_at z e.target)) lists
    its_decided = rw (w.counts_are, w.keys_are) decided

    -- The node's count falls, the target's rises, by no more.
    pub counts_move : let kept = length lists.stay.items in let got = length lists.target.items in
        (kept ≤ count_of s n) × (count_of s e.target ≤ got) × (got - count_of s e.target ≤ count_of s n - kept)
    counts_move = rw (← w.counts_are) (counts_go z w.good n i w.is_edge e w.edge_is capacity w.capacity_is its_decided)

    -- What stays is in the column.
    pub stay_there : Within lists.stay.items places
    stay_there = stays_within z w.good n i w.is_edge e w.edge_is capacity w.capacity_is its_decided

    -- What is settled along the edge.
    pub settled_along : (a : Answer) (left : ℕ)
        → (let kept = length lists.stay.items in let got = length lists.target.items in
        a ≡ answer DONE (count_of s n - kept) (count_of s n - kept - (got - count_of s e.target)) left 0)
        → left ≡ count_held (number_in s.keys) e lists.stay.items
        → Settles z n i lists (record { answer = a; node = n; copies = copies_at s n; target = e.target; start = width * e.target })
    settled_along a left a-is left_is =
        rw (← w.counts_are)
        (store_settled z w.good n i w.is_edge e w.edge_is capacity w.capacity_is its_decided a left (rw w.counts_are a-is) (rw w.keys_are left_is))

-- An edge by its number, if the rows have it, is the one there; and if they don't, there are not so many.
numbered_some : (r : Rows) (n i : ℕ) (e : Edge) → edge_numbered (row_edges r n) i ≡ Some e
    → (i < edge_count_in r.counts n) × (e ≡ get_or (row_edges r n) i no_edge)
numbered_some r n i e is = go (dec_lt i (edge_count_in r.counts n))
  where
    go : Dec (i < edge_count_in r.counts n) → (i < edge_count_in r.counts n) × (e ≡ get_or (row_edges r n) i no_edge)
    go (yes h) = let s = edge_some r.counts r.lows r.highs r.targets n i h in let t = edge_is r.counts r.lows r.highs r.targets n i h in (h, cc)
    go (no h) = let s = edge_none r.counts r.lows r.highs r.targets n i (omega arith) in cc

numbered_none : (r : Rows) (n i : ℕ) → edge_numbered (row_edges r n) i ≡ None → edge_count_in r.counts n ≤ i
numbered_none r n i is = go (dec_lt i (edge_count_in r.counts n))
  where
    go : Dec (i < edge_count_in r.counts n) → edge_count_in r.counts n ≤ i
    go (yes h) = let s = edge_some r.counts r.lows r.highs r.targets n i h in cc
    go (no h) = omega arith

-- A carry by the rows of a good store's plan. The refusals:
module _ (z : Store) (good : good_store z ≡ true) (n i : ℕ) (r : Rows) (r-is : r ≡ rows_of (plan_numbered z.plan)) where
  rows : RowsOfPlan (plan_of z) r
  rows = rows_here z (plan_good z good) r r-is

  its_nodes : r.nodes ≡ size (plan_of z)
  its_nodes = rows.nodes_are

  -- NODE: "plan has no such node"
  pub no_node : r.nodes ≤ n → record { answer = bare NODE; store = z } ≡ on_store (carry_step n i) z
  unfolding carry_step
  no_node h = on_refusal (carry_step n i) z good NODE (rw (le-ltb n (size (plan_of z)) (omega (arith, its_nodes))))

  count_is : edge_count_in r.counts n ≡ length (edges_of (plan_of z) n)
  count_is = count_of_lem (plan_of z) (plan_good z good) r.counts rows.edges_are n

  module _ (there : n < r.nodes) where
    -- EDGE: "node has no such edge"
    pub no_such_edge : edge_numbered (row_edges r n) i ≡ None → record { answer = bare EDGE; store = z } ≡ on_store (carry_step n i) z
    unfolding carry_step
    no_such_edge e =
        let past = numbered_none r n i e in
        on_refusal (carry_step n i) z good EDGE
        (rw (
          lt-ltb n (size (plan_of z)) (omega (arith, its_nodes)),
          le-ltb i (length (edges_of (plan_of z) n)) (omega (arith, count_is)),
        ))

    -- and the edge and its target's capacity, as the rows have them.
    pub carriable : (e : Edge) → edge_numbered (row_edges r n) i ≡ Some e → (capacity : ℕ) → capacity ≡ at_node r.capacities e.target
        → Carriable z n i e capacity z
    carriable e e-is capacity capacity_is =
        let found = numbered_some r n i e e-is in
        record {
          good = good;
          counts_are = refl;
          keys_are = refl;
          is_edge = record { node = omega (arith, its_nodes); edge = omega (arith, found.0, count_is) };
          edge_is = edge_here rows n i e found.1;
          capacity_is = capacity_is ∙ capacity_of_lem (plan_of z) (plan_good z good) r.capacities (capacities_here z r r-is) e.target;
        }
