-- The test of all store rules, way out by way out.
use mathlib.Core.Path.{◌≡◌, sym, ◌∙◌}
use mathlib.Core.Bool.{Bool, true, false, and-true, ◌&&◌}
use lib.Dec.{eqb}
use lib.ListN.{length, get_or}
use borrow.Author.Tests.{eq-eqb, eqb-true}
use Rattle.lists.specs.Indexed.{all_below}
use Rattle.lists.proofs.Truths.{not_both, and_left, and_right, and_both}
use Rattle.std.proofs.lemmas.Bool.{false_from_ne_true}
use Rattle.plan.specs.Sizes.{most_nodes}
use Rattle.plan.specs.PlanRules.{PlanRules}
use Rattle.plan.specs.PlanArrays.{RowsOfPlan, rows_of}
use Rattle.plan.specs.declared.rows.Rows.{Rows}
use Rattle.plan_table.specs.PlanTable.{plan_numbered}
use Rattle.store.specs.declared.Store.{Store}
use Rattle.store.specs.Copies.{different}
use Rattle.store.specs.State.{slot_count, idle}
use Rattle.store.specs.Layout.{plan_of, places, state_of, Shape}
use Rattle.store.specs.StoreRules.{shape_test, plan_number_test, clock_test, node_test, stamps_from, slot_test, good_store}
use Rattle.store.specs.Workers.{WithinPlaces}
use Rattle.store.proofs.WhichPlan.{number_rules, rows_here, capacities_here}
use Rattle.store.proofs.Widths.{rows_fit}
use Rattle.rules_nodes.specs.Workers.{all_tidy}
use Rattle.rules_nodes.proofs.Tidying.{nodes_ordered}
use Rattle.rules_paths.specs.Workers.{Walkable, paths_test, slots_test, on_paths_test}
use Rattle.rules.proofs.Parting.{nodes_parts}

module _ (z : Store) where
  shaped : Shape z → shape_test z ≡ true
  unfolding shape_test
  shaped s =
      rw (
        eq-eqb (length z.counts) most_nodes s.counts_long,
        eq-eqb (length z.keys) places s.keys_long,
        eq-eqb (length z.kinds) places s.kinds_long,
        eq-eqb (length z.values) places s.values_long,
        eq-eqb (length z.stamps) places s.stamps_long,
        eq-eqb (length z.slots) slot_count s.slots_long,
      )

  -- The plan's number and the clock.
  abbrev pub numbers : Bool
  numbers = plan_number_test z.plan && clock_test z.clock

  numbers_hold : good_store z ≡ true → numbers ≡ true
  unfolding good_store
  numbers_hold t =
      let number : plan_number_test z.plan ≡ true = search (and_left, and_right) depth 8 in
      let clock : clock_test z.clock ≡ true = search (and_left, and_right) depth 8 in
      and_both number clock

  pub numbers_fail : numbers ≡ false → good_store z ≡ false
  numbers_fail h = false_from_ne_true (good_store z) (λ t. not_both (numbers_hold t) h)

  -- They are good, and these rows were taken by the plan's number.
  module _ (good : numbers ≡ true) (r : Rows) (taken : r ≡ rows_of (plan_numbered z.plan)) where
    rules : PlanRules (plan_of z)
    rules = number_rules z (and_left (plan_number_test z.plan) (clock_test z.clock) good)

    pub rows_own : RowsOfPlan (plan_of z) r
    rows_own = rows_here z rules r taken

    pub capacities_fit : WithinPlaces r.capacities
    capacities_fit = rows_fit (plan_of z) rules r.capacities (capacities_here z r taken)

    -- The tests of the nodes' own numbers, of the searches, and of the paths of copies.
    abbrev tidy : Bool
    tidy = all_tidy r z

    abbrev slotted : Bool
    slotted = slots_test (plan_of z) z.slots

    abbrev each : Bool
    each = all_below slot_count (λ i. slot_test (plan_of z) (get_or z.slots i idle))

    abbrev placed : Bool
    placed = all_below most_nodes (paths_test (plan_of z) z)

    nodes_are : all_below most_nodes (node_test (plan_of z) (state_of z) z) ≡ (tidy && placed)
    nodes_are = nodes_parts z rules r (capacities_here z r taken)

    -- What a good store says of its nodes and searches.
    nodes_hold : good_store z ≡ true → (tidy && placed) ≡ true
    unfolding good_store
    nodes_hold t =
        let n : all_below most_nodes (node_test (plan_of z) (state_of z) z) ≡ true = search (and_left, and_right) depth 8 in
        sym nodes_are ∙ n

    slots_hold : good_store z ≡ true → slotted ≡ true
    unfolding good_store shape_test
    slots_hold t =
        let long : eqb (length z.slots) slot_count ≡ true = search (and_left, and_right) depth 12 in
        let passes : each ≡ true = search (and_left, and_right) depth 8 in
        and_both long passes

    pub tidy_fails : tidy ≡ false → good_store z ≡ false
    tidy_fails h = false_from_ne_true (good_store z) (λ t. not_both (and_left tidy placed (nodes_hold t)) h)

    pub paths_fail : on_paths_test (plan_of z) z ≡ false → good_store z ≡ false
    paths_fail h = false_from_ne_true (good_store z) (λ t. not_both (and_both (slots_hold t) (and_right tidy placed (nodes_hold t))) h)

    -- Where the nodes' own numbers pass, a look in each node can go by halves.
    pub tidy_walkable : tidy ≡ true → Walkable r z
    tidy_walkable t = record { plan = plan_of z; rows = rows_own; ordered = nodes_ordered r capacities_fit z t }

    -- Where the paths pass, there are as many slots as a store has.
    pub slots_counted : on_paths_test (plan_of z) z ≡ true → length z.slots ≡ slot_count
    slots_counted q = eqb-true (length z.slots) slot_count (and_left (eqb (length z.slots) slot_count) each (and_left slotted placed q))

    pub stamps_decide : Shape z → tidy ≡ true → on_paths_test (plan_of z) z ≡ true
        → good_store z ≡ different (stamps_from z.counts z.stamps 0 most_nodes)
    unfolding good_store
    stamps_decide s t q =
        let number = and_left (plan_number_test z.plan) (clock_test z.clock) good in
        let clock = and_right (plan_number_test z.plan) (clock_test z.clock) good in
        let all = nodes_are ∙ and_both t (and_right slotted placed q) in
        rw (shaped s, number, clock, all, and_right (eqb (length z.slots) slot_count) each (and_left slotted placed q), and-true (different (stamps_from z.counts z.stamps 0 most_nodes)))
