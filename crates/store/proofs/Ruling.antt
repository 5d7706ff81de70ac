-- The store rules and their test are one, for every store: `good_store` holds exactly when StoreRules does.
use mathlib.Core.Path.{◌≡◌, ap}
use mathlib.Core.Bool.{true}
use Prim.Native.Nat.{ℕ, suc, ◌+◌, ◌-◌, ◌*◌, ◌<◌, ◌≤◌}
use native.Mathlib.Omega.{arith}
use native.Mathlib.Decide.{dec_lt}
use lib.ListN.{length, get_or, get_or-eq_default}
use borrow.Author.Tests.{eqb-true, eq-eqb, leb-true, le-leb}
use Rattle.lists.proofs.Truths.{and_left, and_right, and_both, both_le, le_both}
use Rattle.lists.proofs.Tabulating.{all_at, at_all, all-below, below_all}
use Rattle.plan.specs.Sizes.{most_nodes}
use Rattle.plan.specs.Plan.{Node, Plan, no_node, size, capacity_of}
use Rattle.plan.specs.PlanRules.{PlanRules}
use Rattle.plan_table.specs.PlanTable.{plans}
use Rattle.store.specs.declared.Store.{Store}
use Rattle.store.specs.Copies.{no_copy, different}
use Rattle.store.specs.State.{State, copy_at, slot_at, idle, last_clock, slot_count}
use Rattle.store.specs.StateRules.{HeldAt, StateRules}
use Rattle.store.specs.Layout.{plan_of, width, places, copy_of, count_of, state_of, Shape}
use Rattle.store.specs.StoreRules.{StoreRules, shape_test, plan_number_test, clock_test, place_test, node_test, stamps_from, slot_test, good_store}
use Rattle.store.proofs.WhichPlan.{known_rules}
use Rattle.store.proofs.Laying.{length_nodes, state_clock, state_slots, state_count, state_copy}
use Rattle.store.proofs.RulingParts.{held_placed, placed_held, CopyRules, copy_rules, rules_copy, order_rule, rule_order, slot_idle, slot_runs, rules_slot, unused_rule, rule_unused}
use Rattle.store.proofs.RulingLines.{falls_by_reach, reach_by_falls}
use Rattle.store.proofs.RulingStamps.{Counted, different-apart, apart-different}

module _ (z : Store) where
  abbrev p : Plan
  p = plan_of z

  abbrev s : State
  s = state_of z

  abbrev key : ℕ → ℕ
  key i = get_or z.keys i 0

  -- A store that passes the test keeps the rules.
  module _ (t : good_store z ≡ true) where
    test_shape : Shape z
    unfolding good_store shape_test
    test_shape =
        record {
          counts_long = eqb-true (length z.counts) most_nodes (search (and_left, and_right) depth 12);
          keys_long = eqb-true (length z.keys) places (search (and_left, and_right) depth 12);
          kinds_long = eqb-true (length z.kinds) places (search (and_left, and_right) depth 12);
          values_long = eqb-true (length z.values) places (search (and_left, and_right) depth 12);
          stamps_long = eqb-true (length z.stamps) places (search (and_left, and_right) depth 12);
          slots_long = eqb-true (length z.slots) slot_count (search (and_left, and_right) depth 12);
        }

    test_plan : (1 ≤ z.plan) × (z.plan ≤ plans)
    unfolding good_store plan_number_test
    test_plan = both_le 1 z.plan z.plan plans (search (and_left, and_right) depth 8)

    test_clock : (1 ≤ z.clock) × (z.clock ≤ last_clock)
    unfolding good_store clock_test
    test_clock = both_le 1 z.clock z.clock last_clock (search (and_left, and_right) depth 8)

    -- What the test says of a node.
    test_node : (n : ℕ) → n < most_nodes → node_test p s z n ≡ true
    unfolding good_store
    test_node n h =
        all-below (node_test p s z) most_nodes (search (and_left, and_right) depth 8) n h

    test_count : (n : ℕ) → n < most_nodes → count_of z n ≤ capacity_of p n
    unfolding node_test
    test_count n h =
        let w = test_node n h in
        leb-true (count_of z n) (capacity_of p n) (search (and_left, and_right) depth 8)

    test_place : (n i : ℕ) → n < most_nodes → i < count_of z n → place_test p s z n (width * n + i) ≡ true
    unfolding node_test
    test_place n i h g =
        let w = test_node n h in
        all_at (place_test p s z n) (width * n) (count_of z n) (search (and_left, and_right) depth 8) (width * n + i)
        (omega arith) (omega arith)

    test_unused : (n i : ℕ) → n < most_nodes → count_of z n ≤ i → i < width → copy_of z (width * n + i) ≡ no_copy
    unfolding node_test
    test_unused n i h l g =
        let w = test_node n h in
        unused_rule z.keys z.kinds z.values z.stamps (width * n + count_of z n) (width * n + width) (search (and_left, and_right) depth 8) (width * n + i) (omega arith) (omega arith)

    -- The plan has no more than the most nodes, and no room past them.
    plan_rules : PlanRules p
    plan_rules = known_rules z test_plan

    test_past : (n : ℕ) → size p ≤ n → n < most_nodes → count_of z n ≡ 0
    test_past n h g =
        omega (arith, test_count n g, ap (λ (d : Node). d.capacity) (get_or-eq_default p no_node h))

    -- What the test says of a copy held.
    test_copy : (n i : ℕ) → HeldAt s n i → CopyRules p s n (copy_at s n i)
    unfolding place_test
    test_copy n i h =
        let w = held_placed z n i h in
        let t = test_place n i (omega (arith, w.node, plan_rules.nodes_within)) w.place in
        rw w.copy (copy_rules p s n (copy_of z (width * n + i)) (search and_left))

    test_rise : (n i : ℕ) → HeldAt s n (suc i) → (copy_at s n i).key < (copy_at s n (suc i)).key
    unfolding place_test
    test_rise n i h =
        let w = held_placed z n (suc i) h in
        let v = held_placed z n i (omega arith) in
        let t = test_place n i (omega (arith, w.node, plan_rules.nodes_within)) v.place in
        let e : width * n + suc i ≡ suc (width * n + i) = omega arith in
        rw (v.copy, w.copy, e)
        (order_rule (width * n + count_of z n) (suc (width * n + i)) (key (width * n + i)) (key (suc (width * n + i))) (search and_right)
        (omega (arith, w.place)))

    test_different : (n i m j : ℕ) → HeldAt s n i → HeldAt s m j
        → (copy_at s n i).stamp ≡ (copy_at s m j).stamp → (n ≡ m) × (i ≡ j)
    unfolding good_store
    test_different n i m j h g e =
        let v = held_placed z n i h in
        let w = held_placed z m j g in
        let few = plan_rules.nodes_within in
        different-apart z.counts z.stamps 0 most_nodes (search (and_left, and_right) depth 8) n i m j
        (record { from = omega arith; before = omega (arith, v.node); place = v.place })
        (record { from = omega arith; before = omega (arith, w.node); place = w.place })
        (rw (v.copy, w.copy) at e)

    test_slot : (i : ℕ) → i < slot_count → slot_test p (slot_at s i) ≡ true
    unfolding good_store state_of
    test_slot i h =
        all-below (λ j. slot_test p (get_or z.slots j idle)) slot_count (search (and_left, and_right) depth 8) i h

    test_state : StateRules p s
    test_state =
        record {
          a_list_for_each_node = length_nodes z;
          clock_within = rw (state_clock z) test_clock;
          counts_within_capacity =
              λ n h. omega (arith, state_count z n h, test_count n (omega (arith, plan_rules.nodes_within)));
          keys_strictly_rise = test_rise;
          kinds_and_values = λ n i h. (test_copy n i h).kind;
          copies_on_their_paths = λ n i h. (test_copy n i h).on;
          stamps_below_the_clock = λ n i h. ((test_copy n i h).late, (test_copy n i h).early);
          stamps_all-different = test_different;
          stamps_fall_down_a_path =
              falls_by_reach p plan_rules s test_rise (λ n i h. (test_copy n i h).on) (λ n i h. (test_copy n i h).reach);
          slots_long = rw (state_slots z) test_shape.slots_long;
          idle_slots_all-zero = λ i h. slot_idle p (slot_at s i) (test_slot i h);
          running_searches_on_their_paths = λ i h. slot_runs p (slot_at s i) (test_slot i h);
        }

    pub good_rules : StoreRules z
    good_rules =
        record {
          shape = test_shape;
          plan_known = test_plan;
          unused_places-all-zero = test_unused;
          unused_counts_zero = test_past;
          state_rules = test_state;
        }

  -- A store that keeps the rules passes the test.
  module _ (r : StoreRules z) where
    abbrev rules : StateRules p s
    rules = r.state_rules

    shape_test_lem : shape_test z ≡ true
    unfolding shape_test
    shape_test_lem =
        rw (
          eq-eqb (length z.counts) most_nodes r.shape.counts_long,
          eq-eqb (length z.keys) places r.shape.keys_long,
          eq-eqb (length z.kinds) places r.shape.kinds_long,
          eq-eqb (length z.values) places r.shape.values_long,
          eq-eqb (length z.stamps) places r.shape.stamps_long,
          eq-eqb (length z.slots) slot_count r.shape.slots_long,
        )

    number_test : plan_number_test z.plan ≡ true
    unfolding plan_number_test
    number_test = le_both 1 z.plan z.plan plans r.plan_known.0 r.plan_known.1

    clock_test_lem : clock_test z.clock ≡ true
    unfolding clock_test
    clock_test_lem =
        let c = rw (state_clock z) at rules.clock_within in
        le_both 1 z.clock z.clock last_clock c.0 c.1

    plan_meets : PlanRules p
    plan_meets = known_rules z r.plan_known

    held_rules : (n i : ℕ) → HeldAt s n i → CopyRules p s n (copy_at s n i)
    held_rules n i h =
        record {
          kind = rules.kinds_and_values n i h;
          late = (rules.stamps_below_the_clock n i h).0;
          early = (rules.stamps_below_the_clock n i h).1;
          on = rules.copies_on_their_paths n i h;
          reach =
              reach_by_falls p plan_meets s rules.keys_strictly_rise (λ m j g. (rules.stamps_below_the_clock m j g).0)
              rules.stamps_fall_down_a_path n i h;
        }

    place_test_lem : (n i : ℕ) → n < size p → i < count_of z n → place_test p s z n (width * n + i) ≡ true
    unfolding place_test
    place_test_lem n i h g =
        and_both (rw (state_copy z n i h g) at (rules_copy p s n (copy_at s n i) (held_rules n i (placed_held z n i h g))))
        (rule_order (width * n + count_of z n) (suc (width * n + i)) (key (width * n + i)) (key (suc (width * n + i)))
        (λ l.
        let more : suc i < count_of z n = omega arith in
        let e : width * n + suc i ≡ suc (width * n + i) = omega arith in
        rw (state_copy z n i h g, state_copy z n (suc i) h more, e) at (rules.keys_strictly_rise n i (placed_held z n (suc i) h more))))

    -- A node that counts a copy is one of the plan's.
    counted : (n : ℕ) → n < most_nodes → 0 < count_of z n → n < size p
    counted n h g = go (dec_lt n (size p))
      where
        go : Dec (n < size p) → n < size p
        go (yes l) = l
        go (no l) = absurd (omega (arith, r.unused_counts_zero n (omega arith) h))

    node_test_lem : (n : ℕ) → n < most_nodes → node_test p s z n ≡ true
    unfolding node_test
    node_test_lem n h =
        rw (
          le-leb (count_of z n) (capacity_of p n) (fits (dec_lt n (size p))),
          at_all (place_test p s z n) (width * n) (count_of z n) used,
        )
        (rule_unused z.keys z.kinds z.values z.stamps (width * n + count_of z n) (width * n + width) unused)
      where
        fits : Dec (n < size p) → count_of z n ≤ capacity_of p n
        fits (yes l) = omega (arith, state_count z n l, rules.counts_within_capacity n l)
        fits (no l) = omega (arith, r.unused_counts_zero n (omega arith) h)

        used : (j : ℕ) → width * n ≤ j → j < width * n + count_of z n → place_test p s z n j ≡ true
        used j a b =
            let e : width * n + (j - width * n) ≡ j = omega arith in
            rw e at (place_test_lem n (j - width * n) (counted n h (omega arith)) (omega arith))

        unused : (j : ℕ) → width * n + count_of z n ≤ j → j < width * n + width → copy_of z j ≡ no_copy
        unused j a b =
            let e : width * n + (j - width * n) ≡ j = omega arith in
            rw e at (r.unused_places-all-zero n (j - width * n) h (omega arith) (omega arith))

    stamps_test : different (stamps_from z.counts z.stamps 0 most_nodes) ≡ true
    stamps_test = apart-different z.counts z.stamps 0 most_nodes apart
      where
        apart : (n i m j : ℕ) → Counted z.counts 0 most_nodes n i → Counted z.counts 0 most_nodes m j
            → (copy_of z (width * n + i)).stamp ≡ (copy_of z (width * m + j)).stamp → (n ≡ m) × (i ≡ j)
        apart n i m j h g e =
            let a = counted n (omega (arith, h.before)) (omega (arith, h.place)) in
            let b = counted m (omega (arith, g.before)) (omega (arith, g.place)) in
            rules.stamps_all-different n i m j (placed_held z n i a h.place) (placed_held z m j b g.place)
            (rw (state_copy z n i a h.place, state_copy z m j b g.place) e)

    slot_test_lem : (i : ℕ) → i < slot_count → slot_test p (get_or z.slots i idle) ≡ true
    unfolding state_of
    slot_test_lem i h =
        rules_slot p (slot_at s i) (rules.idle_slots_all-zero i h) (rules.running_searches_on_their_paths i h)

    pub rules_good : good_store z ≡ true
    unfolding good_store
    rules_good =
        rw (
          shape_test_lem,
          number_test,
          clock_test_lem,
          below_all (node_test p s z) most_nodes node_test_lem,
          stamps_test,
        )
        (below_all (λ i. slot_test p (get_or z.slots i idle)) slot_count slot_test_lem)
