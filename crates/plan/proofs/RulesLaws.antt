-- The plan rules and their test are one, for every plan: each rule holds exactly when its test does.
use mathlib.Core.Path.{◌≡◌, ap}
use mathlib.Core.Bool.{Bool, true, ◌&&◌, ◌||◌}
use mathlib.Core.Logic.{⊎_elim}
use mathlib.Core.List.{List}
use Prim.Native.Nat.{ℕ, zero, suc, ◌<◌, ◌≤◌}
use native.Mathlib.Omega.{arith}
use native.Mathlib.Decide.{dec_lt}
use lib.Dec.{leb, ltb}
use lib.ListN.{length, get_or}
use borrow.Author.Tests.{leb-true, ltb-true, le-leb, lt-ltb}
use Rattle.lists.specs.Indexed.{all_below}
use Rattle.lists.proofs.Truths.{not_both, and_left, and_right, and_both, both_le, le_both, or_cases}
use Rattle.std.proofs.lemmas.Bool.{or_left, or_right}
use Rattle.lists.proofs.Tabulating.{all-below, below_all}
use Rattle.plan.specs.declared.Edge.{Edge}
use Rattle.std.specs.Prelude.{Some, None}
use Rattle.plan.specs.Sizes.{most_nodes, most_capacity, most_edges, last_key}
use Rattle.plan.specs.Plan.{Plan, no_edge, size, capacity_of, edges_of, edge_of, holds, first_edge, next}
use Rattle.plan.specs.PlanRules.{
  IsEdge,
  PlanRules,
  at_edges,
  apart,
  goes_on,
  nodes_test,
  capacities_test,
  edge_counts_test,
  keys_test,
  ranges_test,
  apart_test,
  targets_test,
  cover_test,
  plan_test,
}
use Rattle.plan.proofs.NextLaws.{hop?, holds_range, range_holds, taken_first, ends_none}

-- A test at every edge holds exactly when it holds at each.
edges_at : (p : Plan) (f : ℕ → ℕ → Bool) → at_edges p f ≡ true → (n i : ℕ) → IsEdge p n i → f n i ≡ true
edges_at p f t n i d =
    all-below (f n) (length (edges_of p n)) (all-below (λ m. all_below (length (edges_of p m)) (f m)) (size p) t n d.node) i d.edge

at_edges_lem : (p : Plan) (f : ℕ → ℕ → Bool) → ((n i : ℕ) → IsEdge p n i → f n i ≡ true) → at_edges p f ≡ true
at_edges_lem p f h =
    below_all (λ m. all_below (length (edges_of p m)) (f m)) (size p)
    (λ n q. below_all (f n) (length (edges_of p n)) (λ i r. h n i (record { node = q; edge = r })))

-- Two ranges, each with a key, share no key exactly when one ends below the other's start.
pub apart_no_key : (e d : Edge) → apart e d ≡ true → (k : ℕ) → holds e k ≡ true → holds d k ≡ true → ⊥
unfolding apart
apart_no_key e d t k h g =
    let a = holds_range e k h in
    let b = holds_range d k g in
    ⊎_elim (λ (q : ltb e.highest d.lowest ≡ true). omega (arith, ltb-true e.highest d.lowest q))
    (λ (q : ltb d.highest e.lowest ≡ true). omega (arith, ltb-true d.highest e.lowest q))
    (or_cases (ltb e.highest d.lowest) (ltb d.highest e.lowest) t)

pub no_key_apart : (e d : Edge) → e.lowest ≤ e.highest → d.lowest ≤ d.highest
    → ((k : ℕ) → holds e k ≡ true → holds d k ≡ true → ⊥) → apart e d ≡ true
unfolding apart
no_key_apart e d h g no_key =
    go (dec_lt e.highest d.lowest) (dec_lt d.highest e.lowest) (dec_lt e.lowest d.lowest)
  where
    go : Dec (e.highest < d.lowest) → Dec (d.highest < e.lowest) → Dec (e.lowest < d.lowest)
        → ltb e.highest d.lowest || ltb d.highest e.lowest ≡ true
    go (yes q) r s = or_left (ltb e.highest d.lowest) (ltb d.highest e.lowest) (lt-ltb e.highest d.lowest q)
    go (no q) (yes r) s = or_right (ltb e.highest d.lowest) (ltb d.highest e.lowest) (lt-ltb d.highest e.lowest r)
    go (no q) (no r) (yes s) =
        absurd (no_key d.lowest (range_holds e d.lowest (omega arith) (omega arith)) (range_holds d d.lowest (omega arith) g))
    go (no q) (no r) (no s) =
        absurd (no_key e.lowest (range_holds e e.lowest (omega arith) h) (range_holds d e.lowest (omega arith) (omega arith)))

-- Some edge of the list holds the key.
abbrev Held : List Edge → ℕ → Type 0
Held es k = (i : ℕ) × (i < length es) × (holds (get_or es i no_edge) k ≡ true)

goes_held : (es : List Edge) (k : ℕ) → goes_on (first_edge es k) ≡ true → Held es k
goes_held es k t =
    ⊎_elim (λ (e : first_edge es k ≡ None). absurd (not_both t (ap goes_on e)))
    (λ (w : (t : ℕ) × (first_edge es k ≡ Some t)).
    let f = taken_first es k w.0 w.1 in
    (f.0, f.1.within, f.1.held))
    (hop? (first_edge es k))

held_goes : (es : List Edge) (k : ℕ) → Held es k → goes_on (first_edge es k) ≡ true
held_goes es k h =
    ⊎_elim (λ (e : first_edge es k ≡ None). absurd (not_both h.2 (ends_none es k e h.0 h.1)))
    (λ (w : (t : ℕ) × (first_edge es k ≡ Some t)). ap goes_on w.1)
    (hop? (first_edge es k))

module _ (p : Plan) where
  abbrev past : ℕ → Bool
  past i = leb last_key (edge_of p 0 i).highest || goes_on (next p 0 (suc (edge_of p 0 i).highest))

  -- Every key is held, by induction on the key.
  test_covers : cover_test p ≡ true → (k : ℕ) → k ≤ last_key → Held (edges_of p 0) k
  unfolding cover_test next
  test_covers t zero h = goes_held (edges_of p 0) 0 (and_left (goes_on (next p 0 0)) (all_below (length (edges_of p 0)) past) t)
  test_covers t (suc k) h =
      on k (test_covers t k (omega arith)) (all-below past (length (edges_of p 0)) (and_right (goes_on (next p 0 0)) (all_below (length (edges_of p 0)) past) t)) h
    where
      on : (k : ℕ) → Held (edges_of p 0) k → ((i : ℕ) → i < length (edges_of p 0) → past i ≡ true) → suc k ≤ last_key → Held (edges_of p 0) (suc k)
      on k w f h = go (dec_lt k (edge_of p 0 w.0).highest)
        where
          r : ((edge_of p 0 w.0).lowest ≤ k) × (k ≤ (edge_of p 0 w.0).highest)
          r = holds_range (edge_of p 0 w.0) k w.2

          go : Dec (k < (edge_of p 0 w.0).highest) → Held (edges_of p 0) (suc k)
          go (yes q) = (w.0, w.1, range_holds (edge_of p 0 w.0) (suc k) (omega (arith, r)) q)
          go (no q) =
              let e : (edge_of p 0 w.0).highest ≡ k = omega (arith, r) in
              ⊎_elim (λ (l : leb last_key (edge_of p 0 w.0).highest ≡ true).
              absurd (omega (arith, leb-true last_key (edge_of p 0 w.0).highest l)))
              (λ (g : goes_on (next p 0 (suc (edge_of p 0 w.0).highest)) ≡ true). goes_held (edges_of p 0) (suc k) (rw e at g))
              (or_cases (leb last_key (edge_of p 0 w.0).highest) (goes_on (next p 0 (suc (edge_of p 0 w.0).highest))) (f w.0 w.1))

  covers_test : ((k : ℕ) → k ≤ last_key → Held (edges_of p 0) k) → cover_test p ≡ true
  unfolding cover_test next
  covers_test c = and_both (held_goes (edges_of p 0) 0 (c 0 (omega arith))) (below_all past (length (edges_of p 0)) each)
    where
      each : (i : ℕ) → i < length (edges_of p 0) → past i ≡ true
      each i h = go (dec_lt (edge_of p 0 i).highest last_key)
        where
          go : Dec ((edge_of p 0 i).highest < last_key) → past i ≡ true
          go (yes q) =
              or_right (leb last_key (edge_of p 0 i).highest) (goes_on (next p 0 (suc (edge_of p 0 i).highest)))
              (held_goes (edges_of p 0) (suc (edge_of p 0 i).highest) (c (suc (edge_of p 0 i).highest) q))
          go (no q) =
              or_left (leb last_key (edge_of p 0 i).highest) (goes_on (next p 0 (suc (edge_of p 0 i).highest)))
              (le-leb last_key (edge_of p 0 i).highest (omega arith))

  test_capacities : capacities_test p ≡ true → (n : ℕ) → n < size p → (1 ≤ capacity_of p n) × (capacity_of p n ≤ most_capacity)
  unfolding capacities_test
  test_capacities t n h =
      both_le 1 (capacity_of p n) (capacity_of p n) most_capacity
      (all-below (λ m. leb 1 (capacity_of p m) && leb (capacity_of p m) most_capacity) (size p) t n h)

  test_counts : edge_counts_test p ≡ true → (n : ℕ) → n < size p → length (edges_of p n) ≤ most_edges
  unfolding edge_counts_test
  test_counts t n h =
      leb-true (length (edges_of p n)) most_edges (all-below (λ m. leb (length (edges_of p m)) most_edges) (size p) t n h)

  test_keys : keys_test p ≡ true → (n i : ℕ) → IsEdge p n i → (edge_of p n i).highest ≤ last_key
  unfolding keys_test
  test_keys t n i d =
      leb-true (edge_of p n i).highest last_key (edges_at p (λ m j. leb (edge_of p m j).highest last_key) t n i d)

  test_ranges : ranges_test p ≡ true → (n i : ℕ) → IsEdge p n i → (edge_of p n i).lowest ≤ (edge_of p n i).highest
  unfolding ranges_test
  test_ranges t n i d =
      leb-true (edge_of p n i).lowest (edge_of p n i).highest
      (edges_at p (λ m j. leb (edge_of p m j).lowest (edge_of p m j).highest) t n i d)

  test_apart : apart_test p ≡ true
      → (n i j k : ℕ) → i < j → IsEdge p n j → holds (edge_of p n i) k ≡ true → holds (edge_of p n j) k ≡ true → ⊥
  unfolding apart_test
  test_apart t n i j k h d =
      apart_no_key (edge_of p n i) (edge_of p n j)
      (all-below (λ l. apart (edge_of p n l) (edge_of p n j)) j
      (edges_at p (λ m j. all_below j (λ l. apart (edge_of p m l) (edge_of p m j))) t n j d) i h)
      k

  test_targets : targets_test p ≡ true → (n i : ℕ) → IsEdge p n i → (n < (edge_of p n i).target) × ((edge_of p n i).target < size p)
  unfolding targets_test
  test_targets t n i d =
      both_le (suc n) (edge_of p n i).target (suc (edge_of p n i).target) (size p)
      (edges_at p (λ m j. ltb m (edge_of p m j).target && ltb (edge_of p m j).target (size p)) t n i d)

  -- A plan that passes the test meets the plan rules,
  pub test_rules : plan_test p ≡ true → PlanRules p
  unfolding plan_test nodes_test
  test_rules t =
      record {
        nodes_within = both_le 2 (size p) (size p) most_nodes (search (and_left, and_right) depth 8);
        capacity_within = test_capacities (search (and_left, and_right) depth 8);
        edges_within = test_counts (search (and_left, and_right) depth 8);
        highest_is_a_key = test_keys (search (and_left, and_right) depth 8);
        lowest_not_above_highest = test_ranges (search (and_left, and_right) depth 8);
        ranges_share_no_key = test_apart (search (and_left, and_right) depth 8);
        target_greater_and_exists = test_targets (search (and_left, and_right) depth 8);
        root_covers_every_key = test_covers (search (and_left, and_right) depth 8);
      }

  module _ (r : PlanRules p) where
    nodes_test_lem : nodes_test p ≡ true
    unfolding nodes_test
    nodes_test_lem = le_both 2 (size p) (size p) most_nodes r.nodes_within.0 r.nodes_within.1

    capacities_test_lem : capacities_test p ≡ true
    unfolding capacities_test
    capacities_test_lem =
        below_all (λ m. leb 1 (capacity_of p m) && leb (capacity_of p m) most_capacity) (size p)
        (λ n h. le_both 1 (capacity_of p n) (capacity_of p n) most_capacity (r.capacity_within n h).0 (r.capacity_within n h).1)

    counts_test : edge_counts_test p ≡ true
    unfolding edge_counts_test
    counts_test =
        below_all (λ m. leb (length (edges_of p m)) most_edges) (size p)
        (λ n h. le-leb (length (edges_of p n)) most_edges (r.edges_within n h))

    keys_test_lem : keys_test p ≡ true
    unfolding keys_test
    keys_test_lem =
        at_edges_lem p (λ m j. leb (edge_of p m j).highest last_key)
        (λ n i d. le-leb (edge_of p n i).highest last_key (r.highest_is_a_key n i d))

    ranges_test_lem : ranges_test p ≡ true
    unfolding ranges_test
    ranges_test_lem =
        at_edges_lem p (λ m j. leb (edge_of p m j).lowest (edge_of p m j).highest)
        (λ n i d. le-leb (edge_of p n i).lowest (edge_of p n i).highest (r.lowest_not_above_highest n i d))

    apart_test_lem : apart_test p ≡ true
    unfolding apart_test
    apart_test_lem =
        at_edges_lem p (λ m j. all_below j (λ l. apart (edge_of p m l) (edge_of p m j)))
        (λ n j d. below_all (λ l. apart (edge_of p n l) (edge_of p n j)) j (each n j d))
      where
        each : (n j : ℕ) → IsEdge p n j → (i : ℕ) → i < j → apart (edge_of p n i) (edge_of p n j) ≡ true
        each n j d i h =
            let e : IsEdge p n i = record { node = d.node; edge = omega arith } in
            no_key_apart (edge_of p n i) (edge_of p n j) (r.lowest_not_above_highest n i e) (r.lowest_not_above_highest n j d)
            (λ k. r.ranges_share_no_key n i j k h d)

    targets_test_lem : targets_test p ≡ true
    unfolding targets_test
    targets_test_lem =
        at_edges_lem p (λ m j. ltb m (edge_of p m j).target && ltb (edge_of p m j).target (size p))
        (λ n i d.
        let g = r.target_greater_and_exists n i d in
        le_both (suc n) (edge_of p n i).target (suc (edge_of p n i).target) (size p) g.0 g.1)

    -- and the other way round.
    pub rules_test : plan_test p ≡ true
    unfolding plan_test
    rules_test =
        rw (nodes_test_lem, capacities_test_lem, counts_test, keys_test_lem, ranges_test_lem, apart_test_lem, targets_test_lem)
        (covers_test r.root_covers_every_key)
