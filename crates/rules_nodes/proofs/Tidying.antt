-- The test of a node's own numbers, way out by way out, and that a look in a node that passes can go by halves.
use mathlib.Core.Path.{◌≡◌, sym, ◌∙◌}
use mathlib.Core.Bool.{Bool, true, false, and-false}
use mathlib.Core.Logic.{⊎_elim}
use Prim.Native.Nat.{ℕ, suc, ◌+◌, ◌-◌, ◌*◌, ◌<◌, ◌≤◌}
use native.Mathlib.Omega.{arith}
use lib.Dec.{leb, ltb}
use borrow.Author.Tests.{le-leb, lt-leb, leb-true, ltb-true}
use Rattle.lists.specs.Indexed.{all_from}
use Rattle.lists.proofs.Truths.{and_left, and_right, or_cases}
use Rattle.lists.proofs.Tabulating.{all_at, all-below}
use Rattle.plan.specs.Sizes.{most_nodes}
use Rattle.plan.specs.PlanArrays.{at_node}
use Rattle.plan.specs.declared.rows.Rows.{Rows}
use Rattle.store.specs.declared.Store.{Store}
use Rattle.store.specs.Layout.{width, count_of}
use Rattle.store.specs.Workers.{number_in, WithinPlaces, Ordered, AllOrdered}
use Rattle.store.proofs.Widths.{at_fits}
use Rattle.rules_nodes.specs.Workers.{used_test, unused_in, tidy_test, all_tidy}

module _ (r : Rows) (z : Store) (n : ℕ) where
  abbrev count : ℕ
  count = count_of z n

  abbrev tidy : Bool
  tidy = tidy_test r z n

  pub node_over : at_node r.capacities n < count → tidy ≡ false
  unfolding tidy_test
  node_over h = rw (lt-leb count (at_node r.capacities n) h)

  -- The node has the places from .. end in use.
  module _ (from end : ℕ) (f : from ≡ width * n) (e : end ≡ width * n + count) where
    used : all_from from (end - from) (used_test z end) ≡ all_from (width * n) count (used_test z (width * n + count))
    used = let s : end - from ≡ count = omega arith in rw (s, f, e)

    pub node_used : all_from from (end - from) (used_test z end) ≡ false → tidy ≡ false
    unfolding tidy_test
    node_used h = rw (sym used ∙ h, and-false (leb count (at_node r.capacities n)))

    pub node_unused : count ≤ at_node r.capacities n → all_from from (end - from) (used_test z end) ≡ true
        → tidy ≡ unused_in z end (from + width)
    unfolding tidy_test
    node_unused h g = rw (le-leb count (at_node r.capacities n) h, sym used ∙ g, e, f)

  -- In a node that passes a look can go by halves.
  module _ (t : tidy ≡ true) where
    within : count ≤ at_node r.capacities n
    unfolding tidy_test
    within = leb-true count (at_node r.capacities n) (search (and_left, and_right) depth 8)

    place_used : (i : ℕ) → width * n ≤ i → i < width * n + count → used_test z (width * n + count) i ≡ true
    unfolding tidy_test
    place_used = all_at (used_test z (width * n + count)) (width * n) count (search (and_left, and_right) depth 8)

    rising : (i : ℕ) → suc i < width * n + count → used_test z (width * n + count) i ≡ true → number_in z.keys i < number_in z.keys (suc i)
    unfolding used_test
    rising i h g =
        ⊎_elim (λ (a : leb (width * n + count) (suc i) ≡ true). absurd (let b = leb-true (width * n + count) (suc i) a in omega arith))
        (λ (a : ltb (number_in z.keys i) (number_in z.keys (suc i)) ≡ true). ltb-true (number_in z.keys i) (number_in z.keys (suc i)) a)
        (or_cases (leb (width * n + count) (suc i)) (ltb (number_in z.keys i) (number_in z.keys (suc i))) (search and_left depth 8))

    pub node_ordered : WithinPlaces r.capacities → Ordered z.counts z.keys n
    node_ordered fit = record { fits = omega (arith, within, at_fits r.capacities fit n); rises = λ i h g. rising i g (place_used i h (omega arith)) }

-- So it can in all nodes, if they pass.
pub nodes_ordered : (r : Rows) → WithinPlaces r.capacities → (z : Store) → all_tidy r z ≡ true → AllOrdered z.counts z.keys
nodes_ordered r fit z t n h = node_ordered r z n (all-below (tidy_test r z) most_nodes t n h) fit
