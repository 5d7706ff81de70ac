-- Lists that say of each node no more than it has places: of a row read by node, and of a plan's capacities.
use mathlib.Core.Path.{◌≡◌, ap}
use mathlib.Core.List.{List}
use Prim.Native.Nat.{ℕ, ◌<◌, ◌≤◌}
use native.Mathlib.Omega.{arith}
use native.Mathlib.Decide.{dec_lt}
use lib.ListN.{get_or-eq_default}
use Rattle.plan.specs.Sizes.{most_nodes}
use Rattle.plan.specs.Plan.{Node, Plan, no_node, size, capacity_of}
use Rattle.plan.specs.PlanRules.{PlanRules}
use Rattle.plan.specs.PlanArrays.{at_node, capacities_row}
use Rattle.plan.proofs.ArrayLaws.{at_within, at_past}
use Rattle.plan.proofs.RowsLent.{capacity_of_lem}
use Rattle.store.specs.Layout.{width}
use Rattle.store.specs.Workers.{WithinPlaces}

-- Read by node, also past the last.
pub at_fits : (list : List ℕ) → WithinPlaces list → (n : ℕ) → at_node list n ≤ width
at_fits list within n = go (dec_lt n most_nodes)
  where
    go : Dec (n < most_nodes) → at_node list n ≤ width
    go (yes h) = omega (arith, at_within list n h, within n h)
    go (no h) = omega (arith, at_past list n (omega arith))

-- A plan that meets the plan rules has places for as many copies as a node may hold; one that the plan lacks may hold none.
pub rows_fit : (p : Plan) → PlanRules p → (capacities : List ℕ) → capacities ≡ capacities_row p → WithinPlaces capacities
rows_fit p rules capacities e n few = omega (arith, at_within capacities n few, capacity_of_lem p rules capacities e n, go (dec_lt n (size p)))
  where
    go : Dec (n < size p) → capacity_of p n ≤ width
    go (yes h) = (rules.capacity_within n h).1
    go (no h) = let none : capacity_of p n ≡ 0 = ap (λ (d : Node). d.capacity) (get_or-eq_default p no_node (omega arith)) in omega arith
