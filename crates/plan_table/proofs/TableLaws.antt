-- The table of plans is shown to meet the plan rules, by one computed test.
use mathlib.Core.Path.{◌≡◌, refl}
use mathlib.Core.Bool.{true}
use mathlib.Core.List.{[]}
use Prim.Native.Nat.{ℕ, zero, suc, ◌<◌, ◌≤◌}
use native.Mathlib.Omega.{arith}
use native.Mathlib.Nat.{not-suc-le-zero}
use lib.ListN.{get_or, get_or-eq_default}
use Rattle.lists.specs.Indexed.{all_from, all_below}
use Rattle.lists.proofs.Tabulating.{all-below}
use Rattle.plan.specs.Sizes.{last_key}
use Rattle.plan.specs.Plan.{holds, first_edge, next}
use Rattle.plan.specs.PlanRules.{
  PlanRules,
  apart,
  nodes_test,
  capacities_test,
  edge_counts_test,
  keys_test,
  ranges_test,
  apart_test,
  targets_test,
  cover_test,
  plan_test,
}
use Rattle.plan_table.specs.PlanTable.{plan_table, plans, plan_numbered}
use Rattle.plan.proofs.RulesLaws.{test_rules}

-- There is a first plan, and a plan's number has 32 bits, as a key has.
pub first_plan : 1 ≤ plans
unfolding plans plan_table
first_plan = omega arith

pub plans_fit : plans ≤ last_key
unfolding plans plan_table
plans_fit = omega arith

-- It takes one byte.
pub plans_few : plans < 128
unfolding plans plan_table
plans_few = omega arith

-- Every plan of the table passes the test.
pub table_passes : all_below plans (λ i. plan_test (get_or plan_table i [])) ≡ true
unfolding all_from plans plan_table plan_test nodes_test capacities_test edge_counts_test keys_test ranges_test apart_test targets_test cover_test apart holds first_edge next
table_passes = refl

-- So every plan by its number meets the plan rules,
pub table_rules : (p : ℕ) → 1 ≤ p → p ≤ plans → PlanRules (plan_numbered p)
unfolding plan_numbered
table_rules zero h g = absurd (not-suc-le-zero h)
table_rules (suc p) h g =
    test_rules (get_or plan_table p []) (all-below (λ i. plan_test (get_or plan_table i [])) plans table_passes p g)

-- and any other number is a plan without nodes.
pub no_plan : (p : ℕ) → plans < p → plan_numbered p ≡ []
unfolding plan_numbered plans
no_plan zero h = refl
no_plan (suc p) h = get_or-eq_default plan_table [] (omega arith)
