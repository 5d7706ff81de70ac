-- `store::Store::is_plan` meets its contract.
use mathlib.Core.Path.{◌∙◌}
use native.Mathlib.Omega.{arith}
use borrow.Author.Tests.{lt-leb}
use Rattle.plan_table.specs.PlanTable.{plans, plan_table}
use Rattle.store.proofs.Freshening.{below_the_plans, from_the_first_plan}
use Rattle.store.proofs.Store.is_plan.Goals as goal

pub returns-then-plan-ge1 : goal.returns-then-plan-ge1
unfolding plans plan_table
returns-then-plan-ge1 c = from_the_first_plan c.args.plan (omega arith)

pub returns-else-plan-ge1 : goal.returns-else-plan-ge1
returns-else-plan-ge1 c = lt-leb 1 c.args.plan (omega arith) ∙ below_the_plans c.args.plan (omega arith)
