-- `plan_table::rows_of` meets its contract: the rows of the table are those of the plans, computed.
use mathlib.Core.Path.{refl}
use Prim.Native.Nat.{◌-◌}
use native.Mathlib.Omega.{arith}
use Rattle.lists.specs.Indexed.{tabulate}
use Rattle.plan.specs.PlanArrays.{capacities_row, counts_row, grid_of, rows_of}
use Rattle.plan_table.specs.PlanTable.{plan_table, plans}
use Rattle.plan_table.proofs.TableRows.{row_at, row_of_none}
use Rattle.plan_table.proofs.rows_of.Goals as goal

pub returns-then-row-lt1 : goal.returns-then-row-lt1
unfolding plans plan_table tabulate capacities_row counts_row grid_of rows_of
returns-then-row-lt1 c = row_of_none rows_of c.args.plan (λ h. omega arith)

pub returns : goal.returns
unfolding plans plan_table tabulate capacities_row counts_row grid_of rows_of
returns c = row_at rows_of c.args.plan _ _ (c.args.plan - 1) refl (omega arith) (omega arith)
