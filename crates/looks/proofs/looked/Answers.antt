-- `looks::looked` meets its contract.
use mathlib.Core.Path.{refl}
use borrow.Author.Rules.{rules}
use Rattle.plan.specs.PlanArrays.{RowsOfPlan}
use Rattle.plan.proofs.RowsLent.{own_count}
use Rattle.store.specs.Layout.{plan_of}
use Rattle.store.proofs.WhichPlan.{rows_here}
use Rattle.store.proofs.Lifting.{plan_good}
use Rattle.looks.proofs.Descending.{good_lookable, look_lent, look_refused}
use Rattle.looks.proofs.looked.Goals as goal
use Rattle.looks.proofs.looked.Goals.{After-rows_of}

-- The rows that were taken are those of the store's plan.
has_rows : (c : After-rows_of) → RowsOfPlan (plan_of c.args.store.now) c.rows_of.result.now
has_rows c = let z = c.args.store.now in rows_here z (plan_good z c.in_ok-check.ensures) c.rows_of.result.now c.rows_of.ensures

pub returns-in_err-check : goal.returns-in_err-check
returns-in_err-check c =
    let w = c.in_err-check.ensures in
    let e = look_refused c.args.store.now w.1 c.args.key _ refl in
    search (e, w.0, rules)

pub look_down-requires : goal.look_down-requires
look_down-requires c =
    good_lookable c.args.store.now c.in_ok-check.ensures c.rows_of.result.now (has_rows (goal.at.look_down-requires c).After-rows_of)

pub returns : goal.returns
returns c =
    let z = c.args.store.now in
    look_lent z c.in_ok-check.ensures c.args.key c.look_down.result
    (c.look_down.ensures (plan_of z) (own_count (has_rows (goal.at.returns c).After-rows_of)))
