-- `slots::cancel` meets its contract.
use Rattle.store.specs.Layout.{plan_of, state_of}
use Rattle.steps.specs.Promises.{Cancels}
use Rattle.steps.specs.Searches.{cancel_step}
use Rattle.steps.proofs.LineSteps.{cancel_still}
use Rattle.slots.specs.Workers.{outcome_of}
use Rattle.slots.proofs.Checked.{bad_refused, changes_out}
use Rattle.slots.proofs.Slotting.{handed_on}
use Rattle.slots.proofs.cancel.Goals as goal

pub returns-in_err-check : goal.returns-in_err-check
returns-in_err-check c =
    handed_on (λ r. Cancels c.args.store.now c.args.slot (outcome_of r c.args.store.now)) c.from_residual.result c.in_err-check.field-0.0
    c.from_residual.ensures.1
    (bad_refused (cancel_step c.args.slot) c.args.store.now c.in_err-check.ensures)

pub returns : goal.returns
returns c =
    let z = c.args.store.now in
    changes_out z c.in_ok-check.ensures (cancel_step c.args.slot) (cancel_still c.args.slot (plan_of z) (state_of z)) c.cancelled.result _ c.cancelled.ensures
