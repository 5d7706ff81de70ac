-- `slots::start` meets its contract.
use Rattle.store.specs.Layout.{plan_of, state_of}
use Rattle.steps.specs.Promises.{Starts}
use Rattle.steps.specs.Searches.{start_step}
use Rattle.steps.proofs.LineSteps.{start_still}
use Rattle.slots.specs.Workers.{outcome_of}
use Rattle.slots.proofs.Checked.{bad_refused, changes_out}
use Rattle.slots.proofs.Slotting.{handed_on}
use Rattle.slots.proofs.start.Goals as goal

pub returns-in_err-check : goal.returns-in_err-check
returns-in_err-check c =
    handed_on (λ r. Starts c.args.store.now c.args.key (outcome_of r c.args.store.now)) c.from_residual.result c.in_err-check.field-0.0
    c.from_residual.ensures.1
    (bad_refused (start_step c.args.key) c.args.store.now c.in_err-check.ensures)

pub returns : goal.returns
returns c =
    let z = c.args.store.now in
    changes_out z c.in_ok-check.ensures (start_step c.args.key) (start_still c.args.key (plan_of z) (state_of z)) c.started.result _ c.started.ensures
