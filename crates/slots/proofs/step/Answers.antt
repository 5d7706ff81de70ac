-- `slots::step` meets its contract.
use Rattle.steps.specs.Promises.{Steps}
use Rattle.steps.specs.Searches.{step_step}
use Rattle.slots.specs.Workers.{outcome_of}
use Rattle.slots.proofs.Checked.{bad_refused, good_steppable, steps_out}
use Rattle.slots.proofs.Slotting.{handed_on}
use Rattle.slots.proofs.step.Goals as goal

pub returns-in_err-check : goal.returns-in_err-check
returns-in_err-check c =
    handed_on (λ r. Steps c.args.store.now c.args.slot (outcome_of r c.args.store.now)) c.from_residual.result c.in_err-check.field-0.0
    c.from_residual.ensures.1
    (bad_refused (step_step c.args.slot) c.args.store.now c.in_err-check.ensures)

pub stepped-requires : goal.stepped-requires
stepped-requires c = good_steppable c.args.store.now c.in_ok-check.ensures

pub returns : goal.returns
returns c =
    steps_out c.args.store.now c.in_ok-check.ensures c.args.slot c.rows_of-rows.result.now c.rows_of-rows.ensures c.stepped.result _ c.stepped.ensures
