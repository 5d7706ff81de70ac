-- `slots::cancelled` meets its contract.
use Rattle.steps.specs.Searches.{cancel_step}
use Rattle.slots.specs.Workers.{ChangesBy}
use Rattle.slots.proofs.Slotting.{cancels, handed_on, cancel_refused}
use Rattle.slots.proofs.cancelled.Goals as goal

pub returns-in_err-at : goal.returns-in_err-at
returns-in_err-at c =
    handed_on (λ r. ChangesBy (cancel_step c.args.slot) c.args.slots.now r c.args.slots.now) c.from_residual.result c.in_err-at.field-0.0
    c.from_residual.ensures.1
    (cancel_refused c.args.slots.now c.running.ensures.long c.args.slot c.in_err-at.ensures.place)

pub returns : goal.returns
returns c = cancels c.args.slots.now c.running.ensures.long c.args.slot c.in_ok-at.ensures.place c.bare.ensures c.idle.ensures
