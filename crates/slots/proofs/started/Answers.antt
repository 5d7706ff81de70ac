-- `slots::started` meets its contract.
use borrow.Author.Rules.{rules}
use Rattle.steps.specs.Searches.{start_step}
use Rattle.slots.specs.Workers.{ChangesBy}
use Rattle.slots.proofs.Idling.{none_left}
use Rattle.slots.proofs.Slotting.{starts, handed_on, start_refused}
use Rattle.slots.proofs.started.Goals as goal

pub returns-in_err-slot : goal.returns-in_err-slot
returns-in_err-slot c =
    let w = none_left _ c.lowest_idle.result c.in_err-slot.ensures.value c.lowest_idle.ensures in
    handed_on (λ r. ChangesBy (start_step c.args.key) c.args.slots.now r c.args.slots.now) c.from_residual.result c.in_err-slot.field-0.0
    c.from_residual.ensures.1
    (rw w.0 (start_refused c.args.slots.now (search rules) c.args.key w.1))

pub returns : goal.returns
returns c = starts c.args.slots.now (search rules) c.args.key c.in_ok-slot.slot (search rules) (search rules) c.of.ensures c.search_at.ensures
