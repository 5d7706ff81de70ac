-- `slots::stepped` meets its contract.
use Rattle.slots.specs.Workers.{StepsBy}
use Rattle.slots.proofs.Slotting.{found, never, goes, handed_on, step_refused}
use Rattle.slots.proofs.stepped.Goals as goal

pub returns-in_err-i : goal.returns-in_err-i
returns-in_err-i c =
    handed_on (λ r. StepsBy c.args.rows.now c.args.store.now c.args.slot r c.args.store.now) c.from_residual.result c.in_err-i.field-0.0
    c.from_residual.ensures.1
    (step_refused c.args.rows.now c.args.store.now c.running.ensures.long c.args.slot c.in_err-i.ensures.place)

pub returns-in_default-next : goal.returns-in_default-next
returns-in_default-next c =
    never c.args.rows.now c.args.store.now c.running.ensures.long c.args.slot c.in_ok-i.ensures.place c.look_in.result c.look_in.ensures c.in_default.is
    c.next.result c.next.ensures c.in_default-next.is c.ended.ensures c.idle.ensures

pub returns-in_default : goal.returns-in_default
returns-in_default c =
    goes c.args.rows.now c.args.store.now c.running.ensures.long c.args.slot c.in_ok-i.ensures.place c.look_in.result c.look_in.ensures c.in_default.is
    c.next.result c.next.ensures c.in-Some-next.to c.in-Some-next.is c.of.ensures c.search_at.ensures

pub returns : goal.returns
returns c =
    found c.args.rows.now c.args.store.now c.running.ensures.long c.args.slot c.in_ok-i.ensures.place c.look_in.result c.look_in.ensures c.in-Some.copy
    c.in-Some.is c.ended-2.ensures c.idle-2.ensures
