-- `schedule::decoding::read_steps` meets its contract. Its measure is how many steps more a schedule may have.
use Rattle.std.proofs.Common.{◌-◌, length}
use Rattle.schedule.specs.Schedule.{most_steps}
use Rattle.schedule.proofs.StepsRead.{Sofar}
use Rattle.schedule.proofs.decoding.read_steps.Given as goal

abbrev pub invariant-loop-at : goal.invariant-loop-at
invariant-loop-at l = Sofar l.bytes l.from l.steps.items l.at

abbrev pub decreases-loop-at : goal.decreases-loop-at
decreases-loop-at l = most_steps - length l.steps.items
