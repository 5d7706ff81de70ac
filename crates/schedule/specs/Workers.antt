-- What the functions below decode hand back: steps that were read, and a decoded schedule.
use Rattle.std.specs.Prelude.{cond, List, ◌++◌, ℕ, ltb, length, drop, Result, Ok, Err}
use Rattle.arrayvec.specs.ArrayVec.{ArrayVec}
use Rattle.number.specs.declared.Read.{Read}
use Rattle.store.specs.Answers.{SMALL}
use Rattle.store.specs.Refusals.{refusal_number}
use Rattle.wire.specs.declared.Fault.{Fault}
use Rattle.wire.specs.Reading.{Got, got, fault}
use Rattle.schedule.specs.declared.Step.{Step}
use Rattle.schedule.specs.declared.decoding.Decoded.{Decoded}
use Rattle.schedule.specs.Schedule.{most_steps, Schedule, schedule_at}
use Rattle.schedule.specs.Running.{no_steps}

-- What a program's result tells of steps: the steps and the offset after them, or the fault and its offset.
abbrev pub steps_of : Result (Read (ArrayVec Step)) Fault → Got (List Step)
steps_of (Ok r) = got r.value.items r.next
steps_of (Err f) = fault (refusal_number f.why) f.at

-- A schedule as the code has it: its plan, the number of its steps, and their records at the beginning of a list of zeros.
unfoldable pub decoded_of : Schedule → Decoded
decoded_of d = record { plan = d.plan; count = length d.steps; steps = d.steps ++ drop (length d.steps) no_steps }

-- A schedule that was read, so laid down, or the fault.
unfoldable pub laid_down : Got Schedule → Got Decoded
laid_down (got d end) = got (decoded_of d) end
laid_down (fault number at) = fault number at

-- A schedule for a list of so many records: "fewer than 256 records answers SMALL, a 256, before a byte is read."
unfoldable pub decoded_into : List ℕ → ℕ → Got Schedule
decoded_into s room = cond (ltb room most_steps) (fault SMALL most_steps) (schedule_at s)
