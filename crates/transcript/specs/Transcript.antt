-- The text that the program prints for a schedule's bytes, over the outcomes that the promises of decode, fresh and run cite.
-- Document 01, "A schedule in full".
use Rattle.std.specs.Prelude.{cond, List, [], ◌++◌, ℕ, zero, suc, ◌+◌, ◌*◌, eqb, get_or}
use Rattle.store.specs.declared.Answer.{Answer}
use Rattle.store.specs.declared.Store.{Store}
use Rattle.store.specs.Answers.{DONE, answer}
use Rattle.store.specs.Promises.{fresh_outcome}
use Rattle.lines.specs.Text.{answer_text, most_text}
use Rattle.schedule.specs.declared.Step.{Step}
use Rattle.schedule.specs.Schedule.{most_steps}
use Rattle.schedule.specs.Running.{no_step, no_steps, run_outcome}
use Rattle.schedule.specs.Promises.{decode_outcome}

-- "It prints one line first: 0, answer number, step count (or, if refused, the offset), 0 0 0".
abbrev pub first_text : Answer → List ℕ
first_text r = answer_text 0 (answer r.number r.a 0 0 0)

-- "Then one line a step": of the record at a place and of so many after it, each on the store that the one before left.
unfoldable pub steps_text : List Step → Store → ℕ → ℕ → List ℕ
steps_text steps z place zero = []
steps_text steps z place (suc more) =
    let o = run_outcome z steps place in
    answer_text (get_or steps place no_step).number o.answer ++ steps_text steps o.store (suc place) more

-- "a refused schedule stops there"; an accepted one goes on "on a fresh store of the plan". Decode's a is the step count, its b the plan.
unfoldable pub decoded_text : Answer → List Step → List ℕ
decoded_text r steps =
    first_text r ++ cond (eqb r.number DONE) (steps_text steps (fresh_outcome r.b).store 0 r.a) []

-- The text of a schedule's bytes, decoded into a list of zeros.
unfoldable pub schedule_text : List ℕ → List ℕ
schedule_text bytes = decoded_text (decode_outcome bytes no_steps).0 (decode_outcome bytes no_steps).1

-- The first line and one line a step: no text has more bytes.
abbrev pub most_transcript : ℕ
most_transcript = most_text * (1 + most_steps)
