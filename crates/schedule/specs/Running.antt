-- The runner. Document 01, "Bytes".
use Rattle.std.specs.Prelude.{cond, List, ℕ, eqb, get_or, replicate}
use Rattle.plan.specs.Plan.{Plan}
use Rattle.store.specs.declared.Outcome.{Outcome}
use Rattle.store.specs.declared.Store.{Store}
use Rattle.store.specs.Answers.{OP, answer}
use Rattle.store.specs.State.{State}
use Rattle.store.specs.Calls.{Effect, on_store}
use Rattle.steps.specs.Promises.{enter_outcome, withdraw_outcome, carry_outcome, start_outcome, step_outcome, cancel_outcome}
use Rattle.schedule.specs.declared.Step.{Step}
use Rattle.schedule.specs.Schedule.{ENTER, WITHDRAW, CARRY, START, STEP, CANCEL, most_steps, step_record}

-- What stands at a place outside the list: a record of zeros, whose step number is unknown.
abbrev pub no_step : Step
no_step = step_record 0 0 0

-- As many records of zeros as a schedule has steps at most.
abbrev pub no_steps : List Step
no_steps = replicate most_steps no_step

-- OP with the place, and the state as it was.
abbrev pub unknown_step : ℕ → Plan → State → Effect
unknown_step place p s = record { answer = answer OP place 0 0 0; after = s }

-- The outcome of an unknown step.
abbrev pub unknown_outcome : Store → ℕ → Outcome
unknown_outcome z place = on_store (unknown_step place) z

-- The outcome of a record's step: that of its call, "ignoring a step's unused numbers".
unfoldable pub record_outcome : Store → Step → ℕ → Outcome
record_outcome z r place =
    cond (eqb r.number ENTER) (enter_outcome z r.x r.y)
    (cond (eqb r.number WITHDRAW) (withdraw_outcome z r.x)
    (cond (eqb r.number CARRY) (carry_outcome z r.x r.y)
    (cond (eqb r.number START) (start_outcome z r.x)
    (cond (eqb r.number STEP) (step_outcome z r.x)
    (cond (eqb r.number CANCEL) (cancel_outcome z r.x) (unknown_outcome z place))))))

-- "The runner does the record at a given place, with BADSTORE before OP".
unfoldable pub run_outcome : Store → List Step → ℕ → Outcome
run_outcome z steps place = record_outcome z (get_or steps place no_step) place
