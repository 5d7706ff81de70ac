-- What the runner does: the call of the record at a place, or nothing.
use Rattle.std.specs.Prelude.{◌≡◌, false, List, ℕ}
use Rattle.store.specs.declared.Store.{Store}
use Rattle.steps.specs.Promises.{enter_outcome, withdraw_outcome, carry_outcome, start_outcome, step_outcome, cancel_outcome}
use Rattle.schedule.specs.declared.Step.{Step}
use Rattle.schedule.specs.Schedule.{ENTER, WITHDRAW, CARRY, START, STEP, CANCEL, known_step}
use Rattle.schedule.specs.Running.{unknown_outcome, run_outcome}
use Rattle.refusals.specs.Given.{record_at}

-- The outcome is the very one of the record's call, or the step is unknown.
pub data RunWay (z : Store) (list : List Step) (place : ℕ) : Type 0 where
  enters : (record_at list place).number ≡ ENTER
      → run_outcome z list place ≡ enter_outcome z (record_at list place).x (record_at list place).y → RunWay z list place
  withdraws : (record_at list place).number ≡ WITHDRAW → run_outcome z list place ≡ withdraw_outcome z (record_at list place).x
      → RunWay z list place
  carries : (record_at list place).number ≡ CARRY
      → run_outcome z list place ≡ carry_outcome z (record_at list place).x (record_at list place).y → RunWay z list place
  starts : (record_at list place).number ≡ START → run_outcome z list place ≡ start_outcome z (record_at list place).x → RunWay z list place
  steps : (record_at list place).number ≡ STEP → run_outcome z list place ≡ step_outcome z (record_at list place).x → RunWay z list place
  cancels : (record_at list place).number ≡ CANCEL → run_outcome z list place ≡ cancel_outcome z (record_at list place).x → RunWay z list place
  unknown : known_step (record_at list place).number ≡ false → run_outcome z list place ≡ unknown_outcome z place
      → RunWay z list place
