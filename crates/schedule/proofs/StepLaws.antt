-- What each step of a record does.
use mathlib.Core.Path.{◌≡◌}
use Prim.Native.Nat.{ℕ}
use borrow.Author.Tests.{ne_eqb}
use Rattle.store.specs.declared.Outcome.{Outcome}
use Rattle.store.specs.declared.Store.{Store}
use Rattle.steps.specs.Promises.{enter_outcome, withdraw_outcome, carry_outcome, start_outcome, step_outcome, cancel_outcome}
use Rattle.schedule.specs.Schedule.{ENTER, WITHDRAW, CARRY, START, STEP, CANCEL, step_record}
use Rattle.schedule.specs.Running.{unknown_outcome, record_outcome}

module _ (z : Store) (number x y place : ℕ) where
  -- The outcome of the step of three numbers.
  abbrev does : Outcome
  does = record_outcome z (step_record number x y) place

  pub does_enter : number ≡ ENTER → does ≡ enter_outcome z x y
  unfolding record_outcome
  does_enter e = rw e

  pub does_withdraw : number ≡ WITHDRAW → does ≡ withdraw_outcome z x
  unfolding record_outcome
  does_withdraw e = rw e

  pub does_carry : number ≡ CARRY → does ≡ carry_outcome z x y
  unfolding record_outcome
  does_carry e = rw e

  pub does_start : number ≡ START → does ≡ start_outcome z x
  unfolding record_outcome
  does_start e = rw e

  pub does_step : number ≡ STEP → does ≡ step_outcome z x
  unfolding record_outcome
  does_step e = rw e

  pub does_cancel : number ≡ CANCEL → does ≡ cancel_outcome z x
  unfolding record_outcome
  does_cancel e = rw e

  pub does_unknown : (number ≡ ENTER → ⊥) → (number ≡ WITHDRAW → ⊥) → (number ≡ CARRY → ⊥) → (number ≡ START → ⊥) → (number ≡ STEP → ⊥)
      → (number ≡ CANCEL → ⊥) → does ≡ unknown_outcome z place
  unfolding record_outcome
  does_unknown a b c d e f =
      rw (ne_eqb number ENTER a, ne_eqb number WITHDRAW b, ne_eqb number CARRY c, ne_eqb number START d, ne_eqb number STEP e, ne_eqb number CANCEL f)
