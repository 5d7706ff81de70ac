-- Run: BADSTORE, OP, then the refusals of the record's own step.
use mathlib.Core.Path.{◌≡◌, refl, sym, ap, ◌∙◌}
use mathlib.Core.Bool.{true, false}
use mathlib.Core.List.{List, [], ◌∷◌}
use mathlib.Core.Logic.{◌↔◌, ◌⊎◌, inl, inr}
use Prim.Native.Nat.{ℕ, ◌<◌, ◌≤◌}
use native.Mathlib.Decide.{dec_lt, ℕ_discrete}
use native.Mathlib.Omega.{arith}
use lib.ListN.{length, get_or-eq_default}
use Rattle.lists.proofs.Truths.{bool?, not_both}
use Rattle.store.specs.declared.Outcome.{Outcome}
use Rattle.store.specs.declared.Store.{Store}
use Rattle.store.specs.Answers.{BADSTORE, OP, answer}
use Rattle.store.specs.Copies.{member}
use Rattle.store.specs.Copies.Kind.{withdrawn, result}
use Rattle.store.specs.StoreRules.{good_store}
use Rattle.store.proofs.Lifting.{on_good, store_stays}
use Rattle.schedule.specs.declared.Step.{Step}
use Rattle.schedule.specs.Schedule.{ENTER, WITHDRAW, CARRY, START, STEP, CANCEL, known_step}
use Rattle.schedule.specs.Running.{no_step, unknown_step, run_outcome}
use Rattle.schedule.proofs.StepLaws.{does_enter, does_withdraw, does_carry, does_start, does_step, does_cancel, does_unknown}
use Rattle.schedule.proofs.ScheduleLaws.{known_between}
use Rattle.refusals.specs.Given.{Among, entry_answers, carry_answers, start_answers, step_answers, cancel_answers, Refuses, record_at, Unknown}
use Rattle.refusals.specs.Runs.{RunWay}
use Rattle.refusals.specs.Runs.RunWay.{enters, withdraws, carries, starts, steps, cancels, unknown}
use Rattle.refusals.proofs.OnStores.{not_given, on_badstore, on_exactly}
use Rattle.refusals.proofs.Entries.{entry_badstore, entry_answers_lem, entry-refused}
use Rattle.refusals.proofs.Carry.{carry_badstore, carry_answers_lem, carry_refused}
use Rattle.refusals.proofs.Searches.{
  start_badstore,
  start_answers_lem,
  start_refused,
  step_badstore,
  step_answers_lem,
  step_refused,
  cancel_badstore,
  cancel_answers_lem,
  cancel_refused,
}

module _ (z : Store) (list : List Step) (place : ℕ) where
  -- The runner gives the very outcome of the record's call, or the step is unknown.
  pub run_way : RunWay z list place
  unfolding run_outcome
  run_way =
      go (ℕ_discrete n ENTER) (ℕ_discrete n WITHDRAW) (ℕ_discrete n CARRY) (ℕ_discrete n START) (ℕ_discrete n STEP) (ℕ_discrete n CANCEL)
    where
      n : ℕ
      n = (record_at list place).number

      go : Dec (n ≡ ENTER) → Dec (n ≡ WITHDRAW) → Dec (n ≡ CARRY) → Dec (n ≡ START) → Dec (n ≡ STEP) → Dec (n ≡ CANCEL) → RunWay z list place
      go (yes e) b c d f g = enters e (does_enter z n (record_at list place).x (record_at list place).y place e)
      go (no a) (yes e) c d f g = withdraws e (does_withdraw z n (record_at list place).x (record_at list place).y place e)
      go (no a) (no b) (yes e) d f g = carries e (does_carry z n (record_at list place).x (record_at list place).y place e)
      go (no a) (no b) (no c) (yes e) f g = starts e (does_start z n (record_at list place).x (record_at list place).y place e)
      go (no a) (no b) (no c) (no d) (yes e) g = steps e (does_step z n (record_at list place).x (record_at list place).y place e)
      go (no a) (no b) (no c) (no d) (no f) (yes e) = cancels e (does_cancel z n (record_at list place).x (record_at list place).y place e)
      go (no a) (no b) (no c) (no d) (no f) (no g) =
          unknown (other (bool? (known_step n)))
          (does_unknown z n (record_at list place).x (record_at list place).y place a b c d f g)
        where
          other : (known_step n ≡ true) ⊎ (known_step n ≡ false) → known_step n ≡ false
          other (inl t) = let k = known_between n t in absurd (omega (arith, k.0, k.1))
          other (inr t) = t

  abbrev number : ℕ
  number = (run_outcome z list place).answer.number

  same_number : {o : Outcome} → run_outcome z list place ≡ o → number ≡ o.answer.number
  same_number e = ap (λ (w : Outcome). w.answer.number) e

  -- The same outcome has the same refusals.
  same_exactly : {o : Outcome} {n : ℕ} {Line : Type 0} → run_outcome z list place ≡ o → (o.answer.number ≡ n) ↔ Line → (number ≡ n) ↔ Line
  same_exactly e h = (λ q. h.0 (sym (same_number e) ∙ q), λ l. same_number e ∙ h.1 l)

  pub run_badstore : ((run_outcome z list place).answer.number ≡ BADSTORE) ↔ (good_store z ≡ false)
  unfolding member
  run_badstore = go run_way
    where
      go : RunWay z list place → (number ≡ BADSTORE) ↔ (good_store z ≡ false)
      go (enters n e) = same_exactly e (entry_badstore z result (record_at list place).x (record_at list place).y)
      go (withdraws n e) = same_exactly e (entry_badstore z withdrawn (record_at list place).x 0)
      go (carries n e) = same_exactly e (carry_badstore z (record_at list place).x (record_at list place).y)
      go (starts n e) = same_exactly e (start_badstore z (record_at list place).x)
      go (steps n e) = same_exactly e (step_badstore z (record_at list place).x)
      go (cancels n e) = same_exactly e (cancel_badstore z (record_at list place).x)
      go (unknown n e) = same_exactly e (on_badstore (unknown_step place) z (OP ∷ []) refl refl)

  unknown_number : Unknown list place → known_step (record_at list place).number ≡ false
  unfolding known_step
  unknown_number (inl h) = rw (get_or-eq_default list no_step h)
  unknown_number (inr h) = h.1

  known_not : {n : ℕ} → (record_at list place).number ≡ n → known_step n ≡ true → Unknown list place → ⊥
  known_not e t u = not_both (ap known_step e ∙ t) (unknown_number u)

  unknown_why : known_step (record_at list place).number ≡ false → Unknown list place
  unknown_why f = go (dec_lt place (length list))
    where
      go : Dec (place < length list) → Unknown list place
      go (yes h) = inr (h, f)
      go (no h) = inl (omega arith)

  -- A known step does not answer OP.
  not_op : {n : ℕ} {o : Outcome} (numbers : List ℕ) → (record_at list place).number ≡ n → known_step n ≡ true → run_outcome z list place ≡ o → Among numbers o.answer
      → member OP numbers ≡ false → (number ≡ OP) ↔ ((good_store z ≡ true) × Unknown list place)
  not_op {n} {o} numbers e t r among lacks = (
    λ q. absurd (not_given numbers o.answer.number among lacks (sym (same_number r) ∙ q)),
    λ u. absurd (known_not e t u.1),
  )

  pub run_op : ((run_outcome z list place).answer.number ≡ OP) ↔ ((good_store z ≡ true) × Unknown list place)
  unfolding member known_step
  run_op = go run_way
    where
      go : RunWay z list place → (number ≡ OP) ↔ ((good_store z ≡ true) × Unknown list place)
      go (enters n e) = not_op (BADSTORE ∷ entry_answers) n refl e (entry_answers_lem z result (record_at list place).x (record_at list place).y) refl
      go (withdraws n e) = not_op (BADSTORE ∷ entry_answers) n refl e (entry_answers_lem z withdrawn (record_at list place).x 0) refl
      go (carries n e) = not_op (BADSTORE ∷ carry_answers) n refl e (carry_answers_lem z (record_at list place).x (record_at list place).y) refl
      go (starts n e) = not_op (BADSTORE ∷ start_answers) n refl e (start_answers_lem z (record_at list place).x) refl
      go (steps n e) = not_op (BADSTORE ∷ step_answers) n refl e (step_answers_lem z (record_at list place).x) refl
      go (cancels n e) = not_op (BADSTORE ∷ cancel_answers) n refl e (cancel_answers_lem z (record_at list place).x) refl
      go (unknown n e) =
          same_exactly e (on_exactly (unknown_step place) z OP (λ q. omega arith) λ good. (λ q. unknown_why n, λ u. refl))

  -- "to the runner its place"
  pub run_op_place : (run_outcome z list place).answer.number ≡ OP → (run_outcome z list place).answer ≡ answer OP place 0 0 0
  unfolding known_step
  run_op_place q = let u = run_op.0 q in go u.0 (unknown_number u.1) run_way
    where
      go : good_store z ≡ true → known_step (record_at list place).number ≡ false → RunWay z list place → (run_outcome z list place).answer ≡ answer OP place 0 0 0
      go good f (enters n e) = absurd (not_both (rw n) f)
      go good f (withdraws n e) = absurd (not_both (rw n) f)
      go good f (carries n e) = absurd (not_both (rw n) f)
      go good f (starts n e) = absurd (not_both (rw n) f)
      go good f (steps n e) = absurd (not_both (rw n) f)
      go good f (cancels n e) = absurd (not_both (rw n) f)
      go good f (unknown n e) = ap (λ (o : Outcome). o.answer) (e ∙ on_good (unknown_step place) z good)

  -- A refusal leaves the store.
  pub run_refused : 2 ≤ (run_outcome z list place).answer.number → (run_outcome z list place).store ≡ z
  run_refused = go run_way
    where
      leaves : {o : Outcome} → run_outcome z list place ≡ o → Refuses z o → 2 ≤ number → (run_outcome z list place).store ≡ z
      leaves {o} e r h =
          ap (λ (w : Outcome). w.store) e ∙ ap (λ (w : Outcome). w.store) (r (omega (arith, same_number e)))

      go : RunWay z list place → 2 ≤ number → (run_outcome z list place).store ≡ z
      go (enters n e) = leaves e (entry-refused z result (record_at list place).x (record_at list place).y)
      go (withdraws n e) = leaves e (entry-refused z withdrawn (record_at list place).x 0)
      go (carries n e) = leaves e (carry_refused z (record_at list place).x (record_at list place).y)
      go (starts n e) = leaves e (start_refused z (record_at list place).x)
      go (steps n e) = leaves e (step_refused z (record_at list place).x)
      go (cancels n e) = leaves e (cancel_refused z (record_at list place).x)
      go (unknown n e) = λ h. ap (λ (w : Outcome). w.store) e ∙ store_stays (unknown_step place) z refl
