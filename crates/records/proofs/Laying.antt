-- What decoding into a list answers and leaves, told by what the list's room was given: a schedule or a fault.
use mathlib.Core.Path.{◌≡◌, refl}
use mathlib.Core.Bool.{Bool, true, false, cond}
use mathlib.Core.List.{List, ◌++◌}
use Prim.Native.Nat.{ℕ, ◌≤◌}
use native.Mathlib.Omega.{arith}
use lib.Dec.{ltb}
use lib.ListN.{length, take, drop}
use lib.Seq.{length-take-le}
use borrow.Author.Tests.{ltb-false}
use Rattle.store.specs.Answers.{DONE, SMALL, answer}
use Rattle.wire.specs.Reading.{got, fault}
use Rattle.schedule.specs.declared.Step.{Step}
use Rattle.schedule.specs.Schedule.{most_steps, schedule_at, schedule_answer, records_of, decode_answer, decode_list}
use Rattle.schedule.specs.declared.decoding.Decoded.{Decoded}
use Rattle.schedule.specs.Workers.{laid_down, decoded_into}
use Rattle.schedule.proofs.ScheduleLaws.{schedule_few}
use Rattle.schedule.proofs.Laid.{schedule_in, laid_got, laid_fault}

module _ (s : List ℕ) (before : List Step) where
  answer_into : schedule_answer (decoded_into s (length before)) ≡ decode_answer s before
  unfolding decoded_into decode_answer
  answer_into = go (ltb (length before) most_steps)
    where
      go : (t : Bool) → schedule_answer (cond t (fault SMALL most_steps) (schedule_at s)) ≡ cond t (answer SMALL most_steps 0 0 0) (schedule_answer (schedule_at s))
      go true = refl
      go false = refl

  list_into : records_of (decoded_into s (length before)) ++ drop (length (records_of (decoded_into s (length before)))) before ≡ decode_list s before
  unfolding decoded_into decode_list
  list_into = go (ltb (length before) most_steps)
    where
      go : (t : Bool)
          → records_of (cond t (fault SMALL most_steps) (schedule_at s)) ++ drop (length (records_of (cond t (fault SMALL most_steps) (schedule_at s)))) before
          ≡ cond t before (records_of (schedule_at s) ++ drop (length (records_of (schedule_at s))) before)
      go true = refl
      go false = refl

  few_into : length (records_of (decoded_into s (length before))) ≤ length before
  unfolding decoded_into
  few_into = go (ltb (length before) most_steps) refl
    where
      go : (t : Bool) → ltb (length before) most_steps ≡ t → length (records_of (cond t (fault SMALL most_steps) (schedule_at s))) ≤ length before
      go true e = omega arith
      go false e = omega (arith, schedule_few s, ltb-false (length before) most_steps e)

  -- A schedule has room, and its records are laid down.
  module _ {v : Decoded} {end : ℕ} (e : got v end ≡ laid_down (decoded_into s (length before))) where
    read : got (schedule_in v) end ≡ decoded_into s (length before)
    read = laid_got _ e

    pub laid_fits : length (take v.count v.steps) ≤ length before
    laid_fits = rw (← read) at few_into

    pub laid_front : length (take (length (take v.count v.steps)) before) ≡ length (take v.count v.steps)
    laid_front = length-take-le (length (take v.count v.steps)) before laid_fits

    pub laid_answer : answer DONE (length (take v.count v.steps)) v.plan 0 0 ≡ decode_answer s before
    laid_answer = rw (← read) at answer_into

    pub laid_list : take v.count v.steps ++ drop (length (take v.count v.steps)) before ≡ decode_list s before
    laid_list = rw (← read) at list_into

  -- A fault leaves the list.
  module _ {number at : ℕ} (e : fault number at ≡ laid_down (decoded_into s (length before))) where
    pub left_answer : answer number at 0 0 0 ≡ decode_answer s before
    left_answer = rw (← (laid_fault _ e)) at answer_into

    pub left_list : before ≡ decode_list s before
    left_list = rw (← (laid_fault _ e)) at list_into

-- What a schedule and a fault say.
pub ruleset laying_laws = (laid_fits, laid_front, laid_answer, laid_list, left_answer, left_list)
