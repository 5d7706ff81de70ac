-- Printed lines written one after another: each turn and each way out.
use mathlib.Core.Path.{◌≡◌, refl, ap, ap₂, ◌∙◌}
use mathlib.Core.List.{List, [], ◌++◌, append-nil}
use Prim.Native.Nat.{ℕ, zero, suc, ◌+◌, ◌-◌, ◌*◌, ◌<◌, ◌≤◌}
use native.Mathlib.Omega.{arith}
use native.Mathlib.Numerals.{add-one}
use lib.ListN.{length, get_or, get_or-append}
use borrow.Author.Tests.{eq-eqb, ne_eqb}
use Rattle.lists.specs.Stands.{Wrote}
use Rattle.lists.proofs.Standing.{wrote_nil, wrote_join, wrote_length}
use Rattle.store.specs.declared.Answer.{Answer}
use Rattle.store.specs.declared.Outcome.{Outcome}
use Rattle.store.specs.declared.Store.{Store}
use Rattle.store.specs.Answers.{DONE, answer}
use Rattle.store.specs.Promises.{fresh_outcome}
use Rattle.lines.specs.Text.{answer_text, most_text}
use Rattle.lines.specs.Promises.{Prints}
use Rattle.schedule.specs.declared.Step.{Step}
use Rattle.schedule.specs.Schedule.{most_steps}
use Rattle.schedule.specs.Running.{no_step, record_outcome, run_outcome}
use Rattle.transcript.specs.Transcript.{first_text, steps_text, decoded_text, most_transcript}

-- The printed lines of so many steps were written, and once those of the others are, all were.
pub record WritingSteps (steps : List Step) (n : ℕ) (first : Store) (before : List ℕ) (from : ℕ) (out : List ℕ) (at : ℕ) (z : Store) (place : ℕ)
    : Type 0 where
  pub within : place ≤ n
  pub kept : length out ≡ length before
  pub few : at ≤ from + most_text * place
  pub joins : (end : ℕ) (after : List ℕ) → Wrote out at (steps_text steps z place (n - place)) end after
      → Wrote before from (steps_text steps first 0 n) end after

module _ (steps : List Step) (n : ℕ) where
  pub steps_start : {o q : Outcome} (before : List ℕ) (from : ℕ) → o ≡ q → WritingSteps steps n q.store before from before from o.store 0
  steps_start before from e =
      let z : n - 0 ≡ n = omega arith in
      record { within = omega arith; kept = refl; few = omega arith; joins = λ end after w. rw (z, e) at w }

  text_on : (z : Store) (place : ℕ) → place < n → {o : Outcome} → o ≡ record_outcome z (get_or steps place no_step) place
      → steps_text steps z place (n - place)
      ≡ answer_text (get_or steps place no_step).number o.answer ++ steps_text steps o.store (place + 1) (n - (place + 1))
  unfolding steps_text run_outcome
  text_on z place h e = let s : n - place ≡ suc (n - (place + 1)) = omega arith in rw (s, add-one, e)

  text_off : (z : Store) (place : ℕ) → n ≤ place → steps_text steps z place (n - place) ≡ []
  unfolding steps_text
  text_off z place h = let s : n - place ≡ 0 = omega arith in rw s

  module _ {first : Store} {before : List ℕ} {from : ℕ} {out : List ℕ} {at : ℕ} {z : Store} {place : ℕ}
      (k : WritingSteps steps n first before from out at z place) where
    -- A turn has room for its printed line, and writes it.
    pub step_fits : place < n → from + most_text * n ≤ length before → at + most_text ≤ length out
    step_fits h room = omega (arith, k.kept, k.few)

    pub steps_turn : place < n → {o : Outcome} {next : ℕ} {after : List ℕ} → o ≡ record_outcome z (get_or steps place no_step) place
        → Prints out at (get_or steps place no_step).number o.answer next after
        → WritingSteps steps n first before from after next o.store (place + 1)
    steps_turn h e p =
        record {
          within = omega arith;
          kept = wrote_length p.0 ∙ k.kept;
          few = omega (arith, k.few, p.1);
          joins = λ end after v. k.joins end after (rw (text_on z place h e) (wrote_join p.0 v));
        }

    pub steps_end : n ≤ place → Wrote before from (steps_text steps first 0 n) at out × (at ≤ from + most_text * n)
    steps_end h = (k.joins at out (rw (text_off z place h) (wrote_nil out at)), omega (arith, k.few, k.within))

-- What the first steps do, and their lines, are the same whatever comes after them.
module _ (steps more : List Step) where
  front_step : (place : ℕ) → place < length steps → get_or (steps ++ more) place no_step ≡ get_or steps place no_step
  front_step place h = get_or-append steps more no_step place h

  front_run : (z : Store) (place : ℕ) → place < length steps → run_outcome z (steps ++ more) place ≡ run_outcome z steps place
  unfolding run_outcome
  front_run z place h = ap (λ (r : Step). record_outcome z r place) (front_step place h)

  pub front_text : (z : Store) (place n : ℕ) → place + n ≤ length steps → steps_text (steps ++ more) z place n ≡ steps_text steps z place n
  unfolding steps_text
  front_text z place zero h = refl
  front_text z place (suc n) h =
      let o = run_outcome z steps place in
      let line = λ (r : Step) (o : Outcome). answer_text r.number o.answer ++ steps_text (steps ++ more) o.store (suc place) n in
      ap₂ line (front_step place (omega arith)) (front_run z place (omega arith))
      ∙ ap (λ (l : List ℕ). answer_text (get_or steps place no_step).number o.answer ++ l) (front_text o.store (suc place) n (omega arith))

-- ---- after the first line

-- After the first line, of a schedule that decode answered with x.
module _ (x : Answer) (steps : List Step) {y : Answer} {before : List ℕ} {mid : ℕ} {out : List ℕ}
    (e : y ≡ answer x.number x.a 0 0 0) (p : Prints before 0 0 y mid out) where
  first_wrote : Wrote before 0 (first_text x) mid out
  first_wrote = rw e at p.0

  -- A refused one stops there.
  pub refused_wrote : (x.number ≡ DONE → ⊥) → Wrote before 0 (decoded_text x steps) mid out × (mid ≤ most_transcript)
  unfolding decoded_text
  refused_wrote h = (rw (ne_eqb x.number DONE h, append-nil) first_wrote, omega (arith, p.1))

  -- An accepted one has room for the printed lines of its steps, and goes on with them.
  pub steps_room : x.a ≤ most_steps → most_transcript ≤ length before → mid + most_text * x.a ≤ length out
  steps_room few room = omega (arith, p.1, wrote_length p.0)

  pub accepted_wrote : x.number ≡ DONE → x.a ≤ most_steps → {next : ℕ} {after : List ℕ}
      → Wrote out mid (steps_text steps (fresh_outcome x.b).store 0 x.a) next after × (next ≤ mid + most_text * x.a)
      → Wrote before 0 (decoded_text x steps) next after × (next ≤ most_transcript)
  unfolding decoded_text
  accepted_wrote h few v = (rw (eq-eqb x.number DONE h) (wrote_join first_wrote v.0), omega (arith, p.1, v.1))
