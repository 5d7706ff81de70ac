-- What the loop over a schedule's steps keeps: what reading them from their beginning on gives is what reading from where the loop stands gives,
-- with the steps read so far before it.
use mathlib.Core.Path.{◌≡◌, refl, sym, ap, ◌∙◌}
use mathlib.Core.List.{List, [], ◌∷◌, ◌++◌, append_assoc, append-nil}
use Prim.Native.Nat.{ℕ, zero, suc, ◌+◌, ◌-◌, ◌<◌, ◌≤◌}
use native.Mathlib.Omega.{arith}
use lib.ListN.{length, length-append}
use borrow.Author.Tests.{lt-leb, le-leb}
use Rattle.store.specs.Answers.{MANY}
use Rattle.wire.specs.Reading.{Got, got, fault, bind}
use Rattle.wire.proofs.Chains.{bind_got, bind_fault}
use Rattle.schedule.specs.declared.Step.{Step}
use Rattle.schedule.specs.Schedule.{most_steps, step_at, steps_at}

-- Steps that were read before others.
abbrev pub before : List Step → Got (List Step) → Got (List Step)
before done g = bind g (λ xs b. got (done ++ xs) b)

-- The steps read so far, and where reading goes on.
pub record Sofar (s : List ℕ) (from : ℕ) (done : List Step) (at : ℕ) : Type 0 where
  pub few : length done ≤ most_steps
  pub rest : steps_at s most_steps from ≡ before done (steps_at s (most_steps - length done) at)

-- Before the first step.
pub sofar_start : (s : List ℕ) (from : ℕ) → Sofar s from [] from
unfolding bind
sofar_start s from = record { few = omega arith; rest = sym (go (steps_at s most_steps from)) }
  where
    go : (g : Got (List Step)) → before [] g ≡ g
    go (got xs b) = refl
    go (fault number at) = refl

-- A step and the others, after those before it.
after_step : (done : List Step) (x : Step) (g : Got (List Step)) → before done (bind g (λ xs b. got (x ∷ xs) b)) ≡ before (done ++ x ∷ []) g
unfolding bind
after_step done x (got xs b) = ap (λ (l : List Step). got l b) (sym (append_assoc done (x ∷ []) xs))
after_step done x (fault number at) = refl

-- Steps where the bytes end, and where they do not.
module _ (s : List ℕ) (at : ℕ) where
  steps_over : (most : ℕ) → length s ≤ at → steps_at s most at ≡ got [] at
  unfolding steps_at
  steps_over zero h = rw (le-leb (length s) at h)
  steps_over (suc most) h = rw (le-leb (length s) at h)

  steps_many : {most : ℕ} → most ≡ 0 → at < length s → steps_at s most at ≡ fault MANY at
  unfolding steps_at
  steps_many e h = rw (e, lt-leb (length s) at h)

  steps_step : {most less : ℕ} → most ≡ suc less → at < length s
      → steps_at s most at ≡ bind (step_at s at) (λ x a. bind (steps_at s less a) λ xs b. got (x ∷ xs) b)
  unfolding steps_at
  steps_step e h = rw (e, lt-leb (length s) at h)

module _ {s : List ℕ} {from : ℕ} {done : List Step} {at : ℕ} (sofar : Sofar s from done at) where
  -- The bytes end.
  pub sofar_end : length s ≤ at → got done at ≡ steps_at s most_steps from
  sofar_end h =
      sym (sofar.rest ∙ bind_got _ _ (steps_over s at (most_steps - length done) h) ∙ ap (λ (l : List Step). got l at) (append-nil done))

  module _ (h : at < length s) where
    -- MANY.
    pub sofar_many : length done ≡ most_steps → fault MANY at ≡ steps_at s most_steps from
    sofar_many m = sym (sofar.rest ∙ bind_fault _ _ (steps_many s at (omega arith) h))

    module _ (m : length done < most_steps) where
      one : most_steps - length done ≡ suc (most_steps - (length done + 1))
      one = omega arith

      -- The step cannot be read.
      pub sofar_fault : {number place : ℕ} → fault number place ≡ step_at s at → fault number place ≡ steps_at s most_steps from
      sofar_fault e = sym (sofar.rest ∙ bind_fault _ _ (steps_step s at one h ∙ bind_fault _ _ (sym e)))

      -- A step is read.
      pub sofar_turn : {x : Step} {next : ℕ} → got x next ≡ step_at s at → Sofar s from (done ++ x ∷ []) next
      sofar_turn {x} {next} e =
          let n : length (done ++ x ∷ []) ≡ length done + 1 = length-append done (x ∷ []) in
          record {
            few = omega arith;
            rest =
                sofar.rest ∙ ap (before done) (steps_step s at one h ∙ bind_got _ _ (sym e))
                ∙ after_step done x (steps_at s (most_steps - (length done + 1)) next)
                ∙ ap (λ (k : ℕ). before (done ++ x ∷ []) (steps_at s (most_steps - k) next)) (sym n);
          }

-- At its start, at each turn, and at each way out.
pub ruleset sofar_laws = (sofar_start, sofar_turn, sofar_end, sofar_many, sofar_fault)
