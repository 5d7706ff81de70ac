-- Bytes that are read as a schedule are those of its plan and steps.
use mathlib.Core.Path.{◌≡◌, refl, sym, ap, ap₂, ◌∙◌}
use mathlib.Core.Bool.{Bool, true, false, cond}
use mathlib.Core.List.Memᴰ
use mathlib.Core.List.{List, [], ◌∷◌, Memᴰ}
use mathlib.Core.Logic.{◌⊎◌, inl, inr}
use Prim.Native.Nat.{ℕ, zero, suc, ◌≤◌}
use native.Mathlib.Omega.{arith}
use lib.Dec.{leb}
use lib.ListN.{length, get_or}
use borrow.Author.Tests.{leb-true}
use Rattle.lists.specs.Stands.{Stands}
use Rattle.lists.proofs.Truths.{not_both}
use Rattle.lists.proofs.Standing.{stands_nil, stands_join, stands_whole}
use Rattle.number.specs.Number.{Bytes, narrow}
use Rattle.plan.specs.Sizes.{last_key}
use Rattle.store.specs.Answers.{PLAN, OP, MANY}
use Rattle.store.specs.StoreRules.{plan_number_test}
use Rattle.wire.specs.Reading.{number_at}
use Rattle.wire.proofs.Chains.{Gives, gives_got, gives_fault, gives_check, gives_cond, gives_bind, NumberStands, number_gives}
use Rattle.schedule.specs.declared.Step.{Step}
use Rattle.schedule.specs.Schedule.{WITHDRAW, START, STEP, CANCEL, most_steps, step_record, Schedule}
use Rattle.schedule.specs.Schedule.{known_step, has_two, second_at, step_at, steps_at, schedule_at}
use Rattle.schedule.proofs.ScheduleLaws.{known_between}
use Rattle.refusals.proofs.Fresh.{plan_test_lem}
use Rattle.accepted.specs.Schedules.{NamedStep, step_numbers, named_record, named_records, numbers_bytes, steps_bytes, schedule_bytes}
use Rattle.accepted.specs.Schedules.{Fits, IsSchedule}
use Rattle.accepted.specs.Schedules.NamedStep.{enter, withdraw, carry, start, step, cancel}
use Rattle.accepted.proofs.ScheduleTrips.{record_numbers, numbers_are}

-- The step of a record that was read.
record NameOf (r : Step) : Type 0 where
  named : NamedStep
  is : named_record named ≡ r

name_of : (number x y : ℕ) → known_step number ≡ true → (has_two number ≡ false → y ≡ 0) → NameOf (step_record number x y)
unfolding has_two
name_of zero x y k u = absurd (omega (arith, known_between zero k))
name_of (suc zero) x y k u = record { named = enter x y; is = refl }
name_of (suc (suc zero)) x y k u = record { named = withdraw x; is = ap (step_record WITHDRAW x) (sym (u refl)) }
name_of (suc (suc (suc zero))) x y k u = record { named = carry x y; is = refl }
name_of (suc (suc (suc (suc zero)))) x y k u = record { named = start x; is = ap (step_record START x) (sym (u refl)) }
name_of (suc (suc (suc (suc (suc zero))))) x y k u = record { named = step x; is = ap (step_record STEP x) (sym (u refl)) }
name_of (suc (suc (suc (suc (suc (suc zero)))))) x y k u = record { named = cancel x; is = ap (step_record CANCEL x) (sym (u refl)) }
name_of (suc (suc (suc (suc (suc (suc (suc n))))))) x y k u = absurd (omega (arith, known_between (suc (suc (suc (suc (suc (suc (suc n))))))) k))

-- Its numbers have 32 bits if these three have.
numbers_fit : (r : Step) → r.number ≤ last_key → r.x ≤ last_key → r.y ≤ last_key → (i : ℕ) → get_or (record_numbers r) i 0 ≤ last_key
numbers_fit r a b c zero = a
numbers_fit r a b c (suc zero) = b
numbers_fit r a b c (suc (suc i)) = go (has_two r.number) i
  where
    go : (t : Bool) (i : ℕ) → get_or (cond t (r.y ∷ []) []) i 0 ≤ last_key
    go true zero = c
    go true (suc i) = omega arith
    go false i = omega arith

-- A step's second number, its bytes standing where it has one.
record SecondStands (s : List ℕ) (number at y next : ℕ) : Type 0 where
  unused : has_two number ≡ false → y ≡ 0
  stands : Stands s at (numbers_bytes (cond (has_two number) (y ∷ []) [])) next
  small : y ≤ last_key

-- A step and steps that were read: their bytes stand there.
record StepStands (s : List ℕ) (at : ℕ) (x : Step) (next : ℕ) : Type 0 where
  named : NamedStep
  is : named_record named ≡ x
  fits : Fits named
  stands : Stands s at (numbers_bytes (step_numbers named)) next

record StepsStand (s : List ℕ) (most at : ℕ) (xs : List Step) (next : ℕ) : Type 0 where
  named : List NamedStep
  is : named_records named ≡ xs
  few : length named ≤ most
  fit : (x : NamedStep) → Memᴰ x named → Fits x
  stands : Stands s at (steps_bytes named) next
  ends : length s ≤ next

module _ {s : List ℕ} where
  no_steps : (most at : ℕ) → length s ≤ at → StepsStand s most at [] at
  unfolding steps_bytes
  no_steps most at h =
      record { named = []; is = refl; few = omega arith; fit = λ x m. absurd (Memᴰ.not-nil m); stands = stands_nil s at; ends = h }

  more_steps : {most at a end : ℕ} {x : Step} {xs : List Step} → StepStands s at x a → StepsStand s most a xs end
      → StepsStand s (suc most) at (x ∷ xs) end
  unfolding steps_bytes
  more_steps {x = x} {xs} g h =
      record {
        named = g.named ∷ h.named;
        is = ap₂ (λ (y : Step) (ys : List Step). y ∷ ys) g.is h.is;
        few = let f = h.few in omega arith;
        fit = λ y m. each y (Memᴰ.cases_cons m);
        stands = stands_join g.stands h.stands;
        ends = h.ends;
      }
    where
      each : (y : NamedStep) → (y ≡ g.named) ⊎ Memᴰ y h.named → Fits y
      each y (inl e) = rw e g.fits
      each y (inr m) = h.fit y m

module _ (s : List ℕ) (bytes : Bytes s) where
  second_stands : (number at : ℕ) → Gives (SecondStands s number at) (second_at s number at)
  unfolding second_at numbers_bytes
  second_stands number at =
      gives_cond (has_two number) _ _
      (λ t. record {
        each = λ y next e.
            let n = (number_gives s bytes at).each y next e in
            record {
              unused = λ f. absurd (not_both t f);
              stands = rw t (stands_join n.stands (stands_nil s next));
              small = n.small;
            };
      })
      (λ t. gives_got (record { unused = λ _. refl; stands = rw t (stands_nil s at); small = omega arith }))

  step_stands : (at : ℕ) → Gives (StepStands s at) (step_at s at)
  unfolding step_at numbers_bytes
  step_stands at =
      gives_bind (number_at narrow s at) _ (number_gives s bytes at) λ number a n.
      gives_check (known_step number) OP at _ λ t.
      gives_bind (number_at narrow s a) _ (number_gives s bytes a) λ x b m.
      gives_bind (second_at s number b) _ (second_stands number b) λ y c q.
      gives_got (joined number x y t n m q)
    where
      joined : (number x y : ℕ) {a b c : ℕ} → known_step number ≡ true → NumberStands s at number a → NumberStands s a x b
          → SecondStands s number b y c → StepStands s at (step_record number x y) c
      joined number x y t n m q =
          let w = name_of number x y t q.unused in
          let e = numbers_are w.named ∙ ap record_numbers w.is in
          record {
            named = w.named;
            is = w.is;
            fits = rw e (numbers_fit (step_record number x y) n.small m.small q.small);
            stands = rw e (stands_join n.stands (stands_join m.stands q.stands));
          }

  steps_stand : (most at : ℕ) → Gives (StepsStand s most at) (steps_at s most at)
  unfolding steps_at steps_bytes
  steps_stand zero at = gives_cond (leb (length s) at) _ _ (λ t. gives_got (no_steps zero at (leb-true (length s) at t))) (λ t. gives_fault MANY at)
  steps_stand (suc most) at =
      gives_cond (leb (length s) at) _ _ (λ t. gives_got (no_steps (suc most) at (leb-true (length s) at t)))
      (λ t.
      gives_bind (step_at s at) _ (step_stands at) λ x a g.
      gives_bind (steps_at s most a) _ (steps_stand most a) λ xs b h. gives_got (more_steps g h))

-- An accepted schedule, of bytes that are all read.
pub record ScheduleStands (s : List ℕ) (d : Schedule) (end : ℕ) : Type 0 where
  pub named : List NamedStep
  pub is : named_records named ≡ d.steps
  pub is_schedule : IsSchedule d.plan named
  pub written : s ≡ schedule_bytes d.plan named

pub schedule_stands : (s : List ℕ) → Bytes s → Gives (ScheduleStands s) (schedule_at s)
unfolding schedule_at schedule_bytes
schedule_stands s bytes =
    gives_bind (number_at narrow s 0) _ (number_gives s bytes 0) λ plan a n.
    gives_check (plan_number_test plan) PLAN 0 _ λ t.
    gives_bind (steps_at s most_steps a) _ (steps_stand s bytes most_steps a) λ xs b h.
    gives_got
    (record {
      named = h.named;
      is = h.is;
      is_schedule = record { is_plan = (plan_test_lem plan).0 t; few = h.few; fit = h.fit };
      written = sym (stands_whole (stands_join n.stands h.stands) h.ends);
    })
