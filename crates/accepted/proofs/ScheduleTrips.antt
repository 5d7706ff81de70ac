-- The bytes of a schedule are read back as just its plan and the records of its steps.
use mathlib.Core.Path.{◌≡◌, refl, sym, ap, ap₂, ◌∙◌}
use mathlib.Core.Bool.{Bool, true, false, cond}
use mathlib.Core.List.{List, [], ◌∷◌, ◌++◌, map, Memᴰ}
use mathlib.Core.Logic.{◌⊎◌, inl, inr}
use Prim.Native.Nat.{ℕ, zero, suc, ◌<◌, ◌≤◌}
use native.Mathlib.Omega.{arith}
use lib.Dec.{eqb}
use lib.ListN.{length, get_or, length-append}
use borrow.Author.Tests.{lt-leb, le-leb}
use Rattle.lists.specs.Stands.{Stands}
use Rattle.lists.proofs.Truths.{bool?, not_both}
use Rattle.lists.proofs.Standing.{stands_left, stands_right, stands_itself, stands_fits_some}
use Rattle.number.specs.Number.{narrow, form}
use Rattle.number.proofs.Forms.{form_some}
use Rattle.plan.specs.Sizes.{last_key}
use Rattle.plan_table.proofs.TableLaws.{plans_fit}
use Rattle.store.specs.Answers.{PLAN, OP}
use Rattle.store.specs.StoreRules.{plan_number_test}
use Rattle.wire.specs.Reading.{got, number_at}
use Rattle.wire.proofs.Chains.{bind_got, check_holds, number_back}
use Rattle.copies.proofs.CopyTrips.{nothing_stands}
use Rattle.schedule.specs.declared.Step.{Step}
use Rattle.schedule.specs.Schedule.{ENTER, WITHDRAW, CARRY, START, STEP, most_steps, Schedule}
use Rattle.schedule.specs.Schedule.{known_step, has_two, second_at, step_at, steps_at, schedule_at}
use Rattle.schedule.proofs.ScheduleLaws.{known_between, Written}
use Rattle.refusals.proofs.Fresh.{plan_test_lem}
use Rattle.accepted.specs.Schedules.{NamedStep, step_numbers, named_record, named_records, numbers_bytes, steps_bytes, schedule_bytes}
use Rattle.accepted.specs.Schedules.{Fits, IsSchedule}
use Rattle.accepted.specs.Schedules.NamedStep.{enter, withdraw, carry, start, step, cancel}

-- The numbers of a step by its record: the second where the step has one.
abbrev pub record_numbers : Step → List ℕ
record_numbers r = r.number ∷ r.x ∷ cond (has_two r.number) (r.y ∷ []) []

-- They are the step's own.
pub numbers_are : (x : NamedStep) → step_numbers x ≡ record_numbers (named_record x)
unfolding has_two
numbers_are (enter key value) = refl
numbers_are (withdraw key) = refl
numbers_are (carry node edge) = refl
numbers_are (start key) = refl
numbers_are (step slot) = refl
numbers_are (cancel slot) = refl

number_known : (x : NamedStep) → known_step (named_record x).number ≡ true
unfolding known_step
number_known (enter key value) = refl
number_known (withdraw key) = refl
number_known (carry node edge) = refl
number_known (start key) = refl
number_known (step slot) = refl
number_known (cancel slot) = refl

second_unused : (x : NamedStep) → has_two (named_record x).number ≡ false → (named_record x).y ≡ 0
unfolding has_two
second_unused (enter key value) f = absurd (not_both refl f)
second_unused (withdraw key) f = refl
second_unused (carry node edge) f = absurd (not_both refl f)
second_unused (start key) f = refl
second_unused (step slot) f = refl
second_unused (cancel slot) f = refl

-- The record of a step of 32-bit numbers is one that decoding may give.
named_written : (x : NamedStep) → Fits x → Written (named_record x)
named_written x f =
    record { known = number_known x; small_x = g 1; small_y = second (bool? (has_two r.number)); unused = second_unused x }
  where
    r : Step
    r = named_record x

    g : (i : ℕ) → get_or (record_numbers r) i 0 ≤ last_key
    g i = rw (numbers_are x) at (f i)

    second : (has_two r.number ≡ true) ⊎ (has_two r.number ≡ false) → r.y ≤ last_key
    second (inl t) = rw t at (g 2)
    second (inr t) = rw (second_unused x t) (omega arith)

-- A step has bytes: it has a number.
step_some : (x : NamedStep) → 1 ≤ length (numbers_bytes (step_numbers x))
unfolding numbers_bytes
step_some x = rw (numbers_are x) (some (form (named_record x).number) _ (form_some (named_record x).number))
  where
    some : (l k : List ℕ) → 1 ≤ length l → 1 ≤ length (l ++ k)
    some l k h = omega (arith, length-append l k)

module _ {s : List ℕ} where
  second_back : (number y : ℕ) {at next : ℕ} → (has_two number ≡ false → y ≡ 0) → y ≤ last_key
      → Stands s at (numbers_bytes (cond (has_two number) (y ∷ []) [])) next → second_at s number at ≡ got y next
  unfolding second_at numbers_bytes
  second_back number y {at} {next} unused small = go (has_two number) unused
    where
      go : (t : Bool) → (t ≡ false → y ≡ 0) → Stands s at (numbers_bytes (cond t (y ∷ []) [])) next
          → cond t (number_at narrow s at) (got 0 at) ≡ got y next
      go true u h = number_back small (stands_left (form y) [] h) ∙ nothing_stands y (stands_right (form y) [] h)
      go false u h = nothing_stands 0 h ∙ ap (λ (v : ℕ). got v next) (sym (u refl))

  -- A record is read back where its numbers stand.
  record_back : (r : Step) {at next : ℕ} → Written r → Stands s at (numbers_bytes (record_numbers r)) next → step_at s at ≡ got r next
  unfolding step_at numbers_bytes
  record_back r {at} w h =
      let number = form r.number in
      let first = form r.x in
      let second = numbers_bytes (cond (has_two r.number) (r.y ∷ []) []) in
      let k = stands_right number (first ++ second) h in
      let low = known_between r.number w.known in
      bind_got _ _ (number_back (omega arith) (stands_left number (first ++ second) h))
      ∙ check_holds (known_step r.number) OP at _ w.known
      ∙ bind_got _ _ (number_back w.small_x (stands_left first second k))
      ∙ bind_got _ _ (second_back r.number r.y w.unused w.small_y (stands_right first second k))

  step_back : (x : NamedStep) {at next : ℕ} → Fits x → Stands s at (numbers_bytes (step_numbers x)) next → step_at s at ≡ got (named_record x) next
  step_back x f h = record_back (named_record x) (named_written x f) (rw (numbers_are x) at h)

  -- Steps that stand up to the end of the bytes are read back, if they are no more than may come.
  steps_back : (xs : List NamedStep) (most : ℕ) {at : ℕ} → length xs ≤ most → ((x : NamedStep) → Memᴰ x xs → Fits x)
      → Stands s at (steps_bytes xs) (length s) → steps_at s most at ≡ got (named_records xs) (length s)
  unfolding steps_at steps_bytes
  steps_back [] zero {at} few f h = let w = h.width in rw (le-leb (length s) at (omega arith)) (nothing_stands [] h)
  steps_back [] (suc most) {at} few f h = let w = h.width in rw (le-leb (length s) at (omega arith)) (nothing_stands [] h)
  steps_back (x ∷ xs) zero few f h = absurd (omega arith)
  steps_back (x ∷ xs) (suc most) {at} few f h =
      let first = numbers_bytes (step_numbers x) in
      let k = stands_left first (steps_bytes xs) h in
      let inside : at < length s = omega (arith, step_some x, stands_fits_some (step_some x) k) in
      rw (lt-leb (length s) at inside)
      (bind_got _ _ (step_back x (f x (Memᴰ.head refl)) k)
      ∙ bind_got _ _ (steps_back xs most (omega arith) (λ y m. f y (Memᴰ.tail m)) (stands_right first (steps_bytes xs) h)))

-- A schedule is read back from its bytes, all of them.
pub schedule_back : (plan : ℕ) (steps : List NamedStep) → IsSchedule plan steps
    → schedule_at (schedule_bytes plan steps) ≡ got (record { plan = plan; steps = named_records steps }) (length (schedule_bytes plan steps))
unfolding schedule_at schedule_bytes
schedule_back plan steps w =
    let p = w.is_plan in
    let h = stands_itself (form plan ++ steps_bytes steps) in
    bind_got _ _ (number_back (omega (arith, plans_fit)) (stands_left (form plan) (steps_bytes steps) h))
    ∙ check_holds (plan_number_test plan) PLAN 0 _ ((plan_test_lem plan).1 p)
    ∙ bind_got _ _ (steps_back steps most_steps w.few w.fit (stands_right (form plan) (steps_bytes steps) h))

-- A step is told by its record,
told_by : Step → NamedStep
told_by r =
    cond (eqb r.number ENTER) (enter r.x r.y)
    (cond (eqb r.number WITHDRAW) (withdraw r.x)
    (cond (eqb r.number CARRY) (carry r.x r.y)
    (cond (eqb r.number START) (start r.x) (cond (eqb r.number STEP) (step r.x) (cancel r.x)))))

told : (x : NamedStep) → told_by (named_record x) ≡ x
unfolding told_by
told (enter key value) = refl
told (withdraw key) = refl
told (carry node edge) = refl
told (start key) = refl
told (step slot) = refl
told (cancel slot) = refl

-- and steps are by theirs.
all_told : (xs : List NamedStep) → map told_by (named_records xs) ≡ xs
all_told [] = refl
all_told (x ∷ xs) = ap₂ (λ (y : NamedStep) (ys : List NamedStep). y ∷ ys) (told x) (all_told xs)

-- Two schedules with the same bytes are one.
pub schedules_apart : (plan other : ℕ) (steps others : List NamedStep) → IsSchedule plan steps → IsSchedule other others
    → schedule_bytes plan steps ≡ schedule_bytes other others → (plan ≡ other) × (steps ≡ others)
schedules_apart plan other steps others w v e =
    let a = schedule_back plan steps w in
    let b = schedule_back other others v in
    let c : schedule_at (schedule_bytes plan steps) ≡ schedule_at (schedule_bytes other others) = ap schedule_at e in
    let d : ◌≡◌ {A = Schedule} (record { plan = plan; steps = named_records steps }) (record { plan = other; steps = named_records others }) = cc in
    (ap (λ (x : Schedule). x.plan) d, sym (all_told steps) ∙ ap (λ (x : Schedule). map told_by x.steps) d ∙ all_told others)
