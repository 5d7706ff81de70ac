-- What decoding gives: at most 256 steps, of known numbers, each in at most 11 bytes, up to the end of the bytes; and where it stops.
use mathlib.Core.Path.{◌≡◌, refl, ap, ◌∙◌}
use mathlib.Core.Bool.{Bool, true, false, cond}
use mathlib.Core.List.{List, [], ◌∷◌}
use mathlib.Core.Logic.{⊎_elim}
use Prim.Native.Nat.{ℕ, zero, suc, ◌+◌, ◌*◌, ◌^◌, ◌<◌, ◌≤◌}
use native.Mathlib.Omega.{arith}
use native.Mathlib.Nat.{le_of_suc-le-suc, not-suc-le-zero}
use lib.Dec.{leb, ltb, lit<}
use lib.ListN.{length, get_or}
use borrow.Author.Tests.{leb-true}
use Rattle.lists.proofs.Truths.{bool?, not_both, both_le}
use Rattle.lists.proofs.Standing.{stands_fits_some}
use Rattle.number.specs.Number.{Reading, Value, Cut, Malformed, narrow, Bytes, form, read_at}
use Rattle.number.proofs.Forms.{form_one, form_some, form-length}
use Rattle.plan.specs.Sizes.{last_key}
use Rattle.plan_table.specs.PlanTable.{plans}
use Rattle.plan_table.proofs.TableLaws.{plans_few}
use Rattle.store.specs.declared.Answer.{Answer}
use Rattle.store.specs.Answers.{PLAN, OP, MANY}
use Rattle.store.specs.StoreRules.{plan_number_test}
use Rattle.wire.specs.Reading.{Got, got, fault, bind, numbered, number_at}
use Rattle.wire.proofs.Chains.{got_or_fault, Gives, gives_got, gives_fault, gives_any, gives_cond, gives_check, gives_bind, number_gives}
use Rattle.schedule.specs.declared.Step.{Step}
use Rattle.schedule.specs.Schedule.{ENTER, CANCEL, most_steps, Schedule, known_step, has_two, second_at, step_at, steps_at, schedule_at, schedule_answer, records_of, decode_answer}
use Rattle.schedule.specs.Running.{no_step}

-- ---- at most 256 steps, of any list

steps_few : (s : List ℕ) (most at : ℕ) → Gives (λ xs end. length xs ≤ most) (steps_at s most at)
unfolding steps_at
steps_few s zero at = gives_cond (leb (length s) at) _ _ (λ t. gives_got (omega arith)) (λ t. gives_fault MANY at)
steps_few s (suc most) at =
    gives_cond (leb (length s) at) _ _ (λ t. gives_got (omega arith))
    (λ t. gives_bind (step_at s at) _ (gives_any _) λ x a u. gives_bind (steps_at s most a) _ (steps_few s most a) λ xs b h. gives_got (omega arith))

few_gives : (s : List ℕ) → Gives (λ d end. length d.steps ≤ most_steps) (schedule_at s)
unfolding schedule_at
few_gives s =
    gives_bind (number_at narrow s 0) _ (gives_any _) λ plan a u.
    gives_check (plan_number_test plan) PLAN 0 _ λ t.
    gives_bind (steps_at s most_steps a) _ (steps_few s most_steps a) λ xs b h. gives_got h

pub schedule_few : (s : List ℕ) → length (records_of (schedule_at s)) ≤ most_steps
schedule_few s = go (schedule_at s) (few_gives s)
  where
    go : (g : Got Schedule) → Gives (λ d end. length d.steps ≤ most_steps) g → length (records_of g) ≤ most_steps
    go (got d end) h = h.each d end refl
    go (fault number at) h = omega arith

-- ---- what is read of bytes

-- A number that was read: 32 bits, in one to five bytes, and in one if it is below 128.
pub record NumberGiven (s : List ℕ) (at v next : ℕ) : Type 0 where
  pub small : v ≤ last_key
  pub onward : at < next
  pub short : next ≤ at + 5
  pub within : next ≤ length s
  pub one : v < 128 → next ≡ at + 1

-- A step's second number, if it has one.
record SecondGiven (s : List ℕ) (number at v next : ℕ) : Type 0 where
  small : v ≤ last_key
  onward : at ≤ next
  short : next ≤ at + 5
  within : at ≤ length s → next ≤ length s
  unused : has_two number ≡ false → v ≡ 0

-- A step that was read: a known number, 32-bit numbers, 0 where unused.
pub record Written (x : Step) : Type 0 where
  pub known : known_step x.number ≡ true
  pub small_x : x.x ≤ last_key
  pub small_y : x.y ≤ last_key
  pub unused : has_two x.number ≡ false → x.y ≡ 0

-- It takes at most 11 bytes.
pub record StepGiven (s : List ℕ) (at : ℕ) (x : Step) (next : ℕ) : Type 0 where
  pub written : Written x
  pub onward : at < next
  pub short : next ≤ at + 11
  pub within : next ≤ length s

-- Steps that were read, up to the end of the bytes.
pub record StepsGiven (s : List ℕ) (at : ℕ) (xs : List Step) (end : ℕ) : Type 0 where
  pub written : (i : ℕ) → i < length xs → Written (get_or xs i no_step)
  pub short : end ≤ at + 11 * length xs
  pub ends : at ≤ length s → end ≡ length s

-- A number below 128 has one byte.
one_byte : (v : ℕ) → v < 128 → length (form v) ≡ 1
unfolding form
one_byte v h = ap length (form_one narrow.more v h)

-- Step numbers are 1 to 6, and plans have one byte too.
pub known_between : (number : ℕ) → known_step number ≡ true → (ENTER ≤ number) × (number ≤ CANCEL)
unfolding known_step
known_between number t = both_le ENTER number number CANCEL t

pub plan_small : (plan : ℕ) → plan_number_test plan ≡ true → plan < 128
unfolding plan_number_test
plan_small plan t = let k = both_le 1 plan plan plans t in omega (arith, plans_few)

plan_gives : (s : List ℕ) → Gives (λ d end. d.plan < 128) (schedule_at s)
unfolding schedule_at
plan_gives s =
    gives_bind (number_at narrow s 0) _ (gives_any _) λ plan a u.
    gives_check (plan_number_test plan) PLAN 0 _ λ t.
    gives_bind (steps_at s most_steps a) _ (gives_any _) λ xs b h. gives_got (plan_small plan t)

schedule_plan_small : (s : List ℕ) → (schedule_answer (schedule_at s)).b < 128
schedule_plan_small s = go (schedule_at s) (plan_gives s)
  where
    go : (g : Got Schedule) → Gives (λ d end. d.plan < 128) g → (schedule_answer g).b < 128
    go (got d end) h = h.each d end refl
    go (fault number at) h = omega arith

-- So decode's b is a number of 32 bits.
pub decode_b_fits : (s : List ℕ) (before : List Step) {r : Answer} → r ≡ decode_answer s before → r.b < 2 ^ 32
unfolding decode_answer
decode_b_fits s before {r} e = ⊎_elim small large (bool? (ltb (length before) most_steps))
  where
    small : ltb (length before) most_steps ≡ true → r.b < 2 ^ 32
    small t = rw (e, t) (lit< tt)

    large : ltb (length before) most_steps ≡ false → r.b < 2 ^ 32
    large t = let h = schedule_plan_small s in rw (e, t) (omega arith)

module _ (s : List ℕ) where
  no_steps : (at : ℕ) → length s ≤ at → StepsGiven s at [] at
  no_steps at h = record { written = λ i l. absurd (not-suc-le-zero l); short = omega arith; ends = λ l. omega arith }

  more_steps : {at a end : ℕ} {x : Step} {xs : List Step} → StepGiven s at x a → StepsGiven s a xs end → StepsGiven s at (x ∷ xs) end
  more_steps {x = x} {xs = xs} g h =
      record {
        written = λ i l. each i l;
        short = let p = g.short in let q = h.short in omega arith;
        ends = λ l. h.ends g.within;
      }
    where
      each : (i : ℕ) → i < length (x ∷ xs) → Written (get_or (x ∷ xs) i no_step)
      each zero l = g.written
      each (suc i) l = h.written i (le_of_suc-le-suc l)

module _ (s : List ℕ) (bytes : Bytes s) where
  pub number_given : (at : ℕ) → Gives (NumberGiven s at) (number_at narrow s at)
  number_given at =
      record {
        each = λ v next e.
            let n = (number_gives s bytes at).each v next e in
            let w = n.stands.width in
            record {
              small = n.small;
              onward = omega (arith, form_some v);
              short = omega (arith, form-length v);
              within = stands_fits_some (form_some v) n.stands;
              one = λ h. w ∙ ap (λ (k : ℕ). at + k) (one_byte v h);
            };
      }

  second_given : (number at : ℕ) → Gives (SecondGiven s number at) (second_at s number at)
  unfolding second_at
  second_given number at =
      gives_cond (has_two number) _ _
      (λ t. record {
        each = λ y c e.
            let n = (number_given at).each y c e in
            let o = n.onward in
            record { small = n.small; onward = omega arith; short = n.short; within = λ h. n.within; unused = λ f. absurd (not_both t f) };
      })
      (λ t. gives_got (record { small = omega arith; onward = omega arith; short = omega arith; within = λ h. h; unused = λ f. refl }))

  pub step_given : (at : ℕ) → Gives (StepGiven s at) (step_at s at)
  unfolding step_at
  step_given at =
      gives_bind (number_at narrow s at) _ (number_given at) λ number a n.
      gives_check (known_step number) OP at _ λ t.
      gives_bind (number_at narrow s a) _ (number_given a) λ x b m.
      gives_bind (second_at s number b) _ (second_given number b) λ y c q.
      let k = known_between number t in
      let o : a ≡ at + 1 = n.one (omega arith) in
      let p = m.onward in
      let l = m.short in
      let u = q.onward in
      let v = q.short in
      gives_got
      (record {
        written = record { known = t; small_x = m.small; small_y = q.small; unused = q.unused };
        onward = omega arith;
        short = omega arith;
        within = q.within m.within;
      })

  pub steps_given : (most at : ℕ) → Gives (StepsGiven s at) (steps_at s most at)
  unfolding steps_at
  steps_given zero at =
      gives_cond (leb (length s) at) _ _ (λ t. gives_got (no_steps s at (leb-true (length s) at t))) (λ t. gives_fault MANY at)
  steps_given (suc most) at =
      gives_cond (leb (length s) at) _ _ (λ t. gives_got (no_steps s at (leb-true (length s) at t)))
      (λ t.
      gives_bind (step_at s at) _ (step_given at) λ x a g.
      gives_bind (steps_at s most a) _ (steps_given most a) λ xs b h. gives_got (more_steps s g h))

-- ---- where decoding stops

-- Every fault of the reading has a number and an offset with this property.
record Stops {A : Type 0} (P : ℕ → ℕ → Type 0) (m : Got A) : Type 0 where
  each : (number at : ℕ) → m ≡ fault number at → P number at

module _ {P : ℕ → ℕ → Type 0} {A : Type 0} where
  stops_got : (x : A) (next : ℕ) → Stops P (got x next)
  stops_got x next = record { each = λ number at e. absurd (got_or_fault refl e) }

  stops_fault : {number at : ℕ} → P number at → Stops {A = A} P (fault number at)
  stops_fault {number} {at} p =
      record { each = λ k a e. let y : number ≡ k = cc in let z : at ≡ a = cc in rw (← y, ← z) p }

  stops_cond : (test : Bool) (m k : Got A) → (test ≡ true → Stops P m) → (test ≡ false → Stops P k) → Stops P (cond test m k)
  stops_cond true m k h g = h refl
  stops_cond false m k h g = g refl

stops_bind : {P : ℕ → ℕ → Type 0} {A B : Type 0} {R : A → ℕ → Type 0} (m : Got A) (f : A → ℕ → Got B) → Stops P m → Gives R m
    → ((x : A) (next : ℕ) → R x next → Stops P (f x next)) → Stops P (bind m f)
unfolding bind
stops_bind (got x next) f h g k = k x next (g.each x next refl)
stops_bind (fault number at) f h g k = stops_fault (h.each number at refl)

-- A refusal, at an offset within the bytes.
pub record Refused (s : List ℕ) (number at : ℕ) : Type 0 where
  pub refusal : 2 ≤ number
  pub within : at ≤ length s

number_stops : (s : List ℕ) (at : ℕ) → at ≤ length s → Stops (Refused s) (number_at narrow s at)
unfolding number_at numbered
number_stops s at h = go (read_at narrow s at)
  where
    go : (r : Reading) → Stops (Refused s) (numbered at r)
    go (Value v next) = stops_got v next
    go Cut = stops_fault (record { refusal = omega arith; within = h })
    go Malformed = stops_fault (record { refusal = omega arith; within = h })

module _ (s : List ℕ) (bytes : Bytes s) where
  step_stops : (at : ℕ) → at ≤ length s → Stops (Refused s) (step_at s at)
  unfolding step_at second_at
  step_stops at h =
      stops_bind (number_at narrow s at) _ (number_stops s at h) (number_given s bytes at) λ number a n.
      stops_cond (known_step number) _ _
      (λ t.
      stops_bind (number_at narrow s a) _ (number_stops s a n.within) (number_given s bytes a) λ x b m.
      stops_bind (second_at s number b) _
      (stops_cond (has_two number) _ _ (λ u. number_stops s b m.within) (λ u. stops_got 0 b)) (gives_any _) λ y c q. stops_got _ c)
      (λ t. stops_fault (record { refusal = omega arith; within = h }))

  steps_stop : (most at : ℕ) → at ≤ length s → Stops (Refused s) (steps_at s most at)
  unfolding steps_at
  steps_stop zero at h = stops_cond (leb (length s) at) _ _ (λ t. stops_got _ at) (λ t. stops_fault (record { refusal = omega arith; within = h }))
  steps_stop (suc most) at h =
      stops_cond (leb (length s) at) _ _ (λ t. stops_got _ at)
      (λ t.
      stops_bind (step_at s at) _ (step_stops at h) (step_given s bytes at) λ x a g.
      stops_bind (steps_at s most a) _ (steps_stop most a g.within) (gives_any _) λ xs b u. stops_got _ b)

  schedule_stops : Stops (Refused s) (schedule_at s)
  unfolding schedule_at
  schedule_stops =
      stops_bind (number_at narrow s 0) _ (number_stops s 0 (omega arith)) (number_given s bytes 0) λ plan a n.
      stops_cond (plan_number_test plan) _ _
      (λ t. stops_bind (steps_at s most_steps a) _ (steps_stop most_steps a n.within) (gives_any _) λ xs b u. stops_got _ b)
      (λ t. stops_fault (record { refusal = omega arith; within = omega arith }))

  -- A schedule that is not accepted is refused, at an offset within the bytes.
  pub schedule_refused : {number at : ℕ} → schedule_at s ≡ fault number at → Refused s number at
  schedule_refused {number} {at} e = schedule_stops.each number at e
