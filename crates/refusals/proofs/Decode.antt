-- Decode: SMALL; then from the left CUT, NUMBER, PLAN or OP, and MANY first at a step's start.
use mathlib.Core.Path.{◌≡◌, refl, sym, ap, subst, ◌∙◌}
use mathlib.Core.Bool.{true, false, cond}
use mathlib.Core.List.{List, [], ◌∷◌}
use mathlib.Core.Logic.{◌↔◌, ◌⊎◌, inl, inr, ⊎_elim}
use Prim.Native.Nat.{ℕ, zero, suc, ◌<◌, ◌≤◌}
use native.Mathlib.Decide.{dec_lt}
use native.Mathlib.Omega.{arith}
use native.Mathlib.Nat.{not-suc-le-zero}
use lib.Dec.{leb, eqb}
use lib.ListN.{length}
use borrow.Author.Tests.{lt-ltb, le-ltb, lt-leb, leb-false}
use Rattle.lists.proofs.Truths.{bool?, not_both, or_cases}
use Rattle.std.proofs.lemmas.Bool.{or_left, or_right}
use Rattle.number.specs.Number.{narrow, EndsEarly, EndsInZero, EndsAbove}
use Rattle.store.specs.declared.Answer.{Answer}
use Rattle.store.specs.Answers.{DONE, PLAN, SMALL, CUT, NUMBER, OP, MANY, answer}
use Rattle.store.specs.Copies.{member}
use Rattle.store.specs.StoreRules.{plan_number_test}
use Rattle.wire.specs.Reading.{Got, got, fault, bind, number_at}
use Rattle.wire.proofs.Chains.{got_or_fault, bind_got, bind_fault, check_holds, check_fails, Faults, faults_got, faults_fault, faults_bind, faults_cond, faults_number}
use Rattle.schedule.specs.declared.Step.{Step}
use Rattle.schedule.specs.Schedule.{most_steps, step_record, Schedule, known_step, has_two, second_at, step_at, steps_at, schedule_at, decode_answer, decode_list}
use Rattle.schedule.specs.Promises.{decode_outcome}
use Rattle.refusals.specs.Given.{Among}
use Rattle.refusals.specs.Schedules.{schedule_faults, GoodSteps, StepsStop, many, one, InStep, its_number, its_first, its_second, UnknownAt, BadSchedulePlan, ScheduleStop, no_number, bad_plan, in_steps, AfterMost, FirstUnknown, InSchedule, its_plan, in_step}
use Rattle.refusals.proofs.OnStores.{not_given}
use Rattle.refusals.proofs.Fresh.{plan_test_lem, plan_test_fails}
use Rattle.refusals.proofs.Reading.{After, first_fault, same_fault, number_faults, number_faults_lem, number_fault_at, number_cut, number_malformed}

module _ (s : List ℕ) where
  steps_fault : (most from number at : ℕ) → (steps_at s most from ≡ fault number at) ↔ StepsStop s most from number at
  unfolding steps_at GoodSteps
  steps_fault zero from number at = (λ e. there (bool? (leb (length s) from)) e, λ h. back h)
    where
      there : (leb (length s) from ≡ true) ⊎ (leb (length s) from ≡ false) → cond {A = Got (List Step)} (leb (length s) from) (got [] from) (fault MANY from) ≡ fault number at
          → StepsStop s zero from number at
      there (inl t) e = absurd (got_or_fault {A = List Step} refl (rw t at e))
      there (inr f) e =
          let w = same_fault {A = List Step} (rw f at e) in
          many w.1 (let l = leb-false (length s) from f in omega (arith, w.1)) (sym w.0)

      back : StepsStop s zero from number at → cond {A = Got (List Step)} (leb (length s) from) (got [] from) (fault MANY from) ≡ fault number at
      back (many q h e) = rw (lt-leb (length s) from (omega arith), e, q)
      back (one h g l e) = absurd (not-suc-le-zero h)
  steps_fault (suc most) from number at =
      (λ e. there (λ a. steps_fault most a number at) (bool? (leb (length s) from)) e, λ h. back (λ a. steps_fault most a number at) h)
    where
      Again : Type 0
      Again = (a : ℕ) → (steps_at s most a ≡ fault number at) ↔ StepsStop s most a number at

      rest : Got (List Step)
      rest = bind (step_at s from) λ x a. bind (steps_at s most a) λ xs b. got (x ∷ xs) b

      after_one : {x : Step} {a : ℕ} → from < length s → step_at s from ≡ got x a → StepsStop s most a number at → StepsStop s (suc most) from number at
      after_one h g (many gs l e) = many (_, _, h, g, gs) l e
      after_one h g (one {n = n} k gs l e) = one {n = suc n} (omega arith) (_, _, h, g, gs) l e

      there : Again → (leb (length s) from ≡ true) ⊎ (leb (length s) from ≡ false) → cond (leb (length s) from) (got [] from) rest ≡ fault number at
          → StepsStop s (suc most) from number at
      there again (inl t) e = absurd (got_or_fault {A = List Step} refl (rw t at e))
      there again (inr f) e = ⊎_elim (λ q. one {n = 0} (omega arith) refl (leb-false (length s) from f) q) in_rest ((first_fault (step_at s from) _).0 (rw f at e))
        where
          in_rest : After (step_at s from) (λ x a. bind (steps_at s most a) λ xs b. got (x ∷ xs) b) number at → StepsStop s (suc most) from number at
          in_rest h =
              ⊎_elim (λ q. after_one (leb-false (length s) from f) h.first ((again h.next).0 q))
              (λ k. absurd (got_or_fault refl k.then))
              ((first_fault (steps_at s most h.next) _).0 h.then)

      back : Again → StepsStop s (suc most) from number at → cond (leb (length s) from) (got [] from) rest ≡ fault number at
      back again (many (x, a, h, g, gs) l e) = rw (lt-leb (length s) from h) (bind_got _ _ g ∙ bind_fault _ _ ((again a).1 (many gs l e)))
      back again (one {n = zero} {start} h q l e) =
          rw (lt-leb (length s) from (omega arith)) (bind_fault _ _ (ap (step_at s) q ∙ e))
      back again (one {n = suc n} {start} h (x, a, k, g, gs) l e) =
          rw (lt-leb (length s) from k) (bind_got _ _ g ∙ bind_fault _ _ ((again a).1 (one {n = n} (omega arith) gs l e)))

  -- ---- the faults of a step and of a schedule

  -- A step's faults: CUT, NUMBER and OP.
  step_faults : (at : ℕ) → Faults (λ n. member n (CUT ∷ NUMBER ∷ OP ∷ []) ≡ true) (step_at s at)
  unfolding step_at second_at member
  step_faults at =
      faults_bind _ _ (faults_number narrow s at refl refl) λ number a.
      faults_cond (known_step number) _ (fault OP at)
      (faults_bind _ _ (faults_number narrow s a refl refl) λ x b.
      faults_bind _ _ (faults_cond (has_two number) (number_at narrow s b) (got 0 b) (faults_number narrow s b refl refl) (faults_got 0 b)) λ y c. faults_got _ c)
      (faults_fault at refl)

  step_op : (start at : ℕ) → (step_at s start ≡ fault OP at) ↔ UnknownAt s start at
  unfolding step_at second_at member
  step_op start at = (λ e. there ((first_fault (number_at narrow s start) _).0 e), λ u. back u)
    where
      rest : ℕ → ℕ → Got Step
      rest number a = bind (number_at narrow s a) λ x b. bind (second_at s number b) λ y c. got (step_record number x y) c

      rest_faults : (number a : ℕ) → Faults (λ n. member n number_faults ≡ true) (rest number a)
      rest_faults number a =
          faults_bind _ _ (number_faults_lem s a) λ x b.
          faults_bind _ _ (faults_cond (has_two number) (number_at narrow s b) (got 0 b) (number_faults_lem s b) (faults_got 0 b)) λ y c. faults_got _ c

      in_rest : (number a : ℕ) → number_at narrow s start ≡ got number a → (known_step number ≡ true) ⊎ (known_step number ≡ false)
          → cond (known_step number) (rest number a) (fault OP start) ≡ fault OP at → UnknownAt s start at
      in_rest number a r (inl t) e = absurd (not_both ((rest_faults number a).each OP at (rw t at e)) refl)
      in_rest number a r (inr f) e =
          record { here = (same_fault {A = Step} (rw f at e)).1; number = number; next = a; read = r; unknown = f }

      there : (number_at narrow s start ≡ fault OP at) ⊎ After (number_at narrow s start) (λ number a. cond (known_step number) (rest number a) (fault OP start)) OP at
          → UnknownAt s start at
      there (inl e) = absurd (not_both ((number_faults_lem s start).each OP at e) refl)
      there (inr h) = in_rest h.value h.next h.first (bool? (known_step h.value)) h.then

      back : UnknownAt s start at → bind (number_at narrow s start) (λ number a. cond (known_step number) (rest number a) (fault OP start)) ≡ fault OP at
      back u =
          bind_got _ _ u.read ∙ check_fails (known_step u.number) OP start _ u.unknown ∙ ap (λ (n : ℕ). fault OP n) u.here

  -- CUT and NUMBER: one of the step's numbers cannot be read.
  step_unread : {start n at : ℕ} → member n number_faults ≡ true → (step_at s start ≡ fault n at) ↔ (InStep s start at × (number_at narrow s at ≡ fault n at))
  unfolding step_at second_at member
  step_unread {start} {n} {at} is = (λ e. in_number ((first_fault (number_at narrow s start) _).0 e), λ h. back h.0 h.1)
    where
      Unread : Type 0
      Unread = InStep s start at × (number_at narrow s at ≡ fault n at)

      second : ℕ → ℕ → ℕ → Got Step
      second number x b = bind (second_at s number b) λ y c. got (step_record number x y) c

      rest : ℕ → ℕ → Got Step
      rest number a = bind (number_at narrow s a) (second number)

      -- A number that cannot be read stops at its own offset.
      here : {by : ℕ} → InStep s start by → number_at narrow s by ≡ fault n at → Unread
      here {by} p e = let h = number_fault_at s by e in (subst (InStep s start) h p, ap (number_at narrow s) (sym h) ∙ e)

      in_second : {number a x b : ℕ} → number_at narrow s start ≡ got number a → known_step number ≡ true → number_at narrow s a ≡ got x b
          → (has_two number ≡ true) ⊎ (has_two number ≡ false)
          → (second_at s number b ≡ fault n at) ⊎ After (second_at s number b) (λ y c. got (step_record number x y) c) n at → Unread
      in_second r t q (inl two) (inl e) = here (its_second r t q two) (rw two at e)
      in_second r t q (inr f) (inl e) = absurd (got_or_fault {A = ℕ} refl (rw f at e))
      in_second r t q w (inr h) = absurd (got_or_fault refl h.then)

      in_first : {number a : ℕ} → number_at narrow s start ≡ got number a → known_step number ≡ true
          → (number_at narrow s a ≡ fault n at) ⊎ After (number_at narrow s a) (second number) n at → Unread
      in_first r t (inl e) = here (its_first r t) e
      in_first {number} r t (inr h) = in_second r t h.first (bool? (has_two number)) ((first_fault (second_at s number h.next) _).0 h.then)

      known : (number a : ℕ) → number_at narrow s start ≡ got number a → (known_step number ≡ true) ⊎ (known_step number ≡ false)
          → cond (known_step number) (rest number a) (fault OP start) ≡ fault n at → Unread
      known number a r (inl t) e = in_first r t ((first_fault (number_at narrow s a) (second number)).0 (rw t at e))
      known number a r (inr f) e = absurd (not_given number_faults n is refl (sym (same_fault {A = Step} (rw f at e)).0))

      in_number : (number_at narrow s start ≡ fault n at) ⊎ After (number_at narrow s start) (λ number a. cond (known_step number) (rest number a) (fault OP start)) n at
          → Unread
      in_number (inl e) = here its_number e
      in_number (inr h) = known h.value h.next h.first (bool? (known_step h.value)) h.then

      back : {by : ℕ} → InStep s start by → number_at narrow s by ≡ fault n at
          → bind (number_at narrow s start) (λ number a. cond (known_step number) (rest number a) (fault OP start)) ≡ fault n at
      back its_number e = bind_fault _ _ e
      back (its_first {number} r t) e = bind_got _ _ r ∙ check_holds (known_step number) OP start _ t ∙ bind_fault _ _ e
      back (its_second {number} r t q two) e =
          bind_got _ _ r ∙ check_holds (known_step number) OP start _ t ∙ bind_got _ _ q ∙ bind_fault _ _ (rw two e)

  pub schedule_stop : (number at : ℕ) → (schedule_at s ≡ fault number at) ↔ ScheduleStop s number at
  unfolding schedule_at
  schedule_stop number at = (λ e. there ((first_fault (number_at narrow s 0) _).0 e), λ h. back h)
    where
      rest : ℕ → ℕ → Got Schedule
      rest plan a = bind (steps_at s most_steps a) λ xs b. got (record { plan = plan; steps = xs }) b

      in_rest : (plan a : ℕ) → number_at narrow s 0 ≡ got plan a → (plan_number_test plan ≡ true) ⊎ (plan_number_test plan ≡ false)
          → cond (plan_number_test plan) (rest plan a) (fault PLAN 0) ≡ fault number at → ScheduleStop s number at
      in_rest plan a r (inl t) e =
          ⊎_elim
          (λ q. in_steps (record { plan = plan; read = r; is_plan = (plan_test_lem plan).0 t }) ((steps_fault most_steps a number at).0 q))
          (λ k. absurd (got_or_fault refl k.then))
          ((first_fault (steps_at s most_steps a) _).0 (rw t at e))
      in_rest plan a r (inr f) e =
          let w = same_fault {A = Schedule} (rw f at e) in
          bad_plan (record { first = sym w.1; plan = plan; next = a; read = r; no_such_plan = (plan_test_fails plan).0 f }) (sym w.0)

      there : (number_at narrow s 0 ≡ fault number at) ⊎ After (number_at narrow s 0) (λ plan a. cond (plan_number_test plan) (rest plan a) (fault PLAN 0)) number at
          → ScheduleStop s number at
      there (inl e) = no_number e
      there (inr h) = in_rest h.value h.next h.first (bool? (plan_number_test h.value)) h.then

      back : ScheduleStop s number at
          → bind (number_at narrow s 0) (λ plan a. cond (plan_number_test plan) (rest plan a) (fault PLAN 0)) ≡ fault number at
      back (no_number e) = bind_fault _ _ e
      back (bad_plan b e) =
          bind_got _ _ b.read ∙ check_fails (plan_number_test b.plan) PLAN 0 _ ((plan_test_fails b.plan).1 b.no_such_plan)
          ∙ sym (λ t. fault (e t) (b.first t))
      back (in_steps {from} p h) =
          bind_got _ _ p.read ∙ check_holds (plan_number_test p.plan) PLAN 0 _ ((plan_test_lem p.plan).1 p.is_plan)
          ∙ bind_fault _ _ ((steps_fault most_steps from number at).1 h)

  -- ---- the faults of a schedule are CUT, NUMBER, PLAN, OP and MANY

  steps_faults : (most at : ℕ) → Faults (λ n. member n schedule_faults ≡ true) (steps_at s most at)
  unfolding steps_at step_at second_at member
  steps_faults zero at = faults_cond (leb (length s) at) (got [] at) (fault MANY at) (faults_got [] at) (faults_fault at refl)
  steps_faults (suc most) at =
      faults_cond (leb (length s) at) (got [] at) _ (faults_got [] at)
      (faults_bind _ _
      (faults_bind _ _ (faults_number narrow s at refl refl) λ number a.
      faults_cond (known_step number) _ (fault OP at)
      (faults_bind _ _ (faults_number narrow s a refl refl) λ x b.
      faults_bind _ _ (faults_cond (has_two number) (number_at narrow s b) (got 0 b) (faults_number narrow s b refl refl) (faults_got 0 b)) λ y c. faults_got _ c)
      (faults_fault at refl)) λ x a.
      faults_bind _ _ (steps_faults most a) λ xs b. faults_got _ b)

  schedule_faults_lem : Faults (λ n. member n schedule_faults ≡ true) (schedule_at s)
  unfolding schedule_at member
  schedule_faults_lem =
      faults_bind _ _ (faults_number narrow s 0 refl refl) λ plan a.
      faults_cond (plan_number_test plan) _ (fault PLAN 0) (faults_bind _ _ (steps_faults most_steps a) λ xs b. faults_got _ b) (faults_fault 0 refl)

-- ---- the call

module _ (s : List ℕ) (before : List Step) where
  -- The ways of decoding.
  data Way : Type 0 where
    small : length before < most_steps → (decode_outcome s before).0 ≡ answer SMALL most_steps 0 0 0 → (decode_outcome s before).1 ≡ before → Way
    stops : {number at : ℕ} → most_steps ≤ length before → schedule_at s ≡ fault number at → (decode_outcome s before).0 ≡ answer number at 0 0 0
        → (decode_outcome s before).1 ≡ before → Way
    done : {d : Schedule} {end : ℕ} → most_steps ≤ length before → schedule_at s ≡ got d end
        → (decode_outcome s before).0 ≡ answer DONE (length d.steps) d.plan 0 0 → Way

  way : Way
  unfolding decode_answer decode_list
  way = go (dec_lt (length before) most_steps) (schedule_at s) refl
    where
      go : Dec (length before < most_steps) → (g : Got Schedule) → schedule_at s ≡ g → Way
      go (yes h) g e = let t = lt-ltb (length before) most_steps h in small h (rw t) (rw t)
      go (no h) (fault number at) e = let t = le-ltb (length before) most_steps (omega arith) in stops (omega arith) e (rw (t, e)) (rw (t, e))
      go (no h) (got d end) e = let t = le-ltb (length before) most_steps (omega arith) in done (omega arith) e (rw (t, e))

  abbrev number : ℕ
  number = (decode_outcome s before).0.number

  numbered : {r : Answer} → (decode_outcome s before).0 ≡ r → number ≡ r.number
  numbered e = ap (λ (r : Answer). r.number) e

  -- "Decoding into a list of fewer than 256 records answers SMALL, a 256, before a byte is read."
  pub decode_small : ((decode_outcome s before).0.number ≡ SMALL) ↔ (length before < most_steps)
  unfolding member
  decode_small = go way
    where
      go : Way → (number ≡ SMALL) ↔ (length before < most_steps)
      go (small h e l) = (λ _. h, λ _. numbered e)
      go (stops {number = n} {at} h f e l) = (
        λ q. absurd (not_given schedule_faults n ((schedule_faults_lem s).each n at f) refl (sym (numbered e) ∙ q)),
        λ g. absurd (omega arith),
      )
      go (done h f e) = (λ q. absurd (omega (arith, numbered e)), λ g. absurd (omega arith))

  pub decode_needs : (decode_outcome s before).0.number ≡ SMALL → (decode_outcome s before).0 ≡ answer SMALL most_steps 0 0 0
  decode_needs q = go way
    where
      go : Way → (decode_outcome s before).0 ≡ answer SMALL most_steps 0 0 0
      go (small h e l) = e
      go (stops h f e l) = absurd (omega (arith, decode_small.0 q))
      go (done h f e) = absurd (omega (arith, decode_small.0 q))

  -- A fault of reading is given exactly when the list is long enough and the schedule stops with it.
  pub decode_fault : (n at : ℕ) → member n schedule_faults ≡ true
      → ((decode_outcome s before).0 ≡ answer n at 0 0 0) ↔ ((most_steps ≤ length before) × ScheduleStop s n at)
  unfolding member
  decode_fault n at is = go way
    where
      go : Way → ((decode_outcome s before).0 ≡ answer n at 0 0 0) ↔ ((most_steps ≤ length before) × ScheduleStop s n at)
      go (small h e l) = (
        λ q. absurd (not_given schedule_faults n is refl (sym (numbered q) ∙ numbered e)),
        λ g. absurd (omega (arith, g.0)),
      )
      go (stops {number = m} {at = by} h f e l) = (
        λ q.
            let r = sym e ∙ q in
            let a = ap (λ (x : Answer). x.number) r in
            let b = ap (λ (x : Answer). x.a) r in
            (h, (schedule_stop s n at).0 (f ∙ λ t. fault (a t) (b t))),
        λ g. let w = same_fault (sym f ∙ (schedule_stop s n at).1 g.1) in e ∙ λ t. answer (w.0 t) (w.1 t) 0 0 0,
      )
      go (done h f e) = (
        λ q. absurd (not_given schedule_faults n is refl (sym (numbered q) ∙ numbered e)),
        λ g. absurd (got_or_fault f ((schedule_stop s n at).1 g.1)),
      )

  -- "plan not 1 to 3"
  pub decode_plan : (at : ℕ) → ((decode_outcome s before).0 ≡ answer PLAN at 0 0 0) ↔ ((most_steps ≤ length before) × BadSchedulePlan s at)
  unfolding member
  decode_plan at =
      let f = decode_fault PLAN at refl in
      (λ e. let w = f.0 e in (w.0, there w.1), λ h. f.1 (h.0, bad_plan h.1 refl))
    where
      there : ScheduleStop s PLAN at → BadSchedulePlan s at
      there (no_number e) = absurd (not_both ((number_faults_lem s 0).each PLAN at e) refl)
      there (bad_plan b e) = b
      there (in_steps p (many gs l e)) = absurd (omega arith)
      there (in_steps p (one {start = start} h gs l e)) = absurd (not_both ((step_faults s start).each PLAN at e) refl)

  -- "unknown step number"
  pub decode_op : (at : ℕ) → ((decode_outcome s before).0 ≡ answer OP at 0 0 0) ↔ ((most_steps ≤ length before) × FirstUnknown s at)
  unfolding member
  decode_op at = let f = decode_fault OP at refl in (λ e. let w = f.0 e in (w.0, there w.1), λ h. f.1 (h.0, back h.1))
    where
      there : ScheduleStop s OP at → FirstUnknown s at
      there (no_number e) = absurd (not_both ((number_faults_lem s 0).each OP at e) refl)
      there (bad_plan b e) = absurd (omega arith)
      there (in_steps p (many gs l e)) = absurd (omega arith)
      there (in_steps {from} p (one {n} {start} h gs l e)) =
          let u = (step_op s start at).0 e in
          record {
            from = from;
            plan = p;
            before = n;
            few = h;
            steps = subst (GoodSteps s n from) u.here gs;
            left = omega (arith, u.here);
            unknown = subst (λ k. UnknownAt s k at) u.here u;
          }

      back : FirstUnknown s at → ScheduleStop s OP at
      back u = in_steps u.plan (one {n = u.before} {start = at} u.few u.steps u.left ((step_op s at at).1 u.unknown))

  -- "bytes after 256 steps"
  pub decode_many : (at : ℕ) → ((decode_outcome s before).0 ≡ answer MANY at 0 0 0) ↔ ((most_steps ≤ length before) × AfterMost s at)
  unfolding member
  decode_many at = let f = decode_fault MANY at refl in (λ e. let w = f.0 e in (w.0, there w.1), λ h. f.1 (h.0, back h.1))
    where
      there : ScheduleStop s MANY at → AfterMost s at
      there (no_number e) = absurd (not_both ((number_faults_lem s 0).each MANY at e) refl)
      there (bad_plan b e) = absurd (omega arith)
      there (in_steps {from} p (many gs l e)) = record { from = from; plan = p; steps = gs; left = l }
      there (in_steps p (one {start = start} h gs l e)) = absurd (not_both ((step_faults s start).each MANY at e) refl)

      back : AfterMost s at → ScheduleStop s MANY at
      back m = in_steps m.plan (many m.steps m.left refl)

  -- CUT and NUMBER: one of the schedule's numbers cannot be read.
  decode_unread : (n at : ℕ) → member n number_faults ≡ true
      → ((decode_outcome s before).0 ≡ answer n at 0 0 0) ↔ ((most_steps ≤ length before) × (InSchedule s at × (number_at narrow s at ≡ fault n at)))
  unfolding member
  decode_unread n at is =
      let f = decode_fault n at (wider (or_cases (eqb n CUT) _ is)) in
      (λ e. let w = f.0 e in (w.0, there w.1), λ h. f.1 (h.0, back h.1.0 h.1.1))
    where
      wider : (eqb n CUT ≡ true) ⊎ (member n (NUMBER ∷ []) ≡ true) → member n schedule_faults ≡ true
      wider (inl t) = or_left (eqb n CUT) _ t
      wider (inr t) = or_right (eqb n CUT) _ (⊎_elim (λ u. or_left (eqb n NUMBER) _ u) (λ u. absurd (not_both u refl)) (or_cases (eqb n NUMBER) _ t))

      there : ScheduleStop s n at → InSchedule s at × (number_at narrow s at ≡ fault n at)
      there (no_number e) = let h = number_fault_at s 0 e in (subst (InSchedule s) h its_plan, ap (number_at narrow s) (sym h) ∙ e)
      there (bad_plan b e) = absurd (not_given number_faults n is refl e)
      there (in_steps p (many gs l e)) = absurd (not_given number_faults n is refl e)
      there (in_steps p (one {n = k} {start} h gs l e)) = let w = (step_unread s is).0 e in (in_step {n = k} {start = start} p h gs l w.0, w.1)

      back : {by : ℕ} → InSchedule s by → number_at narrow s by ≡ fault n at → ScheduleStop s n at
      back its_plan e = no_number e
      back {by} (in_step {n = k} {start} p h gs l w) e =
          let q = number_fault_at s by e in
          in_steps p (one {n = k} {start = start} h gs l ((step_unread s is).1 (subst (InStep s start) q w, ap (number_at narrow s) (sym q) ∙ e)))

  -- "bytes end inside or before a number"
  pub decode_cut : (at : ℕ)
      → ((decode_outcome s before).0 ≡ answer CUT at 0 0 0) ↔ ((most_steps ≤ length before) × (InSchedule s at × EndsEarly narrow.more s at))
  unfolding member
  decode_cut at =
      let f = decode_unread CUT at refl in (
        λ e. let w = f.0 e in (w.0, (w.1.0, (number_cut s at).0 w.1.1)),
        λ h. f.1 (h.0, (h.1.0, (number_cut s at).1 h.1.1)),
      )

  -- "not shortest, or above 32 bits"
  pub decode_number : (at : ℕ)
      → ((decode_outcome s before).0 ≡ answer NUMBER at 0 0 0)
      ↔ ((most_steps ≤ length before) × (InSchedule s at × (EndsInZero narrow.more s at ⊎ EndsAbove narrow.last narrow.more s at)))
  unfolding member
  decode_number at =
      let f = decode_unread NUMBER at refl in (
        λ e. let w = f.0 e in (w.0, (w.1.0, (number_malformed s at).0 w.1.1)),
        λ h. f.1 (h.0, (h.1.0, (number_malformed s at).1 h.1.1)),
      )

  -- The numbers that decoding answers; of a refusal only a is named besides.
  pub decode_answers : Among (DONE ∷ SMALL ∷ schedule_faults) (decode_outcome s before).0
  unfolding member
  decode_answers = go way
    where
      go : Way → Among (DONE ∷ SMALL ∷ schedule_faults) (decode_outcome s before).0
      go (small h e l) = rw e
      go (stops {number = n} {at} h f e l) = rw e (or_right (eqb n DONE) _ (or_right (eqb n SMALL) _ ((schedule_faults_lem s).each n at f)))
      go (done h f e) = rw e

  pub decode_named : 2 ≤ (decode_outcome s before).0.number → (decode_outcome s before).0 ≡ answer (decode_outcome s before).0.number (decode_outcome s before).0.a 0 0 0
  decode_named = go way
    where
      named : {n at : ℕ} → (decode_outcome s before).0 ≡ answer n at 0 0 0 → (decode_outcome s before).0 ≡ answer number (decode_outcome s before).0.a 0 0 0
      named e = e ∙ sym (λ t. answer (e t).number (e t).a 0 0 0)

      go : Way → 2 ≤ number → (decode_outcome s before).0 ≡ answer number (decode_outcome s before).0.a 0 0 0
      go (small h e l) q = named e
      go (stops h f e l) q = named e
      go (done h f e) q = absurd (omega (arith, numbered e))

  -- A refusal leaves every record.
  pub decode_refused : 2 ≤ (decode_outcome s before).0.number → (decode_outcome s before).1 ≡ before
  decode_refused = go way
    where
      go : Way → 2 ≤ number → (decode_outcome s before).1 ≡ before
      go (small h e l) q = l
      go (stops h f e l) q = l
      go (done h f e) q = absurd (omega (arith, numbered e))
