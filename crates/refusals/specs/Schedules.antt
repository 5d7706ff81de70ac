-- Where decoding a schedule stops, from the left. Document 01, "Bytes": "the first fault wins: for each number CUT, NUMBER, then PLAN or OP.
-- At a step's start the bytes may end, and MANY is tested first."
use Rattle.std.specs.Prelude.{◌≡◌, true, false, List, [], ◌∷◌, ℕ, zero, suc, ◌<◌, length}
use Rattle.number.specs.Number.{narrow}
use Rattle.store.specs.Answers.{PLAN, CUT, NUMBER, OP, MANY}
use Rattle.wire.specs.Reading.{got, fault, number_at}
use Rattle.schedule.specs.declared.Step.{Step}
use Rattle.schedule.specs.Schedule.{most_steps, known_step, has_two, step_at}
use Rattle.refusals.specs.Given.{IsPlan}

-- The faults of decoding.
abbrev pub schedule_faults : List ℕ
schedule_faults = CUT ∷ NUMBER ∷ PLAN ∷ OP ∷ MANY ∷ []

-- So many good steps stand from one offset up to another.
unfoldable pub GoodSteps : List ℕ → ℕ → ℕ → ℕ → Type 0
GoodSteps s zero from end = from ≡ end
GoodSteps s (suc n) from end = (x : Step) × (next : ℕ) × (from < length s) × (step_at s from ≡ got x next) × GoodSteps s n next end

-- The steps from an offset on stop: so many are good, and bytes are left at the next one's start; or one of so many stops.
pub data StepsStop (s : List ℕ) (most from number at : ℕ) : Type 0 where
  many : GoodSteps s most from at → at < length s → number ≡ MANY → StepsStop s most from number at
  one : {n start : ℕ} → n < most → GoodSteps s n from start → start < length s → step_at s start ≡ fault number at → StepsStop s most from number at

-- The numbers of a step that begins at an offset, those before it read.
pub data InStep (s : List ℕ) (start : ℕ) : ℕ → Type 0 where
  its_number : InStep s start start
  its_first : {number at : ℕ} → number_at narrow s start ≡ got number at → known_step number ≡ true → InStep s start at
  its_second : {number a x at : ℕ} → number_at narrow s start ≡ got number a → known_step number ≡ true → number_at narrow s a ≡ got x at
      → has_two number ≡ true → InStep s start at

-- OP: the number at a step's start is read, and is no step's.
pub record UnknownAt (s : List ℕ) (start at : ℕ) : Type 0 where
  pub here : start ≡ at
  pub number : ℕ
  pub next : ℕ
  pub read : number_at narrow s start ≡ got number next
  pub unknown : known_step number ≡ false

-- The plan's number is read, and is 1 to 3.
pub record PlanRead (s : List ℕ) (from : ℕ) : Type 0 where
  pub plan : ℕ
  pub read : number_at narrow s 0 ≡ got plan from
  pub is_plan : IsPlan plan

-- PLAN: the plan's number is read, and is not 1 to 3.
pub record BadSchedulePlan (s : List ℕ) (at : ℕ) : Type 0 where
  pub first : at ≡ 0
  pub plan : ℕ
  pub next : ℕ
  pub read : number_at narrow s 0 ≡ got plan next
  pub no_such_plan : IsPlan plan → ⊥

-- A schedule stops: its plan's number is not read, or is no plan's, or its steps stop.
pub data ScheduleStop (s : List ℕ) (number at : ℕ) : Type 0 where
  no_number : number_at narrow s 0 ≡ fault number at → ScheduleStop s number at
  bad_plan : BadSchedulePlan s at → number ≡ PLAN → ScheduleStop s number at
  in_steps : {from : ℕ} → PlanRead s from → StepsStop s most_steps from number at → ScheduleStop s number at

-- MANY: "bytes after 256 steps".
pub record AfterMost (s : List ℕ) (at : ℕ) : Type 0 where
  pub from : ℕ
  pub plan : PlanRead s from
  pub steps : GoodSteps s most_steps from at
  pub left : at < length s

-- OP: the first step that is not good has a number that is read, and is no step's.
pub record FirstUnknown (s : List ℕ) (at : ℕ) : Type 0 where
  pub from : ℕ
  pub plan : PlanRead s from
  pub before : ℕ
  pub few : before < most_steps
  pub steps : GoodSteps s before from at
  pub left : at < length s
  pub unknown : UnknownAt s at at

-- The numbers of a schedule, all those before it read and their checks passed: the plan's, and those of each step but those after 256.
pub data InSchedule (s : List ℕ) : ℕ → Type 0 where
  its_plan : InSchedule s 0
  in_step : {from n start at : ℕ} → PlanRead s from → n < most_steps → GoodSteps s n from start → start < length s → InStep s start at → InSchedule s at
