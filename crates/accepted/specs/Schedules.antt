-- The bytes of a schedule, written from its plan and steps. Document 01, "Bytes".
use Rattle.std.specs.Prelude.{◌≡◌, ℕ, ◌≤◌, length, get_or}
use mathlib.Core.List.{List, [], ◌∷◌, ◌++◌, map, Memᴰ}
use Rattle.number.specs.Number.{form}
use Rattle.plan.specs.Sizes.{last_key}
use Rattle.store.specs.declared.Answer.{Answer}
use Rattle.store.specs.Answers.{DONE, answer}
use Rattle.schedule.specs.declared.Step.{Step}
use Rattle.schedule.specs.Schedule.{ENTER, WITHDRAW, CARRY, START, STEP, CANCEL, most_steps, step_record}
use Rattle.refusals.specs.Given.{IsPlan}
use Rattle.accepted.specs.Writing.{WroteFirst}

-- A step by its name, with its numbers.
pub data NamedStep : Type 0 where
  enter : (key value : ℕ) → NamedStep
  withdraw : (key : ℕ) → NamedStep
  carry : (node edge : ℕ) → NamedStep
  start : (key : ℕ) → NamedStep
  step : (slot : ℕ) → NamedStep
  cancel : (slot : ℕ) → NamedStep

-- "1 key value (enter), 2 key (withdraw), 3 node edge (carry), 4 key (start), 5 slot (step), 6 slot (cancel)."
abbrev pub step_numbers : NamedStep → List ℕ
step_numbers (enter key value) = 1 ∷ key ∷ value ∷ []
step_numbers (withdraw key) = 2 ∷ key ∷ []
step_numbers (carry node edge) = 3 ∷ node ∷ edge ∷ []
step_numbers (start key) = 4 ∷ key ∷ []
step_numbers (step slot) = 5 ∷ slot ∷ []
step_numbers (cancel slot) = 6 ∷ slot ∷ []

-- Its record: "step number and two more, 0 where unused".
abbrev pub named_record : NamedStep → Step
named_record (enter key value) = step_record ENTER key value
named_record (withdraw key) = step_record WITHDRAW key 0
named_record (carry node edge) = step_record CARRY node edge
named_record (start key) = step_record START key 0
named_record (step slot) = step_record STEP slot 0
named_record (cancel slot) = step_record CANCEL slot 0

-- The records of some steps.
abbrev pub named_records : List NamedStep → List Step
named_records = map named_record

-- Numbers one after another.
unfoldable pub numbers_bytes : List ℕ → List ℕ
numbers_bytes [] = []
numbers_bytes (n ∷ ns) = form n ++ numbers_bytes ns

-- Steps one after another.
unfoldable pub steps_bytes : List NamedStep → List ℕ
steps_bytes [] = []
steps_bytes (x ∷ xs) = numbers_bytes (step_numbers x) ++ steps_bytes xs

-- "Schedule: plan, then steps".
unfoldable pub schedule_bytes : ℕ → List NamedStep → List ℕ
schedule_bytes plan steps = form plan ++ steps_bytes steps

-- Each number of a step has 32 bits.
abbrev pub Fits : NamedStep → Type 0
Fits x = (i : ℕ) → get_or (step_numbers x) i 0 ≤ last_key

-- A schedule that has bytes: a plan of the table, and at most 256 steps of 32-bit numbers.
pub record IsSchedule (plan : ℕ) (steps : List NamedStep) : Type 0 where
  pub is_plan : IsPlan plan
  pub few : length steps ≤ most_steps
  pub fit : (x : NamedStep) → Memᴰ x steps → Fits x

-- Decoded as these: DONE with a the number of steps and b the plan, and their records are the list's first.
pub record DecodedAs (plan : ℕ) (steps : List NamedStep) (before : List Step) (r : Answer) (after : List Step) : Type 0 where
  pub answered : r ≡ answer DONE (length steps) plan 0 0
  pub wrote : WroteFirst (named_records steps) before r.a after

-- The bytes are those of a schedule, and are decoded as its plan and steps.
pub record AcceptedAs (bytes : List ℕ) (before : List Step) (r : Answer) (after : List Step) : Type 0 where
  pub plan : ℕ
  pub steps : List NamedStep
  pub is_schedule : IsSchedule plan steps
  pub written : bytes ≡ schedule_bytes plan steps
  pub decoded : DecodedAs plan steps before r after
