-- Schedules and their decoding. Document 01, "Bytes": "Schedule: plan, then steps: 1 key value (enter), 2 key (withdraw),
-- 3 node edge (carry), 4 key (start), 5 slot (step), 6 slot (cancel)."
use Rattle.std.specs.Prelude.{Bool, cond, ◌&&◌, ◌||◌, List, [], ◌∷◌, ◌++◌, ℕ, zero, suc, leb, ltb, eqb, length, drop}
use Rattle.number.specs.Number.{narrow}
use Rattle.store.specs.declared.Answer.{Answer}
use Rattle.store.specs.Answers.{DONE, PLAN, SMALL, OP, MANY, answer}
use Rattle.store.specs.StoreRules.{plan_number_test}
use Rattle.wire.specs.Reading.{Got, got, fault, bind, number_at}
use Rattle.schedule.specs.declared.Step.{Step}

-- "1 key value (enter)"
abbrev pub ENTER : ℕ
ENTER = 1

-- "2 key (withdraw)"
abbrev pub WITHDRAW : ℕ
WITHDRAW = 2

-- "3 node edge (carry)"
abbrev pub CARRY : ℕ
CARRY = 3

-- "4 key (start)"
abbrev pub START : ℕ
START = 4

-- "5 slot (step)"
abbrev pub STEP : ℕ
STEP = 5

-- "6 slot (cancel)"
abbrev pub CANCEL : ℕ
CANCEL = 6

-- "MANY: bytes after 256 steps"
abbrev pub most_steps : ℕ
most_steps = 256

-- "step number and two more, 0 where unused"
abbrev pub step_record : ℕ → ℕ → ℕ → Step
step_record number x y = record { number = number; x = x; y = y }

-- A step number from the list above.
unfoldable pub known_step : ℕ → Bool
known_step number = leb ENTER number && leb number CANCEL

-- Steps that have two numbers; the others have one.
unfoldable pub has_two : ℕ → Bool
has_two number = eqb number ENTER || eqb number CARRY

-- The second number, where there is one.
unfoldable pub second_at : List ℕ → ℕ → ℕ → Got ℕ
second_at s number at = cond (has_two number) (number_at narrow s at) (got 0 at)

-- A step: its number (OP if unknown), then its own numbers.
unfoldable pub step_at : List ℕ → ℕ → Got Step
step_at s at =
    bind (number_at narrow s at) λ number a.
    cond (known_step number)
    (bind (number_at narrow s a) λ x b.
    bind (second_at s number b) λ y c.
    got (step_record number x y) c)
    (fault OP at)

-- "At a step's start the bytes may end, and MANY is tested first": at most so many steps more.
unfoldable pub steps_at : List ℕ → ℕ → ℕ → Got (List Step)
steps_at s zero at = cond (leb (length s) at) (got [] at) (fault MANY at)
steps_at s (suc most) at =
    cond (leb (length s) at) (got [] at)
    (bind (step_at s at) λ x a.
    bind (steps_at s most a) λ xs b.
    got (x ∷ xs) b)

-- A schedule: its plan and its steps.
pub record Schedule : Type 0 where
  pub plan : ℕ
  pub steps : List Step

-- "Schedule: plan, then steps".
unfoldable pub schedule_at : List ℕ → Got Schedule
schedule_at s =
    bind (number_at narrow s 0) λ plan a.
    cond (plan_number_test plan)
    (bind (steps_at s most_steps a) λ xs b. got (record { plan = plan; steps = xs }) b)
    (fault PLAN 0)

-- DONE with the steps and the plan, or the fault with its offset.
abbrev pub schedule_answer : Got Schedule → Answer
schedule_answer (got d end) = answer DONE (length d.steps) d.plan 0 0
schedule_answer (fault number at) = answer number at 0 0 0

-- The records of an accepted schedule, none of a refused one.
abbrev pub records_of : Got Schedule → List Step
records_of (got d end) = d.steps
records_of (fault number at) = []

-- "Decoding into a list of fewer than 256 records answers SMALL, a 256, before a byte is read."
unfoldable pub decode_answer : List ℕ → List Step → Answer
decode_answer s before = cond (ltb (length before) most_steps) (answer SMALL most_steps 0 0 0) (schedule_answer (schedule_at s))

-- The list after it: a refusal leaves every record; an accepted schedule writes exactly its own.
unfoldable pub decode_list : List ℕ → List Step → List Step
decode_list s before =
    let xs = records_of (schedule_at s) in
    cond (ltb (length before) most_steps) before (xs ++ drop (length xs) before)
