-- What a refusal leaves, and the conditions of the calls on a store, in document 01's words.
use Rattle.std.specs.Prelude.{◌≡◌, true, false, List, [], ◌∷◌, ◌++◌, ◌⊎◌, ℕ, ◌<◌, ◌≤◌, length, get_or}
use Rattle.std.proofs.Math.Option.{none}
use Rattle.plan.specs.Plan.{capacity_of}
use Rattle.plan_table.specs.PlanTable.{plans}
use Rattle.store.specs.declared.Answer.{Answer}
use Rattle.store.specs.declared.Outcome.{Outcome}
use Rattle.store.specs.declared.Store.{Store}
use Rattle.store.specs.Answers.{DONE, GOING, CLOCK, FULL, NODE, EDGE, SLOTS, SLOT, IDLE, bare}
use Rattle.store.specs.Copies.{key_of, find, member}
use Rattle.store.specs.State.{State, last_clock, node_at}
use Rattle.store.specs.Layout.{plan_of, state_of}
use Rattle.store.specs.StoreRules.{good_store}
use Rattle.store.specs.Calls.{Effect}
use Rattle.page_lines.specs.PageLine.{last_sample}
use Rattle.page.specs.Promises.{page_now}
use Rattle.schedule.specs.declared.Step.{Step}
use Rattle.schedule.specs.Schedule.{known_step}
use Rattle.schedule.specs.Running.{no_step}

-- An answer from among these numbers.
abbrev pub Among : List ℕ → Answer → Type 0
Among numbers r = member r.number numbers ≡ true

-- What an entry answers in a good store.
abbrev pub entry_answers : List ℕ
entry_answers = DONE ∷ CLOCK ∷ FULL ∷ []

-- What a carry answers in a good store.
abbrev pub carry_answers : List ℕ
carry_answers = DONE ∷ NODE ∷ EDGE ∷ []

-- What a start answers in a good store.
abbrev pub start_answers : List ℕ
start_answers = DONE ∷ SLOTS ∷ []

-- What a step answers in a good store.
abbrev pub step_answers : List ℕ
step_answers = DONE ∷ GOING ∷ SLOT ∷ IDLE ∷ []

-- What a cancel answers in a good store.
abbrev pub cancel_answers : List ℕ
cancel_answers = DONE ∷ SLOT ∷ IDLE ∷ []

-- A refused step: nothing but the number is named, and the state is as it was.
abbrev pub StepRefuses : State → Effect → Type 0
StepRefuses s e = 2 ≤ e.answer.number → e ≡ record { answer = bare e.answer.number; after = s }

-- A refused call: nothing but the number is named, and the store is as it was.
abbrev pub Refuses : Store → Outcome → Type 0
Refuses z o = 2 ≤ o.answer.number → o ≡ record { answer = bare o.answer.number; store = z }

-- "plan 1 to 3": a plan of the table.
abbrev pub IsPlan : ℕ → Type 0
IsPlan plan = (1 ≤ plan) × (plan ≤ plans)

-- FULL: "root full and lacks the key".
pub record RootFull (z : Store) (key : ℕ) : Type 0 where
  pub clock_left : z.clock < last_clock
  pub lacks_key : find key_of (node_at (state_of z) 0) key ≡ none
  pub no_place : length (node_at (state_of z) 0) ≡ capacity_of (plan_of z) 0

-- The record at a place: of zeros outside the list.
abbrev pub record_at : List Step → ℕ → Step
record_at list place = get_or list place no_step

-- OP, of the runner: "unknown step number, or a place outside the list".
abbrev pub Unknown : List Step → ℕ → Type 0
Unknown list place = (length list ≤ place) ⊎ ((place < length list) × (known_step (record_at list place).number ≡ false))

-- "If the kept bytes begin with the sample's page as it is now", of a good store and a sample that is not too large.
pub record StillTrue (z : Store) (sample : ℕ) (kept : List ℕ) : Type 0 where
  pub good : good_store z ≡ true
  pub small : sample ≤ last_sample
  pub rest : List ℕ
  pub begin : kept ≡ page_now z sample ++ rest
