-- The promises of the calls that write the store behind a pointer: each fixes the answer and the store at exit. Of the others the promises
-- are those of the calls themselves: Checks, Looks, Saves, Pages and ServesLength.
use Rattle.std.specs.Prelude.{◌≡◌, List, ℕ}
use Rattle.store.specs.declared.Answer.{Answer}
use Rattle.store.specs.declared.Outcome.{Outcome}
use Rattle.store.specs.declared.Store.{Store}
use Rattle.store.specs.Promises.{fresh_outcome}
use Rattle.image_loading.specs.Loading.{load_outcome}
use Rattle.schedule.specs.Schedule.{step_record}
use Rattle.schedule.specs.Running.{record_outcome}

-- The number of the layout in which a store and an answer lie for C: one more with each change of a field.
abbrev pub layout_number : ℕ
layout_number = 1

-- An outcome in two parts: its answer is returned, its store stands behind the pointer.
abbrev pub Gives : Outcome → Answer → Store → Type 0
Gives o r after = (r ≡ o.answer) × (after ≡ o.store)

-- DONE and a fresh store of the plan, or PLAN and a fresh store of plan 1, whatever stood there.
abbrev pub FreshensBehind : ℕ → Answer → Store → Type 0
FreshensBehind plan = Gives (fresh_outcome plan)

-- The step of a record of these numbers, as if at place 0.
abbrev pub StepsBehind : Store → ℕ → ℕ → ℕ → Answer → Store → Type 0
StepsBehind before number x y = Gives (record_outcome before (step_record number x y) 0)

-- The store of the image, or the first fault and a fresh store of plan 1, whatever stood there.
abbrev pub LoadsBehind : List ℕ → Answer → Store → Type 0
LoadsBehind bytes = Gives (load_outcome bytes)
