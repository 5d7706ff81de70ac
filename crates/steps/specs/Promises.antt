-- The outcomes of the seven calls on steps, and their promises: each fixes the answer and the store after it, for every store and number.
use Rattle.std.specs.Prelude.{◌≡◌, ℕ}
use Rattle.store.specs.declared.Answer.{Answer}
use Rattle.store.specs.declared.Outcome.{Outcome}
use Rattle.store.specs.declared.Store.{Store}
use Rattle.store.specs.Copies.{Kind, kind_number, value_held}
use Rattle.store.specs.Copies.Kind.{withdrawn, result}
use Rattle.store.specs.Calls.{on_store, of_store}
use Rattle.steps.specs.Entries.{entry}
use Rattle.steps.specs.Carries.{carry_step}
use Rattle.steps.specs.Searches.{start_step, step_step, cancel_step, look_answer}

-- An entry by its kind's number, with the value that its copy holds.
abbrev pub entry_numbered : ℕ → Store → ℕ → ℕ → Outcome
entry_numbered kind store key value = on_store (entry kind key value) store

-- "An entry either way": of a withdrawal the value is not read.
abbrev pub entry_outcome : Kind → Store → ℕ → ℕ → Outcome
entry_outcome kind store key value = entry_numbered (kind_number kind) store key (value_held kind value)

-- An entry of a result.
abbrev pub enter_outcome : Store → ℕ → ℕ → Outcome
enter_outcome = entry_outcome result

-- A withdrawal.
abbrev pub withdraw_outcome : Store → ℕ → Outcome
withdraw_outcome store key = entry_outcome withdrawn store key 0

-- A carry along an edge of a node.
abbrev pub carry_outcome : Store → ℕ → ℕ → Outcome
carry_outcome store node edge = on_store (carry_step node edge) store

-- The start of a search.
abbrev pub start_outcome : Store → ℕ → Outcome
start_outcome store key = on_store (start_step key) store

-- One step of a slot's search.
abbrev pub step_outcome : Store → ℕ → Outcome
step_outcome store slot = on_store (step_step slot) store

-- The end of a slot's search before it has found anything.
abbrev pub cancel_outcome : Store → ℕ → Outcome
cancel_outcome store slot = on_store (cancel_step slot) store

-- A look: an answer alone, for the store is not altered.
abbrev pub look_outcome : Store → ℕ → Answer
look_outcome store key = of_store (look_answer key) store

-- The promise of each call: what it gives is its outcome.
abbrev pub Enters : Store → ℕ → ℕ → Outcome → Type 0
Enters store key value r = r ≡ enter_outcome store key value

abbrev pub Withdraws : Store → ℕ → Outcome → Type 0
Withdraws store key r = r ≡ withdraw_outcome store key

abbrev pub Carries : Store → ℕ → ℕ → Outcome → Type 0
Carries store node edge r = r ≡ carry_outcome store node edge

abbrev pub Starts : Store → ℕ → Outcome → Type 0
Starts store key r = r ≡ start_outcome store key

abbrev pub Steps : Store → ℕ → Outcome → Type 0
Steps store slot r = r ≡ step_outcome store slot

abbrev pub Cancels : Store → ℕ → Outcome → Type 0
Cancels store slot r = r ≡ cancel_outcome store slot

abbrev pub Looks : Store → ℕ → Answer → Type 0
Looks store key r = r ≡ look_outcome store key
