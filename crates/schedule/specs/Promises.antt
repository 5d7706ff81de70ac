-- The promises of decode and run: each fixes the answer, the store and every record.
use Rattle.std.specs.Prelude.{◌≡◌, List, ℕ}
use Rattle.store.specs.declared.Answer.{Answer}
use Rattle.store.specs.declared.Outcome.{Outcome}
use Rattle.store.specs.declared.Store.{Store}
use Rattle.schedule.specs.declared.Step.{Step}
use Rattle.schedule.specs.Schedule.{decode_answer, decode_list}
use Rattle.schedule.specs.Running.{run_outcome}

-- The outcome of decoding into a list of records: the answer, and the list at exit.
abbrev pub decode_outcome : List ℕ → List Step → Answer × List Step
decode_outcome bytes before = (decode_answer bytes before, decode_list bytes before)

-- Of a list of records at entry: the answer, and the list at exit.
abbrev pub Decodes : List ℕ → List Step → Answer → List Step → Type 0
Decodes bytes before r after = (r ≡ (decode_outcome bytes before).0) × (after ≡ (decode_outcome bytes before).1)

-- The outcome of the record at a place of a list.
abbrev pub Runs : Store → List Step → ℕ → Outcome → Type 0
Runs store steps place r = r ≡ run_outcome store steps place
