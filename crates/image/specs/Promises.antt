-- The promises of save and load: each fixes the answer, the store and every byte of the buffer.
use Rattle.std.specs.Prelude.{◌≡◌, cond, List, ℕ}
use Rattle.store.specs.declared.Answer.{Answer}
use Rattle.store.specs.declared.Outcome.{Outcome}
use Rattle.store.specs.declared.Store.{Store}
use Rattle.store.specs.Answers.{BADSTORE, bare}
use Rattle.store.specs.StoreRules.{good_store}
use Rattle.wire.specs.Writing.{written_answer, written_buffer}
use Rattle.image_writing.specs.Image.{image}
use Rattle.image_loading.specs.Loading.{load_outcome}

-- BADSTORE, SMALL with the bytes needed, or DONE with the bytes written.
unfoldable pub save_answer : Store → List ℕ → Answer
save_answer z before = cond (good_store z) (written_answer (image z) before) (bare BADSTORE)

-- A refusal leaves every byte; the bytes beyond the image are kept.
unfoldable pub save_buffer : Store → List ℕ → List ℕ
save_buffer z before = cond (good_store z) (written_buffer (image z) before) before

-- The outcome of a save into a buffer: the answer, and the buffer at exit.
abbrev pub save_outcome : Store → List ℕ → Answer × List ℕ
save_outcome store before = (save_answer store before, save_buffer store before)

-- Of a buffer at entry: the answer, and the buffer at exit.
abbrev pub Saves : Store → List ℕ → Answer → List ℕ → Type 0
Saves store before r after = (r ≡ (save_outcome store before).0) × (after ≡ (save_outcome store before).1)

-- The outcome of a load: it is given no store.
abbrev pub Loads : List ℕ → Outcome → Type 0
Loads bytes r = r ≡ load_outcome bytes
