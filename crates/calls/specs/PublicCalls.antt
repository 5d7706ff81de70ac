-- Sequences of public calls, refused ones too, with all their arguments and all that they return, by the outcomes that the promises cite: every
-- public call but the program's own `transcribe`, which has no part in a store.
use Rattle.std.specs.Prelude.{◌≡◌, Bool, cond, List, [], ◌∷◌, ℕ, eqb}
use Rattle.std.proofs.Math.Option.{Option, none, some}
use Rattle.std.specs.Borrow.{Bor}
use Rattle.store.specs.declared.Answer.{Answer}
use Rattle.store.specs.declared.Outcome.{Outcome}
use Rattle.store.specs.declared.Store.{Store}
use Rattle.store.specs.Answers.{DONE}
use Rattle.store.specs.Copies.{Kind}
use Rattle.store.specs.Promises.{fresh_outcome, check_outcome}
use Rattle.steps.specs.Promises.{entry_outcome, carry_outcome, start_outcome, step_outcome, cancel_outcome, look_outcome}
use Rattle.image_loading.specs.Loading.{load_outcome}
use Rattle.image.specs.Promises.{save_outcome}
use Rattle.page.specs.Promises.{Handed, page_outcome, served, served_length}
use Rattle.schedule.specs.declared.Step.{Step}
use Rattle.schedule.specs.Running.{run_outcome}
use Rattle.schedule.specs.Promises.{decode_outcome}

-- The public calls that leave the store alone, with their arguments; of a lent buffer or list what it holds at entry.
pub data ReadOnly : Type 0 where
  check : ReadOnly
  look : (key : ℕ) → ReadOnly
  save : (buffer : List ℕ) → ReadOnly
  page : (sample : ℕ) (buffer : List ℕ) → ReadOnly
  serve : (sample : ℕ) (kept notice : Bor (List ℕ)) → ReadOnly
  serve_length : (sample : ℕ) (kept : List ℕ) → ReadOnly
  decode : (bytes : List ℕ) (list : List Step) → ReadOnly

-- The public calls, with their arguments. Enter and withdraw are an entry with its kind; of a withdrawal the value is not read.
pub data Call : Type 0 where
  fresh : ℕ → Call
  load : List ℕ → Call
  enter : Kind → ℕ → ℕ → Call
  carry : ℕ → ℕ → Call
  start : ℕ → Call
  step : ℕ → Call
  cancel : ℕ → Call
  reads : ReadOnly → Call
  run : List Step → ℕ → Call

-- An accepted answer is DONE.
abbrev pub accepted : Answer → Bool
accepted r = eqb r.number DONE

-- "An accepted fresh or load ends all running searches of the store it replaces"; "the store before it goes on" after a refused one.
abbrev pub replaced : Outcome → Store → Store
replaced o z = cond (accepted o.answer) o.store z

-- The store after a call.
unfoldable pub store_after : Call → Store → Store
store_after (fresh plan) z = replaced (fresh_outcome plan) z
store_after (load bytes) z = replaced (load_outcome bytes) z
store_after (enter kind k v) z = (entry_outcome kind z k v).store
store_after (carry n i) z = (carry_outcome z n i).store
store_after (start k) z = (start_outcome z k).store
store_after (step i) z = (step_outcome z i).store
store_after (cancel i) z = (cancel_outcome z i).store
store_after (reads r) z = z
store_after (run list place) z = (run_outcome z list place).store

-- What a call returns: an outcome, its answer and its store; an answer alone, or with the buffer or the list at exit; whose bytes are handed
-- back, and which; or how many.
pub data Returned : Type 0 where
  gave : Outcome → Returned
  answered : Answer → Returned
  wrote : Answer × List ℕ → Returned
  listed : Answer × List Step → Returned
  handed_back : Handed → Returned
  counted : ℕ → Returned

-- What a call returns that leaves the store alone.
abbrev pub read_returned : ReadOnly → Store → Returned
read_returned check z = answered (check_outcome z)
read_returned (look key) z = answered (look_outcome z key)
read_returned (save buffer) z = wrote (save_outcome z buffer)
read_returned (page sample buffer) z = wrote (page_outcome z sample buffer)
read_returned (serve sample kept notice) z = handed_back (served z sample kept notice)
read_returned (serve_length sample kept) z = counted (served_length z sample kept)
read_returned (decode bytes list) z = listed (decode_outcome bytes list)

-- What a call returns.
unfoldable pub returned : Call → Store → Returned
returned (fresh plan) z = gave (fresh_outcome plan)
returned (load bytes) z = gave (load_outcome bytes)
returned (enter kind k v) z = gave (entry_outcome kind z k v)
returned (carry n i) z = gave (carry_outcome z n i)
returned (start k) z = gave (start_outcome z k)
returned (step i) z = gave (step_outcome z i)
returned (cancel i) z = gave (cancel_outcome z i)
returned (reads r) z = read_returned r z
returned (run list place) z = gave (run_outcome z list place)

-- The answer in what a call returns; a serve has none.
abbrev pub answer_in : Returned → Option Answer
answer_in (gave o) = some o.answer
answer_in (answered a) = some a
answer_in (wrote w) = some w.0
answer_in (listed w) = some w.0
answer_in (handed_back h) = none
answer_in (counted n) = none

-- The answer of a call.
unfoldable pub answer_to : Call → Store → Option Answer
answer_to c z = answer_in (returned c z)

-- A call answers DONE.
abbrev pub Done : Call → Store → Type 0
Done c z = (a : Answer) × (answer_to c z ≡ some a) × (a.number ≡ DONE)

-- The store after a sequence.
unfoldable pub store_after_all : List Call → Store → Store
store_after_all [] z = z
store_after_all (c ∷ cs) z = store_after_all cs (store_after c z)

-- What the calls of a sequence return, one after another.
unfoldable pub all_returned : List Call → Store → List Returned
all_returned [] z = []
all_returned (c ∷ cs) z = returned c z ∷ all_returned cs (store_after c z)
