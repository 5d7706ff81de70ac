-- What an accepted call leaves in a buffer or a list of records. Document 01, "Answer numbers": "Buffers keep their bytes beyond those written."
use Rattle.std.specs.Prelude.{◌≡◌, List, ℕ, length, take, drop}
use Rattle.store.specs.declared.Answer.{Answer}
use Rattle.store.specs.Answers.{DONE, answer}

-- So many elements were written from the beginning on: the list is as long as it was, and beyond them it has what it had.
pub record WroteFirst {A : Type 0} (elements before : List A) (many : ℕ) (after : List A) : Type 0 where
  pub counted : many ≡ length elements
  pub first : take many after ≡ elements
  pub beyond : drop many after ≡ drop many before
  pub long : length after ≡ length before

-- DONE with the bytes written as a and zeros beside, and the buffer has them.
pub record GaveBytes (bytes before : List ℕ) (r : Answer) (after : List ℕ) : Type 0 where
  pub answered : r ≡ answer DONE (length bytes) 0 0 0
  pub wrote : WroteFirst bytes before r.a after
