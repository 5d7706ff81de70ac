-- Bytes into a lent buffer. Document 01, "Answer numbers": SMALL; "Buffers keep their bytes beyond those written."
use Rattle.std.specs.Prelude.{cond, List, ◌++◌, ℕ, ◌+◌, ◌≤◌, ltb, length, drop}
use Rattle.std.specs.Borrow.{MutBor}
use Rattle.lists.specs.Stands.{Wrote}
use Rattle.lists.specs.Lending.{LentMutList}
use Rattle.store.specs.declared.Answer.{Answer}
use Rattle.store.specs.Answers.{DONE, SMALL, answer}

-- SMALL with the bytes needed, or DONE with the bytes written.
unfoldable pub written_answer : List ℕ → List ℕ → Answer
written_answer bytes before =
    cond (ltb (length before) (length bytes)) (answer SMALL (length bytes) 0 0 0) (answer DONE (length bytes) 0 0 0)

-- The buffer after it: as it was if it is too short, else the bytes and what lay beyond them.
unfoldable pub written_buffer : List ℕ → List ℕ → List ℕ
written_buffer bytes before = cond (ltb (length before) (length bytes)) before (bytes ++ drop (length bytes) before)

-- A lent buffer has room for the bytes at an offset.
abbrev pub HasRoom : MutBor (List ℕ) → ℕ → List ℕ → Type 0
HasRoom buffer at bytes = at + length bytes ≤ length buffer.now

-- A function that is lent the buffer puts the bytes there, and goes on at `next`.
abbrev pub Puts : LentMutList → ℕ → List ℕ → ℕ → Type 0
Puts buffer at bytes next = Wrote buffer.entry.now at bytes next buffer.exit.now
