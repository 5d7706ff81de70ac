-- A lent buffer after bytes were written into it from its beginning on, or were not because it is too short.
use mathlib.Core.Path.{◌≡◌, sym, ap, ◌∙◌}
use mathlib.Core.List.{List, ◌++◌}
use Prim.Native.Nat.{ℕ, ◌<◌, ◌≤◌}
use native.Mathlib.Omega.{arith}
use native.Mathlib.Nat.{zero-add}
use lib.ListN.{length, take, drop}
use lib.Seq.{sets-eq, take-append_seam}
use borrow.Author.Tests.{lt-ltb, le-ltb}
use Rattle.lists.specs.Stands.{Wrote}
use Rattle.store.specs.Answers.{DONE, SMALL, answer}
use Rattle.wire.specs.Writing.{written_answer, written_buffer}

module _ (bytes before : List ℕ) where
  -- The buffer is too short.
  module _ (short : length before < length bytes) where
    pub small_answer : written_answer bytes before ≡ answer SMALL (length bytes) 0 0 0
    unfolding written_answer
    small_answer = rw (lt-ltb (length before) (length bytes) short)

    pub small_buffer : written_buffer bytes before ≡ before
    unfolding written_buffer
    small_buffer = rw (lt-ltb (length before) (length bytes) short)

  -- The buffer is long enough.
  module _ (fits : length bytes ≤ length before) where
    pub done-answer : written_answer bytes before ≡ answer DONE (length bytes) 0 0 0
    unfolding written_answer
    done-answer = rw (le-ltb (length before) (length bytes) fits)

    pub done_buffer : written_buffer bytes before ≡ bytes ++ drop (length bytes) before
    unfolding written_buffer
    done_buffer = rw (le-ltb (length before) (length bytes) fits)

    -- Its beginning is the bytes.
    pub done_front : take (length bytes) (written_buffer bytes before) ≡ bytes
    done_front = ap (take (length bytes)) done_buffer ∙ take-append_seam bytes (drop (length bytes) before)

    -- What a writer from the beginning on leaves.
    pub done_wrote : {next : ℕ} {after : List ℕ} → Wrote before 0 bytes next after → after ≡ written_buffer bytes before
    done_wrote w = w.holds ∙ sets-eq bytes before 0 (omega arith) ∙ rw zero-add (sym done_buffer)

-- The offset after bytes that were written from the beginning on is their length.
pub wrote_end : {bytes before after : List ℕ} {next : ℕ} → Wrote before 0 bytes next after → next ≡ length bytes
wrote_end w = w.to ∙ zero-add _
