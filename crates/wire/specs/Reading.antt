-- Reading numbers from the left, one after another: the first fault wins. Document 01, "Bytes".
use Rattle.std.specs.Prelude.{Bool, cond, List, ℕ, Result, Ok, Err}
use Rattle.number.specs.Number.{Reading, Value, Cut, Malformed, NumberSize, read_at}
use Rattle.store.specs.Answers.{CUT, NUMBER}
use Rattle.number.specs.declared.Read.{Read}
use Rattle.store.specs.Refusals.{refusal_number}
use Rattle.wire.specs.declared.Fault.{Fault}

-- What was read and the offset after it, or a fault: an answer number and an offset.
pub data Got (A : Type 0) : Type 0 where
  got : A → ℕ → Got A
  fault : ℕ → ℕ → Got A

-- One reading after another: "the first fault wins".
unfoldable pub bind : {A B : Type 0} → Got A → (A → ℕ → Got B) → Got B
bind (got x next) f = f x next
bind (fault number at) f = fault number at

-- A number, or CUT or NUMBER with its offset.
unfoldable pub numbered : ℕ → Reading → Got ℕ
numbered at (Value v next) = got v next
numbered at Cut = fault CUT at
numbered at Malformed = fault NUMBER at

-- The number of a size at an offset.
unfoldable pub number_at : NumberSize → List ℕ → ℕ → Got ℕ
number_at n s at = numbered at (read_at n s at)

-- A check on what was just read, or the fault.
abbrev pub checked : {A : Type 0} → Bool → ℕ → ℕ → Got A → Got A
checked test number at rest = cond test rest (fault number at)

-- What a program's result tells: each reading that a program gives is told by one result.
abbrev pub got_of : {A : Type 0} → Result (Read A) Fault → Got A
got_of (Ok r) = got r.value r.next
got_of (Err f) = fault (refusal_number f.why) f.at
