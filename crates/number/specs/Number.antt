-- Numbers as bytes, of any size. Document 01, "Bytes".
use Rattle.std.specs.Prelude.{◌≡◌, Bool, true, false, cond, List, [], ◌∷◌, ℕ, zero, suc, ◌+◌, ◌-◌, ◌*◌, ◌/◌, ◌%◌, ◌<◌, ◌≤◌, leb, ltb, eqb, length, get_or, Result, Ok, Err}
use Rattle.std.proofs.Common.{lit<}
use Rattle.number.specs.declared.Read.{Read}
use Rattle.number.specs.declared.NumberError.{NumberError}
use Rattle.number.specs.declared.NumberError.TheVariants.{Cut as cut_error, Malformed as malformed_error}

-- Every element of the list is a byte.
abbrev pub Bytes : List ℕ → Type 0
Bytes s = (i : ℕ) → get_or s i 0 < 256

-- ---- "A number is written in groups of seven bits, lowest first, one per byte, the top bit set while more follow."

-- A list of groups: the last byte lacks the top bit, and every other byte has it.
pub data Groups : List ℕ → Type 0 where
  last_group : {b : ℕ} → b < 128 → Groups (b ∷ [])
  more_groups : {b : ℕ} {l : List ℕ} → 128 ≤ b → b < 256 → Groups l → Groups (b ∷ l)

-- The number that a list of groups spells: the low seven bits of each byte, lowest group first.
unfoldable pub value_of : List ℕ → ℕ
value_of [] = 0
value_of (b ∷ l) = b % 128 + 128 * value_of l

-- ---- how large a number may be

-- The size of a number: at most `more` bytes with the top bit set, and a last byte, which after `more` others is at most `last`.
pub record NumberSize : Type 0 where
  pub last : ℕ
  pub more : ℕ
  pub low : last < 128

-- The largest number that has at most `more` bytes with the top bit set and after them a last byte of at most `last`.
unfoldable pub largest_in : ℕ → ℕ → ℕ
largest_in last zero = last
largest_in last (suc more) = 127 + 128 * largest_in last more

-- The largest number of a size.
abbrev pub largest : NumberSize → ℕ
largest n = largest_in n.last n.more

-- "4294967295 takes five bytes": the size of a 32-bit number, with a fifth byte of at most 0F.
abbrev pub narrow : NumberSize
narrow = record { last = 15; more = 4; low = lit< tt }

-- ---- "Only the shortest form is read: 180 is B4 01; B4 81 00 is refused."

-- The shortest form of a number, with at most `more` bytes that have the top bit set.
unfoldable pub form_in : ℕ → ℕ → List ℕ
form_in zero v = v ∷ []
form_in (suc more) v = cond (ltb v 128) (v ∷ []) ((128 + v % 128) ∷ form_in more (v / 128))

-- The form of a 32-bit number.
unfoldable pub form : ℕ → List ℕ
form v = form_in narrow.more v

-- ---- "At most five bytes are read: a fifth above 0F, or a last byte 00 after others, is NUMBER; CUT is given only if the
-- bytes end after none to four, all with the top bit set."
-- A reading is `Value v next`, the number and the offset after it; `Cut`, answer 13, CUT; or `Malformed`, answer 14, NUMBER.
pub data Reading : Type 0 where
  Value : ℕ → ℕ → Reading
  Cut : Reading
  Malformed : Reading

-- The reading that a program's result tells: each reading is told by one result.
abbrev pub reading_of : Result (Read ℕ) NumberError → Reading
reading_of (Ok r) = Value r.value r.next
reading_of (Err cut_error) = Cut
reading_of (Err malformed_error) = Malformed

-- What a last byte gives: 00 after others is NUMBER.
unfoldable pub read_last : Bool → ℕ → ℕ → Reading
read_last first b next = cond (eqb b 0) (cond first (Value b next) Malformed) (Value b next)

-- What a byte with the top bit gives: its group below the number that the bytes after it give.
unfoldable pub put_below : ℕ → Reading → Reading
put_below low (Value v next) = Value (low + 128 * v) next
put_below low Cut = Cut
put_below low Malformed = Malformed

-- What reading at an offset gives, where at most `more` bytes with the top bit may still come; `first` says that none came before.
unfoldable pub read_in : List ℕ → ℕ → ℕ → Bool → ℕ → Reading
read_in s last zero first at =
    cond (leb (length s) at) Cut (cond (ltb last (get_or s at 0)) Malformed (read_last first (get_or s at 0) (at + 1)))
read_in s last (suc more) first at =
    cond (leb (length s) at) Cut
    (cond (ltb (get_or s at 0) 128) (read_last first (get_or s at 0) (at + 1)) (put_below (get_or s at 0 - 128) (read_in s last more false (at + 1))))

-- What reading a number of a size at an offset gives.
unfoldable pub read_at : NumberSize → List ℕ → ℕ → Reading
read_at n s at = read_in s n.last n.more true at

-- Every byte from one offset up to another has the top bit set.
abbrev pub Tops : List ℕ → ℕ → ℕ → Type 0
Tops s from to = (i : ℕ) → from ≤ i → i < to → 128 ≤ get_or s i 0

-- CUT: the bytes end after none to `more`, all with the top bit set.
pub record EndsEarly (more : ℕ) (s : List ℕ) (at : ℕ) : Type 0 where
  pub few : length s ≤ at + more
  pub tops : Tops s at (length s)

-- NUMBER, not shortest: a last byte 00 after others, of which there are at most `more`.
pub record EndsInZero (more : ℕ) (s : List ℕ) (at : ℕ) : Type 0 where
  pub place : ℕ
  pub others : at < place
  pub within : place ≤ at + more
  pub inside : place < length s
  pub tops : Tops s at place
  pub byte : get_or s place 0 ≡ 0

-- NUMBER, above the largest: a byte above `last` after `more` others.
pub record EndsAbove (last more : ℕ) (s : List ℕ) (at : ℕ) : Type 0 where
  pub tops : Tops s at (at + more)
  pub byte : last < get_or s (at + more) 0
