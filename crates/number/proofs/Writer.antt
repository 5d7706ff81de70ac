-- Why the writing functions give what they promise: what each loop keeps true, at its start, at each turn and at its end.
use mathlib.Core.Path.{◌≡◌, refl, ap, ◌∙◌}
use mathlib.Core.List.{List}
use Prim.Native.Nat.{ℕ, suc, ◌+◌, ◌/◌, ◌%◌, ◌<◌, ◌≤◌}
use native.Mathlib.Omega.{arith}
use lib.ListN.{length, set, length-set}
use Rattle.lists.specs.Stands.{Wrote}
use Rattle.lists.proofs.Standing.{wrote_nil, wrote_cons}
use Rattle.number.specs.Number.{narrow, largest_in, form_in, form}
use Rattle.number.proofs.Forms.{form_one, form_turn, form_some_in, small_narrow}

-- ---- length_of

-- The bytes counted so far and those of the rest are one more than all, and with the bytes that may still come they are five.
pub record Counting (value rest count : ℕ) : Type 0 where
  pub left : ℕ
  pub room : count + left ≡ suc narrow.more
  pub small : rest ≤ largest_in narrow.last left
  pub total : count + length (form_in left rest) ≡ suc (length (form value))

-- Before the loop one byte is counted.
pub count_starts : (value : ℕ) → value ≤ 4294967295 → Counting value value 1
unfolding form
count_starts value h = record { left = narrow.more; room = refl; small = small_narrow h; total = omega arith }

-- A turn counts one byte with the top bit.
pub count_turns : {value rest count : ℕ} → 128 ≤ rest → Counting value rest count → Counting value (rest / 128) (count + 1)
count_turns {value} {rest} g k =
    let t = form_turn narrow.last narrow.low k.left rest k.small g in
    record {
      left = t.less;
      room = let r = k.room in let i = t.is in omega arith;
      small = t.small;
      total = let s = k.total in let b = ap length t.bytes in omega arith;
    }

-- When the rest is one byte, all are counted.
pub count_ends : {value rest count : ℕ} → rest < 128 → Counting value rest count → count ≡ length (form value)
count_ends {value} {rest} g k = let s = k.total in let b = ap length (form_one k.left rest g) in omega arith

-- ---- write_at

-- The form of the rest fits at i, and once it is written there, the form of the whole number was written at its offset.
pub record Writing (before : List ℕ) (at value : ℕ) (buffer : List ℕ) (rest i : ℕ) : Type 0 where
  pub left : ℕ
  pub small : rest ≤ largest_in narrow.last left
  pub kept : length buffer ≡ length before
  pub fits : i + length (form_in left rest) ≤ length buffer
  pub joins : (next : ℕ) (after : List ℕ) → Wrote buffer i (form_in left rest) next after → Wrote before at (form value) next after

-- Before the loop the whole form is to be written.
pub write_starts : (before : List ℕ) (at value : ℕ) → value ≤ 4294967295 → at + length (form value) ≤ length before → Writing before at value before value at
unfolding form
write_starts before at value h g = record { left = narrow.more; small = small_narrow h; kept = refl; fits = g; joins = λ next after w. w }

-- The rest has a byte, and there is a place for it.
pub write_room : {before : List ℕ} {at value : ℕ} {buffer : List ℕ} {rest i : ℕ} → Writing before at value buffer rest i → i < length buffer
write_room {rest = rest} k = let f = k.fits in omega (arith, form_some_in k.left rest)

-- A turn writes one byte with the top bit.
pub write_turns : {before : List ℕ} {at value : ℕ} {buffer : List ℕ} {rest i : ℕ} → 128 ≤ rest → Writing before at value buffer rest i
    → Writing before at value (set buffer i (128 + rest % 128)) (rest / 128) (i + 1)
write_turns {before} {at} {value} {buffer} {rest} {i} g k =
    let t = form_turn narrow.last narrow.low k.left rest k.small g in
    let b = ap length t.bytes in
    let f = k.fits in
    let n = length-set buffer i (128 + rest % 128) in
    record {
      left = t.less;
      small = t.small;
      kept = n ∙ k.kept;
      fits = omega arith;
      joins = λ next after w. k.joins next after (rw t.bytes (wrote_cons w));
    }

-- The last byte ends the form.
pub write_ends : {before : List ℕ} {at value : ℕ} {buffer : List ℕ} {rest i : ℕ} → rest < 128 → Writing before at value buffer rest i
    → Wrote before at (form value) (i + 1) (set buffer i rest)
write_ends {buffer = buffer} {rest} {i} g k = k.joins (i + 1) (set buffer i rest) (rw (form_one k.left rest g) (wrote_cons (wrote_nil (set buffer i rest) (i + 1))))
