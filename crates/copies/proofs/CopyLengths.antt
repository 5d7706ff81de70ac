-- How many bytes a value and a copy take, and that they are few.
use mathlib.Core.Path.{◌≡◌}
use mathlib.Core.List.{◌++◌}
use Prim.Native.Nat.{ℕ, ◌+◌, ◌*◌, ◌≤◌}
use native.Mathlib.Omega.{arith}
use lib.ListN.{length, length-append}
use Rattle.number.specs.Number.{form}
use Rattle.number.proofs.Forms.{form-length}
use Rattle.store.specs.declared.Copy.{Copy}
use Rattle.store.specs.Copies.{RESULT}
use Rattle.store.proofs.KindLaws.{result_valued}
use Rattle.copies.specs.CopyBytes.{value_bytes, copy_bytes}

-- A result has a value.
pub result_written : (v : ℕ) → value_bytes RESULT v ≡ form v
unfolding value_bytes
result_written v = rw result_valued

-- A value takes no more bytes than a number.
pub value_short : (kind v : ℕ) → length (value_bytes kind v) ≤ 5
unfolding value_bytes
value_short kind v = grind (arith, form-length)

-- The numbers of a copy, one after another.
pub copy-length : (x : Copy)
    → length (copy_bytes x) ≡ length (form x.key) + length (form x.kind) + length (value_bytes x.kind x.value) + length (form x.stamp)
unfolding copy_bytes
copy-length x =
    let key = form x.key in
    let kind = form x.kind in
    let value = value_bytes x.kind x.value in
    let stamp = form x.stamp in
    omega (arith, length-append key (kind ++ (value ++ stamp)), length-append kind (value ++ stamp), length-append value stamp)

-- A copy takes no more bytes than four numbers.
abbrev pub longest_copy : ℕ
longest_copy = 4 * 5

pub copy_short : (x : Copy) → length (copy_bytes x) ≤ longest_copy
copy_short x =
    omega (arith, copy-length x, form-length x.key, form-length x.kind, value_short x.kind x.value, form-length x.stamp)
