-- The test that a part of a column is all zero, by the bits of its places laid together.
use mathlib.Core.Path.{◌≡◌}
use mathlib.Core.Bool.{true, ◌&&◌, and_assoc}
use mathlib.Core.List.{List}
use Prim.Native.Nat.{ℕ, zero, suc, ◌+◌, ◌<◌, ◌≤◌}
use native.Mathlib.Numerals.{add-one}
use native.Mathlib.Omega.{arith}
use lib.Bits.{bit_or, or_zero_l, or_add_and, and_le_r}
use lib.Dec.{eqb}
use lib.ListN.{length, take, get_or, length-take, drop_of_length-le}
use lib.Seq.{slice, slice-cons}
use borrow.Author.Tests.{ne_eqb}
use Rattle.store.specs.StoreRules.{all_zero}

-- Laid together they are zero exactly if both are.
none_left : (x y : ℕ) → bit_or x y ≡ 0 → x ≡ 0
none_left x y h = omega (arith, or_add_and x y, and_le_r x y, h)

-- (The library's word of this name states another thing.)
or_none : (x y : ℕ) → eqb (bit_or x y) 0 ≡ (eqb x 0 && eqb y 0)
or_none zero y = rw (or_zero_l y)
or_none (suc x) y =
    let some : bit_or (suc x) y ≡ 0 → ⊥ = λ h. omega (arith, none_left (suc x) y h) in
    rw (ne_eqb _ _ some, ne_eqb (suc x) 0 (λ h. omega (arith, h)))

module _ (l : List ℕ) (i end : ℕ) where
  pub zero_turn : (seen : ℕ) → i < end → end ≤ length l
      → (eqb (bit_or seen (get_or l i 0)) 0 && all_zero (slice (i + 1) end l)) ≡ (eqb seen 0 && all_zero (slice i end l))
  unfolding all_zero
  zero_turn seen p q =
      rw (slice-cons i end l 0, add-one, or_none seen (get_or l i 0))
      (and_assoc (eqb seen 0) (eqb (get_or l i 0) 0) (all_zero (slice (suc i) end l)))

  pub zero_end : end ≤ i → all_zero (slice i end l) ≡ true
  unfolding all_zero
  zero_end p =
      let z : length (take end l) ≤ i = simp length-take (omega arith) in
      rw (drop_of_length-le (take end l) z)
