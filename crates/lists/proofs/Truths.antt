-- Laws of tests: what a test that holds says of its parts.
use mathlib.Core.Path.{◌≡◌, refl, sym}
use mathlib.Core.Bool.{Bool, true, false, ◌&&◌, ◌||◌}
use mathlib.Core.Logic.{◌⊎◌, inl, inr}
use Prim.Native.Nat.{ℕ, ◌≤◌}
use native.Mathlib.Omega.{arith}
use lib.Dec.{leb}
use borrow.Author.Tests.{leb-true, le-leb}

-- A test holds or it does not.
pub bool? : (b : Bool) → (b ≡ true) ⊎ (b ≡ false)
bool? true = inl refl
bool? false = inr refl

-- and never both.
-- (The library's word of this name states another thing.)
pub not_both : {b : Bool} → b ≡ true → b ≡ false → ⊥
not_both t f = let z : ◌≡◌ {A = ℕ} 0 1 = cc in omega arith

-- Two tests of which each holds when the other does are one.
pub same_test : {a b : Bool} → (a ≡ true → b ≡ true) → (b ≡ true → a ≡ true) → a ≡ b
same_test {a = true} {b = true} f g = refl
same_test {a = true} {b = false} f g = sym (f refl)
same_test {a = false} {b = true} f g = g refl
same_test {a = false} {b = false} f g = refl

-- (The library's word of this name states another thing.)
pub and_left : (a b : Bool) → a && b ≡ true → a ≡ true
and_left true b t = refl
and_left false b t = t

-- (The library's word of this name states another thing.)
pub and_right : (a b : Bool) → a && b ≡ true → b ≡ true
and_right true b t = t
and_right false b t = absurd (not_both t refl)

pub and_both : {a b : Bool} → a ≡ true → b ≡ true → a && b ≡ true
and_both s t = rw (s, t)

pub or_cases : (a b : Bool) → a || b ≡ true → (a ≡ true) ⊎ (b ≡ true)
or_cases true b t = inl refl
or_cases false b t = inr t

-- Two tests of numbers hold exactly when both orders do.
pub both_le : (a b c d : ℕ) → leb a b && leb c d ≡ true → (a ≤ b) × (c ≤ d)
both_le a b c d t = (leb-true a b (and_left (leb a b) (leb c d) t), leb-true c d (and_right (leb a b) (leb c d) t))

pub le_both : (a b c d : ℕ) → a ≤ b → c ≤ d → leb a b && leb c d ≡ true
le_both a b c d p q = and_both (le-leb a b p) (le-leb c d q)
