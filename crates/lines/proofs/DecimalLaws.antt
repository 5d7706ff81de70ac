-- Numbers in decimal: the last digit after the others, as the library prints them, and at most 20 digits for 64 bits; and the digits spell the number.
use mathlib.Core.Path.{◌≡◌, refl, sym, ap, ◌∙◌}
use mathlib.Core.Bool.{true, false, cond}
use mathlib.Core.List.{List, [], ◌∷◌, ◌++◌}
use mathlib.Core.Logic.{◌⊎◌, inl, inr}
use Prim.Native.Nat.{ℕ, zero, suc, ◌+◌, ◌*◌, ◌/◌, ◌-◌, ◌%◌, ◌^◌, ◌<◌, ◌≤◌}
use native.Mathlib.Omega.{arith}
use native.Mathlib.Nat.{pow-suc}
use lib.Dec.{ltb}
use lib.ListN.{length, length-append}
use borrow.Author.Tests.{lt-ltb, le-ltb, ltb-true, ltb-false}
use Rattle.std.specs.Fmt.{decimal as printed}
use Rattle.std.proofs.lemmas.Fmt.{decimal_by_steps}
use Rattle.lists.proofs.Truths.{bool?}
use Rattle.lines.specs.Text.{digit, digits_in, decimal, spelt}

digits_one : (k v : ℕ) → v < 10 → digits_in k v ≡ digit v ∷ []
unfolding digits_in
digits_one zero v h = refl
digits_one (suc k) v h = rw (lt-ltb v 10 h)

-- (The library's word of this name states another thing.)
digits_more : (k v : ℕ) → 10 ≤ v → digits_in (suc k) v ≡ digits_in k (v / 10) ++ digit (v % 10) ∷ []
unfolding digits_in
digits_more k v h = rw (le-ltb v 10 h)

-- Room for more digits does not matter.
digits_same : (j k v : ℕ) → v ≤ j → v ≤ k → digits_in j v ≡ digits_in k v
unfolding digits_in
digits_same zero k v p q = sym (digits_one k v (omega arith))
digits_same (suc j) zero v p q = digits_one (suc j) v (omega arith)
digits_same (suc j) (suc k) v p q =
    ap (λ (l : List ℕ). cond (ltb v 10) (digit v ∷ []) (l ++ digit (v % 10) ∷ [])) (digits_same j k (v / 10) (omega arith) (omega arith))

module _ (v : ℕ) where
  pub decimal_one : v < 10 → decimal v ≡ digit v ∷ []
  unfolding decimal
  decimal_one h = digits_one v v h

  pub decimal_more : 10 ≤ v → decimal v ≡ decimal (v / 10) ++ digit (v % 10) ∷ []
  unfolding decimal
  decimal_more h =
      digits_same v (suc v) v (omega arith) (omega arith) ∙ digits_more v v h
      ∙ ap (λ (l : List ℕ). l ++ digit (v % 10) ∷ []) (digits_same v (v / 10) (v / 10) (omega arith) (omega arith))

-- As many digits as the powers of ten say.
digits_few : (k v : ℕ) → v < 10 ^ suc k → length (decimal v) ≤ suc k
digits_few zero v h = rw (decimal_one v h) (omega arith)
digits_few (suc k) v h = go (bool? (ltb v 10)) (digits_few k (v / 10) (let p = pow-suc 10 (suc k) in omega arith))
  where
    go : (ltb v 10 ≡ true) ⊎ (ltb v 10 ≡ false) → length (decimal (v / 10)) ≤ suc k → length (decimal v) ≤ suc (suc k)
    go (inl t) few = rw (decimal_one v (ltb-true v 10 t)) (omega arith)
    go (inr t) few = rw (decimal_more v (ltb-false v 10 t), length-append) (omega arith)

pub decimal_few : (v : ℕ) → v < 2 ^ 64 → length (decimal v) ≤ 20
decimal_few v h = digits_few 19 v (omega arith)

-- What the library prints of a number of 64 bits.
pub decimal_printed : (v : ℕ) → v < 2 ^ 64 → printed v ≡ decimal v
decimal_printed =
    decimal_by_steps (λ (v : ℕ) (l : List ℕ). l ≡ decimal v) (λ v h. sym (decimal_one v h))
    (λ v l h e. ap (λ (m : List ℕ). m ++ digit (v % 10) ∷ []) e ∙ sym (decimal_more v h))

-- ---- the digits spell the number

spelt_last : (n : ℕ) (l : List ℕ) (b : ℕ) → spelt n (l ++ b ∷ []) ≡ 10 * spelt n l + (b - 48)
unfolding spelt
spelt_last n [] b = refl
spelt_last n (x ∷ l) b = spelt_last (10 * n + (x - 48)) l b

spells : (k v : ℕ) → v ≤ k → spelt 0 (decimal v) ≡ v
unfolding spelt
spells zero v h = rw (decimal_one v (omega arith)) (omega arith)
spells (suc k) v h = go (bool? (ltb v 10)) (spells k (v / 10) (omega arith))
  where
    go : (ltb v 10 ≡ true) ⊎ (ltb v 10 ≡ false) → spelt 0 (decimal (v / 10)) ≡ v / 10 → spelt 0 (decimal v) ≡ v
    go (inl t) e = rw (decimal_one v (ltb-true v 10 t)) (omega arith)
    go (inr t) e = rw (decimal_more v (ltb-false v 10 t), spelt_last) (omega arith)

pub decimal_spells : (v : ℕ) → spelt 0 (decimal v) ≡ v
decimal_spells v = spells v v (omega arith)

-- Two numbers with the same digits are one.
pub decimal-apart : (v w : ℕ) → decimal v ≡ decimal w → v ≡ w
decimal-apart v w e = sym (decimal_spells v) ∙ ap (spelt 0) e ∙ decimal_spells w
