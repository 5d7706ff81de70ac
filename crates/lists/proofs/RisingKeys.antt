-- Lists whose keys strictly rise, said by a bound from below, for induction, and by neighbours.
use mathlib.Core.Path.{◌≡◌}
use mathlib.Core.List.{List, [], ◌∷◌}
use Prim.Native.Nat.{ℕ, zero, suc, ◌<◌, ◌≤◌}
use native.Mathlib.Omega.{arith}
use native.Mathlib.Nat.{le_of_suc-le-suc, le_trans, not-suc-le-zero}
use native.Mathlib.Decide.{dec_lt}
use lib.ListN.{length, get_or}

-- The keys strictly rise, from b on.
pub data Rising {A : Type 0} (key : A → ℕ) : ℕ → List A → Type 0 where
  end : {b : ℕ} → Rising key b []
  above : {b : ℕ} {x : A} {xs : List A} → b ≤ key x → Rising key (suc (key x)) xs → Rising key b (x ∷ xs)

module _ {A : Type 0} (key : A → ℕ) where
  -- A smaller bound is one too.
  pub rising_from : {a b : ℕ} {xs : List A} → a ≤ b → Rising key b xs → Rising key a xs
  rising_from h end = end
  rising_from h (above g r) = above (le_trans h g) r

  -- Every key is at least the bound,
  pub rising_least : {b : ℕ} {xs : List A} → Rising key b xs → (d : A) (i : ℕ) → i < length xs → b ≤ key (get_or xs i d)
  rising_least end d i h = absurd (not-suc-le-zero h)
  rising_least (above g r) d zero h = g
  rising_least (above g r) d (suc i) h = omega (arith, rising_least r d i (le_of_suc-le-suc h))

  -- a later key is greater,
  pub rising_later : {b : ℕ} {xs : List A} → Rising key b xs → (d : A) (i j : ℕ) → i < j → j < length xs
      → key (get_or xs i d) < key (get_or xs j d)
  rising_later end d i j h g = absurd (not-suc-le-zero g)
  rising_later (above f r) d i zero h g = absurd (not-suc-le-zero h)
  rising_later (above f r) d zero (suc j) h g = rising_least r d j (le_of_suc-le-suc g)
  rising_later (above f r) d (suc i) (suc j) h g = rising_later r d i j (le_of_suc-le-suc h) (le_of_suc-le-suc g)

  -- and a key stands once.
  pub rising_once : {b : ℕ} {xs : List A} → Rising key b xs → (d : A) (i j : ℕ) → i < length xs → j < length xs
      → key (get_or xs i d) ≡ key (get_or xs j d) → i ≡ j
  rising_once r d i j h g e = go (dec_lt i j) (dec_lt j i)
    where
      go : Dec (i < j) → Dec (j < i) → i ≡ j
      go (yes q) c = absurd (omega (arith, rising_later r d i j q g))
      go (no q) (yes c) = absurd (omega (arith, rising_later r d j i c h))
      go (no q) (no c) = omega arith

  -- Keys that rise from each to the next, the first of them at least b.
  pub neighbours_rising : (b : ℕ) (xs : List A) (d : A) → (0 < length xs → b ≤ key (get_or xs 0 d))
      → ((i : ℕ) → suc i < length xs → key (get_or xs i d) < key (get_or xs (suc i) d)) → Rising key b xs
  neighbours_rising b [] d h f = end
  neighbours_rising b (x ∷ xs) d h f =
      above (h (omega arith)) (neighbours_rising (suc (key x)) xs d (λ g. f 0 (omega arith)) (λ i g. f (suc i) (omega arith)))

  pub rising_neighbours : {b : ℕ} {xs : List A} → Rising key b xs → (d : A) (i : ℕ) → suc i < length xs
      → key (get_or xs i d) < key (get_or xs (suc i) d)
  rising_neighbours r d i h = rising_later r d i (suc i) (omega arith) h
