-- A list with one element put in at a place: what stands in it.
use mathlib.Core.Path.{◌≡◌, refl, ap}
use mathlib.Core.List.{List, [], ◌∷◌, ◌++◌}
use Prim.Native.Nat.{ℕ, zero, suc, ◌<◌, ◌≤◌}
use native.Mathlib.Nat.{le_of_suc-le-suc, not-suc-le-zero}
use lib.ListN.{length, get_or, take, drop}

module _ {A : Type 0} (x : A) where
  pub length-put_in : (xs : List A) (at : ℕ) → at ≤ length xs → length (take at xs ++ x ∷ drop at xs) ≡ suc (length xs)
  length-put_in xs zero h = refl
  length-put_in [] (suc at) h = absurd (not-suc-le-zero h)
  length-put_in (y ∷ xs) (suc at) h = ap suc (length-put_in xs at (le_of_suc-le-suc h))

  module _ (d : A) where
    -- What stands before the place stays,
    pub put_in_before : (xs : List A) (at i : ℕ) → at ≤ length xs → i < at → get_or (take at xs ++ x ∷ drop at xs) i d ≡ get_or xs i d
    put_in_before xs zero i h g = absurd (not-suc-le-zero g)
    put_in_before [] (suc at) i h g = absurd (not-suc-le-zero h)
    put_in_before (y ∷ xs) (suc at) zero h g = refl
    put_in_before (y ∷ xs) (suc at) (suc i) h g = put_in_before xs at i (le_of_suc-le-suc h) (le_of_suc-le-suc g)

    -- at it stands the new element,
    pub put_in_here : (xs : List A) (at : ℕ) → at ≤ length xs → get_or (take at xs ++ x ∷ drop at xs) at d ≡ x
    put_in_here xs zero h = refl
    put_in_here [] (suc at) h = absurd (not-suc-le-zero h)
    put_in_here (y ∷ xs) (suc at) h = put_in_here xs at (le_of_suc-le-suc h)

    -- and after it what stood one place below.
    pub put_in_after : (xs : List A) (at i : ℕ) → at ≤ length xs → at ≤ i → get_or (take at xs ++ x ∷ drop at xs) (suc i) d ≡ get_or xs i d
    put_in_after xs zero i h g = refl
    put_in_after [] (suc at) i h g = absurd (not-suc-le-zero h)
    put_in_after (y ∷ xs) (suc at) zero h g = absurd (not-suc-le-zero g)
    put_in_after (y ∷ xs) (suc at) (suc i) h g = put_in_after xs at i (le_of_suc-le-suc h) (le_of_suc-le-suc g)
