-- Members of a list: by their places, and of a list of lists put together.
use mathlib.Core.Path.{◌≡◌, refl, sym}
use mathlib.Core.Logic.{◌⊎◌, inl, inr}
use mathlib.Core.List.Memᴰ
use mathlib.Core.List.{List, [], ◌∷◌, flatten, Memᴰ}
use Prim.Native.Nat.{ℕ, zero, suc, ◌<◌}
use native.Mathlib.Omega.{arith}
use native.Mathlib.Nat.{le_of_suc-le-suc, not-suc-le-zero}
use lib.ListN.{length, get_or}

module _ {A : Type 0} where
  -- A member stands at a place,
  pub member_place : {x : A} {xs : List A} → Memᴰ x xs → (d : A) → (i : ℕ) × (i < length xs) × (get_or xs i d ≡ x)
  member_place (Memᴰ.head e) d = (0, omega arith, sym e)
  member_place (Memᴰ.tail m) d = let w = member_place m d in (suc w.0, omega (arith, w.1), w.2)

  -- and what stands at a place is a member.
  pub place_member : (xs : List A) (d : A) (i : ℕ) → i < length xs → Memᴰ (get_or xs i d) xs
  place_member [] d i h = absurd (not-suc-le-zero h)
  place_member (x ∷ xs) d zero h = Memᴰ.head refl
  place_member (x ∷ xs) d (suc i) h = Memᴰ.tail (place_member xs d i (le_of_suc-le-suc h))

  -- The members of lists put together are the members of each.
  pub member_flatten : (xss : List (List A)) (n : ℕ) {x : A} → Memᴰ x (get_or xss n []) → Memᴰ x (flatten xss)
  unfolding flatten
  member_flatten [] n m = absurd (Memᴰ.not-nil m)
  member_flatten (xs ∷ xss) zero m = Memᴰ.append_left (flatten xss) m
  member_flatten (xs ∷ xss) (suc n) m = Memᴰ.append_right xs (member_flatten xss n m)

  pub flatten_member : (xss : List (List A)) {x : A} → Memᴰ x (flatten xss) → (n : ℕ) × Memᴰ x (get_or xss n [])
  unfolding flatten
  flatten_member [] m = absurd (Memᴰ.not-nil m)
  flatten_member (xs ∷ xss) {x} m = go (Memᴰ.append_cases xs m) (flatten_member xss)
    where
      go : Memᴰ x xs ⊎ Memᴰ x (flatten xss) → (Memᴰ x (flatten xss) → (n : ℕ) × Memᴰ x (get_or xss n []))
          → (n : ℕ) × Memᴰ x (get_or (xs ∷ xss) n [])
      go (inl f) again = (0, f)
      go (inr f) again = let w = again f in (suc w.0, w.1)
