-- The keys of a list that pass a test, in the list's order.
use mathlib.Core.Path.{◌≡◌, refl, ap, subst}
use mathlib.Core.Bool.{Bool, true, false, cond}
use mathlib.Core.List.Memᴰ
use mathlib.Core.List.{List, [], ◌∷◌, Memᴰ}
use Prim.Native.Nat.{ℕ, suc, ◌+◌, ◌<◌, ◌≤◌}
use native.Mathlib.Omega.{arith}
use lib.ListN.{length}
use Rattle.lists.proofs.RisingKeys.{Rising, rising_from}
use Rattle.lists.proofs.RisingKeys.Rising.{end, above}
use Rattle.steps.specs.Carries.{bit}
use Rattle.steps.proofs.Merges.{count}

-- Numbers that rise.
abbrev pub Rises : ℕ → List ℕ → Type 0
Rises b ks = Rising (λ (k : ℕ). k) b ks

module _ {A : Type 0} (key : A → ℕ) (f : ℕ → Bool) where
  pub passing : List A → List ℕ
  passing [] = []
  passing (x ∷ xs) = cond (f (key x)) (key x ∷ passing xs) (passing xs)

  -- They rise as the list's do,
  pub passing_rises : {b : ℕ} {xs : List A} → Rising key b xs → Rises b (passing xs)
  unfolding passing
  passing_rises end = end
  passing_rises {b} (above {x = x} {xs = xs} h r) = go (f (key x)) (passing_rises r)
    where
      go : (t : Bool) → Rises (suc (key x)) (passing xs) → Rises b (cond t (key x ∷ passing xs) (passing xs))
      go true again = above h again
      go false again = rising_from (λ (k : ℕ). k) (omega arith) again

  -- pass the test,
  pub passing_only : (xs : List A) (k : ℕ) → Memᴰ k (passing xs) → f k ≡ true
  unfolding passing
  passing_only [] k m = absurd (Memᴰ.not-nil m)
  passing_only (x ∷ xs) k m = go (f (key x)) refl m (passing_only xs k)
    where
      go : (t : Bool) → f (key x) ≡ t → Memᴰ k (cond t (key x ∷ passing xs) (passing xs)) → (Memᴰ k (passing xs) → f k ≡ true)
          → f k ≡ true
      go true e (Memᴰ.head q) again = rw q e
      go true e (Memᴰ.tail n) again = again n
      go false e n again = again n

  -- are all of the list's that do,
  pub passing_all : (y : A) (xs : List A) → Memᴰ y xs → f (key y) ≡ true → Memᴰ (key y) (passing xs)
  unfolding passing
  passing_all y [] m t = absurd (Memᴰ.not-nil m)
  passing_all y (x ∷ xs) (Memᴰ.head q) t = rw (subst (λ (z : A). f (key z) ≡ true) q t) (Memᴰ.head (ap key q))
  passing_all y (x ∷ xs) (Memᴰ.tail m) t = go (f (key x)) (passing_all y xs m t)
    where
      go : (b : Bool) → Memᴰ (key y) (passing xs) → Memᴰ (key y) (cond b (key x ∷ passing xs) (passing xs))
      go true n = Memᴰ.tail n
      go false n = n

  -- and as many as a count by another test that agrees with it on the list.
  pub passing_count : (g : A → Bool) (xs : List A) → ((x : A) → Memᴰ x xs → f (key x) ≡ g x) → count g xs ≡ length (passing xs)
  unfolding passing count
  passing_count g [] h = refl
  passing_count g (x ∷ xs) h =
      rw (← (h x (Memᴰ.head refl))) (go (f (key x)) (passing_count g xs (λ y m. h y (Memᴰ.tail m))))
    where
      go : (b : Bool) → count g xs ≡ length (passing xs) → bit b + count g xs ≡ length (cond b (key x ∷ passing xs) (passing xs))
      go true e = omega arith
      go false e = omega arith

rises_least : {b : ℕ} {ks : List ℕ} → Rises b ks → (k : ℕ) → Memᴰ k ks → b ≤ k
rises_least end k m = absurd (Memᴰ.not-nil m)
rises_least (above h r) k (Memᴰ.head e) = omega arith
rises_least (above h r) k (Memᴰ.tail m) = omega (arith, rises_least r k m)

-- Behind the first of a rising list a member is greater.
behind : (j k : ℕ) (ks : List ℕ) → j < k → Memᴰ k (j ∷ ks) → Memᴰ k ks
behind j k ks h (Memᴰ.head e) = absurd (omega arith)
behind j k ks h (Memᴰ.tail m) = m

-- Two rising lists with the same members have the same length.
pub same_length : {a b : ℕ} {js ks : List ℕ} → Rises a js → Rises b ks → ((k : ℕ) → Memᴰ k js → Memᴰ k ks)
    → ((k : ℕ) → Memᴰ k ks → Memᴰ k js) → length js ≡ length ks
same_length end end f g = refl
same_length end (above {x = y} h r) f g = absurd (Memᴰ.not-nil (g y (Memᴰ.head refl)))
same_length (above {x = x} h r) end f g = absurd (Memᴰ.not-nil (f x (Memᴰ.head refl)))
same_length (above {x = x} {xs = js} h r) (above {x = y} {xs = ks} i q) f g =
    let low : y ≤ x = rises_least (above {b = y} (omega arith) q) x (f x (Memᴰ.head refl)) in
    let high : x ≤ y = rises_least (above {b = x} (omega arith) r) y (g y (Memᴰ.head refl)) in
    ap suc
    (same_length r q (λ k m. behind y k ks (omega (arith, rises_least r k m)) (f k (Memᴰ.tail m)))
    (λ k m. behind x k js (omega (arith, rises_least q k m)) (g k (Memᴰ.tail m))))
