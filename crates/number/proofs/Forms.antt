-- The form of a number: its first byte and the rest, and how many bytes it has.
-- Each law is shown for numbers of any size, and then for the 32-bit numbers of document 01.
use mathlib.Core.Path.{◌≡◌, refl}
use mathlib.Core.Logic.{◌↔◌}
use mathlib.Core.List.{[], ◌∷◌}
use Prim.Native.Nat.{ℕ, zero, suc, ◌+◌, ◌/◌, ◌%◌, ◌^◌, ◌<◌, ◌≤◌}
use native.Mathlib.Omega.{arith}
use native.Mathlib.Nat.{pow-suc, one-le-pow}
use native.Mathlib.Decide.{dec_lt}
use lib.Dec.{lit<, lit≤}
use lib.ListN.{length}
use borrow.Author.Tests.{lt-ltb, le-ltb}
use Rattle.number.specs.Number.{largest_in, largest, narrow, form_in, form}

-- ---- numbers of any size

-- A number below 128 is its own one byte.
pub form_one : (more v : ℕ) → v < 128 → form_in more v ≡ v ∷ []
unfolding form_in
form_one zero v h = refl
form_one (suc more) v h = rw (lt-ltb v 128 h)

-- The form has at least one byte.
pub form_some_in : (more v : ℕ) → 1 ≤ length (form_in more v)
unfolding form_in
form_some_in zero v = lit≤ tt
form_some_in (suc more) v = go (dec_lt v 128)
  where
    go : Dec (v < 128) → 1 ≤ length (form_in (suc more) v)
    go (yes h) = rw (lt-ltb v 128 h) (omega arith)
    go (no h) = rw (le-ltb v 128 (omega arith)) (omega arith)

-- The form has at most one byte more than those with the top bit.
pub form-length_in : (more v : ℕ) → length (form_in more v) ≤ suc more
unfolding form_in
form-length_in zero v = lit≤ tt
form-length_in (suc more) v = go (dec_lt v 128) (form-length_in more (v / 128))
  where
    go : Dec (v < 128) → length (form_in more (v / 128)) ≤ suc more → length (form_in (suc more) v) ≤ suc (suc more)
    go (yes h) k = rw (lt-ltb v 128 h) (omega arith)
    go (no h) k = rw (le-ltb v 128 (omega arith)) (omega arith)

-- For k from 1 to `more`, the form has at most k bytes exactly when the number is below 128 to the k.
pub form-width_in : (more v k : ℕ) → 1 ≤ k → k ≤ more → (length (form_in more v) ≤ k) ↔ (v < 128 ^ k)
unfolding form_in
form-width_in zero v k h g = absurd (omega arith)
form-width_in (suc more) v zero h g = absurd (omega arith)
form-width_in (suc more) v (suc k) h g = go (dec_lt v 128) k g (λ p q. form-width_in more (v / 128) k p q)
  where
    go : Dec (v < 128) → (k : ℕ) → suc k ≤ suc more → (1 ≤ k → k ≤ more → (length (form_in more (v / 128)) ≤ k) ↔ (v / 128 < 128 ^ k))
        → (length (form_in (suc more) v) ≤ suc k) ↔ (v < 128 ^ suc k)
    go (yes h) k g again =
        let p : 1 ≤ 128 ^ k = one-le-pow k 128 (lit< tt) in
        rw (lt-ltb v 128 h, pow-suc) (λ _. omega arith, λ _. omega arith)
    go (no h) zero g again =
        let s = form_some_in more (v / 128) in
        rw (le-ltb v 128 (omega arith)) (λ t. absurd (omega arith), λ t. absurd (omega arith))
    go (no h) (suc k) g again =
        let r = again (omega arith) (omega arith) in
        rw (le-ltb v 128 (omega arith), pow-suc 128 (suc k))
        (λ t. let u = r.0 (omega arith) in omega arith, λ t. let u = r.1 (omega arith) in omega arith)

-- The form of a number of 128 or above: its lowest group with the top bit, then the form of the rest, which is within the smaller kind.
pub record Turn (last more v : ℕ) : Type 0 where
  pub less : ℕ
  pub is : more ≡ suc less
  pub small : v / 128 ≤ largest_in last less
  pub bytes : form_in more v ≡ (128 + v % 128) ∷ form_in less (v / 128)

-- A number of 128 or above that is within its kind has such a form.
pub form_turn : (last : ℕ) → last < 128 → (more v : ℕ) → v ≤ largest_in last more → 128 ≤ v → Turn last more v
unfolding largest_in form_in
form_turn last low zero v h g = absurd (omega arith)
form_turn last low (suc more) v h g = record { less = more; is = refl; small = omega arith; bytes = rw (le-ltb v 128 g) }

-- ---- 32-bit numbers

-- The largest number is 4294967295.
pub largest-narrow : largest narrow ≡ 4294967295
unfolding largest_in
largest-narrow = refl

-- A number of 32 bits is within the size.
pub small_narrow : {v : ℕ} → v ≤ 4294967295 → v ≤ largest narrow
small_narrow h = rw largest-narrow h

-- The form has at least one byte.
pub form_some : (v : ℕ) → 1 ≤ length (form v)
unfolding form
form_some v = form_some_in narrow.more v

-- The form has at most five bytes.
pub form-length : (v : ℕ) → length (form v) ≤ 5
unfolding form
form-length v = form-length_in narrow.more v

-- For k from 1 to 4, the form has at most k bytes exactly when the number is below 128 to the k.
pub form-width : (v k : ℕ) → 1 ≤ k → k ≤ 4 → (length (form v) ≤ k) ↔ (v < 128 ^ k)
unfolding form
form-width v k h g = form-width_in narrow.more v k h g
