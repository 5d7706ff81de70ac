-- The ways that reading can go at an offset, and which of them it goes.
use mathlib.Core.Path.{◌≡◌, refl}
use mathlib.Core.Bool.{Bool, true, false}
use mathlib.Core.List.{List}
use Prim.Native.Nat.{ℕ, zero, suc, ◌+◌, ◌-◌, ◌<◌, ◌≤◌}
use native.Mathlib.Omega.{arith}
use native.Mathlib.Decide.{dec_le, dec_lt}
use lib.ListN.{length, get_or}
use borrow.Author.Tests.{lt-ltb, le-ltb, le-leb, lt-leb, ne_eqb}
use Rattle.number.specs.Number.{Reading, Value, Cut, Malformed, read_last, put_below, read_in}

-- ---- the three readings are different

module _ {r : Reading} where
  -- A reading that gives a number is not CUT.
  pub value_or_cut : {v next : ℕ} → r ≡ Value v next → r ≡ Cut → ⊥
  value_or_cut p q = let z : ◌≡◌ {A = ℕ} 0 1 = cc in omega arith

  -- A reading that gives a number is not NUMBER.
  pub value_or_malformed : {v next : ℕ} → r ≡ Value v next → r ≡ Malformed → ⊥
  value_or_malformed p q = let z : ◌≡◌ {A = ℕ} 0 1 = cc in omega arith

  -- A reading that is CUT is not NUMBER.
  pub cut_or_malformed : r ≡ Cut → r ≡ Malformed → ⊥
  cut_or_malformed p q = let z : ◌≡◌ {A = ℕ} 0 1 = cc in omega arith

-- ---- a last byte

-- A last byte that is not 00, or stands alone, gives its number.
pub last_value_lem : (first : Bool) (b next : ℕ) → (first ≡ false → 1 ≤ b) → read_last first b next ≡ Value b next
unfolding read_last
last_value_lem true zero next h = refl
last_value_lem false zero next h = absurd (omega (arith, h refl))
last_value_lem first (suc b) next h = rw (ne_eqb (suc b) 0 (omega arith))

-- A last byte 00 after others gives NUMBER.
pub last_zero : (next : ℕ) → read_last false 0 next ≡ Malformed
unfolding read_last
last_zero next = refl

-- A last byte gives its number or NUMBER.
pub data LastWay (first : Bool) (b next : ℕ) : Type 0 where
  gives : (first ≡ false → 1 ≤ b) → read_last first b next ≡ Value b next → LastWay first b next
  refuses : first ≡ false → b ≡ 0 → read_last first b next ≡ Malformed → LastWay first b next

-- True is not false.
pub never : true ≡ false → ⊥
never e = let z : ◌≡◌ {A = ℕ} 0 1 = cc in omega arith

-- A last byte goes one of these ways.
pub last_way : (first : Bool) (b next : ℕ) → LastWay first b next
last_way true b next = gives (λ e. absurd (never e)) (last_value_lem true b next (λ e. absurd (never e)))
last_way false zero next = refuses refl refl (last_zero next)
last_way false (suc b) next = gives (λ _. omega arith) (last_value_lem false (suc b) next (λ _. omega arith))

-- ---- a byte at an offset

module _ (s : List ℕ) (last : ℕ) (first : Bool) (at : ℕ) where
  -- No byte is left: CUT.
  pub read_cut : (more : ℕ) → length s ≤ at → read_in s last more first at ≡ Cut
  unfolding read_in
  read_cut zero h = rw (le-leb (length s) at h)
  read_cut (suc more) h = rw (le-leb (length s) at h)

  -- No byte with the top bit may come, and this one is too large for a last byte: NUMBER.
  pub read_above : at < length s → last < get_or s at 0 → read_in s last 0 first at ≡ Malformed
  unfolding read_in
  read_above h g = rw (lt-leb (length s) at h, lt-ltb last (get_or s at 0) g)

  -- No byte with the top bit may come, and this one can be the last.
  pub read_full : at < length s → get_or s at 0 ≤ last → read_in s last 0 first at ≡ read_last first (get_or s at 0) (at + 1)
  unfolding read_in
  read_full h g = rw (lt-leb (length s) at h, le-ltb last (get_or s at 0) g)

  -- A byte without the top bit is the last.
  pub read_ends : (more : ℕ) → at < length s → get_or s at 0 < 128 → read_in s last (suc more) first at ≡ read_last first (get_or s at 0) (at + 1)
  unfolding read_in
  read_ends more h g = rw (lt-leb (length s) at h, lt-ltb (get_or s at 0) 128 g)

  -- After a byte with the top bit reading goes on.
  pub read_goes : (more : ℕ) → at < length s → 128 ≤ get_or s at 0
      → read_in s last (suc more) first at ≡ put_below (get_or s at 0 - 128) (read_in s last more false (at + 1))
  unfolding read_in
  read_goes more h g = rw (lt-leb (length s) at h, le-ltb (get_or s at 0) 128 g)

-- Where no further byte with the top bit may come, reading goes one of three ways.
pub data FullWay (s : List ℕ) (last : ℕ) (first : Bool) (at : ℕ) : Type 0 where
  cut : length s ≤ at → read_in s last 0 first at ≡ Cut → FullWay s last first at
  above : at < length s → last < get_or s at 0 → read_in s last 0 first at ≡ Malformed → FullWay s last first at
  ends : at < length s → get_or s at 0 ≤ last → read_in s last 0 first at ≡ read_last first (get_or s at 0) (at + 1) → FullWay s last first at

-- Reading goes one of these ways.
pub full_way : (s : List ℕ) (last : ℕ) (first : Bool) (at : ℕ) → FullWay s last first at
full_way s last first at = go (dec_le (length s) at) (dec_lt last (get_or s at 0))
  where
    go : Dec (length s ≤ at) → Dec (last < get_or s at 0) → FullWay s last first at
    go (yes h) d = cut h (read_cut s last first at 0 h)
    go (no h) (yes g) = above (omega arith) g (read_above s last first at (omega arith) g)
    go (no h) (no g) = ends (omega arith) (omega arith) (read_full s last first at (omega arith) (omega arith))

-- Where further bytes with the top bit may come, reading goes one of three ways.
pub data MoreWay (s : List ℕ) (last more : ℕ) (first : Bool) (at : ℕ) : Type 0 where
  cut : length s ≤ at → read_in s last (suc more) first at ≡ Cut → MoreWay s last more first at
  ends : at < length s → get_or s at 0 < 128 → read_in s last (suc more) first at ≡ read_last first (get_or s at 0) (at + 1) → MoreWay s last more first at
  goes : at < length s → 128 ≤ get_or s at 0 → read_in s last (suc more) first at ≡ put_below (get_or s at 0 - 128) (read_in s last more false (at + 1))
      → MoreWay s last more first at

-- Reading goes one of these ways.
pub more_way : (s : List ℕ) (last more : ℕ) (first : Bool) (at : ℕ) → MoreWay s last more first at
more_way s last more first at = go (dec_le (length s) at) (dec_lt (get_or s at 0) 128)
  where
    go : Dec (length s ≤ at) → Dec (get_or s at 0 < 128) → MoreWay s last more first at
    go (yes h) d = cut h (read_cut s last first at (suc more) h)
    go (no h) (yes g) = ends (omega arith) g (read_ends s last first at more (omega arith) g)
    go (no h) (no g) = goes (omega arith) (omega arith) (read_goes s last first at more (omega arith) (omega arith))
