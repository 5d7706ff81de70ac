-- Why the reading function gives what it promises: what its loop keeps true, at its start, at each turn and at each way out.
use mathlib.Core.Path.{◌≡◌, refl, sym, ap, ◌∙◌}
use mathlib.Core.Bool.{true, false}
use mathlib.Core.List.{List}
use Prim.Native.Nat.{ℕ, zero, suc, ◌+◌, ◌-◌, ◌*◌, ◌<◌, ◌≤◌}
use native.Mathlib.Omega.{arith}
use native.Mathlib.Nat.{mul-add, mul_assoc, mul-le-mul_left}
use lib.ListN.{length, get_or}
use Rattle.number.specs.Number.{Reading, Value, Cut, Malformed, narrow, largest_in, read_last, put_below, read_in, read_at}
use Rattle.number.proofs.Ways.{never, last_value_lem, last_zero, read_cut, read_above, read_ends, read_goes}
use Rattle.number.proofs.Readings.{ends_in}

-- ---- a number's first byte

module _ (s : List ℕ) (at : ℕ) where
  -- No byte is there.
  pub first_cut : length s ≤ at → Cut ≡ read_at narrow s at
  unfolding read_at
  first_cut h = sym (read_cut s narrow.last true at narrow.more h)

  -- A number's only byte.
  pub first_ends : {b : ℕ} → b ≡ get_or s at 0 → at < length s → b < 128 → Value b (at + 1) ≡ read_at narrow s at
  unfolding read_at
  first_ends e h g =
      rw e (sym (read_ends s narrow.last true at (narrow.more - 1) h (omega arith) ∙ last_value_lem true (get_or s at 0) (at + 1) (λ f. absurd (never f))))

-- ---- the bytes after it

-- What the bytes after those read give, put above the number read: their number counts `scale`-fold.
unfoldable pub put_above : ℕ → ℕ → Reading → Reading
put_above value scale (Value v next) = Value (value + scale * v) next
put_above value scale Cut = Cut
put_above value scale Malformed = Malformed

-- Where a group stands below their number, it goes to the number read, and theirs counts 128 times as much.
above_below : (value scale low : ℕ) (r : Reading) → put_above value scale (put_below low r) ≡ put_above (value + scale * low) (scale * 128) r
unfolding put_above put_below
above_below value scale low (Value v next) =
    let d = mul-add scale low (128 * v) in
    let a = mul_assoc scale 128 v in
    let e : value + scale * (low + 128 * v) ≡ (value + scale * low) + (scale * 128) * v = omega arith in
    ap (λ (n : ℕ). Value n next) e
above_below value scale low Cut = refl
above_below value scale low Malformed = refl

-- After the first byte its group is the number read, and what follows counts 128-fold.
below_above : (low : ℕ) (r : Reading) → put_below low r ≡ put_above low 128 r
unfolding put_above put_below
below_above low (Value v next) = refl
below_above low Cut = refl
below_above low Malformed = refl

-- What reading gives is what the bytes from `next` on give, put above the number read, and the largest number that can come of it fits 32 bits.
pub record Going (s : List ℕ) (at value scale next more : ℕ) : Type 0 where
  pub whole : read_at narrow s at ≡ put_above value scale (read_in s narrow.last more false next)
  pub fits : value + scale * largest_in narrow.last more ≤ 4294967295

-- A first byte with the top bit.
pub go_starts : (s : List ℕ) (at : ℕ) {b : ℕ} → b ≡ get_or s at 0 → at < length s → 128 ≤ b → b < 256
    → Going s at (b - 128) 128 (at + 1) (narrow.more - 1)
unfolding read_at largest_in
go_starts s at {b} e h g m =
    record {
      whole =
          rw e (read_goes s narrow.last true at (narrow.more - 1) h (omega arith)
          ∙ below_above (get_or s at 0 - 128) (read_in s narrow.last (narrow.more - 1) false (at + 1)));
      fits = omega arith;
    }

-- A last byte that is allowed is within the kind.
pub last_within : (more b : ℕ) → b < 128 → (more ≡ 0 → b ≤ narrow.last) → b ≤ largest_in narrow.last more
unfolding largest_in
last_within zero b g a = a refl
last_within (suc more) b g a = omega arith

-- Where a byte with the top bit may come, 128 is within the kind too.
pub more_within : (more : ℕ) → (more ≡ 0 → ⊥) → 128 ≤ largest_in narrow.last more
unfolding largest_in
more_within zero n = absurd (n refl)
more_within (suc zero) n = omega arith
more_within (suc (suc more)) n = omega arith

module _ {s : List ℕ} {at value scale next more : ℕ} (k : Going s at value scale next more) where
  -- A number within the kind fits above the number read.
  pub go_fits : {g : ℕ} → g ≤ largest_in narrow.last more → value + scale * g ≤ 4294967295
  go_fits h = let m = mul-le-mul_left scale h in let f = k.fits in omega arith

  -- No byte is left.
  pub go_cut : length s ≤ next → Cut ≡ read_at narrow s at
  unfolding put_above
  go_cut h = sym (k.whole ∙ ap (put_above value scale) (read_cut s narrow.last false next more h))

  module _ {b : ℕ} (e : b ≡ get_or s next 0) (h : next < length s) where
    -- What a last byte gives, put above the number read.
    go_last : b < 128 → (more ≡ 0 → b ≤ narrow.last) → read_at narrow s at ≡ put_above value scale (read_last false b (next + 1))
    go_last g a =
        k.whole ∙ rw e (ap (put_above value scale) (ends_in s narrow.last more false next h (omega arith) (omega (arith, last_within more b g a))))

    -- A last byte 00.
    pub go_zero : b ≡ 0 → Malformed ≡ read_at narrow s at
    unfolding put_above
    go_zero z = sym (go_last (omega arith) (λ _. omega arith) ∙ rw z (ap (put_above value scale) (last_zero (next + 1))))

    -- A fifth byte above 0F.
    pub go_above : more ≡ 0 → narrow.last < b → Malformed ≡ read_at narrow s at
    unfolding put_above
    go_above z g =
        sym (k.whole ∙ ap (λ (n : ℕ). put_above value scale (read_in s narrow.last n false next)) z
        ∙ ap (put_above value scale) (read_above s narrow.last false next h (omega arith)))

    -- A last byte that is not 00 and is allowed.
    pub go_ends : (b ≡ 0 → ⊥) → b < 128 → (more ≡ 0 → b ≤ narrow.last) → Value (value + scale * b) (next + 1) ≡ read_at narrow s at
    unfolding put_above
    go_ends n g a = sym (go_last g a ∙ ap (put_above value scale) (last_value_lem false b (next + 1) (λ _. omega arith)))

    -- A byte with the top bit.
    pub go_turns : 128 ≤ b → b < 256 → (more ≡ 0 → ⊥) → Going s at (value + scale * (b - 128)) (scale * 128) (next + 1) (more - 1)
    unfolding largest_in
    go_turns g m n =
        let i : more ≡ suc (more - 1) = omega arith in
        let l : largest_in narrow.last more ≡ 127 + 128 * largest_in narrow.last (more - 1) = ap (largest_in narrow.last) i in
        let f = k.fits in
        let d = mul-add scale 127 (128 * largest_in narrow.last (more - 1)) in
        let a = mul_assoc scale 128 (largest_in narrow.last (more - 1)) in
        let q : scale * (b - 128) ≤ scale * 127 = mul-le-mul_left scale (omega arith) in
        let o : scale * largest_in narrow.last more ≡ scale * (127 + 128 * largest_in narrow.last (more - 1)) = ap (λ (n : ℕ). scale * n) l in
        record {
          whole =
              k.whole ∙ ap (λ (n : ℕ). put_above value scale (read_in s narrow.last n false next)) i
              ∙ ap (put_above value scale) (read_goes s narrow.last false next (more - 1) h (omega arith))
              ∙ rw e (above_below value scale (get_or s next 0 - 128) (read_in s narrow.last (more - 1) false (next + 1)));
          fits = omega arith;
        }

-- A number's first byte, the bytes after it, and what the loop keeps.
pub ruleset reader_laws = (first_cut, first_ends, go_starts, go_fits, go_cut, go_zero, go_above, go_ends, go_turns, last_within, more_within)
