-- The keys of the places from .. end of a column, as a list of their own: those below a key come first, and its place is where they end.
use mathlib.Core.Path.{◌≡◌, ◌∙◌}
use mathlib.Core.Bool.{true, false}
use mathlib.Core.List.{List}
use Prim.Native.Nat.{ℕ, ◌+◌, ◌-◌, ◌<◌, ◌≤◌}
use native.Mathlib.Omega.{arith}
use native.Mathlib.Decide.{dec_lt}
use lib.Dec.{ltb}
use lib.ListN.{length, get_or, drop, length-take, length-drop}
use Rattle.std.proofs.lemmas.List.{get_or-take, get_or-drop}
use borrow.Author.Tests.{lt-ltb, ltb-true, ltb-false}
use Rattle.std.proofs.lemmas.Grind.{get_or_default_zero}
use Rattle.std.specs.Prelude.{slice_range}
use Rattle.std.specs.List.Sorted.{IsPartitionedBy, IsPartitionPoint}
use Rattle.store.specs.Workers.{number_in, place_in, RisesIn}
use Rattle.store.proofs.Halving.{place_bounds, half_down, half_up}

module _ (keys : List ℕ) (from end : ℕ) (o : from ≤ end) (fits : end ≤ length keys) (r : RisesIn keys from end) (k : ℕ) where
  -- As many as there are places, and each the key of its place.
  pub parts_long : length (slice_range keys from end) ≡ end - from
  parts_long = omega (arith, length-take (end - from) (drop from keys), length-drop from keys)

  pub part_at : (i d : ℕ) → i < end - from → get_or (slice_range keys from end) i d ≡ number_in keys (from + i)
  part_at i d h =
      get_or-take (end - from) (drop from keys) i d h ∙ get_or-drop from keys i d ∙ get_or_default_zero keys (from + i) d (omega arith)

  -- A key that stands before one below k is below k.
  before : (m n : ℕ) → from ≤ m → m ≤ n → n < end → number_in keys n < k → number_in keys m < k
  before m n a b h l = go (dec_lt (number_in keys m) k)
    where
      up : n < place_in keys from end k
      up = half_up keys from end o r k n (omega arith) h l

      go : Dec (number_in keys m < k) → number_in keys m < k
      go (yes q) = q
      go (no q) = absurd (omega (arith, up, half_down keys from end o k m a (omega arith) (omega arith)))

  pub parted : IsPartitionedBy (λ y. ltb y k) (slice_range keys from end)
  parted i j d h g t =
      let n : j < end - from = omega (arith, parts_long) in
      let l : number_in keys (from + j) < k = rw (part_at j d n) at (ltb-true _ _ t) in
      lt-ltb _ _ (rw (part_at i d (omega arith)) (before (from + i) (from + j) (omega arith) (omega arith) (omega arith) l))

  pub place_parted : (at : ℕ) → at ≤ length (slice_range keys from end)
      → IsPartitionPoint (λ y. ltb y k ≡ true) (λ y. ltb y k ≡ false) (slice_range keys from end) at → from + at ≡ place_in keys from end k
  place_parted at h w = go (dec_lt at (end - from)) (dec_lt 0 at)
    where
      -- A key from there on is not below k, and one before it is.
      late : at < end - from → place_in keys from end k ≤ from + at
      late l =
          half_down keys from end o k (from + at) (omega arith) (omega arith)
          (rw (part_at at 0 l) at (ltb-false _ _ (w.1 at 0 (omega arith) (omega (arith, parts_long)))))

      early : 0 < at → from + at ≤ place_in keys from end k
      early l =
          let n : at - 1 < end - from = omega (arith, parts_long) in
          let q : number_in keys (from + (at - 1)) < k = rw (part_at (at - 1) 0 n) at (ltb-true _ _ (w.0 (at - 1) 0 (omega arith) (omega arith))) in
          omega (arith, half_up keys from end o r k (from + (at - 1)) (omega arith) (omega arith) q)

      go : Dec (at < end - from) → Dec (0 < at) → from + at ≡ place_in keys from end k
      go (yes a) (yes b) = omega (arith, late a, early b)
      go (yes a) (no b) = omega (arith, late a, place_bounds keys from end o k)
      go (no a) (yes b) = omega (arith, parts_long, early b, place_bounds keys from end o k)
      go (no a) (no b) = omega (arith, parts_long, place_bounds keys from end o k)
