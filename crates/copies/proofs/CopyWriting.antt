-- Why the writer of a copy gives what it promises: the room for each number, and the numbers one after another.
use mathlib.Core.List.{List, ◌++◌}
use Prim.Native.Nat.{ℕ, ◌+◌, ◌≤◌}
use lib.ListN.{length}
use Rattle.lists.specs.Stands.{Wrote}
use Rattle.lists.proofs.Standing.{wrote_join, fits_left, fits_right}
use Rattle.number.specs.Number.{form}
use Rattle.store.specs.declared.Copy.{Copy}
use Rattle.copies.specs.CopyBytes.{value_bytes, copy_bytes}

module _ (x : Copy) where
  abbrev key : List ℕ
  key = form x.key

  abbrev kind : List ℕ
  kind = form x.kind

  abbrev value : List ℕ
  value = value_bytes x.kind x.value

  abbrev stamp : List ℕ
  stamp = form x.stamp

  module _ (before : List ℕ) (at : ℕ) (h : at + length (copy_bytes x) ≤ length before) where
    pub key_fits : at + length (form x.key) ≤ length before
    unfolding copy_bytes
    key_fits = fits_left at key (kind ++ (value ++ stamp)) h

    module _ {a : ℕ} {b1 : List ℕ} (w1 : Wrote before at (form x.key) a b1) where
      after_key : a + length (kind ++ (value ++ stamp)) ≤ length b1
      unfolding copy_bytes
      after_key = fits_right key (kind ++ (value ++ stamp)) h w1

      pub kind_fits : a + length (form x.kind) ≤ length b1
      kind_fits = fits_left a kind (value ++ stamp) after_key

      module _ {b : ℕ} {b2 : List ℕ} (w2 : Wrote b1 a (form x.kind) b b2) where
        after_kind : b + length (value ++ stamp) ≤ length b2
        after_kind = fits_right kind (value ++ stamp) after_key w2

        pub value_part_fits : b + length (value_bytes x.kind x.value) ≤ length b2
        value_part_fits = fits_left b value stamp after_kind

        module _ {c : ℕ} {b3 : List ℕ} (w3 : Wrote b2 b (value_bytes x.kind x.value) c b3) where
          pub stamp_fits : c + length (form x.stamp) ≤ length b3
          stamp_fits = fits_right value stamp after_kind w3

          pub wrote_copy : {d : ℕ} {b4 : List ℕ} → Wrote b3 c (form x.stamp) d b4 → Wrote before at (copy_bytes x) d b4
          unfolding copy_bytes
          wrote_copy w4 = wrote_join w1 (wrote_join w2 (wrote_join w3 w4))
