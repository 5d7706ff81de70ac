-- Document 01's own numbers, computed on the definitions.
use mathlib.Core.Path.{◌≡◌, refl}
use mathlib.Core.List.{[], ◌∷◌}
use Rattle.number.specs.Number.{Value, Cut, Malformed, value_of, narrow, form, form_in, read_at, read_in, read_last, put_below}

-- The bytes of 180 and of the largest number, written and read.
pub record NumberInstances : Type 0 where
  pub written_180 : form 180 ≡ 0xB4 ∷ 0x01 ∷ []
  pub read_180 : read_at narrow (0xB4 ∷ 0x01 ∷ []) 0 ≡ Value 180 2
  pub spelt_180 : value_of (0xB4 ∷ 0x01 ∷ []) ≡ 180
  pub written_largest : form 4294967295 ≡ 0xFF ∷ 0xFF ∷ 0xFF ∷ 0xFF ∷ 0x0F ∷ []
  pub read_largest : read_at narrow (0xFF ∷ 0xFF ∷ 0xFF ∷ 0xFF ∷ 0x0F ∷ []) 0 ≡ Value 4294967295 5
  pub written_0 : form 0 ≡ 0x00 ∷ []
  pub read_0 : read_at narrow (0x00 ∷ []) 0 ≡ Value 0 1
  pub read_inside : read_at narrow (0x21 ∷ 0xB4 ∷ 0x01 ∷ 0x03 ∷ []) 1 ≡ Value 180 3

pub numbers : NumberInstances
unfolding form form_in value_of read_at read_in read_last put_below
numbers =
    record {
      written_180 = refl;
      read_180 = refl;
      spelt_180 = refl;
      written_largest = refl;
      read_largest = refl;
      written_0 = refl;
      read_0 = refl;
      read_inside = refl;
    }

-- NUMBER: a last byte 00 after others, a fifth above 0F, or five bytes with the top bit set.
pub record MalformedInstances : Type 0 where
  pub long_180 : read_at narrow (0xB4 ∷ 0x81 ∷ 0x00 ∷ []) 0 ≡ Malformed
  pub long_0 : read_at narrow (0x80 ∷ 0x00 ∷ []) 0 ≡ Malformed
  pub longest_0 : read_at narrow (0x80 ∷ 0x80 ∷ 0x80 ∷ 0x80 ∷ 0x00 ∷ []) 0 ≡ Malformed
  pub fifth_above : read_at narrow (0xFF ∷ 0xFF ∷ 0xFF ∷ 0xFF ∷ 0x10 ∷ []) 0 ≡ Malformed
  pub five_tops : read_at narrow (0x80 ∷ 0x80 ∷ 0x80 ∷ 0x80 ∷ 0x80 ∷ []) 0 ≡ Malformed
  pub six_tops : read_at narrow (0xFF ∷ 0xFF ∷ 0xFF ∷ 0xFF ∷ 0xFF ∷ 0xFF ∷ []) 0 ≡ Malformed

pub malformed : MalformedInstances
unfolding read_at read_in read_last put_below
malformed = record { long_180 = refl; long_0 = refl; longest_0 = refl; fifth_above = refl; five_tops = refl; six_tops = refl }

-- CUT: the bytes end after none to four, all with the top bit set, or before the offset.
pub record CutInstances : Type 0 where
  pub none : read_at narrow [] 0 ≡ Cut
  pub one : read_at narrow (0x80 ∷ []) 0 ≡ Cut
  pub two : read_at narrow (0xB4 ∷ 0x81 ∷ []) 0 ≡ Cut
  pub three : read_at narrow (0x80 ∷ 0x80 ∷ 0x80 ∷ []) 0 ≡ Cut
  pub four : read_at narrow (0xFF ∷ 0xFF ∷ 0xFF ∷ 0xFF ∷ []) 0 ≡ Cut
  pub at_end_lem : read_at narrow (0xB4 ∷ 0x01 ∷ []) 2 ≡ Cut
  pub past_end : read_at narrow (0xB4 ∷ 0x01 ∷ []) 7 ≡ Cut

pub cuts : CutInstances
unfolding read_at read_in read_last put_below
cuts = record { none = refl; one = refl; two = refl; three = refl; four = refl; at_end_lem = refl; past_end = refl }
