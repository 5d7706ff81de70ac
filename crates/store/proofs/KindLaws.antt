-- Which kinds have a value: the only laws that open `has_value`.
use mathlib.Core.Path.{◌≡◌, refl}
use mathlib.Core.Bool.{true, false}
use Prim.Native.Nat.{ℕ, ◌≤◌}
use native.Mathlib.Omega.{arith}
use lib.Dec.{eqb}
use Rattle.store.specs.Copies.{WITHDRAWN, RESULT, last_kind, has_value, Kind, kind_number, value_held}
use Rattle.store.specs.Copies.Kind.{withdrawn, result}

-- A kind by its number: results alone have a value,
pub valued_is : (kind : ℕ) → has_value kind ≡ eqb kind RESULT
unfolding has_value
valued_is kind = refl

pub result_valued : has_value RESULT ≡ true
result_valued = valued_is RESULT

-- and a withdrawn copy has none.
pub withdrawn_bare : has_value WITHDRAWN ≡ false
withdrawn_bare = valued_is WITHDRAWN

-- The number of a kind is one that there is.
pub kind_known : (kind : Kind) → kind_number kind ≤ last_kind
kind_known withdrawn = omega arith
kind_known result = omega arith

-- What an entry holds: a result its value, a withdrawal 0.
module _ (v : ℕ) where
  pub result_holds : value_held result v ≡ v
  result_holds = rw result_valued

  pub withdrawn_holds : value_held withdrawn v ≡ 0
  withdrawn_holds = rw withdrawn_bare
