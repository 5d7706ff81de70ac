-- Two numbers in their order.
use mathlib.Core.Path.{◌≡◌}
use Prim.Native.Nat.{ℕ, ◌<◌}
use native.Mathlib.Omega.{arith}
use native.Mathlib.Decide.{dec_lt}

-- One number is less than another, equal to it, or more.
pub data Order (a b : ℕ) : Type 0 where
  less : a < b → Order a b
  equal : a ≡ b → Order a b
  more : b < a → Order a b

pub order? : (a b : ℕ) → Order a b
order? a b = go (dec_lt a b) (dec_lt b a)
  where
    go : Dec (a < b) → Dec (b < a) → Order a b
    go (yes h) d = less h
    go (no h) (yes g) = more g
    go (no h) (no g) = equal (omega arith)
