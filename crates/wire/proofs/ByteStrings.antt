-- Byte strings: none, and one after another.
use mathlib.Core.List.{List, [], ◌∷◌, ◌++◌}
use Prim.Native.Nat.{ℕ, zero, suc}
use lib.Dec.{lit<}
use Rattle.number.specs.Number.{Bytes}

pub no_bytes : Bytes []
no_bytes i = lit< tt

pub bytes_join : (l k : List ℕ) → Bytes l → Bytes k → Bytes (l ++ k)
bytes_join [] k a b i = b i
bytes_join (x ∷ l) k a b zero = a 0
bytes_join (x ∷ l) k a b (suc i) = bytes_join l k (λ j. a (suc j)) b i
