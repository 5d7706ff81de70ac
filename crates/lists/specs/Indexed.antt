-- Lists and tests by index: what stands, or what holds, at each of some numbers in a row.
use Rattle.std.specs.Prelude.{Bool, true, ◌&&◌, List, [], ◌∷◌, ℕ, zero, suc}

-- The list f i, f (i + 1), .. of n elements.
unfoldable pub tabulate : {A : Type 0} → ℕ → ℕ → (ℕ → A) → List A
tabulate i zero f = []
tabulate i (suc n) f = f i ∷ tabulate (suc i) n f

-- The test f holds at each of the n numbers i, i + 1, ..
unfoldable pub all_from : ℕ → ℕ → (ℕ → Bool) → Bool
all_from i zero f = true
all_from i (suc n) f = f i && all_from (suc i) n f

-- The test f holds at each number below n.
abbrev pub all_below : ℕ → (ℕ → Bool) → Bool
all_below n f = all_from 0 n f
