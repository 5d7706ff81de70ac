-- A test of each number of a range and of each element of a list, as `all` asks it.
use mathlib.Core.Path.{◌≡◌, refl, ap, ◌∙◌}
use mathlib.Core.Bool.{Bool, ◌&&◌}
use mathlib.Core.List.{List}
use Prim.Native.Nat.{ℕ, zero, suc}
use native.Mathlib.Numerals.{add-one}
use lib.ListN.{length, get_or}
use Rattle.std.specs.List.{list_all, range_with_len}
use Rattle.lists.specs.Indexed.{tabulate, all_from, all_below}
use Rattle.lists.proofs.Tabulating.{as_from_start}

pub range_all : (f : ℕ → Bool) (i n : ℕ) → list_all f (range_with_len i n) ≡ all_from i n f
unfolding all_from
range_all f i zero = refl
range_all f i (suc n) = rw add-one (ap (λ (b : Bool). f i && b) (range_all f (suc i) n))

module _ {A : Type 0} (f : A → Bool) where
  tabulated_all : (g : ℕ → A) (i n : ℕ) → list_all f (tabulate i n g) ≡ all_from i n (λ j. f (g j))
  unfolding tabulate all_from
  tabulated_all g i zero = refl
  tabulated_all g i (suc n) = ap (λ (b : Bool). f (g i) && b) (tabulated_all g (suc i) n)

  pub elements_all : (xs : List A) (n : ℕ) (d : A) → length xs ≡ n → list_all f xs ≡ all_below n (λ j. f (get_or xs j d))
  elements_all xs n d long =
      ap (list_all f) (as_from_start (λ j. get_or xs j d) xs n d long (λ j h. refl)) ∙ tabulated_all (λ j. get_or xs j d) 0 n
