-- Elements that stand at a place of a list, and what a writer leaves there.
use Rattle.std.specs.Prelude.{List, ◌++◌, ◌≡◌, ℕ, ◌+◌, length, drop}
use Rattle.std.proofs.lemmas.List.Edits.{sets}

-- Between `at` and `next` of s stand the elements l.
pub record Stands {A : Type 0} (s : List A) (at : ℕ) (l : List A) (next : ℕ) : Type 0 where
  pub here : drop at s ≡ l ++ drop next s
  pub width : next ≡ at + length l

-- A writer put the elements l into `before` from `at` on: it leaves the list `after`, and goes on at `next`.
pub record Wrote {A : Type 0} (before : List A) (at : ℕ) (l : List A) (next : ℕ) (after : List A) : Type 0 where
  pub to : next ≡ at + length l
  pub holds : after ≡ sets before at l
