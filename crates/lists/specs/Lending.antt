-- What is lent to a function, as its promise sees it.
use Rattle.std.specs.Prelude.{List, ℕ}
use Rattle.std.specs.Borrow.{MutBor}
use denote.Triple.Both.{Both}

-- A list of numbers that is lent to be written: on entry and on exit.
abbrev pub LentMutList : Type 0
LentMutList = Both (MutBor (List ℕ)) (MutBor (List ℕ))
