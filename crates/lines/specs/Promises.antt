-- The promise of a printed line: it fixes the offset after it and every lent byte.
use Rattle.std.specs.Prelude.{List, ℕ, ◌+◌, ◌≤◌}
use Rattle.lists.specs.Stands.{Wrote}
use Rattle.store.specs.declared.Answer.{Answer}
use Rattle.lines.specs.Text.{answer_text, most_text}

-- Its text is written from an offset on, and all other bytes are kept; it has at most so many bytes.
abbrev pub Prints : List ℕ → ℕ → ℕ → Answer → ℕ → List ℕ → Type 0
Prints before at first answer r after = Wrote before at (answer_text first answer) r after × (r ≤ at + most_text)
