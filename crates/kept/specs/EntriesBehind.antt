-- Accepted entries of a line among calls of the C interface, by their steps and answers.
use Rattle.std.specs.Prelude.{◌≡◌, ℕ, ◌<◌}
use mathlib.Core.List.{List, Memᴰ}
use Rattle.store.specs.declared.Answer.{Answer}
use Rattle.store.specs.Answers.{DONE}
use Rattle.store.specs.Copies.{Kind}
use Rattle.store.specs.Copies.Kind.{withdrawn, result}
use Rattle.page_lines.specs.PageLine.{analytes, key_for}
use Rattle.schedule.specs.Schedule.{ENTER, WITHDRAW}
use Rattle.behind.specs.Behind.{CallBehind}
use Rattle.behind.specs.Behind.CallBehind.{steps}

-- The step of an entry: 1 is enter, 2 is withdraw.
abbrev pub step_number : Kind → ℕ
step_number result = ENTER
step_number withdrawn = WITHDRAW

-- One of the calls is the step of an entry of the line, and its answer is DONE. (Of a withdraw the value is not read.)
pub record EntersBehind (cs : List CallBehind) (kind : Kind) (k v : ℕ) : Type 0 where
  pub answer : Answer
  pub among : Memᴰ (steps (step_number kind) k v answer) cs
  pub done : answer.number ≡ DONE

-- None of them is, of any line of the sample: each call is no entry of one, or its answer is not DONE.
abbrev pub UntouchedBehind : List CallBehind → ℕ → Type 0
UntouchedBehind cs sample = (a : ℕ) → a < analytes → (kind : Kind) (v : ℕ) → EntersBehind cs kind (key_for sample a) v → ⊥
