-- What a page shows of a line, and when two stores show the same of a sample.
use Rattle.std.specs.Prelude.{◌≡◌, cond, ℕ, ◌<◌}
use Rattle.std.proofs.Math.Option.{Option, none, some}
use Rattle.store.specs.declared.Copy.{Copy}
use Rattle.store.specs.declared.Store.{Store}
use Rattle.store.specs.Copies.{has_value}
use Rattle.page_lines.specs.PageLine.{analytes, key_for}
use Rattle.calls.specs.Recent.{current_in}

-- What is shown of a line's current copy: its value and its stamp if its kind has a value, else nothing.
abbrev pub shown_of : Option Copy → Option (ℕ × ℕ)
shown_of none = none
shown_of (some x) = cond (has_value x.kind) (some (x.value, x.stamp)) none

-- What a store shows of a line.
abbrev pub shows : Store → ℕ → Option (ℕ × ℕ)
shows z k = shown_of (current_in z k)

-- Two stores, of any plans, show the same of every line of a sample.
abbrev pub ShowsSame : Store → Store → ℕ → Type 0
ShowsSame z y sample = (a : ℕ) → a < analytes → shows z (key_for sample a) ≡ shows y (key_for sample a)
