-- What a sample's page shows. Document 01, "Bytes": "for each analyte, rising, whose look gives a result: analyte, value, stamp.
-- Withdrawn and never-entered lines are left out."
use Rattle.std.specs.Prelude.{cond, List, [], ◌∷◌, ℕ, zero, suc, ◌+◌, ◌*◌}
use Rattle.std.proofs.Math.Option.{Option, none, some}
use Rattle.plan.specs.Plan.{Plan}
use Rattle.store.specs.declared.Copy.{Copy}
use Rattle.store.specs.Copies.{has_value}
use Rattle.store.specs.State.{State, current}
use Rattle.page_lines.specs.declared.PageLine.{PageLine}

-- "analyte 0 to 31"
abbrev pub analytes : ℕ
analytes = 32

-- "sample 0 to 134,217,727"
abbrev pub last_sample : ℕ
last_sample = 134217727

-- "sample × 32 + analyte"
abbrev pub key_for : ℕ → ℕ → ℕ
key_for sample analyte = sample * analytes + analyte

-- The page's line of these numbers.
abbrev pub page_line : ℕ → ℕ → ℕ → PageLine
page_line analyte value stamp = record { analyte = analyte; value = value; stamp = stamp }

-- A line is shown if its look gives a copy of a kind that has a value.
abbrev pub shown : ℕ → Option Copy → List PageLine → List PageLine
shown analyte none ls = ls
shown analyte (some x) ls = cond (has_value x.kind) (page_line analyte x.value x.stamp ∷ ls) ls

-- The lines shown of n analytes from one on.
unfoldable pub page_lines_from : Plan → State → ℕ → ℕ → ℕ → List PageLine
page_lines_from p s sample analyte zero = []
page_lines_from p s sample analyte (suc n) =
    shown analyte (current p s (key_for sample analyte)) (page_lines_from p s sample (suc analyte) n)

-- The lines of a sample's page.
abbrev pub page_lines : Plan → State → ℕ → List PageLine
page_lines p s sample = page_lines_from p s sample 0 analytes
