-- The bytes of a sample's page. Document 01, "Bytes": "sample, line count, then for each analyte, rising, whose look gives a result:
-- analyte, value, stamp."
use Rattle.std.specs.Prelude.{Bool, true, false, ◌&&◌, List, [], ◌∷◌, ◌++◌, ℕ, eqb, length}
use Rattle.number.specs.Number.{form}
use Rattle.plan.specs.Plan.{Plan}
use Rattle.store.specs.Copies.{RESULT}
use Rattle.store.specs.State.{State}
use Rattle.copies.specs.CopyBytes.{value_bytes}
use Rattle.page_lines.specs.declared.PageLine.{PageLine}
use Rattle.page_lines.specs.PageLine.{page_lines}

-- A page's line: analyte, value, stamp. A line that is shown is a result.
unfoldable pub page_line_bytes : PageLine → List ℕ
page_line_bytes l = form l.analyte ++ (value_bytes RESULT l.value ++ form l.stamp)

-- A page's lines, one after another.
unfoldable pub page_lines_bytes : List PageLine → List ℕ
page_lines_bytes [] = []
page_lines_bytes (l ∷ ls) = page_line_bytes l ++ page_lines_bytes ls

-- A page with these lines.
unfoldable pub page_bytes : ℕ → List PageLine → List ℕ
page_bytes sample ls = form sample ++ (form (length ls) ++ page_lines_bytes ls)

-- "At most 357 bytes": 4 for the sample, 1 for the line count, 11 for each of 32 lines.
abbrev pub most_page_bytes : ℕ
most_page_bytes = 357

-- The sample's page as it is now.
abbrev pub page_of : Plan → State → ℕ → List ℕ
page_of p s sample = page_bytes sample (page_lines p s sample)

-- The bytes begin with a page.
unfoldable pub begins : List ℕ → List ℕ → Bool
begins bytes [] = true
begins [] (b ∷ bs) = false
begins (a ∷ bytes) (b ∷ bs) = eqb a b && begins bytes bs
