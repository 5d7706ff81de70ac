-- `page_lines::gather` meets its contract. The loop's invariant: the lines gathered, and those of the analytes still to come, are all.
use mathlib.Core.Path.{◌≡◌, ◌∙◌}
use borrow.Author.Rules.{rules}
use Rattle.page_lines.proofs.gather.Goals.{then-has_value, else-has_value}
use native.Mathlib.Omega.{arith}
use Rattle.page_lines.specs.PageLine.{analytes}
use Rattle.page_lines.proofs.Gathering.{same_items, gather_turns, gather_ends}
use Rattle.page_lines.proofs.Gathering.Turn.{never, other, valued}
use Rattle.page_lines.proofs.gather.Goals as goal

pub loop-analyte-preserved-in_default : goal.loop-analyte-preserved-in_default
loop-analyte-preserved-in_default c =
    gather_turns _ _ _ _ _ _ _ (omega arith) (λ p w. c.current_places-current.ensures.copies p w _ (omega arith)) c.loop-analyte.invariant (grind (arith, never))

pub loop-analyte-preserved : goal.loop-analyte-preserved
loop-analyte-preserved c =
    gather_turns _ _ _ _ _ _ _ (omega arith) (λ p w. c.current_places-current.ensures.copies p w _ (omega arith)) c.loop-analyte.invariant
    (elim c.if-has_value.branch [
      | then-has_value w ↦ valued c.in-Some.is (search rules) (rw c.copy_at-copy.ensures at (same_items w.lines-is ∙ w.push.ensures.items))
      | else-has_value w ↦ other c.in-Some.is (search rules) (same_items w.lines-is)
    ])

pub returns : goal.returns
returns c =
    let all : c.loop-analyte.analyte ≡ analytes = omega arith in
    gather_ends _ _ _ _ (rw all at c.loop-analyte.invariant)
