-- `page::writing::write_lines` meets its contract. The loop's invariant: the lines from this one on fit, and once written they complete all.
use native.Mathlib.Omega.{arith}
use Rattle.page.proofs.PageWriting.{lines_start, line_fits, lines_turn, lines_end}
use Rattle.page.proofs.writing.write_lines.Goals as goal

pub loop-line-init : goal.loop-line-init
loop-line-init c = lines_start _ _ _ c.requires

pub write_line-next-requires : goal.write_line-next-requires
write_line-next-requires c = line_fits _ _ _ (omega arith) c.loop-line.invariant

pub loop-line-preserved : goal.loop-line-preserved
loop-line-preserved c = lines_turn _ _ _ (omega arith) c.loop-line.invariant c.write_line-next.ensures

pub returns : goal.returns
returns c = lines_end _ c.loop-line.invariant (omega arith)
