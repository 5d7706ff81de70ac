-- `page::writing::write_lines` meets its contract. The loop's invariant: the lines from this one on fit, and once written they complete all.
use Rattle.page.proofs.PageWriting.{WritingLines}
use Rattle.page.proofs.writing.write_lines.Given as goal

abbrev pub invariant-loop-line : goal.invariant-loop-line
invariant-loop-line l = WritingLines l.lines l.initial.buffer l.at l.buffer l.next l.line-index
