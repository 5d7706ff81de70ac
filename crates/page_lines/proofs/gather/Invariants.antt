-- `page_lines::gather` meets its contract. The loop's invariant: the lines gathered, and those of the analytes still to come, are all.
use Rattle.page_lines.proofs.Gathering.{Gathered}
use Rattle.page_lines.proofs.gather.Given as goal

abbrev pub invariant-loop-analyte : goal.invariant-loop-analyte
invariant-loop-analyte l = Gathered l.nodes l.store l.fn.sample.number l.analyte l.lines.items
