-- The first number and so many more, each with a space before it, were written.
use lib.ListN.{take}
use Rattle.lines.proofs.LineLaws.{Printing}
use Rattle.lines.proofs.print_into.Given as goal

abbrev pub invariant-loop-number : goal.invariant-loop-number
invariant-loop-number l = Printing l.fn.buffer l.at l.first (take l.number-index l.number-items) l.number-index l.end l.buffer
