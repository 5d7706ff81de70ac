-- `lines::print_into` meets its contract.
use native.Mathlib.Omega.{arith}
use Rattle.lines.proofs.LineLaws.{printing_starts, printing_turns, printing_ends}
use Rattle.lines.proofs.print_into.Goals as goal

pub loop-number-init : goal.loop-number-init
loop-number-init c = printing_starts c.args.first c.write_number-end.ensures

pub loop-number-preserved : goal.loop-number-preserved
loop-number-preserved c = printing_turns _ (omega arith) c.loop-number.invariant c.write_number-end-in-loop-number.ensures

pub returns : goal.returns
returns c = printing_ends c.args.answer (omega arith) c.loop-number.invariant
