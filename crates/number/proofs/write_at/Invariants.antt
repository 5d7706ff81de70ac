-- `number::write_at` meets its contract. The loop keeps `Writing`; its measure is the rest.
use Rattle.number.proofs.Writer.{Writing}
use Rattle.number.proofs.write_at.Given as goal

abbrev pub invariant-loop-rest : goal.invariant-loop-rest
invariant-loop-rest l = Writing l.initial.buffer l.at l.value l.buffer l.rest l.i

abbrev pub decreases-loop-rest : goal.decreases-loop-rest
decreases-loop-rest l = l.rest
