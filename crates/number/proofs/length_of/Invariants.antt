-- `number::length_of` meets its contract. The loop keeps `Counting`; its measure is the rest.
use Rattle.number.proofs.Writer.{Counting}
use Rattle.number.proofs.length_of.Given as goal

abbrev pub invariant-loop-rest : goal.invariant-loop-rest
invariant-loop-rest l = Counting l.value l.rest l.count

abbrev pub decreases-loop-rest : goal.decreases-loop-rest
decreases-loop-rest l = l.rest
