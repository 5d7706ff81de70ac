-- `number::read_at` meets its contract. The loop keeps `Going`.
use Rattle.number.proofs.Reader.{Going}
use Rattle.number.proofs.read_at.Given as goal

abbrev pub invariant-loop-next : goal.invariant-loop-next
invariant-loop-next l = Going l.bytes l.at l.value l.scale l.next l.more
