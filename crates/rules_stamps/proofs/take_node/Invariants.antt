-- The loop's invariant: the stamps from this place on are taken, and the mark of the one before it is set. The measure is this place.
use Rattle.rules_stamps.proofs.Taking.{Reached}
use Rattle.rules_stamps.proofs.take_node.Given as goal

abbrev pub invariant-loop-at : goal.invariant-loop-at
invariant-loop-at l = Reached l.store l.n l.at l.table

abbrev pub decreases-loop-at : goal.decreases-loop-at
decreases-loop-at l = l.at
