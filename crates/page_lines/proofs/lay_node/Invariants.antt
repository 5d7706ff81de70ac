-- `page_lines::lay_node` meets its contract. The loop's invariant: what is laid over, with what is still to come, is the whole node's.
use Rattle.page_lines.proofs.NodePlaces.{Laying}
use Rattle.page_lines.proofs.lay_node.Given as goal

abbrev pub invariant-loop-at : goal.invariant-loop-at
invariant-loop-at l = Laying l.store.keys l.from l.end l.fn.sample.number l.initial.current l.at l.current
