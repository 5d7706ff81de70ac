-- `page_lines::current_places` meets its contract. The loop's invariant: the nodes from this one on are laid over.
use Rattle.page_lines.proofs.NodeByNode.{LaidFrom}
use Rattle.page_lines.proofs.current_places.Given as goal

abbrev pub invariant-loop-node : goal.invariant-loop-node
invariant-loop-node l = LaidFrom l.nodes l.store l.fn.sample.number l.node l.current
