-- `image_writing::writing::write_nodes` meets its contract.
use Rattle.store.specs.Layout.{node_of}
use Rattle.image_writing.specs.Image.{nodes_bytes, nodes_in}
use Rattle.image_writing.proofs.WriteWays.{WritesNodes}
use Rattle.image_writing.proofs.writing.write_nodes.Given as goal

abbrev pub invariant-loop-node : goal.invariant-loop-node
invariant-loop-node l =
    WritesNodes (node_of l.store) l.nodes l.fn.buffer l.at (nodes_bytes (nodes_in l.store l.nodes)) l.node l.next l.buffer
