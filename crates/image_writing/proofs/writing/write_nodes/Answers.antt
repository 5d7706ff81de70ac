-- `image_writing::writing::write_nodes` meets its contract.
use native.Mathlib.Omega.{arith}
use Rattle.wire.proofs.Parts.{write_room, write_on, write_off}
use Rattle.image_writing.proofs.writing.write_nodes.Goals as goal

pub write_node-next-requires : goal.write_node-next-requires
write_node-next-requires c =
    let there = c.requires.0 in
    let low = c.loop-node-test.true in
    (omega arith, c.requires.1 c.loop-node.node (omega arith), write_room _ _ _ _ _ _ c.loop-node.invariant c.loop-node-test.true)

pub loop-node-preserved : goal.loop-node-preserved
loop-node-preserved c = write_on _ _ _ _ _ _ c.loop-node.invariant c.loop-node-test.true c.write_node-next.ensures

pub returns : goal.returns
returns c = write_off _ _ _ _ _ _ c.loop-node.invariant c.loop-node-test.false
