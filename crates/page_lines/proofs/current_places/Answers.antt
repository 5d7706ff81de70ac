-- `page_lines::current_places` meets its contract. The loop's invariant: the nodes from this one on are laid over.
use mathlib.Core.Path.{◌≡◌}
use native.Mathlib.Omega.{arith}
use Rattle.page_lines.proofs.NodeByNode.{nodes_most, nodes_start, nodes_turn, nodes_end}
use Rattle.page_lines.proofs.current_places.Goals as goal

pub loop-node-init : goal.loop-node-init
loop-node-init c = nodes_start _ _ _

pub lay_node-requires : goal.lay_node-requires
lay_node-requires c =
    let few = nodes_most _ _ c.requires in
    (omega arith, c.requires.ordered _ (omega arith))

pub loop-node-preserved : goal.loop-node-preserved
loop-node-preserved c =
    let few = nodes_most _ _ c.requires in
    nodes_turn _ _ _ few c.requires.ordered _ _ (omega arith) (omega arith) _ _ c.lay_node.ensures c.loop-node.invariant

pub returns : goal.returns
returns c =
    let root : c.loop-node.node ≡ 0 = omega arith in
    nodes_end _ _ _ _ (rw root at c.loop-node.invariant)
