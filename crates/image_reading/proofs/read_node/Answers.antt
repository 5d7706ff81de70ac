-- `image_reading::read_node` meets its contract.
use mathlib.Core.Path.{sym, ◌∙◌}
use native.Mathlib.Omega.{arith}
use Rattle.image_reading.proofs.NodeWays.{node_copies}
use Rattle.image_reading.proofs.read_node.Goals as goal

pub returns-clause-laid : goal.returns-clause-laid
returns-clause-laid c =
    c.read_copies.ensures.laid
    ∙ sym (node_copies c.args.bytes.now c.args.capacity c.args.at c.args.store.now c.args.node (sym c.in_ok-count.ensures) (omega arith))
