-- `image_writing::lengths::node_length` meets its contract.
use native.Mathlib.Omega.{arith}
use Rattle.image_writing.proofs.ImageLengths.{node_adds, node_adds_few}
use Rattle.image_writing.proofs.lengths.node_length.Goals as goal

pub overflow_add-result : goal.overflow_add-result
overflow_add-result c =
    omega (arith, node_adds_few c.args.store.now c.args.node c.length_of.ensures c.copies_length.ensures c.requires.1)

pub returns : goal.returns
returns c = node_adds c.args.store.now c.args.node c.length_of.ensures c.copies_length.ensures
