-- `image_writing::lengths::image_length` meets its contract.
use Prim.Native.Nat.{◌+◌, ◌*◌, ◌≤◌}
use native.Mathlib.Omega.{arith}
use Rattle.number.proofs.Forms.{form-length}
use Rattle.plan.specs.Sizes.{most_nodes}
use Rattle.image_writing.specs.Image.{format_number}
use Rattle.image_writing.proofs.ImageLengths.{longest_node, image_adds, image_adds_few}
use Rattle.image_writing.proofs.lengths.image_length.Goals as goal
use Rattle.image_writing.proofs.lengths.image_length.Goals.{After-length_of-3}

-- All bytes together are few.
few : (c : After-length_of-3)
    → c.length_of.result + c.length_of-2.result + c.length_of-3.result + c.nodes_length-of_nodes.result ≤ 3 * 5 + longest_node * most_nodes
few c =
    image_adds_few c.args.store.now c.args.nodes c.length_of.ensures c.length_of-2.ensures c.length_of-3.ensures c.nodes_length-of_nodes.ensures
    c.requires.0 c.requires.1

pub overflow_add-result : goal.overflow_add-result
overflow_add-result c = omega (arith, c.length_of.ensures, c.length_of-2.ensures, form-length format_number, form-length c.args.store.now.plan)

pub overflow_add-result-2 : goal.overflow_add-result-2
overflow_add-result-2 c = omega (arith, few c)

pub overflow_add-result-3 : goal.overflow_add-result-3
overflow_add-result-3 c = omega (arith, few c)

pub returns : goal.returns
returns c =
    image_adds c.args.store.now c.args.nodes c.length_of.ensures c.length_of-2.ensures c.length_of-3.ensures c.nodes_length-of_nodes.ensures
