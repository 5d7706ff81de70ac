-- `image_reading::read_nodes` meets its contract.
-- (What stands three times here is a word with its own arguments; a lemma would name as many.)
use mathlib.Core.Path.{refl}
use borrow.Author.Rules.{rules}
use Prim.Native.Nat.{◌<◌, ◌≤◌}
use native.Mathlib.Omega.{arith}
use Rattle.std.proofs.lemmas.Result.{err_from_is_err_and}
use Rattle.plan.specs.Sizes.{most_nodes}
use Rattle.store.specs.Layout.{width}
use Rattle.store.proofs.Widths.{at_fits}
use Rattle.image_reading.proofs.NodeWays.{capacity_here, sofar_none, sofar_end, sofar_stops, sofar_turn}
use Rattle.image_reading.proofs.read_nodes.Goals as goal
use Rattle.image_reading.proofs.read_nodes.Goals.{After-capacity}

-- The node that is read is one of a store's, and its copies have places.
inside : (c : After-capacity) → (c.loop-node.node < most_nodes) × (c.capacity.result ≤ width)
inside c =
    let few = c.requires.0 in
    let more = c.loop-node-test.true in
    (omega arith, omega (arith, c.capacity.ensures, at_fits c.args.rows.now.capacities c.requires.1 c.loop-node.node))

pub loop-node-init : goal.loop-node-init
loop-node-init c = (λ p size_is row_is. sofar_none c.args.bytes.now p c.args.at c.requires.2, refl, refl, refl)

pub read_node-requires : goal.read_node-requires
read_node-requires c = inside (goal.at.read_node-requires c).After-capacity

pub returns-in_err-next-clause-laid : goal.returns-in_err-next-clause-laid
returns-in_err-next-clause-laid c =
    let few = c.requires.0 in
    let more = c.loop-node-test.true in
    let e = err_from_is_err_and c.from_residual.result c.from_residual.ensures.1 in
    λ p size_is row_is.
    rw (e.1, e.2)
    (sofar_stops (c.loop-node.invariant.0 p size_is row_is) (omega arith) (capacity_here p (omega arith) row_is c.loop-node.node c.capacity.ensures) c.in_err-next.ensures.laid)

pub loop-node-preserved : goal.loop-node-preserved
loop-node-preserved c =
    let few = c.requires.0 in
    let more = c.loop-node-test.true in
    let i = inside (goal.at.loop-node-preserved c).After-capacity in (
      λ p size_is row_is.
          sofar_turn (c.loop-node.invariant.0 p size_is row_is) (omega arith) (capacity_here p (omega arith) row_is c.loop-node.node c.capacity.ensures) i.0 i.1
          c.in_ok-next.ensures.laid,
      search rules,
      search rules,
      search rules,
    )

pub returns-clause-laid : goal.returns-clause-laid
returns-clause-laid c =
    let past = c.loop-node-test.false in
    λ p size_is row_is. sofar_end (c.loop-node.invariant.0 p size_is row_is) (omega arith)
