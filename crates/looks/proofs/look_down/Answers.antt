-- `looks::look_down` meets its contract.
use Prim.Native.Nat.{◌<◌}
use native.Mathlib.Omega.{arith}
use Rattle.plan.specs.Sizes.{most_nodes}
use Rattle.looks.proofs.Descending.{looking_starts, looking_held, looking_never, looking_on, looking_down}
use Rattle.looks.proofs.look_down.Goals as goal
use Rattle.looks.proofs.look_down.Goals.{At-loop-copy, In-Some-next}

-- A look stands at a node that there are places for,
node_within : (c : At-loop-copy) → c.loop-copy.node < most_nodes
node_within c = omega (arith, (c.loop-copy.invariant.1.by c.requires.plan c.requires.rows).node, c.requires.rows.rules.nodes_within)

-- and goes on further down.
further : (c : In-Some-next) → c.loop-copy.node < c.in-Some-next.to
further c =
    looking_down c.loop-copy.invariant.1 c.look_in.result c.look_in.ensures c.in_default.is c.next.result c.next.ensures c.in-Some-next.to
    c.in-Some-next.is c.requires.plan c.requires.rows

pub loop-copy-init : goal.loop-copy-init
loop-copy-init c = (omega arith, looking_starts)

pub look_in-requires : goal.look_in-requires
look_in-requires c =
    let h = node_within (goal.at.look_in-requires c).At-loop-copy in
    (h, c.requires.ordered c.loop-copy.node h)

pub returns-in_default-next : goal.returns-in_default-next
returns-in_default-next c =
    looking_never c.loop-copy.invariant.1 c.look_in.result c.look_in.ensures c.in_default.is c.next.result c.next.ensures c.in_default-next.is
    c.ended.result c.ended.ensures

pub loop-copy-smaller : goal.loop-copy-smaller
loop-copy-smaller c =
    let w = further (goal.at.loop-copy-smaller c).In-Some-next in
    omega (arith, node_within (goal.at.loop-copy-smaller c).At-loop-copy)

pub loop-copy-preserved : goal.loop-copy-preserved
loop-copy-preserved c =
    let w = further (goal.at.loop-copy-preserved c).In-Some-next in (
      omega arith,
      looking_on c.loop-copy.invariant.1 c.look_in.result c.look_in.ensures c.in_default.is c.next.result c.next.ensures c.in-Some-next.to
          c.in-Some-next.is,
    )

pub returns : goal.returns
returns c =
    looking_held c.loop-copy.invariant.1 c.look_in.result c.look_in.ensures c.in-Some.copy c.in-Some.is c.ended-2.result c.ended-2.ensures
