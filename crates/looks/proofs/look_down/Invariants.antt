-- `looks::look_down` meets its contract. The loop's invariant: the look that goes on from the node is the whole look. Nodes have rising
-- numbers, so the measure is how many are left.
use Prim.Native.Nat.{◌-◌, ◌≤◌}
use Rattle.plan.specs.Sizes.{most_nodes}
use Rattle.looks.proofs.Descending.{Looking}
use Rattle.looks.proofs.look_down.Given as goal

abbrev pub invariant-loop-copy : goal.invariant-loop-copy
invariant-loop-copy l = (l.visits ≤ l.node) × Looking l.rows l.store l.key l.node l.visits

abbrev pub decreases-loop-copy : goal.decreases-loop-copy
decreases-loop-copy l = most_nodes - l.node
