-- `image_reading::read_nodes` meets its contract.
use mathlib.Core.Path.{◌≡◌}
use Rattle.plan.specs.Plan.{Plan, size}
use Rattle.plan.specs.PlanArrays.{capacities_row}
use Rattle.image_reading.proofs.NodeWays.{Sofar}
use Rattle.image_reading.proofs.read_nodes.Given as goal

-- The nodes read so far are laid; and the store's plan, clock and slots are as they were.
abbrev pub invariant-loop-node : goal.invariant-loop-node
invariant-loop-node l =
    ((p : Plan) → l.rows.nodes ≡ size p → l.rows.capacities ≡ capacities_row p → Sofar l.bytes p l.at l.fn.store l.node l.store l.next)
    × (l.store.plan ≡ l.fn.store.plan) × (l.store.clock ≡ l.fn.store.clock) × (l.store.slots ≡ l.fn.store.slots)
