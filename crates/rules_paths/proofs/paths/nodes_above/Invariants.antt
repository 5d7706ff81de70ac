-- The loop's invariant: the node's place in the path is its place among the nodes to come, counted from those passed on.
use Rattle.std.proofs.Common.{◌≡◌, ◌-◌, Some}
use Rattle.plan.specs.Plan.{walk, path}
use Rattle.plan.specs.PlanArrays.{OfEachPlan}
use Rattle.rules_paths.specs.Workers.{place_from, nodes_above}
use Rattle.rules_paths.proofs.paths.nodes_above.Given as goal

abbrev pub invariant-loop-above : goal.invariant-loop-above
invariant-loop-above l =
    OfEachPlan l.rows (λ p. nodes_above l.node (path p l.key) ≡ place_from l.above l.node (walk p l.key (l.above-end - l.above) (Some l.at)))
