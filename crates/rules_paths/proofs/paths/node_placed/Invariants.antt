-- The loop's invariant: all copies pass if those from i on do.
use Rattle.std.proofs.Common.{◌≡◌, ◌+◌, ◌-◌, ◌*◌, ◌≤◌}
use Rattle.lists.specs.Indexed.{all_from}
use Rattle.plan.specs.PlanArrays.{OfEachPlan}
use Rattle.store.specs.Layout.{width, count_of, places}
use Rattle.rules_paths.specs.Workers.{placed_test, paths_test}
use Rattle.rules_paths.proofs.paths.node_placed.Given as goal

abbrev pub invariant-loop-i : goal.invariant-loop-i
invariant-loop-i l =
    (l.end ≡ width * l.node + count_of l.store l.node) × (l.end ≤ places)
    × OfEachPlan l.rows (λ p. paths_test p l.store l.node ≡ all_from l.i (l.end - l.i) (placed_test p l.store l.node))
