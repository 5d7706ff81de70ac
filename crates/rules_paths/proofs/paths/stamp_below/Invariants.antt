-- The loop's invariant: the stamp in reach is the one in reach from the next step, which leads to a node of the plan.
use Rattle.std.proofs.Common.{◌≡◌, ◌-◌}
use Rattle.plan.specs.PlanArrays.{OfEachPlan}
use Rattle.rules_paths.specs.Workers.{stamp_below}
use Rattle.rules_paths.proofs.Reaching.{LeadsOn, stamp_on}
use Rattle.rules_paths.proofs.paths.stamp_below.Given as goal

abbrev pub invariant-loop : goal.invariant-loop
invariant-loop l =
    LeadsOn l.rows.nodes l.next × OfEachPlan l.rows (λ p. stamp_below p l.store l.node l.key ≡ stamp_on p l.store l.key (l.end - l.counter) l.next)
