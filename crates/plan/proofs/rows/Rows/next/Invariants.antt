-- `plan::rows::Rows::next` meets its contract. The loop's invariant: what is left of the edges gives the key's next step. The measure is their number.
use mathlib.Core.Path.{◌≡◌}
use Prim.Native.Nat.{◌-◌, ◌≤◌}
use Rattle.lists.specs.Indexed.{tabulate}
use Rattle.plan.specs.Sizes.{most_edges}
use Rattle.plan.specs.Plan.{first_edge}
use Rattle.plan.specs.PlanArrays.{edge_in, edge_count_in, edges_in}
use Rattle.plan.proofs.rows.Rows.next.Given as goal

abbrev pub invariant-loop-e : goal.invariant-loop-e
invariant-loop-e l =
    (l.e ≤ l.count)
    × (l.count ≤ most_edges)
    × (l.count ≡ edge_count_in l.self.counts l.node)
    × (first_edge (edges_in l.self.counts l.self.lows l.self.highs l.self.targets l.node) l.key ≡ first_edge (tabulate l.e (l.count - l.e) (edge_in l.self.lows l.self.highs l.self.targets l.node)) l.key)

abbrev pub decreases-loop-e : goal.decreases-loop-e
decreases-loop-e l = l.count - l.e
