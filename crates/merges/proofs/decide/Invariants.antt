-- `merges::decide` meets its contract.
use mathlib.Core.Path.{◌≡◌}
use Prim.Native.Nat.{◌+◌}
use Rattle.merges.specs.Decisions.{places_merged, outcome, Going}
use Rattle.merges.proofs.decide.Given as goal

abbrev pub invariant-loop-walk : goal.invariant-loop-walk
invariant-loop-walk l =
    Going l.keys l.capacity l.lists l.walk × (outcome l.keys l.capacity l.edge l.lists l.walk ≡ places_merged l.keys l.capacity l.edge l.fn.node l.fn.target)

abbrev pub decreases-loop-walk : goal.decreases-loop-walk
decreases-loop-walk l = l.walk.node.count + l.walk.own.count
