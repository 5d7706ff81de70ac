-- `merges::rest` meets its contract.
use mathlib.Core.Path.{◌≡◌}
use mathlib.Core.List.{◌++◌}
use Prim.Native.Nat.{◌+◌, ◌-◌}
use lib.ListN.{length}
use Rattle.merges.specs.Decisions.{span}
use Rattle.merges.proofs.rest.Given as goal

abbrev pub invariant-loop-place : goal.invariant-loop-place
invariant-loop-place l =
    (length l.target.items ≡ length l.initial.target.items + (l.place - l.fn.own.from))
    × (l.target.items ≡ l.initial.target.items ++ span l.fn.own.from (l.place - l.fn.own.from))
