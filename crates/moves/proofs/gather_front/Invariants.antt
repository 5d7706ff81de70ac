-- `moves::gather_front` meets its contract.
use mathlib.Core.Path.{◌≡◌}
use Prim.Native.Nat.{ℕ, ◌+◌, ◌≤◌}
use lib.ListN.{drop}
use lib.Seq.{sets}
use Rattle.store.specs.Workers.{number_in}
use Rattle.moves.specs.Writings.{gather}
use Rattle.moves.proofs.gather_front.Given as goal

abbrev pub invariant-loop-i : goal.invariant-loop-i
invariant-loop-i l =
    ((j : ℕ) → l.start + l.i ≤ j → number_in l.column j ≡ number_in l.initial.column j)
    × (sets l.column (l.start + l.i) (gather l.initial.column (drop l.i l.list)) ≡ sets l.initial.column l.start (gather l.initial.column l.list))
