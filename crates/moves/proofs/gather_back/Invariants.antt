-- `moves::gather_back` meets its contract.
use mathlib.Core.Path.{◌≡◌}
use Prim.Native.Nat.{ℕ, ◌+◌, ◌<◌}
use lib.ListN.{take}
use lib.Seq.{sets}
use Rattle.store.specs.Workers.{number_in}
use Rattle.moves.specs.Writings.{gather}
use Rattle.moves.proofs.gather_back.Given as goal

abbrev pub invariant-loop-i : goal.invariant-loop-i
invariant-loop-i l =
    ((j : ℕ) → j < l.start + l.i → number_in l.column j ≡ number_in l.initial.column j)
    × (sets l.column l.start (gather l.initial.column (take l.i l.list)) ≡ sets l.initial.column l.start (gather l.initial.column l.list))
