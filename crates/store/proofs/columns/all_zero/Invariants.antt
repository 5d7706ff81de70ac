-- `store::columns::all_zero` meets its contract.
use mathlib.Core.Path.{◌≡◌}
use mathlib.Core.Bool.{◌&&◌}
use lib.Dec.{eqb}
use lib.Seq.{slice}
use Rattle.store.specs.StoreRules.{all_zero}
use Rattle.store.proofs.columns.all_zero.Given as goal

-- What was seen and what is still to see decide.
abbrev pub invariant-loop-i : goal.invariant-loop-i
invariant-loop-i l = (eqb l.seen 0 && all_zero (slice l.i l.end l.column)) ≡ all_zero (slice l.from l.end l.column)
