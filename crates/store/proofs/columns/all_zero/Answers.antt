-- `store::columns::all_zero` meets its contract.
use mathlib.Core.Path.{sym, ap, ◌∙◌}
use mathlib.Core.Bool.{◌&&◌, and-true}
use native.Mathlib.Omega.{arith}
use lib.Dec.{eqb}
use Rattle.store.proofs.Zeros.{zero_turn, zero_end}
use Rattle.store.proofs.columns.all_zero.Goals as goal

pub loop-i-preserved : goal.loop-i-preserved
loop-i-preserved c =
    let a = c.args in
    zero_turn a.column.now c.loop-i.i a.end c.loop-i.seen (omega arith) (omega arith) ∙ c.loop-i.invariant

pub returns : goal.returns
returns c =
    let a = c.args in
    sym (and-true (eqb c.loop-i.seen 0)) ∙ ap (λ rest. eqb c.loop-i.seen 0 && rest) (sym (zero_end a.column.now c.loop-i.i a.end (omega arith))) ∙ c.loop-i.invariant
