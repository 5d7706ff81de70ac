-- `moves::gather_back` meets its contract.
use mathlib.Core.Path.{◌∙◌}
use native.Mathlib.Omega.{arith}
use Rattle.moves.proofs.Gathering.{back_turn}
use Rattle.moves.proofs.gather_back.Goals as goal

pub loop-i-preserved : goal.loop-i-preserved
loop-i-preserved c =
    let a = c.args in
    let i = c.loop-i.invariant in
    let t = back_turn c.loop-i.column a.column.now a.list.now a.start c.loop-i.i (omega arith) (omega arith) c.requires.1 i.0 in
    (t.0, t.1 ∙ i.1)
