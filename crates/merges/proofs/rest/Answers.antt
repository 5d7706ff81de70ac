-- `merges::rest` meets its contract.
use mathlib.Core.Path.{◌∙◌}
use native.Mathlib.Omega.{arith}
use Rattle.merges.proofs.Deciding.{one_more, begins}
use Rattle.merges.proofs.rest.Goals as goal

pub loop-place-init : goal.loop-place-init
loop-place-init c = let a = c.args in (omega arith, begins a.own.from a.target.now.items)

pub loop-place-preserved : goal.loop-place-preserved
loop-place-preserved c =
    let a = c.args in
    let i = c.loop-place.invariant in
    (omega (arith, i.0, c.push.ensures.len), c.push.ensures.items ∙ one_more c.loop-place.target.items a.own.from c.loop-place.place a.target.now.items (omega arith) i.1)
