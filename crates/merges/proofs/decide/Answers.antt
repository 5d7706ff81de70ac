-- `merges::decide` meets its contract.
use mathlib.Core.Path.{refl}
use native.Mathlib.Omega.{arith}
use Rattle.merges.specs.declared.Lists.{Lists}
use Rattle.merges.proofs.Deciding.{start_going, start_outcome, decided}
use Rattle.merges.proofs.decide.Goals as goal

pub loop-walk-init : goal.loop-walk-init
loop-walk-init c =
    let a = c.args in
    let lists : Lists = record { stay = c.clear.new.self; target = c.clear-2.new.self } in (
      start_going a.keys.now a.capacity a.edge a.node a.target lists c.clear.ensures c.clear-2.ensures c.requires,
      start_outcome a.keys.now a.capacity a.edge a.node a.target lists c.clear.ensures c.clear-2.ensures,
    )

pub returns : goal.returns
returns c =
    let a = c.args in
    decided a.edge c.loop-walk.invariant.0 (omega arith) _ c.loop-walk.invariant.1 _ refl c.rest.ensures
