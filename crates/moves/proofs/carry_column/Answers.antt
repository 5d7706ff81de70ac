-- `moves::carry_column` meets its contract.
use native.Mathlib.Omega.{arith}
use Rattle.moves.proofs.Gathering.{column-carried}
use Rattle.moves.proofs.carry_column.Goals as goal

pub gather_front-requires : goal.gather_front-requires
gather_front-requires c = let v = c.requires in (omega (arith, v.stays, v.apart, v.room), v.over, λ i h. omega (arith, v.low i h, v.room))

pub clear-requires : goal.clear-requires
clear-requires c = let v = c.requires in (omega (arith, v.stays), omega (arith, v.apart, v.room))

pub returns : goal.returns
returns c =
    let a = c.args in
    column-carried a.column.now c.gather_back.new.column c.gather_front.new.column c.clear.new.column a.stay.now a.target.now a.node a.start
    c.requires.low c.gather_back.ensures c.gather_front.ensures c.clear.ensures
