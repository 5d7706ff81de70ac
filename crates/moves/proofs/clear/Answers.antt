-- `moves::clear` meets its contract.
use Rattle.std.proofs.Common.{◌≡◌, ◌-◌, replicate, arith, rules}
use Rattle.moves.proofs.Gathering.{part_written}
use Rattle.moves.proofs.clear.Goals as goal

pub returns : goal.returns
returns c =
    let a = c.args in
    let zeros : c.fill.new.self ≡ replicate (a.end - a.from) 0 = search rules in
    rw zeros (part_written a.column.now (replicate (a.end - a.from) 0) a.from (a.end - a.from) (omega arith) (search rules))
