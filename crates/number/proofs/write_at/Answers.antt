-- `number::write_at` meets its contract. The loop keeps `Writing`; its measure is the rest.
use borrow.Author.Rules.{rules}
use Rattle.number.proofs.Writer.{write_starts, write_room, write_turns, write_ends}
use Rattle.number.proofs.write_at.Goals as goal

pub loop-rest-init : goal.loop-rest-init
loop-rest-init c = write_starts _ _ _ (search rules) c.requires

pub bounds-buffer-i : goal.bounds-buffer-i
bounds-buffer-i c = write_room c.loop-rest.invariant

pub loop-rest-preserved : goal.loop-rest-preserved
loop-rest-preserved c = write_turns c.loop-rest-test.true c.loop-rest.invariant

pub bounds-buffer-i-2 : goal.bounds-buffer-i-2
bounds-buffer-i-2 c = write_room c.loop-rest.invariant

pub returns : goal.returns
returns c = write_ends c.loop-rest-test.false c.loop-rest.invariant
