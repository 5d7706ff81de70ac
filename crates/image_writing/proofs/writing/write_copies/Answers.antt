-- `image_writing::writing::write_copies` meets its contract.
use Rattle.wire.proofs.Parts.{write_room, write_on, write_off}
use Rattle.image_writing.proofs.writing.write_copies.Goals as goal

pub write_copy-next-requires : goal.write_copy-next-requires
write_copy-next-requires c = rw c.copy_at.ensures (write_room _ _ _ _ _ _ c.loop-i.invariant c.loop-i-test.true)

pub loop-i-preserved : goal.loop-i-preserved
loop-i-preserved c =
    write_on _ _ _ _ _ _ c.loop-i.invariant c.loop-i-test.true (rw c.copy_at.ensures at c.write_copy-next.ensures)

pub returns : goal.returns
returns c = write_off _ _ _ _ _ _ c.loop-i.invariant c.loop-i-test.false
