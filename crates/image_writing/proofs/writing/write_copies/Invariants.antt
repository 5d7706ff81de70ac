-- `image_writing::writing::write_copies` meets its contract.
use Prim.Native.Nat.{◌-◌}
use Rattle.lists.specs.Indexed.{tabulate}
use Rattle.store.specs.Layout.{copy_of}
use Rattle.image_writing.specs.Image.{copies_bytes}
use Rattle.image_writing.proofs.WriteWays.{WritesCopies}
use Rattle.image_writing.proofs.writing.write_copies.Given as goal

abbrev pub invariant-loop-i : goal.invariant-loop-i
invariant-loop-i l =
    WritesCopies (copy_of l.store) l.end l.fn.buffer l.at (copies_bytes (tabulate l.from (l.end - l.from) (copy_of l.store))) l.i l.next l.buffer
