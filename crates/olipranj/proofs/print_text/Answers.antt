-- The text of what was read is written.
use Rattle.std.proofs.Common.{rules}
use Rattle.olipranj.proofs.Printing.{prints_first, done_still}
use Rattle.olipranj.proofs.print_text.Goals as goal

pub returns-clause-text : goal.returns-clause-text
returns-clause-text g c =
    let read = c.in_ok-length.ensures in
    done_still c.write_all.result c.map_err.result c.map_err.ensures.variant
    (prints_first _ _ _ _ _ _ _ _ (search rules) read.within read.bytes read.whole c.transcribe-written.ensures) c.write_all.ensures.bytes
