-- `lines::print` meets its contract.
use borrow.Author.Rules.{rules}
use Rattle.lines.proofs.LineLaws.{line_there}
use Rattle.lines.proofs.print.Goals as goal

pub returns : goal.returns
returns g c = rw (← line_there c.args.first c.args.answer c.print_into-end.ensures (search rules)) c.write_all.ensures.bytes
