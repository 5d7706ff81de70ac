-- `page::writing::write_line` meets its contract.
use Rattle.page.proofs.PageWriting.{line_wrote}
use Rattle.page.proofs.writing.write_line.Goals as goal

pub returns : goal.returns
returns c = line_wrote c.args.line c.write_at-after_analyte.ensures c.write_value-after_value.ensures c.write_at.ensures
