-- `page::writing::write_page` meets its contract.
use Rattle.page.proofs.PageWriting.{page_wrote}
use Rattle.page.proofs.writing.write_page.Goals as goal

pub returns : goal.returns
returns c = page_wrote c.args.sample c.args.lines.now c.write_at-after_sample.ensures c.write_at-after_count.ensures c.write_lines.ensures
