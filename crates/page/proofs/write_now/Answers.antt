-- `page::write_now` meets its contract.
use borrow.Author.Rules.{rules}
use native.Mathlib.Omega.{arith}
use Rattle.page.proofs.PageWays.{good_gather, lines_fit, page_held}
use Rattle.page.proofs.write_now.Goals as goal

pub gather-lines-requires : goal.gather-lines-requires
gather-lines-requires c =
    let good = c.in_ok-check.ensures in
    good_gather c.args.store.now good c.in_ok-sample.sample.number _ c.rows_of.ensures

pub write_page-requires : goal.write_page-requires
write_page-requires c =
    let good = c.in_ok-check.ensures in
    let fit =
    lines_fit c.args.store.now good c.in_ok-sample.sample.number _ c.rows_of.ensures c.gather-lines.result.items c.gather-lines.ensures (omega arith)
    in
    rw c.as_slice.ensures.value (fit.0, omega arith)

pub returns : goal.returns
returns c =
    let good = c.in_ok-check.ensures in
    rw (rw c.in_ok-sample.ensures.ok_part at c.numbered.ensures) at (
    page_held c.args.store.now good c.in_ok-sample.sample.number _ c.rows_of.ensures c.gather-lines.result.items c.gather-lines.ensures (omega arith)
    (search rules) (rw c.as_slice.ensures.value at c.write_page.ensures)
    )
