-- `page::paged` meets its contract.
use mathlib.Core.Path.{refl}
use borrow.Author.Rules.{rules}
use native.Mathlib.Omega.{arith}
use Rattle.page.proofs.PageWays.{page_refused, page_too_small, page_done}
use Rattle.page.proofs.paged.Goals as goal

pub returns-in_err-n : goal.returns-in_err-n
returns-in_err-n c =
    let e = page_refused c.args.store.now c.args.sample c.args.buffer.now c.in_err-n.ensures refl in
    search (e, rules)

pub returns-then-buffer-n : goal.returns-then-buffer-n
returns-then-buffer-n c =
    page_too_small c.args.store.now c.args.sample c.args.buffer.now c.in_ok-n.ensures.0 c.in_ok-n.ensures.1 (omega arith) c.with.ensures

pub returns : goal.returns
returns c =
    page_done c.args.store.now c.args.sample c.args.buffer.now c.in_ok-n.ensures.0 c.in_ok-n.ensures.1 (omega arith) c.of.ensures
    (rw c.copy_from_slice.ensures.after)
