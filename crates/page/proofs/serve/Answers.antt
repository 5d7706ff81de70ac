-- `page::serve` meets its promise.
use borrow.Author.Rules.{rules}
use lib.Seq.{length-take-le}
use Rattle.page.proofs.PageWays.{serve_notice, serve_fits, serve_kept}
use Rattle.page.proofs.serve.Goals as goal

pub returns-then-n-eq0 : goal.returns-then-n-eq0
returns-then-n-eq0 c =
    let a = c.args in
    serve_notice a.store a.sample a.kept a.notice c.served_length_in-n.ensures (search rules)

pub slice_bounds-result-end : goal.slice_bounds-result-end
slice_bounds-result-end c =
    let a = c.args in
    let fits = serve_fits a.store a.sample a.kept a.notice c.served_length_in-n.ensures (search rules) in
    search (rules, fits, length-take-le)

pub returns : goal.returns
returns c =
    let a = c.args in
    serve_kept a.store a.sample a.kept a.notice c.served_length_in-n.ensures (search rules)
