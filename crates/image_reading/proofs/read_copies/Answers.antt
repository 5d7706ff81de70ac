-- `image_reading::read_copies` meets its contract.
use mathlib.Core.Path.{sym, ◌∙◌}
use borrow.Author.Rules.{rules}
use Rattle.std.proofs.lemmas.Result.{err_from_is_err_and}
use Rattle.image_reading.proofs.ReadWays.{into_end, into_stops, into_turn}
use Rattle.image_reading.proofs.read_copies.Goals as goal

pub returns-in_err-copy-clause-laid : goal.returns-in_err-copy-clause-laid
returns-in_err-copy-clause-laid c =
    let p = err_from_is_err_and c.from_residual.result c.from_residual.ensures.1 in
    rw (p.1, p.2)
    (sym (into_stops c.args.bytes.now c.args.end c.loop-i.store c.loop-i.i c.loop-i.next c.loop-i-test.true (sym c.in_err-copy.ensures)) ∙ c.loop-i.invariant.0)

pub loop-i-preserved : goal.loop-i-preserved
loop-i-preserved c =
    (sym (into_turn c.args.bytes.now c.args.end c.loop-i.store c.loop-i.i c.loop-i.next c.loop-i-test.true (sym c.in_ok-copy.ensures)) ∙ c.loop-i.invariant.0, search rules, search rules, search rules)

pub returns-clause-laid : goal.returns-clause-laid
returns-clause-laid c = sym (into_end c.args.bytes.now c.args.end c.loop-i.store c.loop-i.i c.loop-i.next c.loop-i-test.false) ∙ c.loop-i.invariant.0
