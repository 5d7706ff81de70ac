-- `rules_stamps::take_new` meets its contract.
use Rattle.std.proofs.Common.{◌≡◌, ◌+◌, ◌-◌, sym, ◌∙◌, arith}
use Rattle.rules_stamps.proofs.Taking.{down_none, down_new, stops_set, stops_first}
use Rattle.rules_stamps.proofs.take_new.Goals as goal

pub loop-at-init : goal.loop-at-init
loop-at-init c = (omega arith, c.requires.2, down_none c.args.stamps.now c.args.table.now c.args.end)

pub returns-then-mark : goal.returns-then-mark
returns-then-mark c =
    let l = c.loop-at in
    let m = c.mark in
    let here : l.at - 1 + 1 ≡ l.at = omega arith in
    rw (here, m.ensures.1)
    (stops_set c.args.stamps.now c.args.table.now c.args.end l.at l.table (omega arith) l.invariant.2 c.args.from (omega arith)
    l.invariant.1 (sym m.ensures.0 ∙ c.if-mark.true))

pub loop-at-preserved : goal.loop-at-preserved
loop-at-preserved c =
    let l = c.loop-at in
    let m = c.mark in
    let down =
    down_new c.args.stamps.now c.args.table.now c.args.end l.at l.table (omega arith) l.invariant.2 c.args.from (omega arith)
    (omega arith) (sym m.ensures.0 ∙ c.if-mark.false) in
    (omega arith, m.auto.table ∙ l.invariant.1, rw m.ensures.1 down)

pub returns : goal.returns
returns c =
    let l = c.loop-at in
    stops_first c.args.stamps.now c.args.table.now c.args.end l.at l.table (omega arith) l.invariant.2 c.args.from (omega arith) (omega arith)
