-- `rules_stamps::take_node` meets its contract.
use Rattle.std.proofs.Common.{sym, ◌∙◌, arith}
use Rattle.rules_stamps.proofs.Taking.{reach_next, takes_node}
use Rattle.rules_stamps.proofs.take_node.Goals as goal

pub loop-at-preserved : goal.loop-at-preserved
loop-at-preserved c =
    let t = c.take_new-at-in-loop-at in
    let l = c.loop-at in
    reach_next c.args.store.now c.args.n l.at l.table l.invariant (omega arith) (sym c.stands_behind.ensures ∙ c.if-stands_behind.false) t.result
    t.new.table t.ensures

pub returns : goal.returns
returns c =
    let l = c.loop-at in
    takes_node c.args.store.now c.args.n l.at l.table l.invariant c.requires.0 (omega arith)
