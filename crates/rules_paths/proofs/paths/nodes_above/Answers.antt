-- `rules_paths::paths::nodes_above` meets its contract.
use Rattle.std.proofs.Common.{◌≡◌, suc, ◌+◌, ◌-◌, refl, sym, ◌∙◌, arith}
use Rattle.plan.proofs.RowsLent.{next_here}
use Rattle.rules_paths.proofs.Walking.{place_out, place_ends, place_here, place_later, root_here, root_later}
use Rattle.rules_paths.proofs.paths.nodes_above.Goals as goal

pub returns-then-node-eq0 : goal.returns-then-node-eq0
returns-then-node-eq0 c = λ p rows. sym (root_here p rows.rules c.args.key c.args.node c.if-node-eq0.true)

pub returns-in_err-at : goal.returns-in_err-at
returns-in_err-at c =
    let a = c.args in
    λ p rows.
    c.from_residual.ensures
    ∙ sym
    (root_later p rows.rules a.key a.node c.if-node-eq0.false
    ∙ place_ends p a.key _ _ a.node 1 (sym (next_here rows 0 a.key c.next.result c.next.ensures) ∙ c.in_err-at.was))

pub loop-above-init : goal.loop-above-init
loop-above-init c =
    let a = c.args in
    λ p rows.
    root_later p rows.rules a.key a.node c.if-node-eq0.false
    ∙ rw (sym (next_here rows 0 a.key c.next.result c.next.ensures) ∙ c.in_ok-at.was, sym rows.nodes_are)

pub returns-then-node-at : goal.returns-then-node-at
returns-then-node-at c =
    let l = c.loop-above in
    λ p rows.
    sym (l.invariant p rows ∙ place_here p c.args.key (c.args.rows.now.nodes - l.above) _ c.args.node l.above l.at (omega arith) refl c.if-node-at.true)

pub returns-in_err-at-2 : goal.returns-in_err-at-2
returns-in_err-at-2 c =
    let l = c.loop-above in
    let left = c.args.rows.now.nodes - l.above in
    λ p rows.
    c.from_residual-in_err-at-2.ensures
    ∙ sym
    (l.invariant p rows ∙ place_later p c.args.key left _ c.args.node l.above l.at (omega arith) refl c.if-node-at.false
    ∙ place_ends p c.args.key (left - 1) _ c.args.node (suc l.above)
    (sym (next_here rows l.at c.args.key c.next-in-loop-above.result c.next-in-loop-above.ensures) ∙ c.in_err-at-2.was))

pub loop-above-preserved : goal.loop-above-preserved
loop-above-preserved c =
    let l = c.loop-above in
    let nodes = c.args.rows.now.nodes in
    let left : nodes - l.above - 1 ≡ nodes - (l.above + 1) = omega arith in
    let on : suc l.above ≡ l.above + 1 = omega arith in
    λ p rows.
    l.invariant p rows ∙ place_later p c.args.key (nodes - l.above) _ c.args.node l.above l.at (omega arith) refl c.if-node-at.false
    ∙ rw (sym (next_here rows l.at c.args.key c.next-in-loop-above.result c.next-in-loop-above.ensures) ∙ c.in_ok-at-2.was, left, on)

pub returns : goal.returns
returns c =
    let l = c.loop-above in
    λ p rows. sym (l.invariant p rows ∙ place_out p c.args.key (c.args.rows.now.nodes - l.above) _ c.args.node l.above (omega arith))
