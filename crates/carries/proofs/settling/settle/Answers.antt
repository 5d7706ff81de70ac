-- `carries::settling::settle` meets its contract.
use mathlib.Core.Path.{refl, sym}
use borrow.Author.Rules.{rules}
use Rattle.store.specs.Answers.{BADSTORE, bare}
use Rattle.store.proofs.Lifting.{on_broken}
use Rattle.steps.specs.Carries.{carry_step}
use Rattle.carries.specs.Settlings.{Carriable}
use Rattle.carries.proofs.Carrying.{no_node, no_such_edge, carriable}
use Rattle.carries.proofs.settling.settle.Goals as goal
use Rattle.carries.proofs.settling.settle.Goals.{After-capacity}

pub returns-in_err-check : goal.returns-in_err-check
returns-in_err-check c =
    let a = c.args in
    let w = c.in_err-check.ensures in
    let e = on_broken (carry_step a.node a.edge) a.store.now w.1 (bare BADSTORE) refl in
    search (e, w.0, rules)

pub returns-then-rows-node : goal.returns-then-rows-node
returns-then-rows-node c =
    let a = c.args in
    no_node a.store.now c.in_ok-check.ensures a.node a.edge c.rows_of-rows.result.now c.rows_of-rows.ensures c.if-rows-node.true

pub returns-in_err-e : goal.returns-in_err-e
returns-in_err-e c =
    let a = c.args in
    let none = rw c.in_err-e.ensures.ok_part at (sym c.edge.ensures) in
    let e = no_such_edge a.store.now c.in_ok-check.ensures a.node a.edge c.rows_of-rows.result.now c.rows_of-rows.ensures c.if-rows-node.false none in
    search (e, rules)

-- The edge that is asked for.
known : (c : After-capacity) → Carriable c.args.store.now c.args.node c.args.edge c.in_ok-e.e c.capacity.result c.args.store.now
known c =
    let a = c.args in
    carriable a.store.now c.in_ok-check.ensures a.node a.edge c.rows_of-rows.result.now c.rows_of-rows.ensures c.if-rows-node.false
    c.in_ok-e.e (rw c.in_ok-e.ensures.ok_part at (sym c.edge.ensures)) c.capacity.result c.capacity.ensures

pub along-requires : goal.along-requires
along-requires c = (c.args.store.now, c.args.edge, known (goal.at.along-requires c).After-capacity)

pub returns : goal.returns
returns c = c.along.ensures c.args.store.now c.args.edge (known (goal.at.returns c).After-capacity)
