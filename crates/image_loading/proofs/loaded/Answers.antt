-- `image_loading::loaded` meets its contract.
-- (What stands three times here is a word with its own arguments; a lemma would name as many.)
use mathlib.Core.Path.{◌≡◌, sym}
use native.Mathlib.Omega.{arith}
use Rattle.std.proofs.lemmas.Result.{err_from_is_err_and}
use Rattle.plan_table.specs.PlanTable.{plan_numbered}
use Rattle.store.proofs.Ruling.{good_rules}
use Rattle.wire.specs.Reading.{got}
use Rattle.image_loading.proofs.LoadEnds.{rows_are, begun_empty, rows_placed, nodes_read, nodes_stop, nodes_trail, nodes_break, nodes_accept}
use Rattle.image_loading.proofs.loaded.Goals as goal
use Rattle.image_loading.proofs.loaded.Goals.{In_ok-end}

pub read_nodes-requires : goal.read_nodes-requires
read_nodes-requires c =
    let r = rows_placed c.args.head c.requires c.fresh-fresh.ensures c.rows_of-rows.ensures in
    (r.0, r.1, begun_empty c.args.head c.requires c.fresh-fresh.ensures)

pub returns-in_err-end : goal.returns-in_err-end
returns-in_err-end c =
    let p = err_from_is_err_and c.from_residual.result c.from_residual.ensures.1 in
    let r = rows_are (plan_numbered c.args.head.plan) c.rows_of-rows.ensures in
    rw (p.1, p.2) (nodes_stop c.args.head c.requires c.fresh-fresh.ensures c.args.bytes.now c.args.at (c.in_err-end.ensures.laid (plan_numbered c.args.head.plan) r.0 r.1))

-- The store is what was read of the nodes.
nodes : (c : In_ok-end) → got c.read_nodes.new.store c.in_ok-end.end ≡ nodes_read c.args.head c.requires c.fresh-fresh.ensures c.args.bytes.now c.args.at
nodes c =
    let r = rows_are (plan_numbered c.args.head.plan) c.rows_of-rows.ensures in
    c.in_ok-end.ensures.laid (plan_numbered c.args.head.plan) r.0 r.1

pub returns-then-end-bytes : goal.returns-then-end-bytes
returns-then-end-bytes c =
    nodes_trail c.args.head c.requires c.fresh-fresh.ensures c.args.bytes.now c.args.at (nodes (goal.at.returns-then-end-bytes c).In_ok-end) c.if-end-bytes.true

pub returns-then-not-is_good : goal.returns-then-not-is_good
returns-then-not-is_good c =
    nodes_break c.args.head c.requires c.fresh-fresh.ensures c.args.bytes.now c.args.at (nodes (goal.at.returns-then-not-is_good c).In_ok-end) c.if-end-bytes.false
    (sym c.if-not-is_good.ensures)

pub copies_held-requires : goal.copies_held-requires
copies_held-requires c = let long = (good_rules c.read_nodes.new.store (sym c.if-not-is_good.ensures)).shape.counts_long in omega arith

pub returns : goal.returns
returns c =
    nodes_accept c.args.head c.requires c.fresh-fresh.ensures c.args.bytes.now c.args.at (nodes (goal.at.returns c).In_ok-end) c.if-end-bytes.false
    (sym c.if-not-is_good.ensures) c.copies_held.ensures
