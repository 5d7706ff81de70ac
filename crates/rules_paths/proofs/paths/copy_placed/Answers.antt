-- `rules_paths::paths::copy_placed` meets its contract.
use Rattle.std.proofs.Common.{sym, ◌∙◌}
use Rattle.store.specs.Workers.{number_in}
use Rattle.rules_paths.proofs.Standing.{above_member}
use Rattle.rules_paths.proofs.Placing.{placed_off, placed_falls}
use Rattle.rules_paths.proofs.paths.copy_placed.Goals as goal

pub returns-then-is_some : goal.returns-then-is_some
returns-then-is_some c =
    let a = c.args in
    λ p rows.
    let on = above_member p (number_in a.store.now.keys a.i) a.node c.nodes_above.result c.is_some.result (c.nodes_above.ensures p rows) c.is_some.ensures in
    sym (placed_falls p a.store.now a.node a.i (sym on ∙ c.if-is_some.true) c.stamp_below.result (c.stamp_below.ensures p rows))

pub returns-else-is_some : goal.returns-else-is_some
returns-else-is_some c =
    let a = c.args in
    λ p rows.
    let on = above_member p (number_in a.store.now.keys a.i) a.node c.nodes_above.result c.is_some.result (c.nodes_above.ensures p rows) c.is_some.ensures in
    c.if-is_some.false ∙ sym (placed_off p a.store.now a.node a.i (sym on ∙ c.if-is_some.false))
