-- `rules_paths::slot_rules::slot_good` meets its contract.
use Rattle.std.proofs.Common.{sym, ◌∙◌}
use Rattle.rules_paths.proofs.Standing.{above_stands}
use Rattle.rules_paths.proofs.Resting.{slot_idle, slot_runs, slot_strange}
use Rattle.rules_paths.proofs.slot_rules.slot_good.Goals as goal

pub returns-then-eq : goal.returns-then-eq
returns-then-eq c = λ p rows. c.if-eq.true ∙ sym (slot_idle p c.args.slot (rw c.idle.ensures at (sym c.eq.ensures ∙ c.if-eq.true)))

pub returns-then-runs : goal.returns-then-runs
returns-then-runs c =
    let q = c.args.slot in
    λ p rows. c.eq-then-runs.ensures
    ∙ rw (c.nodes_above.ensures p rows) (above_stands p q.key q.node rows.rules q.visits) ∙ sym (slot_runs p q (sym c.runs.ensures ∙ c.if-runs.true))

pub returns-else-runs : goal.returns-else-runs
returns-else-runs c =
    let q = c.args.slot in
    λ p rows. c.if-runs.false
    ∙ sym (slot_strange p q (rw c.idle.ensures at (sym c.eq.ensures ∙ c.if-eq.false)) (sym c.runs.ensures ∙ c.if-runs.false))
