-- `store::Store::fresh` meets its contract.
use mathlib.Core.Path.{sym, ◌∙◌}
use borrow.Author.Rules.{rules}
use Rattle.store.proofs.Freshening.{fresh-done, fresh-refused}
use Rattle.store.proofs.Store.fresh.Goals as goal

pub returns-then-is_plan : goal.returns-then-is_plan
returns-then-is_plan c =
    fresh-done c.args.plan c.bare.result c.empty.result (sym c.is_plan.ensures ∙ c.if-is_plan.true) c.bare.ensures c.empty.ensures

pub returns-else-is_plan : goal.returns-else-is_plan
returns-else-is_plan c =
    fresh-refused c.args.plan _ _ (sym c.is_plan.ensures ∙ c.if-is_plan.false) c.from.ensures (search rules)
