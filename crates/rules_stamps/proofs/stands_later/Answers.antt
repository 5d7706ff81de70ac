-- `rules_stamps::stands_later` meets its contract.
use Rattle.std.proofs.Common.{◌-◌, ◌∙◌, refl, rules}
use borrow.Author.Tests.{tests}
use Rattle.std.proofs.lemmas.Iterator.{YieldsList-from_range}
use Rattle.std.proofs.lemmas.Iterator.Search.{any_from_yields_List}
use Rattle.plan.specs.Sizes.{most_nodes}
use Rattle.rules_stamps.proofs.Taking.{in_node, in_some}
use Rattle.rules_stamps.proofs.stands_later.Goals as goal

pub returns : goal.returns
returns c =
    let a = c.args in
    any_from_yields_List (in_node a.store.now a.stamp) _ _ c.any.result c.any.ensures.ran (YieldsList-from_range a.node most_nodes (most_nodes - a.node) refl refl) (λ x b q k. search (rules, tests))
    ∙ in_some a.store.now a.stamp a.node (most_nodes - a.node)
