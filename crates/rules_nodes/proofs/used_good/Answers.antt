-- `rules_nodes::used_good` meets its contract.
use Rattle.std.proofs.Common.{◌-◌, ◌∙◌, refl, rules}
use borrow.Author.Tests.{tests}
use Rattle.std.proofs.lemmas.Iterator.{YieldsList-from_range}
use Rattle.std.proofs.lemmas.Iterator.Search.{all_from_yields_List}
use Rattle.lists.proofs.Ranges.{range_all}
use Rattle.rules_nodes.specs.Workers.{used_test}
use Rattle.rules_nodes.proofs.used_good.Goals as goal

pub returns : goal.returns
unfolding used_test
returns c =
    let a = c.args in
    let used = used_test a.store.now a.end in
    all_from_yields_List used _ _ c.all.result c.all.ensures.ran (YieldsList-from_range a.from a.end (a.end - a.from) refl refl) (λ x b q k. search (rules, tests))
    ∙ range_all used a.from (a.end - a.from)
