-- `rules_nodes::nodes_tidy` meets its contract.
use Rattle.std.proofs.Common.{◌∙◌, refl, rules}
use borrow.Author.Tests.{tests}
use Rattle.std.proofs.lemmas.Iterator.{YieldsList-from_range}
use Rattle.std.proofs.lemmas.Iterator.Search.{all_from_yields_List}
use Rattle.lists.proofs.Ranges.{range_all}
use Rattle.plan.specs.Sizes.{most_nodes}
use Rattle.rules_nodes.specs.Workers.{tidy_test}
use Rattle.rules_nodes.proofs.nodes_tidy.Goals as goal

pub returns : goal.returns
returns c =
    let tidy = tidy_test c.args.rows.now c.args.store.now in
    all_from_yields_List tidy _ _ c.all.result c.all.ensures.ran (YieldsList-from_range 0 8 most_nodes refl refl) (λ x b q k. search (rules, tests))
    ∙ range_all tidy 0 most_nodes
