-- `rules_paths::paths::nodes_placed` meets its contract.
use Rattle.std.proofs.Common.{◌∙◌, refl, rules}
use borrow.Author.Tests.{tests}
use Rattle.std.proofs.lemmas.Iterator.{YieldsList-from_range}
use Rattle.std.proofs.lemmas.Iterator.Search.{all_from_yields_List}
use Rattle.lists.proofs.Ranges.{range_all}
use Rattle.plan.specs.Sizes.{most_nodes}
use Rattle.rules_paths.specs.Workers.{paths_test}
use Rattle.rules_paths.proofs.paths.nodes_placed.Goals as goal

pub returns : goal.returns
returns c =
    λ p rows.
    all_from_yields_List (paths_test p c.args.store.now) _ _ c.all.result c.all.ensures.ran (YieldsList-from_range 0 8 most_nodes refl refl) (λ x b q k. search (rules, tests))
    ∙ range_all (paths_test p c.args.store.now) 0 most_nodes
