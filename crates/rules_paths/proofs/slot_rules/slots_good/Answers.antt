-- `rules_paths::slot_rules::slots_good` meets its contract.
use Rattle.std.proofs.Common.{◌∙◌, rules}
use borrow.Author.Tests.{tests}
use Rattle.std.proofs.lemmas.Iterator.{YieldsList-from_slice}
use Rattle.std.proofs.lemmas.Iterator.Search.{all_from_yields_List}
use Rattle.store.specs.StoreRules.{slot_test}
use Rattle.rules_paths.proofs.Resting.{slots_all}
use Rattle.rules_paths.proofs.slot_rules.slots_good.Goals as goal

pub returns : goal.returns
returns c =
    let slots = c.args.slots.now in
    λ p rows.
    all_from_yields_List (slot_test p) _ _ c.all.result c.all.ensures.ran (YieldsList-from_slice slots (search rules)) (λ x b q k. search (rules, tests))
    ∙ slots_all p slots (search rules)
