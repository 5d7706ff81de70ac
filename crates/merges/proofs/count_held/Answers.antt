-- `merges::count_held` meets its contract.
use Rattle.std.proofs.Common.{rules}
use Rattle.std.proofs.iter.runs.Made.{chains}
use Rattle.std.proofs.lemmas.Iterator.{YieldsList-from_slice}
use Rattle.std.proofs.lemmas.Iterator.Adapters.{serves_from_places}
use Rattle.store.specs.Layout.{places}
use Rattle.merges.proofs.Deciding.{held_count, within_at}
use Rattle.merges.proofs.count_held.Goals as goal

-- Each number of the list is a place.
pub count-requires-clause-can : goal.count-requires-clause-can
count-requires-clause-can c =
    let list = c.args.list.now in (
      tt,
      tt,
      serves_from_places (YieldsList-from_slice list (search rules)) (λ x q r. search (rules, chains))
          (λ x k h e. let low = within_at list places c.requires x.now k h e in search (rules, chains)),
    )

pub returns : goal.returns
returns c = search (rules, chains, held_count)
