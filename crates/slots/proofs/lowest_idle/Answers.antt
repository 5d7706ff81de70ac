-- `slots::lowest_idle` meets its contract.
use lib.Dec.{eqb}
use borrow.Author.Rules.{rules}
use Rattle.std.proofs.Common.{tests}
use Rattle.std.proofs.lemmas.Iterator.{YieldsList-from_slice}
use Rattle.std.proofs.lemmas.Iterator.Search.{position_from_yields_List}
use Rattle.store.specs.declared.Slot.{Slot}
use Rattle.store.specs.State.{idle_mark}
use Rattle.slots.proofs.Idling.{idle_found}
use Rattle.slots.proofs.lowest_idle.Goals as goal

pub returns : goal.returns
returns c =
    idle_found c.args.slots.now c.position.result (search rules)
    (position_from_yields_List (λ (q : Slot). eqb q.running idle_mark) _ _ c.position.result c.position.ensures.ran
    (YieldsList-from_slice c.args.slots.now cc) (λ x b q k. search (rules, tests)))
