-- `store::Store::idle_slots` meets its contract.
use mathlib.Core.Path.{ap}
use lib.ListN.{replicate}
use Rattle.store.specs.State.{slot_count}
use Rattle.store.proofs.Store.idle_slots.Goals as goal

pub returns : goal.returns
returns c = ap (replicate slot_count) c.idle.ensures
