-- `store::Store::empty` meets its contract.
use mathlib.Core.Path.{sym}
use Rattle.store.proofs.Freshening.{fresh_store_is}
use Rattle.store.proofs.Store.empty.Goals as goal

pub returns : goal.returns
returns c = rw c.idle_slots.ensures (sym (fresh_store_is c.args.plan))
