-- `store::Copy::has_value` meets its contract.
use mathlib.Core.Path.{sym}
use Rattle.store.proofs.KindLaws.{valued_is}
use Rattle.store.proofs.Copy.has_value.Goals as goal

pub returns : goal.returns
returns c = sym (valued_is _)
