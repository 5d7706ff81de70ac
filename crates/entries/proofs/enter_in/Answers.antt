-- `entries::enter_in` meets its contract.
use mathlib.Core.Path.{refl}
use borrow.Author.Rules.{rules}
use Rattle.entries.proofs.Entering.{enters_held}
use Rattle.entries.proofs.enter_in.Goals as goal

pub returns : goal.returns
returns c = let a = c.args in enters_held a.store.now a.key a.value a.value refl (search rules)
