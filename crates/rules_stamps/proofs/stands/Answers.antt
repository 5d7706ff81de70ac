-- `rules_stamps::stands` meets its contract.
use Rattle.std.proofs.Common.{◌∙◌, arith}
use Rattle.store.specs.Workers.{number_in}
use Rattle.rules_stamps.proofs.Taking.{stands_turn}
use Rattle.rules_stamps.proofs.stands.Goals as goal

pub loop-i-preserved : goal.loop-i-preserved
loop-i-preserved c =
    stands_turn (number_in c.args.stamps.now) c.loop-i.i c.args.end c.args.stamp c.loop-i.found (omega arith) ∙ c.loop-i.invariant
