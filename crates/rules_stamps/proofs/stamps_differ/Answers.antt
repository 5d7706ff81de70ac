-- `rules_stamps::stamps_differ` meets its contract.
use Rattle.rules_stamps.proofs.Taking.{takes_nothing}
use Rattle.rules_stamps.proofs.stamps_differ.Goals as goal

pub loop-n-init : goal.loop-n-init
loop-n-init c = takes_nothing c.args.store.now
