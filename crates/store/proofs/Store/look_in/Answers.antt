-- `store::Store::look_in` meets its contract.
use mathlib.Core.Path.{◌∙◌}
use Rattle.store.proofs.Laying.{node_looked}
use Rattle.store.proofs.Store.look_in.Goals as goal

pub returns : goal.returns
returns c =
    let z = c.args.self.now in
    c.look_among.ensures ∙ node_looked z.counts z.keys z.kinds z.values z.stamps c.args.node c.args.key
