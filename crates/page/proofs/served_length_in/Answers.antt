-- `page::served_length_in` meets its contract.
use mathlib.Core.Path.{sym, ◌∙◌}
use Rattle.page.proofs.PageWays.{length_refused, length_stale, length-fresh}
use Rattle.page.proofs.served_length_in.Goals as goal

pub returns-in_default : goal.returns-in_default
returns-in_default c = length_refused c.args.store.now c.args.sample c.args.kept.now c.in_default.ensures.0

pub returns-then-starts_with : goal.returns-then-starts_with
returns-then-starts_with c =
    length-fresh c.args.store.now c.args.sample c.args.kept.now c.in-Ok.ensures.0 c.in-Ok.ensures.1
    (sym c.starts_with.ensures.value ∙ c.if-starts_with.true)

pub returns-else-starts_with : goal.returns-else-starts_with
returns-else-starts_with c =
    length_stale c.args.store.now c.args.sample c.args.kept.now c.in-Ok.ensures.0 c.in-Ok.ensures.1
    (sym c.starts_with.ensures.value ∙ c.if-starts_with.false)
