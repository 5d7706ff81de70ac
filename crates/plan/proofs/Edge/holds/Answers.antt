-- `plan::Edge::holds` meets its contract.
use borrow.Author.Tests.{le-leb, lt-leb}
use Rattle.plan.specs.Plan.{holds}
use Rattle.plan.proofs.Edge.holds.Goals as goal

pub returns-then-self-key : goal.returns-then-self-key
unfolding holds
returns-then-self-key c = rw (le-leb c.args.self.lowest c.args.key c.if-self-key.true)

pub returns-else-self-key : goal.returns-else-self-key
unfolding holds
returns-else-self-key c = rw (lt-leb c.args.self.lowest c.args.key c.if-self-key.false)
