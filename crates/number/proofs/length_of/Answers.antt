-- `number::length_of` meets its contract. The loop keeps `Counting`; its measure is the rest.
use borrow.Author.Rules.{rules}
use Rattle.number.proofs.Writer.{count_starts, count_turns, count_ends}
use Rattle.number.proofs.length_of.Goals as goal

pub loop-rest-init : goal.loop-rest-init
loop-rest-init c = count_starts _ (search rules)

pub loop-rest-preserved : goal.loop-rest-preserved
loop-rest-preserved c = count_turns c.loop-rest-test.true c.loop-rest.invariant

pub returns : goal.returns
returns c = count_ends c.loop-rest-test.false c.loop-rest.invariant
