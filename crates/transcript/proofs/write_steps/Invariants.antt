-- The printed lines of the steps from a place on complete those of all.
use lib.ListN.{length}
use Rattle.store.specs.Promises.{fresh_outcome}
use Rattle.transcript.proofs.TextWriting.{WritingSteps}
use Rattle.transcript.proofs.write_steps.Given as goal

abbrev pub invariant-loop-place : goal.invariant-loop-place
invariant-loop-place l = WritingSteps l.steps (length l.steps) (fresh_outcome l.plan).store l.fn.out l.from l.out l.at l.store l.place
