-- `transcript::write_steps` meets its contract.
use native.Mathlib.Omega.{arith}
use Rattle.transcript.proofs.TextWriting.{steps_turn, steps_end}
use Rattle.transcript.proofs.write_steps.Goals as goal

pub loop-place-preserved : goal.loop-place-preserved
loop-place-preserved c = steps_turn c.args.steps.now _ c.loop-place.invariant (omega arith) c.do_in-answer.ensures c.print_into-at.ensures

pub returns : goal.returns
returns c = steps_end c.args.steps.now _ c.loop-place.invariant (omega arith)
