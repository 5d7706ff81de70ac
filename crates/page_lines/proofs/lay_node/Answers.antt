-- `page_lines::lay_node` meets its contract. The loop's invariant: what is laid over, with what is still to come, is the whole node's.
use mathlib.Core.Path.{◌∙◌}
use native.Mathlib.Omega.{arith}
use borrow.Author.Rules.{rules}
use Rattle.page_lines.proofs.NodePlaces.{lay_starts, lay_low, lay_ends, lay_stops, lay_turns, node-laid}
use Rattle.page_lines.proofs.lay_node.Goals as goal

pub loop-at-init : goal.loop-at-init
loop-at-init c = lay_starts _ _ _ _ (omega arith) c.requires.1.rises _ _ c.seek-start.ensures (search rules)

pub overflow_sub-key : goal.overflow_sub-key
overflow_sub-key c = lay_low _ _ _ _ (omega arith) c.requires.1.rises _ _ _ c.loop-at.invariant c.loop-at.at (omega arith) (omega arith)

pub loop-at-preserved : goal.loop-at-preserved
loop-at-preserved c = lay_turns _ _ _ _ (omega arith) c.requires.1.rises _ _ _ c.loop-at.invariant (omega arith) (omega arith)

pub returns-after-loop-at : goal.returns-after-loop-at
returns-after-loop-at c =
    lay_ends _ _ _ _ (omega arith) c.requires.1.rises _ _ _ c.loop-at.invariant (omega arith)
    ∙ node-laid _ _ _ _

pub returns-then-last-key : goal.returns-then-last-key
returns-then-last-key c =
    lay_stops _ _ _ _ (omega arith) c.requires.1.rises _ _ _ c.loop-at.invariant (omega arith) (omega arith)
    ∙ node-laid _ _ _ _
