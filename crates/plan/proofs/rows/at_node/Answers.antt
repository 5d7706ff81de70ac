-- `plan::rows::at_node` meets its contract.
use mathlib.Core.Path.{sym}
use native.Mathlib.Omega.{arith}
use borrow.Author.Rules.{rules}
use Rattle.plan.proofs.ArrayLaws.{at_within, at_past}
use Rattle.plan.proofs.rows.at_node.Goals as goal

pub returns-then-n-lt-MOST_NODES : goal.returns-then-n-lt-MOST_NODES
returns-then-n-lt-MOST_NODES c =
    let a = c.args in
    sym (at_within a.row.now a.node (search rules))

pub returns-else-n-lt-MOST_NODES : goal.returns-else-n-lt-MOST_NODES
returns-else-n-lt-MOST_NODES c =
    let a = c.args in
    sym (at_past a.row.now a.node (omega arith))
