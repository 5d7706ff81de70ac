-- `store::columns::open` meets its contract.
use native.Mathlib.Omega.{arith}
use borrow.Author.Rules.{rules}
use Rattle.store.proofs.Opening.{shifted}
use Rattle.store.proofs.columns.open.Goals as goal

pub returns : goal.returns
returns c =
    let a = c.args in
    let w = c.copy_within.ensures.by_index in
    shifted a.column.now a.end 0 (search rules) c.copy_within.new.self a.at a.number (omega arith) (search rules) w.1 w.0 w.2
