-- `plan::rows::Rows::next` meets its contract. The loop's invariant: what is left of the edges gives the key's next step. The measure is their number.
use mathlib.Core.Path.{sym, ◌∙◌}
use Prim.Native.Nat.{ℕ}
use native.Mathlib.Omega.{arith}
use Rattle.plan.specs.declared.Edge.{Edge}
use Rattle.plan.specs.PlanArrays.{edge_in}
use Rattle.plan.proofs.ArrayLaws.{counted_within, looks_from, looked, found, looks_on}
use borrow.Author.Rules.{rules}
use Rattle.plan.proofs.rows.Rows.next.Goals as goal
use Rattle.plan.proofs.rows.Rows.next.Goals.{Start}

-- The edges of the node.
abbrev edges : Start → ℕ → Edge
edges s = edge_in s.args.self.now.lows s.args.self.now.highs s.args.self.now.targets s.args.node

pub loop-e-init : goal.loop-e-init
loop-e-init c =
    let a = c.args in (
      search rules,
      search rules,
      c.edge_count-count.ensures,
      looks_from a.self.now.counts a.self.now.lows a.self.now.highs a.self.now.targets a.node c.edge_count-count.result a.key c.edge_count-count.ensures,
    )

pub returns-then-count-e : goal.returns-then-count-e
returns-then-count-e c =
    sym (c.loop-e.invariant.3 ∙ looked (edges (goal.at.returns-then-count-e c).Start) c.loop-e.e c.edge_count-count.result c.args.key c.if-count-e.true)

pub edge_at-edge-requires : goal.edge_at-edge-requires
edge_at-edge-requires c =
    (counted_within c.args.self.now.counts c.args.node c.edge_count-count.result c.loop-e.e c.loop-e.invariant.2 (omega arith), omega arith)

pub loop-e-preserved : goal.loop-e-preserved
loop-e-preserved c =
    let f = edges (goal.at.loop-e-preserved c).Start in (
      omega arith,
      omega arith,
      c.loop-e.invariant.2,
      c.loop-e.invariant.3
          ∙ looks_on f c.loop-e.e c.edge_count-count.result c.args.key (omega arith) (rw c.edge_at-edge.ensures at (sym c.holds.ensures ∙ c.if-holds.false)),
    )

pub returns : goal.returns
returns c =
    let f = edges (goal.at.returns c).Start in
    rw c.edge_at-edge.ensures
    (sym
    (c.loop-e.invariant.3
    ∙ found f c.loop-e.e c.edge_count-count.result c.args.key (omega arith) (rw c.edge_at-edge.ensures at (sym c.holds.ensures ∙ c.if-holds.true))))
