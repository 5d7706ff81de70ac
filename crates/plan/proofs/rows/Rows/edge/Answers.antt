-- `plan::rows::Rows::edge` meets its contract.
use mathlib.Core.Path.{sym, ◌∙◌, ap}
use native.Mathlib.Omega.{arith}
use Rattle.std.specs.Prelude.{Some}
use Rattle.plan.specs.declared.Edge.{Edge}
use Rattle.plan.proofs.ArrayLaws.{counted_within, edge_some, edge_none}
use Rattle.plan.proofs.rows.Rows.edge.Goals as goal

pub returns-then-edge_count-edge : goal.returns-then-edge_count-edge
returns-then-edge_count-edge c =
    let r = c.args.self.now in
    sym (edge_none r.counts r.lows r.highs r.targets c.args.node c.args.edge (omega arith))

pub edge_at-requires : goal.edge_at-requires
edge_at-requires c =
    (counted_within c.args.self.now.counts c.args.node c.edge_count.result c.args.edge c.edge_count.ensures (omega arith), omega arith)

pub returns : goal.returns
returns c =
    let r = c.args.self.now in
    ap (λ (e : Edge). Some e) c.edge_at.ensures ∙ sym (edge_some r.counts r.lows r.highs r.targets c.args.node c.args.edge (omega arith))
