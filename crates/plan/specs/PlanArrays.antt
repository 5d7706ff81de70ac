-- A plan as arrays: capacities and edge counts by node; lowest keys, highest keys and targets by node and then by edge.
-- The only file of the plan's definitions that knows how it is laid out.
use Rattle.std.specs.Prelude.{◌≡◌, cond, List, [], ℕ, min, ltb, length, get_or, Option, Some, None}
use Rattle.lists.specs.Indexed.{tabulate}
use Rattle.plan.specs.declared.Edge.{Edge}
use Rattle.plan.specs.declared.rows.Rows.{Rows}
use Rattle.plan.specs.Sizes.{most_nodes, most_edges}
use Rattle.plan.specs.Plan.{Plan, no_edge, size, capacity_of, edges_of, edge_of}
use Rattle.plan.specs.PlanRules.{PlanRules}

-- A number for each edge, by node and then by edge.
abbrev pub Grid : Type 0
Grid = List (List ℕ)

-- The number for edge i of node n.
abbrev pub cell : Grid → ℕ → ℕ → ℕ
cell g n i = get_or (get_or g n []) i 0

-- The edge i of node n.
abbrev pub edge_in : Grid → Grid → Grid → ℕ → ℕ → Edge
edge_in lows highs targets n i = record { lowest = cell lows n i; highest = cell highs n i; target = cell targets n i }

-- What a row by node has for node n; 0 past the last node that there are places for.
unfoldable pub at_node : List ℕ → ℕ → ℕ
at_node row n = cond (ltb n most_nodes) (get_or row n 0) 0

-- How many edges node n has: as many as are counted, and no more than there are places for.
abbrev pub edge_count_in : List ℕ → ℕ → ℕ
edge_count_in counts n = min (at_node counts n) most_edges

-- The edges of node n.
unfoldable pub edges_in : List ℕ → Grid → Grid → Grid → ℕ → List Edge
edges_in counts lows highs targets n = tabulate 0 (edge_count_in counts n) (edge_in lows highs targets n)

-- The capacities of a plan, by node: 0 where it has no node.
unfoldable pub capacities_row : Plan → List ℕ
capacities_row p = tabulate 0 most_nodes (capacity_of p)

-- The numbers of its edges, by node.
unfoldable pub counts_row : Plan → List ℕ
counts_row p = tabulate 0 most_nodes (λ n. length (edges_of p n))

-- A number of each of its edges: 0 where it has no edge.
unfoldable pub grid_of : (Edge → ℕ) → Plan → Grid
grid_of part p = tabulate 0 most_nodes (λ n. tabulate 0 most_edges (λ i. part (edge_of p n i)))

-- The node count and the rows, taken once and lent, are those of a plan that meets the plan rules.
pub record RowsOf (p : Plan) (nodes : ℕ) (edges : List ℕ) (lows highs targets : Grid) : Type 0 where
  pub rules : PlanRules p
  pub nodes_are : nodes ≡ size p
  pub edges_are : edges ≡ counts_row p
  pub lows_are : lows ≡ grid_of (λ (e : Edge). e.lowest) p
  pub highs_are : highs ≡ grid_of (λ (e : Edge). e.highest) p
  pub targets_are : targets ≡ grid_of (λ (e : Edge). e.target) p

-- ---- the rows as the declared record

-- The edges of node n, by the rows.
abbrev pub row_edges : Rows → ℕ → List Edge
row_edges r n = edges_in r.counts r.lows r.highs r.targets n

-- The edge by its number, from 0, if the list has so many.
unfoldable pub edge_numbered : List Edge → ℕ → Option Edge
edge_numbered es i = cond (ltb i (length es)) (Some (get_or es i no_edge)) None

-- The rows are those of a plan that meets the plan rules.
abbrev pub RowsOfPlan : Plan → Rows → Type 0
RowsOfPlan p r = RowsOf p r.nodes r.counts r.lows r.highs r.targets

-- A fact of each plan that has these rows.
abbrev pub OfEachPlan : Rows → (Plan → Type 0) → Type 0
OfEachPlan r fact = (p : Plan) → RowsOfPlan p r → fact p

-- The rows of a plan.
unfoldable pub rows_of : Plan → Rows
rows_of p =
    record {
      nodes = size p;
      capacities = capacities_row p;
      counts = counts_row p;
      lows = grid_of (λ (e : Edge). e.lowest) p;
      highs = grid_of (λ (e : Edge). e.highest) p;
      targets = grid_of (λ (e : Edge). e.target) p;
    }
