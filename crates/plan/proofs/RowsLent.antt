-- The rows of a plan, lent, say what the plan does.
use mathlib.Core.Path.{◌≡◌, refl, ap, ◌∙◌}
use mathlib.Core.List.{List}
use Prim.Native.Nat.{ℕ}
use lib.ListN.{length, get_or}
use Rattle.plan.specs.Plan.{Hop}
use Rattle.plan.specs.declared.Edge.{Edge}
use Rattle.plan.specs.Plan.{Plan, no_edge, size, capacity_of, edges_of, edge_of, first_edge, next}
use Rattle.plan.specs.PlanRules.{PlanRules}
use Rattle.plan.specs.PlanArrays.{Grid, RowsOf, at_node, edge_count_in, edges_in, capacities_row, counts_row}
use Rattle.plan.proofs.ArrayLaws.{capacities_back, count_back, edges_back}

-- The rows of a plan that meets the plan rules give its capacities, edge counts, edges and next steps.
module _ (p : Plan) (rules : PlanRules p) where
  pub capacity_of_lem : (cs : List ℕ) → cs ≡ capacities_row p → (n : ℕ) → at_node cs n ≡ capacity_of p n
  capacity_of_lem cs e n = ap (λ (l : List ℕ). at_node l n) e ∙ capacities_back p rules.nodes_within.1 n

  pub count_of_lem : (cs : List ℕ) → cs ≡ counts_row p → (n : ℕ) → edge_count_in cs n ≡ length (edges_of p n)
  count_of_lem cs e n = ap (λ (l : List ℕ). edge_count_in l n) e ∙ count_back p rules.nodes_within.1 rules.edges_within n

module _ {p : Plan} {nodes : ℕ} {edges : List ℕ} {lows highs targets : Grid} (rows : RowsOf p nodes edges lows highs targets) where
  -- The node count is the plan's own.
  pub own_count : RowsOf p (size p) edges lows highs targets
  own_count =
      record {
        rules = rows.rules;
        nodes_are = refl;
        edges_are = rows.edges_are;
        lows_are = rows.lows_are;
        highs_are = rows.highs_are;
        targets_are = rows.targets_are;
      }

  edges_of_lem : (n : ℕ) → edges_in edges lows highs targets n ≡ edges_of p n
  edges_of_lem n =
      rw (rows.edges_are, rows.lows_are, rows.highs_are, rows.targets_are)
      (edges_back p rows.rules.nodes_within.1 rows.rules.edges_within n)

  pub edge_here : (n i : ℕ) (e : Edge) → e ≡ get_or (edges_in edges lows highs targets n) i no_edge → e ≡ edge_of p n i
  edge_here n i e q = q ∙ ap (λ (es : List Edge). get_or es i no_edge) (edges_of_lem n)

  pub next_here : (n k : ℕ) (h : Hop) → h ≡ first_edge (edges_in edges lows highs targets n) k → h ≡ next p n k
  unfolding next
  next_here n k h q = q ∙ ap (λ (es : List Edge). first_edge es k) (edges_of_lem n)
