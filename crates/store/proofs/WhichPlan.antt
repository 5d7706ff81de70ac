-- Which plan a store has: the only laws that open `plan_of`.
use mathlib.Core.Path.{◌≡◌, refl, sym, ap, ◌∙◌, subst}
use mathlib.Core.Bool.{true}
use mathlib.Core.List.{List}
use Prim.Native.Nat.{ℕ, ◌≤◌}
use Rattle.lists.proofs.Truths.{both_le}
use Rattle.plan.specs.declared.Edge.{Edge}
use Rattle.plan.specs.Plan.{Plan, size}
use Rattle.plan.specs.PlanRules.{PlanRules}
use Rattle.plan.specs.declared.rows.Rows.{Rows}
use Rattle.plan.specs.PlanArrays.{Grid, RowsOf, RowsOfPlan, rows_of, capacities_row, counts_row, grid_of}
use Rattle.plan_table.specs.PlanTable.{plan_numbered, plans}
use Rattle.plan_table.proofs.TableLaws.{table_rules}
use Rattle.store.specs.declared.Store.{Store}
use Rattle.store.specs.State.{State}
use Rattle.store.specs.Layout.{plan_of, store_of}
use Rattle.store.specs.StoreRules.{plan_number_test}

-- It is that of the store's number,
pub plan_numbered_lem : (z : Store) → plan_of z ≡ plan_numbered z.plan
unfolding plan_of
plan_numbered_lem z = refl

-- whatever the state is.
pub plan_back : (plan : ℕ) (s : State) → plan_of (store_of plan s) ≡ plan_numbered plan
unfolding store_of
plan_back plan s = plan_numbered_lem (store_of plan s)

-- A store with a plan's number has a plan that meets the plan rules.
module _ (z : Store) where
  pub known_rules : (1 ≤ z.plan) × (z.plan ≤ plans) → PlanRules (plan_of z)
  known_rules known = subst PlanRules (sym (plan_numbered_lem z)) (table_rules z.plan known.0 known.1)

  pub number_rules : plan_number_test z.plan ≡ true → PlanRules (plan_of z)
  unfolding plan_number_test
  number_rules t = known_rules (both_le 1 z.plan z.plan plans t)

  -- The capacities taken by the store's number are its plan's,
  pub capacities_known : (capacities : List ℕ) → capacities ≡ capacities_row (plan_numbered z.plan) → capacities ≡ capacities_row (plan_of z)
  capacities_known capacities e = e ∙ ap capacities_row (sym (plan_numbered_lem z))

  -- and so are the node count and the rows.
  pub rows_known : PlanRules (plan_of z) → (nodes : ℕ) (edges : List ℕ) (lows highs targets : Grid)
      → nodes ≡ size (plan_numbered z.plan) → edges ≡ counts_row (plan_numbered z.plan)
      → lows ≡ grid_of (λ (e : Edge). e.lowest) (plan_numbered z.plan) → highs ≡ grid_of (λ (e : Edge). e.highest) (plan_numbered z.plan)
      → targets ≡ grid_of (λ (e : Edge). e.target) (plan_numbered z.plan) → RowsOf (plan_of z) nodes edges lows highs targets
  rows_known rules nodes edges lows highs targets n e l h t =
      let same = sym (plan_numbered_lem z) in
      record {
        rules = rules;
        nodes_are = n ∙ ap (λ (p : Plan). size p) same;
        edges_are = e ∙ ap counts_row same;
        lows_are = l ∙ ap (grid_of (λ (d : Edge). d.lowest)) same;
        highs_are = h ∙ ap (grid_of (λ (d : Edge). d.highest)) same;
        targets_are = t ∙ ap (grid_of (λ (d : Edge). d.target)) same;
      }

  -- The rows taken by the store's number are those of its plan, if that meets the plan rules,
  pub rows_here : PlanRules (plan_of z) → (r : Rows) → r ≡ rows_of (plan_numbered z.plan) → RowsOfPlan (plan_of z) r
  unfolding rows_of
  rows_here rules r e =
      rows_known rules r.nodes r.counts r.lows r.highs r.targets (ap (λ (s : Rows). s.nodes) e) (ap (λ (s : Rows). s.counts) e)
      (ap (λ (s : Rows). s.lows) e) (ap (λ (s : Rows). s.highs) e) (ap (λ (s : Rows). s.targets) e)

  -- and so are the capacities.
  pub capacities_here : (r : Rows) → r ≡ rows_of (plan_numbered z.plan) → r.capacities ≡ capacities_row (plan_of z)
  unfolding rows_of
  capacities_here r e = capacities_known r.capacities (ap (λ (s : Rows). s.capacities) e)
