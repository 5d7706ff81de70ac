-- The paper's graph: a plan has no way round, a key is in a node's inset exactly when the node is on its path, and invariants 5 and 7
-- hold.
use mathlib.Core.Path.{◌≡◌, ap, subst}
use mathlib.Core.Logic.{◌⊎◌, inl, inr}
use mathlib.Core.Option.{none, some}
use Prim.Native.Nat.{ℕ, ◌<◌, ◌≤◌}
use native.Mathlib.Omega.{arith}
use Rattle.lists.proofs.Options.{option?}
use Rattle.lists.proofs.Orders.{Order, order?}
use Rattle.lists.proofs.Orders.Order.{less, equal, more as greater}
use Rattle.std.specs.Prelude.{Some}
use Rattle.plan.specs.Plan.{Plan, size, next, Reach}
use Rattle.plan.specs.Plan.Reach.{here, there}
use Rattle.plan.specs.PlanRules.{PlanRules}
use Rattle.plan.proofs.NextLaws.{next_down}
use Rattle.plan.proofs.PathLaws.{reach_le, path_on}
use Rattle.store.specs.declared.Copy.{Copy}
use Rattle.store.specs.Copies.{stamp_of}
use Rattle.store.specs.State.{State, line, in_reach}
use Rattle.store.specs.StateRules.{OnPath, StateRules}
use Rattle.steps.proofs.RulesOnLines.{line_rules}
use Rattle.steps.proofs.OnPaths.{none_between, next_on_path, root_on_path}
use Rattle.theory.specs.Paper.{Edgeset}
use Rattle.theory.proofs.InReach.{edgeset_next, next_edgeset, in_reach-held}
use Rattle.paper.specs.Graph.{EdgeTo, Way, Acyclic, Inset, OlderBelow, PredecessorsApart}
use Rattle.paper.specs.Graph.Way.{one, more}
use Rattle.paper.specs.Graph.Inset.{root, down}

module _ (p : Plan) (rules : PlanRules p) where
  edge_down : (n m : ℕ) → EdgeTo p n m → n < m
  edge_down n m e = omega (arith, (rules.target_greater_and_exists n e.edge e.is_edge).0, e.target)

  way_down : {n m : ℕ} → Way p n m → n < m
  way_down (one {n = n} {m = m} e) = edge_down n m e
  way_down (more {n = n} {t = t} e w) = omega (arith, edge_down n t e, way_down w)

  -- No way round: numbers rise along every edge.
  pub acyclic : Acyclic p
  acyclic n w = let h : n < n = way_down w in omega arith

  -- A key is in a node's inset exactly when the node is on its path.
  pub inset_on_path : (k : ℕ) {n : ℕ} → Inset p k n → (above : ℕ) × OnPath p k n above
  inset_on_path k root = (0, root_on_path p rules k)
  inset_on_path k (down {n = n} {m = m} i d) =
      let w = inset_on_path k i in
      (_, next_on_path p rules k n m w.0 w.1 (edgeset_next p rules n m k d))

  leads_inset : (k : ℕ) {n m : ℕ} → Reach (λ j. next p j k) n m → Inset p k n → Inset p k m
  leads_inset k here i = i
  leads_inset k (there {n = n} {t = t} e r) i = leads_inset k r (down i (next_edgeset p rules n t k e))

  pub on_path_inset : (k n above : ℕ) → OnPath p k n above → Inset p k n
  on_path_inset k n above o = subst (λ (m : ℕ). Inset p k m) o.here (leads_inset k (path_on p rules k above o.inside) root)

  -- Invariant 7.
  two_above : (n q m k : ℕ) → Edgeset p n m k → Edgeset p q m k → Inset p k n → Inset p k q → n < q → ⊥
  two_above n q m k d e i j h =
      let a = inset_on_path k i in
      let b = inset_on_path k j in
      let le : m ≤ q = none_between p rules k n m q a.0 b.0 a.1 (edgeset_next p rules n m k d) b.1 h in
      let lt : q < m = (next_down p rules q k m (edgeset_next p rules q m k e)).0 in
      omega arith

  pub invariant_7 : PredecessorsApart p
  invariant_7 n q m k ne d e i j = go (order? n q)
    where
      go : Order n q → ⊥
      go (less h) = two_above n q m k d e i j h
      go (equal h) = ne h
      go (greater h) = two_above q n m k e d j i h

  -- Invariant 5.
  pub invariant_5 : (s : State) → StateRules p s → OlderBelow p s
  invariant_5 s good n m k d f = go (option? (line s k n)) (option? (in_reach p s k (Some m)))
    where
      down_edge : (n < m) × (m < size p)
      down_edge = next_down p rules n k m (edgeset_next p rules n m k d)

      below : {l : ℕ} → Reach (λ j. next p j k) m l → n < l
      below r = omega (arith, down_edge.0, reach_le (λ j. next p j k) (size p) (λ a b. next_down p rules a k b) r)

      go : (line s k n ≡ none) ⊎ ((x : Copy) × (line s k n ≡ some x))
          → (in_reach p s k (Some m) ≡ none) ⊎ ((y : Copy) × (in_reach p s k (Some m) ≡ some y))
          → stamp_of (in_reach p s k (Some m)) < stamp_of (line s k n)
      go (inl e) o = absurd (f e)
      go (inr w) (inl e) = omega (arith, ap stamp_of e, ap stamp_of w.1, ((line_rules p s good).stamps k n w.0 w.1).0)
      go (inr w) (inr u) =
          let v = in_reach-held p rules s k m u.0 down_edge.1 u.1 in
          omega (
            arith,
            ap stamp_of u.1,
            ap stamp_of w.1,
            (line_rules p s good).fall k n v.0 w.0 u.0 w.1 v.2 (below v.1),
          )
