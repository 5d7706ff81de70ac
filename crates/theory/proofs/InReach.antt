-- Contents in reach of a state that meets the rules: the paper's equation (5), and the newest of the copies that a node leads to.
use mathlib.Core.Path.{◌≡◌, refl, ap, ◌∙◌}
use mathlib.Core.Logic.{◌⊎◌, inl, inr}
use mathlib.Core.List.{List}
use mathlib.Core.Option.{Option, none, some}
use Prim.Native.Nat.{ℕ, ◌<◌, ◌≤◌}
use native.Mathlib.Omega.{arith}
use Rattle.lists.proofs.Options.{option?, not_none_and_some}
use Rattle.plan.specs.Plan.{Hop}
use Rattle.std.specs.Prelude.{Some, None}
use Rattle.plan.specs.Plan.{Plan, size, next, path_from, IsPath, Reach}
use Rattle.plan.specs.Plan.IsPath.{last, more}
use Rattle.plan.specs.Plan.Reach.{here, there}
use Rattle.plan.specs.PlanRules.{PlanRules}
use Rattle.plan.proofs.NextLaws.{hop?, one_target, next_edge, next_down, edge_next}
use Rattle.plan.proofs.PathLaws.{path_is, reach_le}
use Rattle.store.specs.declared.Copy.{Copy}
use Rattle.store.specs.Copies.{stamp_of}
use Rattle.store.specs.State.{State, line, or_else, first_on, in_reach}
use Rattle.store.specs.StateRules.{StateRules}
use Rattle.store.proofs.RulingLines.{reach_ends, reach_goes}
use Rattle.steps.proofs.RulesOnLines.{line_rules}
use Rattle.theory.specs.Paper.{Edgeset, InReachEquation}

-- The first copy on a path stands in a node that the path's first leads to.
first_led_to : (hop : ℕ → Hop) (l : ℕ → Option Copy) (y : Copy) {n : ℕ} {ns : List ℕ} → IsPath hop n ns → first_on l ns ≡ some y
    → (m : ℕ) × Reach hop n m × (l m ≡ some y)
unfolding first_on
first_led_to hop l y (last {n = n} h) e = go (option? (l n))
  where
    go : (l n ≡ none) ⊎ ((x : Copy) × (l n ≡ some x)) → (m : ℕ) × Reach hop n m × (l m ≡ some y)
    go (inl q) = let f : none ≡ some y = rw q at e in absurd (not_none_and_some refl f)
    go (inr w) = let f : some w.0 ≡ some y = rw w.1 at e in (n, here, w.1 ∙ f)
first_led_to hop l y (more {n = n} {t = t} {ns = ns} h r) e = go (option? (l n)) (first_led_to hop l y r)
  where
    go : (l n ≡ none) ⊎ ((x : Copy) × (l n ≡ some x)) → (first_on l ns ≡ some y → (m : ℕ) × Reach hop t m × (l m ≡ some y))
        → (m : ℕ) × Reach hop n m × (l m ≡ some y)
    go (inl q) again = let w = again (rw q at e) in (w.0, there h w.1, w.2)
    go (inr w) again = let f : some w.0 ≡ some y = rw w.1 at e in (n, here, w.1 ∙ f)

module _ (p : Plan) (rules : PlanRules p) where
  -- An edgeset gives the key's next step, and the next step an edgeset;
  pub edgeset_next : (n m k : ℕ) → Edgeset p n m k → next p n k ≡ Some m
  edgeset_next n m k d = edge_next p rules n d.edge k d.is_edge d.key ∙ ap Some d.target

  pub next_edgeset : (n m k : ℕ) → next p n k ≡ Some m → Edgeset p n m k
  next_edgeset n m k e =
      let w = next_edge p n k m e in
      record { edge = w.0; is_edge = w.1.is_edge; target = w.1.goes; key = w.1.held }

  -- so "the edgesets of all outgoing edges of a node n are pairwise disjoint".
  pub edgesets_apart : (n m l k : ℕ) → Edgeset p n m k → Edgeset p n l k → m ≡ l
  edgesets_apart n m l k d e = one_target (edgeset_next n m k d) (edgeset_next n l k e)

  module _ (s : State) (k : ℕ) where
    -- Contents-in-reach satisfies the paper's equation.
    pub in_reach_equation : (n : ℕ) → n < size p → InReachEquation p s n k
    in_reach_equation n h =
        record {
          here = λ x e. reach_goes p rules s k n h ∙ ap (λ (o : Option Copy). or_else o (in_reach p s k (next p n k))) e;
          below = λ e m d. passed e ∙ ap (in_reach p s k) (edgeset_next n m k d);
          nowhere = λ e f. passed e ∙ ends f (hop? (next p n k));
        }
      where
        passed : line s k n ≡ none → in_reach p s k (Some n) ≡ in_reach p s k (next p n k)
        passed e = reach_goes p rules s k n h ∙ ap (λ (o : Option Copy). or_else o (in_reach p s k (next p n k))) e

        ends : ((m : ℕ) → Edgeset p n m k → ⊥) → (next p n k ≡ None) ⊎ ((t : ℕ) × (next p n k ≡ Some t))
            → in_reach p s k (next p n k) ≡ none
        ends f (inl e) = ap (in_reach p s k) e ∙ reach_ends p rules s k
        ends f (inr w) = absurd (f w.0 (next_edgeset n w.0 k w.1))

    -- What is in reach of a node is held in a node that it leads to,
    pub in_reach-held : (n : ℕ) (y : Copy) → n < size p → in_reach p s k (Some n) ≡ some y
        → (m : ℕ) × Reach (λ j. next p j k) n m × (line s k m ≡ some y)
    unfolding in_reach path_from
    in_reach-held n y h e = first_led_to (λ j. next p j k) (line s k) y (path_is p rules k n h) e

    -- and is the newest held there.
    pub in_reach_newest : StateRules p s → {n m : ℕ} → Reach (λ j. next p j k) n m → n < size p → (y : Copy) → line s k m ≡ some y
        → y.stamp ≤ stamp_of (in_reach p s k (Some n))
    in_reach_newest good (here {n = n}) h y e =
        omega (arith, ap stamp_of ((in_reach_equation n h).here y e))
    in_reach_newest good (there {n = n} {t = t} {m = m} f r) h y e =
        go (in_reach_newest good r down.1 y e) (option? (line s k n))
      where
        down : (n < t) × (t < size p)
        down = next_down p rules n k t f

        lower : n < m
        lower = omega (arith, down.0, reach_le (λ j. next p j k) (size p) (λ a b. next_down p rules a k b) r)

        go : y.stamp ≤ stamp_of (in_reach p s k (Some t)) → (line s k n ≡ none) ⊎ ((x : Copy) × (line s k n ≡ some x))
            → y.stamp ≤ stamp_of (in_reach p s k (Some n))
        go again (inl q) = omega (arith, ap stamp_of ((in_reach_equation n h).below q t (next_edgeset n t k f)))
        go again (inr w) =
            omega (
              arith,
              (line_rules p s good).fall k n m w.0 y w.1 e lower,
              ap stamp_of ((in_reach_equation n h).here w.0 w.1),
            )
