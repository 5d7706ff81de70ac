-- Invariant 6, with edgesets cut to the keys that reach their node.
use mathlib.Core.Path.{◌≡◌, refl, sym, ◌∙◌}
use mathlib.Core.Bool.{true, false}
use mathlib.Core.Logic.{◌⊎◌, inl, inr}
use mathlib.Core.List.{List, [], ◌∷◌}
use mathlib.Core.Option.{Option, none, some}
use Prim.Native.Nat.{ℕ, zero, suc, ◌<◌}
use native.Mathlib.Omega.{arith}
use native.Mathlib.Nat.{le_of_suc-le-suc, not-suc-le-zero}
use lib.Dec.{eqb}
use lib.ListN.{length, get_or}
use borrow.Author.Tests.{eqb-true, eq-eqb}
use Rattle.lists.proofs.Truths.{bool?, not_both, or_cases}
use Rattle.std.proofs.lemmas.Bool.{or_left, or_right}
use Rattle.lists.proofs.Options.{option?, not_none_and_some}
use Rattle.plan.specs.Plan.{Plan, size, next, path, IsPath}
use Rattle.plan.specs.Plan.IsPath.{last, more}
use Rattle.plan.specs.PlanRules.{PlanRules}
use Rattle.plan.proofs.NextLaws.{not_both_hops, next_down}
use Rattle.plan.proofs.PathLaws.{path_is}
use Rattle.store.specs.declared.Copy.{Copy}
use Rattle.store.specs.Copies.{member}
use Rattle.store.specs.State.{State, line}
use Rattle.store.specs.StateRules.{StateRules}
use Rattle.steps.proofs.RulesOnLines.{line_rules}
use Rattle.theory.specs.Paper.{Contents, ContentsInReach}
use Rattle.theory.proofs.InReach.{edgeset_next, next_edgeset, in_reach_equation}
use Rattle.paper.specs.Graph.{Inset, CutEdgeset, CutInset, CutEquation, CutInReach, InReachInInset}
use Rattle.paper.specs.Graph.Inset.{root, down}
use Rattle.paper.specs.Graph.CutInset.{root as cut-root, down as cut_down}
use Rattle.paper.proofs.Graphs.{inset_on_path, on_path_inset}

-- A number of a list stands at a place.
member_at : (n : ℕ) (ns : List ℕ) → member n ns ≡ true → (i : ℕ) × (i < length ns) × (get_or ns i 0 ≡ n)
unfolding member
member_at n [] t = absurd (not_both t refl)
member_at n (m ∷ ns) t = go (or_cases (eqb n m) (member n ns) t) (member_at n ns)
  where
    go : (eqb n m ≡ true) ⊎ (member n ns ≡ true) → (member n ns ≡ true → (i : ℕ) × (i < length ns) × (get_or ns i 0 ≡ n))
        → (i : ℕ) × (i < suc (length ns)) × (get_or (m ∷ ns) i 0 ≡ n)
    go (inl e) again = (0, omega arith, sym (eqb-true n m e))
    go (inr e) again = let w = again e in (suc w.0, omega (arith, w.1), w.2)

at_member : (n : ℕ) (ns : List ℕ) (i : ℕ) → i < length ns → get_or ns i 0 ≡ n → member n ns ≡ true
unfolding member
at_member n [] i h e = absurd (not-suc-le-zero h)
at_member n (m ∷ ns) zero h e = or_left (eqb n m) (member n ns) (eq-eqb n m (sym e))
at_member n (m ∷ ns) (suc i) h e = or_right (eqb n m) (member n ns) (at_member n ns i (le_of_suc-le-suc h) e)

module _ (p : Plan) (rules : PlanRules p) where
  -- A key is in a node's inset exactly when the node is on its path.
  pub inset_member : (k n : ℕ) → Inset p k n → member n (path p k) ≡ true
  inset_member k n i = let w = inset_on_path p rules k i in at_member n (path p k) w.0 w.1.inside w.1.here

  pub member_inset : (k n : ℕ) → member n (path p k) ≡ true → Inset p k n
  member_inset k n t =
      let w = member_at n (path p k) t in
      on_path_inset p rules k n w.0 (record { inside = w.1; here = w.2 })

  -- The cut changes no inset.
  cut_inset : (k : ℕ) {n : ℕ} → Inset p k n → CutInset p k n
  cut_inset k root = cut-root
  cut_inset k (down i d) = cut_down (cut_inset k i) (record { edgeset = d; reaches = i })

  module _ (s : State) (good : StateRules p s) where
    -- What a node holds reaches it.
    held_inset : (n k : ℕ) (x : Copy) → Contents s n k ≡ some x → Inset p k n
    held_inset n k x e = let w = (line_rules p s good).paths k n x e in on_path_inset p rules k n w.0 w.1

    cut_same : (n k : ℕ) → Inset p k n → CutInReach p s n k ≡ ContentsInReach p s n k
    cut_same n k i = rw (inset_member k n i)

    cut_none : (n k : ℕ) → member n (path p k) ≡ false → CutInReach p s n k ≡ none
    cut_none n k e = rw e

    in_inset : (n k : ℕ) (x : Copy) → CutInReach p s n k ≡ some x → Inset p k n
    in_inset n k x e = go (bool? (member n (path p k)))
      where
        go : (member n (path p k) ≡ true) ⊎ (member n (path p k) ≡ false) → Inset p k n
        go (inl t) = member_inset k n t
        go (inr f) = absurd (not_none_and_some (cut_none n k f) e)

    equation : (n k : ℕ) → n < size p → CutEquation p s k (λ m. CutInReach p s m k) n
    equation n k h =
        record {
          here = λ x e. cut_same n k (held_inset n k x e) ∙ (in_reach_equation p rules s k n h).here x e;
          below =
              λ e m d.
              cut_same n k d.reaches
              ∙ ((in_reach_equation p rules s k n h).below e m d.edgeset ∙ sym (cut_same m k (down d.reaches d.edgeset)));
          nowhere = λ e f. ends e f (bool? (member n (path p k)));
        }
      where
        ends : Contents s n k ≡ none → ((m : ℕ) → CutEdgeset p n m k → ⊥) → (member n (path p k) ≡ true) ⊎ (member n (path p k) ≡ false)
            → CutInReach p s n k ≡ none
        ends e f (inl t) =
            let i = member_inset k n t in
            cut_same n k i ∙ (in_reach_equation p rules s k n h).nowhere e (λ m d. f m (record { edgeset = d; reaches = i }))
        ends e f (inr t) = cut_none n k t

    -- The equation has one solution.
    module _ (k : ℕ) (C D : ℕ → Option Copy) (c : (n : ℕ) → n < size p → CutEquation p s k C n)
        (d : (n : ℕ) → n < size p → CutEquation p s k D n) where
      no_cut_edge : (n : ℕ) → member n (path p k) ≡ false → (m : ℕ) → CutEdgeset p n m k → ⊥
      no_cut_edge n f m e = not_both (inset_member k n e.reaches) f

      one_solution : {n : ℕ} {ns : List ℕ} → IsPath (λ j. next p j k) n ns → n < size p → C n ≡ D n
      one_solution (last {n = n} e) h = go (option? (line s k n))
        where
          ends : (m : ℕ) → CutEdgeset p n m k → ⊥
          ends m q = not_both_hops e (edgeset_next p rules n m k q.edgeset)

          go : (line s k n ≡ none) ⊎ ((x : Copy) × (line s k n ≡ some x)) → C n ≡ D n
          go (inl f) = (c n h).nowhere f ends ∙ sym ((d n h).nowhere f ends)
          go (inr w) = (c n h).here w.0 w.1 ∙ sym ((d n h).here w.0 w.1)
      one_solution (more {n = n} {t = t} e r) h =
          go (option? (line s k n)) (bool? (member n (path p k))) (one_solution r (next_down p rules n k t e).1)
        where
          go : (line s k n ≡ none) ⊎ ((x : Copy) × (line s k n ≡ some x)) → (member n (path p k) ≡ true) ⊎ (member n (path p k) ≡ false)
              → C t ≡ D t → C n ≡ D n
          go (inr w) b again = (c n h).here w.0 w.1 ∙ sym ((d n h).here w.0 w.1)
          go (inl f) (inr g) again = (c n h).nowhere f (no_cut_edge n g) ∙ sym ((d n h).nowhere f (no_cut_edge n g))
          go (inl f) (inl g) again =
              let q : CutEdgeset p n t k = record { edgeset = next_edgeset p rules n t k e; reaches = member_inset k n g } in
              (c n h).below f t q ∙ (again ∙ sym ((d n h).below f t q))

    pub invariant_6 : InReachInInset p s
    invariant_6 =
        record {
          in_inset = in_inset;
          equation = equation;
          only_one =
              λ k C c n h.
              one_solution k C (λ m. CutInReach p s m k) c (λ m g. equation m k g) (path_is p rules k n h) h;
          same_inset = λ n k. cut_inset k;
          same_in_reach = cut_same;
        }
