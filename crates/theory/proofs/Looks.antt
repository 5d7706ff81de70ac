-- A look's answer: the line's current result, after as many visits as there are path nodes down to the first that has a copy, or all.
-- (That a search with nothing in between ends with the same answer is steps' law search_is_look.)
use mathlib.Core.Path.{◌≡◌, refl, sym, ap, ◌∙◌}
use mathlib.Core.Logic.{◌⊎◌, inl, inr}
use mathlib.Core.List.{List, [], ◌∷◌}
use mathlib.Core.Option.{Option, none, some}
use Prim.Native.Nat.{ℕ, zero, suc, ◌<◌, ◌≤◌}
use native.Mathlib.Omega.{arith}
use native.Mathlib.Nat.{le_of_suc-le-suc}
use lib.ListN.{length, get_or}
use Rattle.lists.proofs.Options.{option?, not_none_and_some}
use Rattle.plan.specs.Plan.{Plan, next, path}
use Rattle.plan.specs.PlanRules.{PlanRules}
use Rattle.plan.proofs.NextLaws.{root_in_plan}
use Rattle.plan.proofs.PathLaws.{path_is, path_some}
use Rattle.store.specs.declared.Copy.{Copy}
use Rattle.store.specs.State.{State, line, first_on}
use Rattle.steps.specs.Searches.{visits_on, look_answer}
use Rattle.theory.specs.Looking.{VisitsUntil, LookAnswer}

visits_here : (l : ℕ → Option Copy) (n : ℕ) (ns : List ℕ) (x : Copy) → l n ≡ some x → VisitsUntil l (n ∷ ns) (visits_on l (n ∷ ns))
unfolding visits_on first_on
visits_here l n ns x e =
    let first : first_on l (n ∷ ns) ≡ some x = rw e in
    rw e
    (record {
      within = omega arith;
      before = λ j h. absurd (omega arith);
      last_visit = λ j h. let z : j ≡ 0 = omega arith in rw z (e ∙ sym first);
      or_all = λ f. absurd (not_none_and_some f first);
    })

unvisited : (l : ℕ → Option Copy) (ns : List ℕ) → visits_on l ns ≡ 0 → first_on l ns ≡ none
unfolding visits_on first_on
unvisited l [] z = refl
unvisited l (n ∷ ns) z = absurd (omega arith)

visits_on_lem : (l : ℕ → Option Copy) (n : ℕ) (ns : List ℕ) → l n ≡ none → VisitsUntil l ns (visits_on l ns)
    → VisitsUntil l (n ∷ ns) (visits_on l (n ∷ ns))
unfolding visits_on first_on
visits_on_lem l n ns e again =
    let first : first_on l (n ∷ ns) ≡ first_on l ns = rw e in
    rw e
    (record {
      within = omega (arith, again.within);
      before = before;
      last_visit = at first;
      or_all = λ f. ap suc (again.or_all (sym first ∙ f));
    })
  where
    before : (j : ℕ) → suc j < suc (visits_on l ns) → l (get_or (n ∷ ns) j 0) ≡ none
    before zero h = e
    before (suc j) h = again.before j (le_of_suc-le-suc h)

    at : first_on l (n ∷ ns) ≡ first_on l ns → (j : ℕ) → suc j ≡ suc (visits_on l ns) → l (get_or (n ∷ ns) j 0) ≡ first_on l (n ∷ ns)
    at first zero h = let z : visits_on l ns ≡ 0 = omega arith in e ∙ sym (first ∙ unvisited l ns z)
    at first (suc j) h = again.last_visit j (omega arith) ∙ sym first

visits_until : (l : ℕ → Option Copy) (ns : List ℕ) → VisitsUntil l ns (visits_on l ns)
unfolding visits_on first_on
visits_until l [] =
    record { within = omega arith; before = λ j h. absurd (omega arith); last_visit = λ j h. absurd (omega arith); or_all = λ e. refl }
visits_until l (n ∷ ns) = go (option? (l n)) (visits_until l ns)
  where
    go : (l n ≡ none) ⊎ ((x : Copy) × (l n ≡ some x)) → VisitsUntil l ns (visits_on l ns) → VisitsUntil l (n ∷ ns) (visits_on l (n ∷ ns))
    go (inr w) again = visits_here l n ns w.0 w.1
    go (inl e) again = visits_on_lem l n ns e again

module _ (p : Plan) (rules : PlanRules p) (k : ℕ) where
  -- A look says the line's current result, which stands in the last node visited; or never, having visited every node of the path.
  pub look_answer_lem : (s : State) → LookAnswer p s k
  unfolding look_answer
  look_answer_lem s =
      record {
        visits = visits_on (line s k) (path p k);
        some_visit = visits_some (line s k) (path p k) (path_some (λ n. next p n k) (path_is p rules k 0 (root_in_plan p rules)));
        until = visits_until (line s k) (path p k);
        says = refl;
      }
    where
      visits_some : (l : ℕ → Option Copy) (ns : List ℕ) → 0 < length ns → 1 ≤ visits_on l ns
      visits_some l [] h = absurd (omega arith)
      visits_some l (n ∷ ns) h = unfold visits_on in omega arith
