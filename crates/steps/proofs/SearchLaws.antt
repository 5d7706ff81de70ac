-- A look is a whole search at once: a search started and stepped with nothing else between ends with the look's answer.
use mathlib.Core.Path.{◌≡◌, refl, sym, ap, ◌∙◌, subst}
use mathlib.Core.Logic.{◌⊎◌, inl, inr}
use mathlib.Core.List.{List, [], ◌∷◌}
use mathlib.Core.Option.{Option, none, some}
use Prim.Native.Nat.{ℕ, suc, ◌+◌, ◌<◌}
use native.Mathlib.Omega.{arith}
use native.Mathlib.Nat.{zero-add}
use lib.ListN.{length, length-set}
use borrow.Author.Tests.{lt-ltb}
use Rattle.lists.proofs.Options.{option?}
use Rattle.std.specs.Prelude.{Some, None}
use Rattle.plan.specs.Plan.{Plan, next, path, path_from, IsPath}
use Rattle.plan.specs.Plan.IsPath.{last, more}
use Rattle.plan.specs.PlanRules.{PlanRules}
use Rattle.plan.proofs.NextLaws.{root_in_plan}
use Rattle.plan.proofs.PathLaws.{path_is}
use Rattle.store.specs.declared.Answer.{Answer}
use Rattle.store.specs.declared.Copy.{Copy}
use Rattle.store.specs.Answers.{DONE, GOING, answer}
use Rattle.store.specs.State.{State, slot_at, idle, line, first_on, in_reach}
use Rattle.store.specs.Calls.{Effect}
use Rattle.steps.specs.Searches.{running, with_slot, start_step, ended, with_running, step_step, visits_on, look_answer}
use Rattle.steps.proofs.WaysOut.{StartWay, start_way}
use Rattle.steps.proofs.WaysOut.StartWay.{all-running, starts}
use Rattle.steps.proofs.LineSteps.{slot_set}

-- A search of slot i in a state: it ends with an answer after one step or more.
pub data SearchEnds (i : ℕ) (p : Plan) : State → Answer → Type 0 where
  now : {s : State} {x : Answer} → (step_step i p s).answer ≡ x → x.number ≡ DONE → SearchEnds i p s x
  later : {s : State} {x : Answer} → (step_step i p s).answer.number ≡ GOING → SearchEnds i p (step_step i p s).after x → SearchEnds i p s x

-- A step of a search for key k that stands at node n after some visits.
module _ (p : Plan) (s : State) (i k n visits : ℕ) (h : i < length s.slots) (e : slot_at s i ≡ running k n visits) where
  pub step_finds : (x : Copy) → line s k n ≡ some x
      → step_step i p s ≡ record { answer = ended (some x) (suc visits); after = with_slot i idle s }
  unfolding step_step with_running
  step_finds x f = rw (lt-ltb i (length s.slots) h, e, f)

  pub step_never : line s k n ≡ none → next p n k ≡ None
      → step_step i p s ≡ record { answer = ended none (suc visits); after = with_slot i idle s }
  unfolding step_step with_running
  step_never f g = rw (lt-ltb i (length s.slots) h, e, f, g)

  pub step_goes : line s k n ≡ none → (t : ℕ) → next p n k ≡ Some t
      → step_step i p s ≡ record { answer = answer GOING t (suc visits) 0 0; after = with_slot i (running k t (suc visits)) s }
  unfolding step_step with_running
  step_goes f t g = rw (lt-ltb i (length s.slots) h, e, f, g)

ended-done : (o : Option Copy) (visits : ℕ) → (ended o visits).number ≡ DONE
ended-done none visits = refl
ended-done (some x) visits = refl

-- Where the path's first node has a copy, that is the answer; where it has none, the answer is that of the rest, one visit later.
first_here : (l : ℕ → Option Copy) (n : ℕ) (ns : List ℕ) (x : Copy) (visits : ℕ) → l n ≡ some x
    → ended (first_on l (n ∷ ns)) (visits + visits_on l (n ∷ ns)) ≡ ended (some x) (suc visits)
unfolding first_on visits_on
first_here l n ns x visits f = let one : visits + 1 ≡ suc visits = omega arith in rw (f, one)

first_later : (l : ℕ → Option Copy) (n : ℕ) (ns : List ℕ) (visits : ℕ) → l n ≡ none
    → ended (first_on l (n ∷ ns)) (visits + visits_on l (n ∷ ns)) ≡ ended (first_on l ns) (suc visits + visits_on l ns)
unfolding first_on visits_on
first_later l n ns visits f =
    let one : visits + suc (visits_on l ns) ≡ suc visits + visits_on l ns = omega arith in rw (f, one)

first_never : (l : ℕ → Option Copy) (n visits : ℕ) → l n ≡ none
    → ended (first_on l (n ∷ [])) (visits + visits_on l (n ∷ [])) ≡ ended none (suc visits)
unfolding first_on visits_on
first_never l n visits f = let one : visits + 1 ≡ suc visits = omega arith in rw (f, one)

module _ (p : Plan) (i k : ℕ) where
  Ends-at : State → ℕ → List ℕ → Type 0
  Ends-at s visits ns = SearchEnds i p s (ended (first_on (line s k) ns) (visits + visits_on (line s k) ns))

  -- The search ends at its node,
  ends_here : (s : State) (visits n : ℕ) (ns : List ℕ) → i < length s.slots → slot_at s i ≡ running k n visits
      → (x : Copy) → line s k n ≡ some x → Ends-at s visits (n ∷ ns)
  unfolding Ends-at
  ends_here s visits n ns h e x f =
      now (ap (λ (o : Effect). o.answer) (step_finds p s i k n visits h e x f) ∙ sym (first_here (line s k) n ns x visits f))
      (ended-done (first_on (line s k) (n ∷ ns)) (visits + visits_on (line s k) (n ∷ ns)))

  -- A search goes down the path to the first copy on it.
  search_ends : (s : State) (visits : ℕ) {n : ℕ} {ns : List ℕ} → IsPath (λ m. next p m k) n ns → i < length s.slots
      → slot_at s i ≡ running k n visits → Ends-at s visits ns
  unfolding Ends-at
  search_ends s visits (last {n = n} g) h e = go (option? (line s k n))
    where
      go : (line s k n ≡ none) ⊎ ((x : Copy) × (line s k n ≡ some x)) → Ends-at s visits (n ∷ [])
      go (inl f) =
          now (ap (λ (o : Effect). o.answer) (step_never p s i k n visits h e f g) ∙ sym (first_never (line s k) n visits f))
          (ended-done (first_on (line s k) (n ∷ [])) (visits + visits_on (line s k) (n ∷ [])))
      go (inr w) = ends_here s visits n [] h e w.0 w.1
  search_ends s visits (more {n = n} {t = t} {ns = ns} g q) h e =
      go (option? (line s k n)) (search_ends on (suc visits) q (simp length-set h) (slot_set i (running k t (suc visits)) s h))
    where
      on : State
      on = with_slot i (running k t (suc visits)) s

      go : (line s k n ≡ none) ⊎ ((x : Copy) × (line s k n ≡ some x)) → Ends-at on (suc visits) ns → Ends-at s visits (n ∷ ns)
      go (inl f) again =
          let step = step_goes p s i k n visits h e f t g in
          subst (λ (x : Answer). SearchEnds i p s x) (sym (first_later (line s k) n ns visits f))
          (later (ap (λ (o : Effect). o.answer.number) step)
          (subst (λ (z : State). SearchEnds i p z (ended (first_on (line s k) ns) (suc visits + visits_on (line s k) ns)))
          (sym (ap (λ (o : Effect). o.after) step)) again))
      go (inr w) again = ends_here s visits n ns h e w.0 w.1

look_from_the_root : (p : Plan) (s : State) (k : ℕ)
    → ended (first_on (line s k) (path p k)) (0 + visits_on (line s k) (path p k)) ≡ look_answer k p s
unfolding look_answer in_reach path_from
look_from_the_root p s k = rw zero-add

-- So a search that is started, and then stepped with nothing else between, ends with the look's answer.
pub search_is_look : (p : Plan) → PlanRules p → (s : State) (k : ℕ) → (start_step k p s).answer.number ≡ DONE
    → SearchEnds (start_step k p s).answer.a p (start_step k p s).after (look_answer k p s)
search_is_look p rules s k = go (start_way k p s)
  where
    whole : (i : ℕ) → i < length s.slots → SearchEnds i p (with_slot i (running k 0 0) s) (look_answer k p s)
    whole i h =
        subst (λ (x : Answer). SearchEnds i p (with_slot i (running k 0 0) s) x) (look_from_the_root p s k)
        (unfold Ends-at in
        search_ends p i k (with_slot i (running k 0 0) s) 0 (path_is p rules k 0 (root_in_plan p rules)) (simp length-set h)
        (slot_set i (running k 0 0) s h))

    go : {o : Effect} → StartWay k s o → o.answer.number ≡ DONE → SearchEnds o.answer.a p o.after (look_answer k p s)
    go (all-running h) = λ e. absurd (omega arith)
    go (starts i h f g) = λ e. whole i h
