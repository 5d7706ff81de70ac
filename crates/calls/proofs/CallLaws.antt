-- Laws of steps, for the public calls: what is in reach of a node only increases; a look is a search with nothing in between; and what a
-- carry's answer counts.
use mathlib.Core.Path.{◌≡◌, refl, sym, ap, ◌∙◌, subst}
use mathlib.Core.Bool.{true}
use mathlib.Core.List.{List}
use mathlib.Core.Option.{some}
use Prim.Native.Nat.{ℕ, suc, ◌-◌, ◌<◌, ◌≤◌}
use lib.ListN.{length, replicate}
use Rattle.lists.proofs.Options.{one_some}
use Rattle.plan.specs.Plan.{Plan, size, edge_of, path}
use Rattle.plan.specs.PlanRules.{IsEdge, PlanRules}
use Rattle.store.specs.declared.Answer.{Answer}
use Rattle.store.specs.declared.Store.{Store}
use Rattle.store.specs.Answers.{DONE, answer}
use Rattle.store.specs.Copies.{key_of}
use Rattle.store.specs.State.{State, node_at, line}
use Rattle.store.specs.StateRules.{StateRules}
use Rattle.store.specs.Layout.{plan_of, count_of, node_of, state_of}
use Rattle.store.specs.StoreRules.{good_store}
use Rattle.store.proofs.Laying.{state_node, state_count}
use Rattle.store.proofs.Lifting.{of_good, plan_good, state_good}
use Rattle.steps.specs.Carries.{count_held}
use Rattle.steps.specs.Searches.{ended, look_answer}
use Rattle.steps.proofs.LineSteps.{after_carry}
use Rattle.steps.proofs.CarryLaws.{carry_after, carry_answer_lem, node_falls, target_rises, carried_stands, not_carried, left_no_room}
use Rattle.steps.proofs.SearchLaws.{SearchEnds, search_is_look}
use Rattle.steps.proofs.SearchLaws.SearchEnds.{now, later}
use Rattle.theory.specs.Events.{effect, after, answer_of}
use Rattle.theory.specs.Events.Event.{carries, starts, steps}
use Rattle.theory.proofs.Invariants.{reach_increases_all}
use Rattle.theory.specs.Looking.{VisitsUntil}
use Rattle.theory.proofs.Looks.{look_answer_lem}
use Rattle.calls.specs.PublicCalls.{Call, store_after, returned, answer_to, store_after_all}
use Rattle.calls.specs.PublicCalls.Call.{step, reads}
use Rattle.calls.specs.PublicCalls.ReadOnly.{look}
use Rattle.calls.specs.Following.{event_of, events_of, same_store}
use Rattle.calls.specs.Recent.{current_in, reach_stamp}
use Rattle.calls.specs.Counts.{CarryCounts, CarryMoves}
use Rattle.calls.proofs.Follows.{
  Acts,
  acts_as,
  carry_acts,
  start_acts,
  step_acts,
  event_keeps_plan,
  event_state,
  event_answer,
  call_keeps_good,
  follows_events,
}

-- Invariant 2, over calls that do not replace the store: "The contents-in-reach of every node only increases."
pub calls_increase : (cs : List Call) (z : Store) → good_store z ≡ true → same_store cs ≡ true → (n k : ℕ) → n < size (plan_of z)
    → reach_stamp z n k ≤ reach_stamp (store_after_all cs z) n k
calls_increase cs z good stays n k h =
    let f = follows_events cs z good stays in
    rw (f.state, f.plan) (reach_increases_all (plan_of z) (plan_good z good) (events_of cs) (state_of z) (state_good z good) n k h)

-- ---- looks

module _ (z : Store) (good : good_store z ≡ true) (k : ℕ) where
  look_is : answer_to (reads (look k)) z ≡ some (look_answer k (plan_of z) (state_of z))
  unfolding returned answer_to
  look_is = ap some (of_good (look_answer k) z good)

  -- A look says the line's current result, after as many visits as there are path nodes down to the first that has a copy, or all.
  pub look_says : (visits : ℕ) × (answer_to (reads (look k)) z ≡ some (ended (current_in z k) visits))
      × VisitsUntil (line (state_of z) k) (path (plan_of z) k) visits
  look_says =
      let a = look_answer_lem (plan_of z) (plan_good z good) k (state_of z) in
      (a.visits, look_is ∙ ap some a.says, a.until)

-- A search that is stepped with nothing else between ends by one of the steps.
stepped_alone : (i : ℕ) (p : Plan) (x : Answer) (s : State) → SearchEnds i p s x → (z : Store) → good_store z ≡ true → plan_of z ≡ p
    → state_of z ≡ s → (m : ℕ) × (answer_to (step i) (store_after_all (replicate m (step i)) z) ≡ some x)
unfolding store_after_all event_of effect
stepped_alone i p x s (now says done) z good plan state =
    (0, (acts_as (step i) (steps i) refl (step_acts i)).answers z ∙ ap some (event_answer (steps i) z good ∙ rw (plan, state) says))
stepped_alone i p x s (later goes again) z good plan state =
    let a = acts_as (step i) (steps i) refl (step_acts i) in
    let w =
    stepped_alone i p x (after p (steps i) s) again (store_after (step i) z) (call_keeps_good (step i) z good)
    (ap (λ (y : Store). plan_of y) (a.leaves z) ∙ event_keeps_plan (steps i) z ∙ plan)
    (ap state_of (a.leaves z) ∙ event_state (steps i) z good ∙ rw (plan, state)) in
    (suc w.0, w.1)

-- A search that a call started, and that is then stepped with nothing in between, ends with the look's answer.
pub look_is_search : (z : Store) → good_store z ≡ true → (c : Call) (k i : ℕ) → event_of c ≡ starts k
    → answer_to c z ≡ some (answer DONE i 0 0 0)
    → (m : ℕ) × (answer_to (step i) (store_after_all (replicate m (step i)) (store_after c z)) ≡ answer_to (reads (look k)) z)
unfolding effect
look_is_search z good c k i is_start starting =
    let a = acts_as c (starts k) is_start (start_acts k) in
    let says : answer_of (plan_of z) (starts k) (state_of z) ≡ answer DONE i 0 0 0 =
    sym (event_answer (starts k) z good) ∙ one_some (a.answers z) starting in
    let ends = search_is_look (plan_of z) (plan_good z good) (state_of z) k (ap (λ (x : Answer). x.number) says) in
    let w =
    stepped_alone i (plan_of z) (look_answer k (plan_of z) (state_of z)) (after (plan_of z) (starts k) (state_of z))
    (subst
    (λ (j : ℕ).
    SearchEnds j (plan_of z) (after (plan_of z) (starts k) (state_of z)) (look_answer k (plan_of z) (state_of z)))
    (ap (λ (x : Answer). x.a) says) ends)
    (store_after c z) (call_keeps_good c z good)
    (ap (λ (y : Store). plan_of y) (a.leaves z) ∙ event_keeps_plan (starts k) z)
    (ap state_of (a.leaves z) ∙ event_state (starts k) z good) in
    (w.0, w.1 ∙ sym (look_is z good k))

-- ---- carries

-- The state after a carry along an edge of the store's plan, by a record run too.
carry_state : (c : Call) (n i : ℕ) → event_of c ≡ carries n i → (z : Store) → good_store z ≡ true → IsEdge (plan_of z) n i
    → state_of (store_after c z) ≡ after_carry (plan_of z) n i (state_of z)
unfolding effect
carry_state c n i is z good d =
    ap state_of ((acts_as c (carries n i) is (carry_acts n i)).leaves z) ∙ event_state (carries n i) z good
    ∙ carry_after (plan_of z) (plan_good z good) (state_of z) (state_good z good) n i d

-- What it does to the lines.
pub carry_moves : (c : Call) (n i : ℕ) → event_of c ≡ carries n i → (z : Store) → good_store z ≡ true → IsEdge (plan_of z) n i
    → CarryMoves c n i z
carry_moves c n i is z good d =
    record {
      carried = λ k x had gone.
          told (λ w. line w k t) ∙ carried_stands p rules s rest n i d k x (record { had = had; gone = sym (told (λ w. line w k n)) ∙ gone });
      others = λ k none-of-it m.
          told (λ w. line w k m) ∙ not_carried p rules s rest n i d k (λ x q. none-of-it x q.had (told (λ w. line w k n) ∙ q.gone)) m;
      no_room = λ k x stays h.
          let w = left_no_room p rules s rest n i d k x (sym (told (λ v. line v k n)) ∙ stays) h in
          (w.0, told (λ v. line v k t) ∙ w.1, told (λ v. length (node_at v t)) ∙ w.2);
    }
  where
    p : Plan
    p = plan_of z

    s : State
    s = state_of z

    t : ℕ
    t = (edge_of p n i).target

    rules : PlanRules p
    rules = plan_good z good

    rest : StateRules p s
    rest = state_good z good

    told : {A : Type 0} (f : State → A) → f (state_of (store_after c z)) ≡ f (after_carry p n i s)
    told f = ap f (carry_state c n i is z good d)

-- Its answer is of the counts before and after it.
pub carry_counts : (c : Call) (n i : ℕ) → event_of c ≡ carries n i → (z : Store) → good_store z ≡ true → IsEdge (plan_of z) n i
    → CarryCounts c n i z
unfolding effect
carry_counts c n i is z good d =
    record {
      falls = rw (← (before n inside), ← (then n inside)) (node_falls p rules s (state_good z good) n i d);
      rises = rw (← (before t down.1), ← (then t down.1)) (target_rises p rules s (state_good z good) n i d);
      says = a.answers z ∙ ap some (event_answer (carries n i) z good ∙ said);
    }
  where
    a : Acts c (carries n i)
    a = acts_as c (carries n i) is (carry_acts n i)

    y : Store
    y = store_after c z

    p : Plan
    p = plan_of z

    s : State
    s = state_of z

    t : ℕ
    t = (edge_of p n i).target

    rules : PlanRules p
    rules = plan_good z good

    inside : n < size p
    inside = d.node

    down : (n < t) × (t < size p)
    down = rules.target_greater_and_exists n i d

    state_y : state_of y ≡ after_carry p n i s
    state_y = carry_state c n i is z good d

    plan_y : plan_of y ≡ plan_of z
    plan_y = ap (λ (x : Store). plan_of x) (a.leaves z) ∙ event_keeps_plan (carries n i) z

    before : (m : ℕ) → m < size p → length (node_at s m) ≡ count_of z m
    before m h = state_count z m h

    there : (m : ℕ) → m < size p → m < size (plan_of y)
    there m h = rw plan_y h

    then : (m : ℕ) → m < size p → length (node_at (after_carry p n i s) m) ≡ count_of y m
    then m h = ap (λ (x : State). length (node_at x m)) (sym state_y) ∙ state_count y m (there m h)

    node_then : node_at (after_carry p n i s) n ≡ node_of y n
    node_then = ap (λ (x : State). node_at x n) (sym state_y) ∙ state_node y n (there n inside)

    said : answer_of p (carries n i) s
        ≡ answer DONE (count_of z n - count_of y n) ((count_of z n - count_of y n) - (count_of y t - count_of z t))
        (count_held key_of (edge_of p n i) (node_of y n)) 0
    said =
        carry_answer_lem p rules s (state_good z good) n i d
        ∙ rw (← (before n inside), ← (before t down.1), ← (then n inside), ← (then t down.1), ← node_then)
