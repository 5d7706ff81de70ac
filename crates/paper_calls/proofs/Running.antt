-- A search that already runs in a good store at hand, whoever started it; and the visits of a look.
use mathlib.Core.Path.{◌≡◌, refl, sym, ap, ◌∙◌, subst}
use mathlib.Core.Bool.{true}
use mathlib.Core.Logic.{◌≢◌}
use mathlib.Core.List.{List}
use mathlib.Core.Option.{Option, none, some}
use Prim.Native.Nat.{ℕ, ◌≤◌}
use native.Mathlib.Omega.{arith}
use lib.ListN.{length, get_or}
use Rattle.lists.proofs.Options.{one_some}
use Rattle.plan.specs.Plan.{Plan, path_from}
use Rattle.store.specs.declared.Answer.{Answer}
use Rattle.store.specs.declared.Copy.{Copy}
use Rattle.store.specs.declared.Slot.{Slot}
use Rattle.store.specs.declared.Store.{Store}
use Rattle.store.specs.State.{slot_at, idle, idle_mark}
use Rattle.store.specs.Layout.{plan_of, state_of}
use Rattle.store.specs.StoreRules.{good_store}
use Rattle.store.proofs.Laying.{state_slots}
use Rattle.store.proofs.Lifting.{of_good, plan_good, state_good}
use Rattle.steps.specs.Searches.{running, ended, look_answer}
use Rattle.theory.specs.Events.{Event, answer_of, state_after_all, held, own_steps, not_cancelled}
use Rattle.theory.specs.Events.Event.{steps}
use Rattle.theory.specs.Paper.{History, InHistory}
use Rattle.theory.proofs.Looks.{look_answer_lem}
use Rattle.paper.specs.Specifications.{RunningSearch}
use Rattle.paper.proofs.Searches.{running_slot, running_search, running_ends}
use Rattle.calls.specs.PublicCalls.{Call, returned, answer_to, Done, store_after_all}
use Rattle.calls.specs.Following.{event_of, events_of, same_store}
use Rattle.calls.specs.Recent.{current_in, EndsByCall}
use Rattle.calls.proofs.Follows.{acts_as, step_acts, event_answer, calls_keep_good, follows_events}
use Rattle.calls.proofs.Histories.{same_history}
use Rattle.calls.proofs.Recalls.{ends_by_call}
use Rattle.paper_calls.specs.Structure.{RunsAtHand, RunningRecency, VisitsSome}

-- A slot of a store, in its state.
pub in_state : (z : Store) (i : ℕ) → slot_at (state_of z) i ≡ get_or z.slots i idle
in_state z i = ap (λ (qs : List Slot). get_or qs i idle) (state_slots z)

-- In a good store every slot in use is a search for its key at its node, after its visits.
pub slot_in_use : (z : Store) → good_store z ≡ true → (i : ℕ) → (get_or z.slots i idle).running ≢ idle_mark
    → get_or z.slots i idle ≡ running (get_or z.slots i idle).key (get_or z.slots i idle).node (get_or z.slots i idle).visits
slot_in_use z good i r =
    subst (λ (q : Slot). q ≡ running q.key q.node q.visits) (in_state z i)
    (running_slot (plan_of z) (state_of z) (state_good z good) i (subst (λ (q : Slot). q.running ≢ idle_mark) (sym (in_state z i)) r))

-- What such a search finds, through any calls that do not replace the store.
module _ (z : Store) (good : good_store z ≡ true) (between : List Call) (k n visits i : ℕ) (runs : RunsAtHand z between k n visits i)
    (d : Call) (is_step : event_of d ≡ steps i) (done : Done d (store_after_all between z)) where
  abbrev p : Plan
  p = plan_of z

  abbrev es : List Event
  es = events_of between

  says : answer_to d (store_after_all between z) ≡ some (answer_of p (steps i) (state_after_all p es (state_of z)))
  says =
      let f = follows_events between z good runs.stays in
      (acts_as d (steps i) is_step (step_acts i)).answers (store_after_all between z)
      ∙ ap some (event_answer (steps i) (store_after_all between z) (calls_keep_good between z good) ∙ rw (f.state, f.plan))

  on_states : RunningSearch p (state_of z) es k n visits i
  on_states =
      running_search p (plan_good z good) (state_of z) (state_good z good) k n visits i
      (in_state z i ∙ runs.in_slot) es runs.still_running
      (ap (λ (a : Answer). a.number) (one_some says done.1) ∙ done.2)

  pub running_recency : RunningRecency z between d k n visits i
  running_recency =
      record {
        found = on_states.found;
        says = says ∙ ap some on_states.says;
        real =
            subst (λ (h : History). InHistory h k on_states.found) (sym (same_history between z good runs.stays (held (state_of z))))
            on_states.real;
        no_older = on_states.no_older;
        in_time = on_states.in_time;
      }

-- Not cancelled, it ends by a call within as many own steps as nodes remain on the key's path from its node on, whatever is called between.
pub running_ends_by_call : (z : Store) → good_store z ≡ true → (k n visits i : ℕ) → get_or z.slots i idle ≡ running k n visits
    → (cs : List Call) → same_store cs ≡ true → not_cancelled i (events_of cs) ≡ true
    → length (path_from (plan_of z) k n) ≤ own_steps i (events_of cs) → EndsByCall z i cs
running_ends_by_call z good k n visits i at cs stays alive enough =
    ends_by_call z good i cs stays
    (running_ends (plan_of z) (plan_good z good) (state_of z) (state_good z good) k n visits i (in_state z i ∙ at) (events_of cs) alive enough)

-- A look of a good store makes at least one visit.
pub look_visits : (z : Store) → good_store z ≡ true → (k : ℕ) → VisitsSome z k
unfolding returned answer_to
look_visits z good k r e =
    let a = look_answer_lem (plan_of z) (plan_good z good) k (state_of z) in
    let is : look_answer k (plan_of z) (state_of z) ≡ r = sym (of_good (look_answer k) z good) ∙ one_some refl e in
    omega (arith, a.some_visit, visits_said (current_in z k) a.visits, ap (λ (x : Answer). x.d) (sym a.says ∙ is))
  where
    visits_said : (o : Option Copy) (v : ℕ) → (ended o v).d ≡ v
    visits_said none v = refl
    visits_said (some x) v = refl
