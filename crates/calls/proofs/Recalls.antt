-- Search recency over all sequences of public calls; an accepted fresh or load ends every search of the store that it replaces.
use mathlib.Core.Path.{◌≡◌, refl, sym, ap, ◌∙◌, subst}
use mathlib.Core.Bool.{true, not}
use mathlib.Core.Logic.{◌⊎◌, inl, inr}
use mathlib.Core.List.Memᴰ
use mathlib.Core.List.{List, [], ◌∷◌, ◌++◌, Memᴰ}
use mathlib.Core.Option.{Option, some}
use Prim.Native.Nat.{ℕ, suc, ◌≤◌}
use native.Mathlib.Omega.{arith}
use lib.ListN.{length, drop}
use Rattle.lists.proofs.Truths.{and_left, and_right, and_both}
use Rattle.lists.proofs.Options.{one_some}
use Rattle.plan.specs.Plan.{Plan, path}
use Rattle.store.specs.declared.Answer.{Answer}
use Rattle.store.specs.declared.Copy.{Copy}
use Rattle.store.specs.declared.Store.{Store}
use Rattle.store.specs.Answers.{DONE, answer}
use Rattle.store.specs.Copies.{is_some}
use Rattle.store.specs.State.{State, line, current}
use Rattle.store.specs.Layout.{plan_of, state_of}
use Rattle.store.specs.StoreRules.{good_store}
use Rattle.store.proofs.Lifting.{plan_good, state_good}
use Rattle.theory.specs.Events.{Event, after, answer_of, state_after_all, entered_copies, held, still_runs, own_steps, not_cancelled, EndsIn}
use Rattle.theory.specs.Events.Event.{starts, steps}
use Rattle.theory.specs.Paper.{History, InHistory, Multicopy, SearchRecency}
use Rattle.theory.proofs.Invariants.{in_history, history_in, held_in_line}
use Rattle.theory.proofs.Recency.{search_recency, search_ends}
use Rattle.trips.specs.Trips.{AllIdle}
use Rattle.calls.specs.PublicCalls.{Call, store_after, answer_to, Done, store_after_all}
use Rattle.calls.specs.PublicCalls.Call.{fresh, load}
use Rattle.calls.specs.Following.{event_of, events_of, on_event, replacement, same_store, history}
use Rattle.calls.specs.Recent.{current_in, at_start, started, at_end, SearchRuns, StoreRecency, EndsByCall}
use Rattle.calls.proofs.Follows.{
  Acts,
  acts_as,
  start_acts,
  step_acts,
  replaced_by_lem,
  event_keeps_plan,
  event_state,
  event_answer,
  call_keeps_good,
  calls_keep_good,
  follows_events,
}
use Rattle.calls.proofs.Histories.{store_story, same_history}

-- One sequence after another.
history-append : (cs ds : List Call) (z : Store) (h : History) → history (cs ++ ds) z h ≡ history ds (store_after_all cs z) (history cs z h)
unfolding history store_after_all
history-append [] ds z h = refl
history-append (c ∷ cs) ds z h = history-append cs ds (store_after c z) _

same_first : (cs ds : List Call) → same_store (cs ++ ds) ≡ true → same_store cs ≡ true
unfolding same_store
same_first [] ds t = refl
same_first (c ∷ cs) ds t =
    and_both (and_left (not (is_some (replacement c))) (same_store (cs ++ ds)) t)
    (same_first cs ds (and_right (not (is_some (replacement c))) (same_store (cs ++ ds)) t))

-- The calls of two parts of their events.
one_event : (a b : Event) (xs ys : List Event) → a ∷ xs ≡ b ∷ ys → a ≡ b
one_event a b xs ys q = cc

calls_split : (cs : List Call) (first rest : List Event) → events_of cs ≡ first ++ rest
    → (ds es : List Call) × (cs ≡ ds ++ es) × (events_of ds ≡ first) × (events_of es ≡ rest)
unfolding events_of
calls_split cs [] rest e = ([], cs, refl, refl, e)
calls_split [] (f ∷ first) rest e = absurd (let z : ◌≡◌ {A = ℕ} 0 (suc (length (first ++ rest))) = ap length e in omega arith)
calls_split (c ∷ cs) (f ∷ first) rest e =
    let w = calls_split cs first rest (ap (drop 1) e) in (
      c ∷ w.0,
      w.1,
      ap (λ (l : List Call). c ∷ l) w.2,
      ap (λ (l : List Event). event_of c ∷ l) w.3 ∙ ap (λ (d : Event). d ∷ first) (one_event (event_of c) f (events_of cs) (first ++ rest) e),
      w.4,
    )

-- The call of the first of some events.
first_call : (cs : List Call) (e : Event) (rest : List Event) → events_of cs ≡ e ∷ rest → (c : Call) × (ds : List Call) × (cs ≡ c ∷ ds) × (event_of c ≡ e)
unfolding events_of
first_call [] e rest q = absurd (let z : ◌≡◌ {A = ℕ} 0 (suc (length rest)) = ap length q in omega arith)
first_call (c ∷ cs) e rest q = (c, cs, refl, one_event (event_of c) e (events_of cs) rest q)

-- A search of a good store that ends in the events of some calls, in which the store is not replaced, ends in the calls.
module _ (z : Store) (good : good_store z ≡ true) (i : ℕ) (cs : List Call) (stays : same_store cs ≡ true) where
  pub ends_by_call : EndsIn (plan_of z) i (events_of cs) (state_of z) → EndsByCall z i cs
  ends_by_call d =
      let w = calls_split cs d.first (steps i ∷ d.rest) d.parts in
      let v = first_call w.1 (steps i) d.rest w.4 in
      ends w.0 v.0 v.1 (w.2 ∙ ap (λ (l : List Call). w.0 ++ l) v.2) w.3 v.3
    where
      ends : (earlier : List Call) (call : Call) (later : List Call) → cs ≡ earlier ++ call ∷ later → events_of earlier ≡ d.first
          → event_of call ≡ steps i → EndsByCall z i cs
      ends earlier call later parts events is_step =
          let t = same_first earlier (call ∷ later) (subst (λ (l : List Call). same_store l ≡ true) parts stays) in
          let x = store_after_all earlier z in
          let f = follows_events earlier z good t in
          record {
            earlier = earlier;
            call = call;
            later = later;
            parts = parts;
            is_step = is_step;
            until = rw events d.until;
            done = (
              (on_event (steps i) x).answer,
              (acts_as call (steps i) is_step (step_acts i)).answers x,
              ap (λ (a : Answer). a.number) (event_answer (steps i) x (calls_keep_good earlier z good)) ∙ rw (f.state, f.plan, events) d.done,
            );
          }

-- A good store in which a call starts a search for key k in slot i.
module _ (z : Store) (good : good_store z ≡ true) (c : Call) (k i : ℕ) (is_start : event_of c ≡ starts k)
    (starting : answer_to c z ≡ some (answer DONE i 0 0 0)) where
  abbrev p : Plan
  p = plan_of z

  abbrev y : Store
  y = store_after c z

  its : Acts c (starts k)
  its = acts_as c (starts k) is_start (start_acts k)

  good_y : good_store y ≡ true
  good_y = call_keeps_good c z good

  -- The start answers so on the state too, and the states follow the events.
  state_starts : answer_of p (starts k) (state_of z) ≡ answer DONE i 0 0 0
  state_starts = sym (event_answer (starts k) z good) ∙ one_some (its.answers z) starting

  state_y : state_of y ≡ after p (starts k) (state_of z)
  state_y = ap state_of (its.leaves z) ∙ event_state (starts k) z good

  plan_y : plan_of y ≡ plan_of z
  plan_y = ap (λ (x : Store). plan_of x) (its.leaves z) ∙ event_keeps_plan (starts k) z

  module _ (cs : List Call) (stays : same_store cs ≡ true) where
    state_after : state_of (store_after_all cs y) ≡ state_after_all p (events_of cs) (after p (starts k) (state_of z))
    state_after = (follows_events cs y good_y stays).state ∙ rw (state_y, plan_y)

    plan_after : plan_of (store_after_all cs y) ≡ plan_of z
    plan_after = (follows_events cs y good_y stays).plan ∙ plan_y

    -- A step of the search after the calls answers as on the state.
    step_answer : (on_event (steps i) (store_after_all cs y)).answer
        ≡ answer_of p (steps i) (state_after_all p (events_of cs) (after p (starts k) (state_of z)))
    step_answer = event_answer (steps i) (store_after_all cs y) (calls_keep_good cs y good_y) ∙ rw (state_after, plan_after)

    -- A search that is not cancelled ends within as many own steps as its key's path has nodes, whatever is called between.
    pub store_search_ends : not_cancelled i (events_of cs) ≡ true → length (path (plan_of z) k) ≤ own_steps i (events_of cs)
        → EndsByCall (store_after c z) i cs
    store_search_ends alive enough =
        ends_by_call y good_y i cs stays
        (rw (state_y, plan_y)
        (search_ends p (plan_good z good) (state_of z) (state_good z good) k i state_starts (events_of cs) alive enough))

-- A search that runs, after some calls from a good store.
module _ (z : Store) (good : good_store z ≡ true) (before : List Call) (c : Call) (between : List Call) (k i : ℕ)
    (runs : SearchRuns z before c between k i) where
  abbrev z₁ : Store
  z₁ = at_start z before

  abbrev z₂ : Store
  z₂ = started z before c

  abbrev z₃ : Store
  z₃ = at_end z before c between

  abbrev q : Plan
  q = plan_of (at_start z before)

  abbrev es : List Event
  es = events_of between

  good₁ : good_store z₁ ≡ true
  good₁ = calls_keep_good before z good

  good₂ : good_store z₂ ≡ true
  good₂ = call_keeps_good c z₁ good₁

  state_then : (cs : List Call) → same_store cs ≡ true → state_of (store_after_all cs z₂) ≡ state_after_all q (events_of cs) (after q (starts k) (state_of z₁))
  state_then cs t = state_after z₁ good₁ c k i runs.is_start runs.starting cs t

  plan_then : (cs : List Call) → same_store cs ≡ true → plan_of (store_after_all cs z₂) ≡ plan_of z₁
  plan_then cs t = plan_after z₁ good₁ c k i runs.is_start runs.starting cs t

  -- It ends by a call that is a step of its own.
  module _ (d : Call) (is_step : event_of d ≡ steps i) (done : Done d z₃) where
    says₃ : answer_to d z₃ ≡ some (answer_of q (steps i) (state_after_all q es (after q (starts k) (state_of z₁))))
    says₃ =
        (acts_as d (steps i) is_step (step_acts i)).answers z₃
        ∙ ap some (step_answer z₁ good₁ c k i runs.is_start runs.starting between runs.stays)

    -- The search, on the state at its start.
    on_states : SearchRecency q (state_of z₁) [] es k i
    unfolding state_after_all
    on_states =
        search_recency q (plan_good z₁ good₁) (state_of z₁) (state_good z₁ good₁) [] es k i
        (state_starts z₁ good₁ c k i runs.is_start runs.starting)
        (subst (λ (s : State). still_runs q i es s ≡ true) (state_y z₁ good₁ c k i runs.is_start runs.starting) runs.still_running)
        (ap (λ (a : Answer). a.number) (one_some says₃ done.1) ∙ done.2)

    -- The history at the search's start, and since.
    abbrev h₁ : History
    h₁ = history before z (held (state_of z))

    abbrev since : History
    since = entered_copies q (starts k ∷ es) (state_of z₁)

    same_all : same_store (c ∷ between) ≡ true
    unfolding same_store
    same_all = rw (acts_as c (starts k) runs.is_start (start_acts k)).replaces_none runs.stays

    whole_history : history (before ++ c ∷ between) z (held (state_of z)) ≡ h₁ ++ since
    unfolding events_of
    whole_history =
        history-append before (c ∷ between) z (held (state_of z))
        ∙ same_history (c ∷ between) z₁ good₁ same_all h₁
        ∙ ap (λ (e : Event). h₁ ++ entered_copies q (e ∷ es) (state_of z₁)) runs.is_start

    -- The copies entered between.
    between_history : history between z₂ [] ≡ entered_copies q es (after q (starts k) (state_of z₁))
    between_history =
        same_history between z₂ good₂ runs.stays []
        ∙ rw (state_y z₁ good₁ c k i runs.is_start runs.starting, plan_y z₁ good₁ c k i runs.is_start runs.starting)

    -- What the store holds at the search's start is in its history.
    held_is_history : (x : Copy) → Memᴰ x (held (state_of z₁)) → Memᴰ x h₁
    held_is_history x m =
        let w = held_in_line q (plan_good z₁ good₁) (state_of z₁) (state_good z₁ good₁) x m in
        let l : Multicopy q (state_of z₁) (InHistory h₁) = store_story before z good in
        (history_in h₁ x.key (line (state_of z₁) x.key w.0) x (l.invariant_3 w.0 x.key) w.1).1

    past : (x : Copy) → Memᴰ x (held (state_of z₁) ++ since) → Memᴰ x (h₁ ++ since)
    past x m = go (Memᴰ.append_cases (held (state_of z₁)) m)
      where
        go : Memᴰ x (held (state_of z₁)) ⊎ Memᴰ x since → Memᴰ x (h₁ ++ since)
        go (inl a) = Memᴰ.append_left since (held_is_history x a)
        go (inr a) = Memᴰ.append_right h₁ a

    -- Search recency, over all sequences of public calls.
    pub store_recency : StoreRecency z before c between d k i
    unfolding state_after_all
    store_recency =
        let r = on_states in
        record {
          found = r.found;
          says = says₃ ∙ ap some r.says;
          in_time = r.in_time;
          real =
              subst (λ (h : History). InHistory h k r.found) (sym whole_history)
              (in_history (h₁ ++ since) k r.found
              (λ x e. let w = history_in (held (state_of z₁) ++ since) k r.found x r.real e in (w.0, past x w.1)));
          no_older = r.no_older;
          at_start_or_between = then_or_since r.found r.at_start_or_between;
          at_some_point = point r.at_some_point.0 r.at_some_point.1 r.at_some_point.2 r.found r.at_some_point.3;
        }
      where
        then_or_since : (found : Option Copy)
            → (found ≡ current_in z₁ k) ⊎ ((x : Copy) × (found ≡ some x) × Memᴰ x (entered_copies q es (after q (starts k) (state_of z₁))))
            → (found ≡ current_in z₁ k) ⊎ ((x : Copy) × (found ≡ some x) × Memᴰ x (history between z₂ []))
        then_or_since found (inl e) = inl e
        then_or_since found (inr w) = inr (w.0, w.1, subst (λ (h : History). Memᴰ w.0 h) (sym between_history) w.2)

        point : (first rest : List Event) → es ≡ first ++ rest → (found : Option Copy)
            → found ≡ current q (state_after_all q first (after q (starts k) (state_of z₁))) k
            → (ds rs : List Call) × (between ≡ ds ++ rs) × (found ≡ current_in (store_after_all ds z₂) k)
        point first rest e found f =
            let w = calls_split between first rest e in
            let t = same_first w.0 w.1 (subst (λ (cs : List Call). same_store cs ≡ true) w.2 runs.stays) in (
              w.0,
              w.1,
              w.2,
              f ∙ sym (rw (state_then w.0 t, plan_then w.0 t, w.3)),
            )

-- "An accepted fresh or load ends all running searches of the store it replaces."
pub fresh_ends_searches : (plan : ℕ) (y : Store) → replacement (fresh plan) ≡ some y → AllIdle y
fresh_ends_searches plan y e = (replaced_by_lem (fresh plan) y e).all-idle

pub load_ends_searches : (bytes : List ℕ) (y : Store) → replacement (load bytes) ≡ some y → AllIdle y
load_ends_searches bytes y e = (replaced_by_lem (load bytes) y e).all-idle
