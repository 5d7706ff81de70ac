-- No finished search is left out: in a sequence of public calls from a store in which none runs, every step that answers DONE ends a search
-- that a call of the sequence started, and the store was not replaced since.
use mathlib.Core.Path.{◌≡◌, refl, sym, ap, ◌∙◌, subst}
use mathlib.Core.Bool.{true, false, not}
use mathlib.Core.Logic.{◌⊎◌, inl, inr}
use mathlib.Core.List.{List, [], ◌∷◌, ◌++◌, append_assoc, append-nil}
use mathlib.Core.Option.{none, some}
use Prim.Native.Nat.{ℕ}
use Rattle.lists.proofs.Truths.{bool?, and_left, and_right, and_both}
use Rattle.lists.proofs.Options.{option?, one_some}
use Rattle.lists.proofs.Storing.{get_d_same}
use Rattle.plan.specs.Plan.{Plan}
use Rattle.store.specs.declared.Answer.{Answer}
use Rattle.store.specs.declared.Slot.{Slot}
use Rattle.store.specs.declared.Store.{Store}
use Rattle.store.specs.Answers.{DONE, answer}
use Rattle.store.specs.Copies.{is_some}
use Rattle.store.specs.State.{State, slot_count, idle}
use Rattle.store.specs.Layout.{plan_of, state_of}
use Rattle.store.specs.StoreRules.{good_store}
use Rattle.theory.specs.Events.{Event, after, answer_of, state_after_all, still_runs_after, still_runs}
use Rattle.theory.specs.Events.Event.{starts, steps}
use Rattle.trips.specs.Trips.{AllIdle}
use Rattle.calls.specs.PublicCalls.{Call, store_after, Done, store_after_all}
use Rattle.calls.specs.Following.{event_of, events_of, replacement, same_store}
use Rattle.calls.specs.Recent.{at_start, started, SearchRuns, Finished}
use Rattle.calls.proofs.Follows.{
  acts_as,
  start_acts,
  step_acts,
  event_on,
  event_keeps_plan,
  event_state,
  event_answer,
  replaced_by_lem,
  call_keeps_good,
  calls_keep_good,
  after-append,
  FollowsEvents,
  follows_events,
}
use Rattle.calls.proofs.Recalls.{store_recency}
use Rattle.calls.proofs.Slots.{Idles, stopped_idle, StartsIn, still_idle, not_done}

-- What still runs after a sequence and then after one event more.
pub still_runs_more : (p : Plan) (i : ℕ) (es : List Event) (e : Event) (s : State) → still_runs p i es s ≡ true
    → still_runs_after p i e (state_after_all p es s) ≡ true → still_runs p i (es ++ e ∷ []) s ≡ true
unfolding still_runs state_after_all
still_runs_more p i [] e s t u = and_both u refl
still_runs_more p i (d ∷ es) e s t u =
    and_both (and_left (still_runs_after p i d s) (still_runs p i es (after p d s)) t)
    (still_runs_more p i es e (after p d s) (and_right (still_runs_after p i d s) (still_runs p i es (after p d s)) t) u)

pub events_append : (cs : List Call) (c : Call) → events_of (cs ++ c ∷ []) ≡ events_of cs ++ event_of c ∷ []
unfolding events_of
events_append [] c = refl
events_append (d ∷ cs) c = ap (λ (l : List Event). event_of d ∷ l) (events_append cs c)

pub same_more : (cs : List Call) (c : Call) → same_store cs ≡ true → replacement c ≡ none → same_store (cs ++ c ∷ []) ≡ true
unfolding same_store
same_more [] c t e = rw e
same_more (d ∷ cs) c t e =
    and_both (and_left (not (is_some (replacement d))) (same_store cs) t)
    (same_more cs c (and_right (not (is_some (replacement d))) (same_store cs) t) e)

module _ (z : Store) (good : good_store z ≡ true) (i : ℕ) where
  -- A search runs in the slot after some calls.
  pub record RunsAfter (cs : List Call) : Type 0 where
    pub before : List Call
    pub begins : Call
    pub between : List Call
    pub key : ℕ
    pub parts : cs ≡ before ++ begins ∷ between
    pub runs : SearchRuns z before begins between key i

  abbrev pub IdleOrRuns : List Call → Type 0
  IdleOrRuns cs = Idles (state_of (store_after_all cs z)) i ⊎ RunsAfter cs

  module _ (cs : List Call) (c : Call) where
    abbrev y : Store
    y = store_after_all cs z

    abbrev p : Plan
    p = plan_of (store_after_all cs z)

    good_y : good_store y ≡ true
    good_y = calls_keep_good cs z good

    -- One call more: it replaces the store,
    pub replaced-idle : (x : Store) → replacement c ≡ some x → Idles (state_of (store_after c y)) i
    unfolding state_of
    replaced-idle x e =
        let r = replaced_by_lem c x e in
        rw (r.leaves y, r.all-idle) (ap (λ (q : Slot). q.running) (get_d_same slot_count i idle))

    -- or is an event on it: a slot in which none runs stays so, or gets one;
    starts_or_idle : replacement c ≡ none → Idles (state_of y) i → Idles (state_of (store_after c y)) i ⊎ RunsAfter (cs ++ c ∷ [])
    starts_or_idle e idles = go (still_idle p (state_of y) i idles (event_of c))
      where
        go : Idles (after p (event_of c) (state_of y)) i ⊎ StartsIn p (state_of y) i (event_of c)
            → Idles (state_of (store_after c y)) i ⊎ RunsAfter (cs ++ c ∷ [])
        go (inl q) = inl (rw (event_on c y e, event_state (event_of c) y good_y) q)
        go (inr w) =
            inr
            (record {
              before = cs;
              begins = c;
              between = [];
              key = w.0;
              parts = refl;
              runs =
                  record {
                    is_start = w.1;
                    starting =
                        (acts_as c (starts w.0) w.1 (start_acts w.0)).answers y
                        ∙ ap some
                        (event_answer (starts w.0) y good_y
                        ∙ subst (λ (d : Event). answer_of p d (state_of y) ≡ answer DONE i 0 0 0) w.1 w.2);
                    stays = unfold same_store in refl;
                    still_running = unfold still_runs events_of in refl;
                  };
            })

    -- and a search runs on, or its slot gets idle.
    goes_or_idle : replacement c ≡ none → RunsAfter cs → Idles (state_of (store_after c y)) i ⊎ RunsAfter (cs ++ c ∷ [])
    unfolding store_after_all
    goes_or_idle e r = go (bool? (still_runs_after p i (event_of c) (state_of y)))
      where
        z₁ : Store
        z₁ = at_start z r.before

        z₂ : Store
        z₂ = started z r.before r.begins

        good₂ : good_store z₂ ≡ true
        good₂ = call_keeps_good r.begins z₁ (calls_keep_good r.before z good)

        here : y ≡ store_after_all r.between z₂
        here = ap (λ (l : List Call). store_after_all l z) r.parts ∙ after-append r.before (r.begins ∷ r.between) z

        follows : FollowsEvents r.between z₂
        follows = follows_events r.between z₂ good₂ r.runs.stays

        plan₂ : plan_of z₂ ≡ plan_of z₁
        plan₂ =
            ap (λ (x : Store). plan_of x)
            ((acts_as r.begins (starts r.key) r.runs.is_start (start_acts r.key)).leaves (at_start z r.before))
            ∙ event_keeps_plan (starts r.key) (at_start z r.before)

        through : still_runs_after p i (event_of c) (state_of y) ≡ true
            → still_runs_after (plan_of z₁) i (event_of c) (state_after_all (plan_of z₁) (events_of r.between) (state_of z₂)) ≡ true
        through t =
            let f = follows in
            let plan : plan_of y ≡ plan_of z₁ = ap (λ (x : Store). plan_of x) here ∙ f.plan ∙ plan₂ in
            let state : state_of y ≡ state_after_all (plan_of z₁) (events_of r.between) (state_of z₂) =
            ap state_of here ∙ f.state ∙ ap (λ (x : Plan). state_after_all x (events_of r.between) (state_of z₂)) plan₂ in
            rw (plan, state) at t

        go : (still_runs_after p i (event_of c) (state_of y) ≡ true) ⊎ (still_runs_after p i (event_of c) (state_of y) ≡ false)
            → Idles (state_of (store_after c y)) i ⊎ RunsAfter (cs ++ c ∷ [])
        go (inr f) = inl (rw (event_on c y e, event_state (event_of c) y good_y) (stopped_idle p (state_of y) i (event_of c) f))
        go (inl t) =
            inr
            (record {
              before = r.before;
              begins = r.begins;
              between = r.between ++ c ∷ [];
              key = r.key;
              parts = ap (λ (l : List Call). l ++ c ∷ []) r.parts ∙ append_assoc r.before (r.begins ∷ r.between) (c ∷ []);
              runs =
                  record {
                    is_start = r.runs.is_start;
                    starting = r.runs.starting;
                    stays = same_more r.between c r.runs.stays e;
                    still_running =
                        rw (events_append r.between c)
                        (still_runs_more (plan_of z₁) i (events_of r.between) (event_of c) (state_of z₂) r.runs.still_running (through t));
                  };
            })

    pub one_more : IdleOrRuns cs → IdleOrRuns (cs ++ c ∷ [])
    unfolding store_after_all
    one_more w =
        subst (λ (x : Store). Idles (state_of x) i ⊎ RunsAfter (cs ++ c ∷ [])) (sym (after-append cs (c ∷ []) z))
        (go w (option? (replacement c)))
      where
        go : IdleOrRuns cs → (replacement c ≡ none) ⊎ ((x : Store) × (replacement c ≡ some x))
            → Idles (state_of (store_after c y)) i ⊎ RunsAfter (cs ++ c ∷ [])
        go w (inr x) = inl (replaced-idle x.0 x.1)
        go (inl idles) (inl e) = starts_or_idle e idles
        go (inr r) (inl e) = goes_or_idle e r

  all_more : (cs ds : List Call) → IdleOrRuns cs → IdleOrRuns (cs ++ ds)
  all_more cs [] w = rw append-nil w
  all_more cs (c ∷ ds) w = subst IdleOrRuns (append_assoc cs (c ∷ []) ds) (all_more (cs ++ c ∷ []) ds (one_more cs c w))

  -- A step that answers DONE ends the search that runs in the slot.
  pub ends_search : (cs : List Call) → IdleOrRuns cs → (d : Call) → event_of d ≡ steps i → Done d (store_after_all cs z) → Finished z cs d i
  unfolding store_after_all
  ends_search cs w d is_step done = go w
    where
      y : Store
      y = store_after_all cs z

      says : (answer_of (plan_of y) (steps i) (state_of y)).number ≡ DONE
      says =
          ap (λ (a : Answer). a.number)
          (sym (event_answer (steps i) y (calls_keep_good cs z good))
          ∙ one_some ((acts_as d (steps i) is_step (step_acts i)).answers y) done.1)
          ∙ done.2

      go : IdleOrRuns cs → Finished z cs d i
      go (inl idles) = absurd (not_done (plan_of y) (state_of y) i idles says)
      go (inr r) =
          record {
            before = r.before;
            begins = r.begins;
            between = r.between;
            key = r.key;
            parts = r.parts;
            runs = r.runs;
            recency =
                store_recency z good r.before r.begins r.between r.key i r.runs d is_step
                (subst (λ (x : Store). Done d x)
                (ap (λ (l : List Call). store_after_all l z) r.parts ∙ after-append r.before (r.begins ∷ r.between) z) done);
          }

  -- From a slot in which none runs every step of it that answers DONE ends a search of the sequence.
  pub from_idle : Idles (state_of z) i → (cs : List Call) (d : Call) → event_of d ≡ steps i → Done d (store_after_all cs z) → Finished z cs d i
  unfolding store_after_all
  from_idle idles cs = ends_search cs (all_more [] cs (inl idles))

  -- So does every step that answers DONE, from a store in which none runs.
  pub every_search : AllIdle z → (cs : List Call) (d : Call) → event_of d ≡ steps i → Done d (store_after_all cs z) → Finished z cs d i
  unfolding state_of
  every_search idles = from_idle (rw idles (ap (λ (q : Slot). q.running) (get_d_same slot_count i idle)))

-- So it is after an accepted fresh or load, whatever the store was before.
pub every_search_since : (c : Call) (x : Store) → replacement c ≡ some x → (cs : List Call) (d : Call) (i : ℕ) → event_of d ≡ steps i
    → (z : Store) → Done d (store_after_all (c ∷ cs) z) → Finished x cs d i
unfolding store_after_all
every_search_since c x e cs d i is_step z done =
    let r = replaced_by_lem c x e in
    every_search x r.good i r.all-idle cs d is_step (subst (λ (y : Store). Done d (store_after_all cs y)) (r.leaves z) done)
