-- No finished search is left out, whatever runs in the good store at hand: in a sequence of public calls every step that answers DONE ends a
-- search that a call of the sequence started, or one that already ran at the beginning.
use mathlib.Core.Path.{◌≡◌, refl, sym, ap, ◌∙◌, subst}
use mathlib.Core.Bool.{true, false}
use mathlib.Core.Logic.{◌≢◌, ◌⊎◌, inl, inr}
use mathlib.Core.List.{List, [], ◌∷◌, ◌++◌, append_assoc, append-nil}
use mathlib.Core.Option.{none, some}
use Prim.Native.Nat.{ℕ}
use native.Mathlib.Decide.{ℕ_discrete}
use lib.ListN.{get_or}
use Rattle.lists.proofs.Truths.{bool?}
use Rattle.lists.proofs.Options.{option?}
use Rattle.store.specs.declared.Slot.{Slot}
use Rattle.store.specs.declared.Store.{Store}
use Rattle.store.specs.State.{State, slot_at, idle, idle_mark}
use Rattle.store.specs.Layout.{plan_of, state_of}
use Rattle.store.specs.StoreRules.{good_store}
use Rattle.steps.specs.Searches.{running}
use Rattle.theory.specs.Events.{after, state_after_all, still_runs_after, still_runs}
use Rattle.theory.specs.Events.Event.{steps}
use Rattle.calls.specs.PublicCalls.{Call, store_after, Done, store_after_all}
use Rattle.calls.specs.Following.{event_of, events_of, replacement, same_store}
use Rattle.calls.specs.Recent.{Finished}
use Rattle.calls.proofs.Follows.{event_on, event_state, calls_keep_good, after-append, follows_events}
use Rattle.calls.proofs.Slots.{Idles, stopped_idle}
use Rattle.calls.proofs.Finishes.{still_runs_more, events_append, same_more, IdleOrRuns, replaced-idle, one_more, ends_search, from_idle}
use Rattle.paper_calls.specs.Structure.{RunsAtHand, FinishedAtHand}
use Rattle.paper_calls.proofs.Running.{in_state, slot_in_use, running_recency}

module _ (z : Store) (good : good_store z ≡ true) (i : ℕ) where
  -- A search that runs in the slot at the beginning.
  module _ (k n visits : ℕ) where
    -- After some calls it still runs, or the slot is idle or has another.
    abbrev StillOrNot : List Call → Type 0
    StillOrNot cs = RunsAtHand z cs k n visits i ⊎ IdleOrRuns z good i cs

    -- One call more: it replaces the store, or is an event through which the search runs on or not.
    goes_or_idle : (cs : List Call) (c : Call) → RunsAtHand z cs k n visits i → (replacement c ≡ none) ⊎ ((x : Store) × (replacement c ≡ some x))
        → RunsAtHand z (cs ++ c ∷ []) k n visits i ⊎ Idles (state_of (store_after c (store_after_all cs z))) i
    goes_or_idle cs c r (inr w) = inr (replaced-idle z good i cs c w.0 w.1)
    goes_or_idle cs c r (inl e) = go (bool? (still_runs_after (plan_of z) i (event_of c) then))
      where
        then : State
        then = state_after_all (plan_of z) (events_of cs) (state_of z)

        go : (still_runs_after (plan_of z) i (event_of c) then ≡ true) ⊎ (still_runs_after (plan_of z) i (event_of c) then ≡ false)
            → RunsAtHand z (cs ++ c ∷ []) k n visits i ⊎ Idles (state_of (store_after c (store_after_all cs z))) i
        go (inl t) =
            inl
            (record {
              in_slot = r.in_slot;
              stays = same_more cs c r.stays e;
              still_running = rw (events_append cs c) (still_runs_more (plan_of z) i (events_of cs) (event_of c) (state_of z) r.still_running t);
            })
        go (inr t) =
            let f = follows_events cs z good r.stays in
            let state : state_of (store_after c (store_after_all cs z)) ≡ after (plan_of z) (event_of c) then =
            ap state_of (event_on c (store_after_all cs z) e)
            ∙ (event_state (event_of c) (store_after_all cs z) (calls_keep_good cs z good) ∙ rw (f.state, f.plan)) in
            inr (rw state (stopped_idle (plan_of z) then i (event_of c) t))

    one_call_more : (cs : List Call) (c : Call) → StillOrNot cs → StillOrNot (cs ++ c ∷ [])
    one_call_more cs c (inr w) = inr (one_more z good i cs c w)
    one_call_more cs c (inl r) = go (goes_or_idle cs c r (option? (replacement c)))
      where
        here : store_after_all (cs ++ c ∷ []) z ≡ store_after c (store_after_all cs z)
        here = after-append cs (c ∷ []) z ∙ (unfold store_after_all in refl)

        go : RunsAtHand z (cs ++ c ∷ []) k n visits i ⊎ Idles (state_of (store_after c (store_after_all cs z))) i → StillOrNot (cs ++ c ∷ [])
        go (inl still) = inl still
        go (inr idles) = inr (inl (subst (λ (x : Store). Idles (state_of x) i) (sym here) idles))

    all_calls_more : (cs ds : List Call) → StillOrNot cs → StillOrNot (cs ++ ds)
    all_calls_more cs [] w = rw append-nil w
    all_calls_more cs (c ∷ ds) w = subst StillOrNot (append_assoc cs (c ∷ []) ds) (all_calls_more (cs ++ c ∷ []) ds (one_call_more cs c w))

    from_running : get_or z.slots i idle ≡ running k n visits → (cs : List Call) (d : Call) → event_of d ≡ steps i
        → Done d (store_after_all cs z) → Finished z cs d i ⊎ FinishedAtHand z cs d i
    from_running at cs d is_step done = go (all_calls_more [] cs (inl begins))
      where
        begins : RunsAtHand z [] k n visits i
        begins = record { in_slot = at; stays = unfold same_store in refl; still_running = unfold still_runs events_of in refl }

        go : StillOrNot cs → Finished z cs d i ⊎ FinishedAtHand z cs d i
        go (inr w) = inl (ends_search z good i cs w d is_step done)
        go (inl r) =
            inr
            (record {
              key = k;
              node = n;
              visits = visits;
              runs = r;
              recency = running_recency z good cs k n visits i r d is_step done;
            })

  -- Every step that answers DONE ends a search that was started by a call of the sequence, or that already ran.
  pub every_search_at_hand : (cs : List Call) (d : Call) → event_of d ≡ steps i → Done d (store_after_all cs z)
      → Finished z cs d i ⊎ FinishedAtHand z cs d i
  every_search_at_hand cs d is_step done = go (ℕ_discrete (slot_at (state_of z) i).running 0)
    where
      go : Dec ((slot_at (state_of z) i).running ≡ idle_mark) → Finished z cs d i ⊎ FinishedAtHand z cs d i
      go (yes q) = inl (from_idle z good i q cs d is_step done)
      go (no q) =
          let r : (get_or z.slots i idle).running ≢ idle_mark = subst (λ (x : Slot). x.running ≢ idle_mark) (in_state z i) q in
          from_running _ _ _ (slot_in_use z good i r) cs d is_step done
