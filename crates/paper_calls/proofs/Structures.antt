-- Over all sequences of public calls: every store reached is the paper's structure, an accepted entry is the paper's upsert, every other call
-- that does not replace the store keeps MCS(r, t, H), and a finished search is recent over the whole history at its start.
use mathlib.Core.Path.{◌≡◌, refl, sym, ap, ◌∙◌, subst}
use mathlib.Core.Bool.{true}
use mathlib.Core.List.{List, ◌∷◌, ◌++◌}
use mathlib.Core.Option.{none, some}
use Prim.Native.Nat.{ℕ}
use native.Mathlib.Omega.{arith}
use borrow.Author.Tests.{eq-eqb}
use Rattle.lists.proofs.Options.{not_none_and_some, one_some}
use Rattle.store.specs.declared.Answer.{Answer}
use Rattle.store.specs.declared.Copy.{Copy}
use Rattle.store.specs.declared.Store.{Store}
use Rattle.store.specs.Answers.{DONE}
use Rattle.store.specs.Copies.{Kind, kind_number, value_held, copy}
use Rattle.store.specs.Layout.{plan_of, state_of}
use Rattle.store.specs.StoreRules.{good_store}
use Rattle.store.proofs.Laying.{state_clock}
use Rattle.store.proofs.Lifting.{plan_good, state_good}
use Rattle.theory.specs.Events.{Event, after}
use Rattle.theory.specs.Events.Event.{enters, steps, asks}
use Rattle.theory.specs.Paper.{CopySet, InHistory}
use Rattle.paper.specs.Specifications.{Upsert}
use Rattle.paper.proofs.Upserts.{to_mcs, upserts, others_keep}
use Rattle.calls.specs.PublicCalls.{Call, store_after, Done, store_after_all}
use Rattle.calls.specs.Following.{event_of, on_event, replacement, entered_by}
use Rattle.calls.specs.Recent.{at_start, at_end, SearchRuns, StoreRecency}
use Rattle.calls.proofs.Follows.{
  Acts,
  acts_as,
  entry_acts,
  step_acts,
  event_on,
  event_keeps_plan,
  event_state,
  event_answer,
  call_keeps_good,
  calls_keep_good,
  after-append,
}
use Rattle.calls.proofs.Histories.{entered_same, store_story}
use Rattle.calls.proofs.Recalls.{store_recency}
use Rattle.paper_calls.specs.Structure.{StoreMCS, copies_so_far, CallUpserts, CallSearch}

-- Every store reached by public calls from a good one is the paper's structure, with its clock and its history.
pub calls_mcs : (cs : List Call) (z : Store) → good_store z ≡ true
    → StoreMCS (store_after_all cs z) (store_after_all cs z).clock (InHistory (copies_so_far cs z))
calls_mcs cs z good =
    let y : Store = store_after_all cs z in
    let good_y : good_store y ≡ true = calls_keep_good cs z good in
    to_mcs (plan_of y) (plan_good y good_y) (state_of y) (state_good y good_y) y.clock (state_clock y) (InHistory (copies_so_far cs z))
    (store_story cs z good)

-- The state and the plan after a call that does not replace the store.
module _ (c : Call) (z : Store) (good : good_store z ≡ true) (stays : replacement c ≡ none) where
  state_then : state_of (store_after c z) ≡ after (plan_of z) (event_of c) (state_of z)
  state_then = ap state_of (event_on c z stays) ∙ event_state (event_of c) z good

  plan_then : plan_of (store_after c z) ≡ plan_of z
  plan_then = ap (λ (y : Store). plan_of y) (event_on c z stays) ∙ event_keeps_plan (event_of c) z

  -- One that enters nothing keeps MCS(r, t, H).
  pub other_calls_keep : entered_by (event_of c) z ≡ none → (t : ℕ) (H : CopySet) → StoreMCS z t H → StoreMCS (store_after c z) t H
  other_calls_keep f t H m =
      rw (state_then, plan_then)
      (others_keep (plan_of z) (plan_good z good) (state_of z) t H m (event_of c) (sym (entered_same (event_of c) z good) ∙ f))

module _ (c : Call) (z : Store) (good : good_store z ≡ true) (t : ℕ) (H : CopySet) (m : StoreMCS z t H) where
  -- (3): a call that enters a copy, by a record run too, is the paper's upsert.
  pub call_upserts : (x : Copy) → entered_by (event_of c) z ≡ some x → CallUpserts c z t H x
  call_upserts x f =
      record {
        stamp = on_states.stamp;
        says = its.answers z ∙ ap some (event_answer (event_of c) z good ∙ on_states.says);
        mcs = rw (state, plan) on_states.mcs;
        root_contents = rw state on_states.root_contents;
        other_contents = rw state on_states.other_contents;
        logical = rw (state, plan) on_states.logical;
      }
    where
      on_states : Upsert (plan_of z) (state_of z) t H (event_of c) x
      on_states = upserts (plan_of z) (plan_good z good) (state_of z) t H m (event_of c) x (sym (entered_same (event_of c) z good) ∙ f)

      -- A call that only asks enters nothing.
      its : Acts c (event_of c)
      its =
          let nothing : entered_by asks z ≡ none = unfold entered_by in refl in
          acts_as c (event_of c) refl
          (λ (q : event_of c ≡ asks). not_none_and_some nothing (subst (λ (e : Event). entered_by e z ≡ some x) q f))

      state : state_of (store_after c z) ≡ after (plan_of z) (event_of c) (state_of z)
      state = state_then c z good its.replaces_none

      plan : plan_of (store_after c z) ≡ plan_of z
      plan = plan_then c z good its.replaces_none

  -- An entry that answers DONE is the upsert of its copy: enter of (k, (v, t)), withdraw of (k, (□, t)).
  pub entry_call_upserts : (kind : Kind) (k v : ℕ) → event_of c ≡ enters kind k v → Done c z
      → CallUpserts c z t H (copy k (kind_number kind) (value_held kind v) t)
  unfolding entered_by
  entry_call_upserts kind k v is done =
      call_upserts (copy k (kind_number kind) (value_held kind v) t)
      (subst (λ (e : Event). entered_by e z ≡ some (copy k (kind_number kind) (value_held kind v) t)) (sym is) entered)
    where
      says : (on_event (enters kind k v) z).answer.number ≡ DONE
      says =
          ap (λ (a : Answer). a.number) (one_some ((acts_as c (enters kind k v) is (entry_acts kind k v)).answers z) done.1) ∙ done.2

      entered : entered_by (enters kind k v) z ≡ some (copy k (kind_number kind) (value_held kind v) t)
      entered =
          rw (eq-eqb (on_event (enters kind k v) z).answer.number DONE says)
          (ap (λ (n : ℕ). some (copy k (kind_number kind) (value_held kind v) n)) (sym (state_clock z) ∙ m.clock))

-- (4): a search that a call started and a call ended.
module _ (z : Store) (good : good_store z ≡ true) (before : List Call) (c : Call) (between : List Call) (k i : ℕ)
    (runs : SearchRuns z before c between k i) (d : Call) (is_step : event_of d ≡ steps i) (done : Done d (at_end z before c between)) where
  its_recency : StoreRecency z before c between d k i
  its_recency = store_recency z good before c between k i runs d is_step done

  good_end : good_store (at_end z before c between) ≡ true
  good_end = calls_keep_good between (store_after c (at_start z before)) (call_keeps_good c (at_start z before) (calls_keep_good before z good))

  at_end_lem : store_after_all (before ++ c ∷ between) z ≡ at_end z before c between
  unfolding store_after_all
  at_end_lem = after-append before (c ∷ between) z

  pub call_search : CallSearch z before c between d k i
  call_search =
      record {
        recency = its_recency;
        recent = λ a q. omega (arith, ((store_story before z good).invariant_1 k).greatest a q, its_recency.no_older);
        mcs =
            other_calls_keep d (at_end z before c between) good_end (acts_as d (steps i) is_step (step_acts i)).replaces_none
            (subst (λ (e : Event). entered_by e (at_end z before c between) ≡ none) (sym is_step) (unfold entered_by in refl))
            (at_end z before c between).clock (InHistory (copies_so_far (before ++ c ∷ between) z))
            (subst (λ (y : Store). StoreMCS y y.clock (InHistory (copies_so_far (before ++ c ∷ between) z))) at_end_lem
            (calls_mcs (before ++ c ∷ between) z good));
      }
