-- Search recency, for every plan that meets the plan rules, from any state that meets the state rules, and over all sequences; a search
-- that is not cancelled ends within as many own steps as its path has nodes.
use mathlib.Core.Path.{◌≡◌, refl, sym, ap, ◌∙◌, subst}
use mathlib.Core.Bool.{true}
use mathlib.Core.Logic.{◌⊎◌, inl, inr}
use mathlib.Core.List.Memᴰ
use mathlib.Core.List.{
  List,
  [],
  ◌∷◌,
  ◌++◌,
  append_assoc,
  Memᴰ,
}
use mathlib.Core.Option.{Option, none, some}
use Prim.Native.Nat.{ℕ, suc, ◌<◌, ◌≤◌}
use native.Mathlib.Omega.{arith}
use native.Mathlib.Nat.{add-zero}
use lib.ListN.{length}
use borrow.Author.Tests.{eq-eqb}
use Rattle.std.specs.Prelude.{Some}
use Rattle.plan.specs.Plan.{Plan, path}
use Rattle.plan.specs.PlanRules.{PlanRules}
use Rattle.store.specs.declared.Answer.{Answer}
use Rattle.store.specs.declared.Copy.{Copy}
use Rattle.store.specs.Answers.{DONE, GOING, answer}
use Rattle.store.specs.Copies.{stamp_of}
use Rattle.store.specs.State.{State, line, in_reach, current}
use Rattle.store.specs.StateRules.{StateRules}
use Rattle.steps.specs.Searches.{ended}
use Rattle.theory.specs.Events.{Event, after, answer_of, state_after_all, entry_of, option_list, entered_copies, held, still_runs, own_steps, not_cancelled, EndsIn}
use Rattle.theory.specs.Events.Event.{starts, steps}
use Rattle.theory.specs.Paper.{CopySet, History, InHistory, Multicopy, SearchRecency}
use Rattle.theory.proofs.EventSteps.{event_keeps, events_keep, after-all-append}
use Rattle.theory.proofs.InReach.{in_reach-held}
use Rattle.theory.proofs.Invariants.{history_in, in_history, member_option, entered-append, multicopy}
use Rattle.theory.proofs.Updates.{entry_upserts, current-stays}
use Rattle.theory.proofs.Searching.{Searches, Finishes, in_time, own_step, goes_through_all, ends_in, just_started, ended-done}

-- Where a copy was entered in a sequence.
record EnteredAt (p : Plan) (es : List Event) (s : State) (x : Copy) : Type 0 where
  first : List Event
  event : Event
  rest : List Event
  parts : es ≡ first ++ event ∷ rest
  enters : entry_of p event (state_after_all p first s) ≡ some x

entered_at : (p : Plan) (es : List Event) (s : State) (x : Copy) → Memᴰ x (entered_copies p es s) → EnteredAt p es s x
unfolding entered_copies state_after_all
entered_at p [] s x m = absurd (Memᴰ.not-nil m)
entered_at p (e ∷ es) s x m = go (Memᴰ.append_cases (option_list (entry_of p e s)) m) (entered_at p es (after p e s) x)
  where
    go : Memᴰ x (option_list (entry_of p e s)) ⊎ Memᴰ x (entered_copies p es (after p e s))
        → (Memᴰ x (entered_copies p es (after p e s)) → EnteredAt p es (after p e s) x) → EnteredAt p (e ∷ es) s x
    go (inl f) again = record { first = []; event = e; rest = es; parts = refl; enters = member_option (entry_of p e s) x f }
    go (inr f) again =
        let w = again f in
        record {
          first = e ∷ w.first;
          event = w.event;
          rest = w.rest;
          parts = ap (λ (l : List Event). e ∷ l) w.parts;
          enters = w.enters;
        }

-- What a history has of a key, never or a copy, and is as new as the logical contents, is the logical contents.
latest_is : (p : Plan) (s : State) (H : CopySet) → Multicopy p s H → (k : ℕ) (o : Option Copy) → H k o → stamp_of (current p s k) ≤ stamp_of o
    → o ≡ current p s k
latest_is p s H c k o i late =
    c.h_unique.one k o (current p s k) i (c.invariant_1 k).in_history (omega (arith, (c.invariant_1 k).greatest o i))

module _ (p : Plan) (rules : PlanRules p) (s : State) (good : StateRules p s) (before between : List Event) (k i : ℕ)
    (started : answer_of p (starts k) (state_after_all p before s) ≡ answer DONE i 0 0 0)
    (still_running : still_runs p i between (after p (starts k) (state_after_all p before s)) ≡ true) where
  -- The state at the search's start, after it, and at its last step.
  abbrev s₁ : State
  s₁ = state_after_all p before s

  abbrev s₂ : State
  s₂ = after p (starts k) s₁

  abbrev s₃ : State
  s₃ = state_after_all p between s₂

  good₁ : StateRules p s₁
  good₁ = events_keep p rules before s good

  good₂ : StateRules p s₂
  good₂ = event_keeps p rules (starts k) s₁ good₁

  good₃ : StateRules p s₃
  good₃ = events_keep p rules between s₂ good₂

  searches : Searches p k (stamp_of (current p s₁ k)) i (own_steps i between) s₃
  searches =
      rw add-zero at
      (goes_through_all p rules k (stamp_of (current p s₁ k)) i between s₂ good₂ 0 (just_started p rules s₁ good₁ k i started) still_running)

  -- A search that goes on has made fewer own steps than its key's path has nodes,
  pub fewer_steps : own_steps i between < length (path p k)
  fewer_steps = in_time p rules k (stamp_of (current p s₁ k)) i s₃ good₃ (own_steps i between) searches

  -- and with one step less than the path has nodes, the next step ends it.
  pub last_step_ends : suc (own_steps i between) ≡ length (path p k) → (answer_of p (steps i) s₃).number ≡ DONE
  last_step_ends h = go (own_step p rules k (stamp_of (current p s₁ k)) i s₃ good₃ (own_steps i between) searches)
    where
      go : Finishes p k (stamp_of (current p s₁ k)) i (own_steps i between) s₃
          ⊎ (Searches p k (stamp_of (current p s₁ k)) i (suc (own_steps i between)) (after p (steps i) s₃) × ((answer_of p (steps i) s₃).number ≡ GOING))
          → (answer_of p (steps i) s₃).number ≡ DONE
      go (inl f) = ap (λ (a : Answer). a.number) f.says ∙ ended-done (in_reach p s₃ k (Some f.node)) (suc (own_steps i between))
      go (inr w) =
          absurd
          (omega (
            arith,
            in_time p rules k (stamp_of (current p s₁ k)) i (after p (steps i) s₃) (event_keeps p rules (steps i) s₃ good₃)
                (suc (own_steps i between))
                w.0,
          ))

  -- The history up to the search's start, and up to its end.
  abbrev h₁ : History
  h₁ = held s ++ entered_copies p before s

  abbrev h₃ : History
  h₃ = held s ++ entered_copies p (before ++ starts k ∷ between) s

  end_state : state_after_all p (before ++ starts k ∷ between) s ≡ s₃
  end_state = after-all-append p before (starts k ∷ between) s ∙ (unfold state_after_all in refl)

  end_history : h₃ ≡ h₁ ++ entered_copies p between s₂
  end_history =
      let since : entered_copies p (starts k ∷ between) s₁ ≡ entered_copies p between s₂ = unfold entered_copies entry_of in refl in
      rw (entered-append p rules before (starts k ∷ between) s, since)
      (sym (append_assoc (held s) (entered_copies p before s) (entered_copies p between s₂)))

  -- A search that finds this, which is held and no older than the line's latest at its start, meets search recency.
  module _ (found : Option Copy) (says : answer_of p (steps i) s₃ ≡ ended found (suc (own_steps i between)))
      (no_older : stamp_of (current p s₁ k) ≤ stamp_of found) (is_held_lem : (x : Copy) → found ≡ some x → (m : ℕ) × (line s₃ k m ≡ some x)) where
    real : (x : Copy) → found ≡ some x → (x.key ≡ k) × Memᴰ x h₃
    real x e =
        let w = is_held_lem x e in
        let c : Multicopy p s₃ (InHistory h₃) =
        subst (λ (z : State). Multicopy p z (InHistory h₃)) end_state (multicopy p rules (before ++ starts k ∷ between) s good) in
        history_in h₃ k (line s₃ k w.0) x (c.invariant_3 w.0 k) w.1

    then_or_since : (found ≡ current p s₁ k) ⊎ ((x : Copy) × (found ≡ some x) × Memᴰ x (entered_copies p between s₂))
    then_or_since = go found refl
      where
        go : (o : Option Copy) → found ≡ o → (found ≡ current p s₁ k) ⊎ ((x : Copy) × (found ≡ some x) × Memᴰ x (entered_copies p between s₂))
        go none e = inl (e ∙ latest_is p s₁ (InHistory h₁) (multicopy p rules before s good) k none tt (omega (arith, ap stamp_of e)))
        go (some x) e = at (Memᴰ.append_cases h₁ (subst (λ (h : History). Memᴰ x h) end_history (real x e).1))
          where
            at : Memᴰ x h₁ ⊎ Memᴰ x (entered_copies p between s₂)
                → (found ≡ current p s₁ k) ⊎ ((x : Copy) × (found ≡ some x) × Memᴰ x (entered_copies p between s₂))
            at (inl m) =
                inl
                (e
                ∙ latest_is p s₁ (InHistory h₁) (multicopy p rules before s good) k (some x) (inr ((real x e).0, m)) (omega (arith, ap stamp_of e)))
            at (inr m) = inr (x, e, m)

    at_a_point : (found ≡ current p s₁ k) ⊎ ((x : Copy) × (found ≡ some x) × Memᴰ x (entered_copies p between s₂))
        → (first rest : List Event) × (between ≡ first ++ rest) × (found ≡ current p (state_after_all p first s₂) k)
    unfolding state_after_all
    at_a_point (inl e) = ([], between, refl, e ∙ sym (current-stays p rules s₁ good₁ (starts k) (unfold entry_of in refl) k))
    at_a_point (inr w) =
        let at = entered_at p between s₂ w.0 w.2 in
        let key : w.0.key ≡ k = (real w.0 w.1).0 in
        let then : State = state_after_all p at.first s₂ in
        let now : state_after_all p (at.first ++ at.event ∷ []) s₂ ≡ after p at.event then = after-all-append p at.first (at.event ∷ []) s₂ in (
          at.first ++ at.event ∷ [],
          at.rest,
          at.parts ∙ sym (append_assoc at.first (at.event ∷ []) at.rest),
          w.1
              ∙ sym
              (ap (λ (z : State). current p z k) now
              ∙ (entry_upserts p rules then (events_keep p rules at.first s₂ good₂) at.event w.0 at.enters k
              ∙ rw (eq-eqb w.0.key k key))),
        )

    finds_recent : SearchRecency p s before between k i
    finds_recent =
        record {
          found = found;
          says = says;
          in_time = fewer_steps;
          real = in_history h₃ k found real;
          no_older = no_older;
          at_start_or_between = then_or_since;
          at_some_point = at_a_point then_or_since;
        }

  -- Search recency: a search that was started, went on, and ended by a step of its own.
  pub search_recency : (answer_of p (steps i) s₃).number ≡ DONE → SearchRecency p s before between k i
  search_recency done = go (own_step p rules k (stamp_of (current p s₁ k)) i s₃ good₃ (own_steps i between) searches)
    where
      go : Finishes p k (stamp_of (current p s₁ k)) i (own_steps i between) s₃
          ⊎ (Searches p k (stamp_of (current p s₁ k)) i (suc (own_steps i between)) (after p (steps i) s₃) × ((answer_of p (steps i) s₃).number ≡ GOING))
          → SearchRecency p s before between k i
      go (inl f) =
          finds_recent (in_reach p s₃ k (Some f.node)) f.says f.recent
          (λ x e. let w = in_reach-held p rules s₃ k f.node x f.inside e in (w.0, w.2))
      go (inr w) = absurd (omega (arith, w.1))

-- A search that is not cancelled ends within as many own steps as its key's path has nodes, whatever happens between.
pub search_ends : (p : Plan) (rules : PlanRules p) (s : State) → StateRules p s → (k i : ℕ) → answer_of p (starts k) s ≡ answer DONE i 0 0 0
    → (es : List Event) → not_cancelled i es ≡ true → length (path p k) ≤ own_steps i es
    → EndsIn p i es (after p (starts k) s)
search_ends p rules s good k i started es c h =
    ends_in p rules k (stamp_of (current p s k)) i es (after p (starts k) s) (event_keeps p rules (starts k) s good) 0
    (just_started p rules s good k i started) c (rw add-zero h)
