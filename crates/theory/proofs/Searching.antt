-- A search in a slot, event by event: what is not its own leaves it, its own step ends it or takes it to the key's next node; and what is
-- in reach of the node where it stands never gets older.
use mathlib.Core.Path.{◌≡◌, refl, sym, ap, ◌∙◌, subst}
use mathlib.Core.Bool.{Bool, true, false, not, ◌&&◌}
use mathlib.Core.Logic.{◌≢◌, ◌⊎◌, inl, inr}
use mathlib.Core.List.{List, [], ◌∷◌}
use mathlib.Core.Option.{Option, none, some}
use Prim.Native.Nat.{ℕ, suc, ◌+◌, ◌<◌, ◌≤◌}
use native.Mathlib.Omega.{arith}
use native.Mathlib.Nat.{zero-add}
use native.Mathlib.Numerals.{one-add}
use native.Mathlib.Decide.{dec_lt}
use lib.Dec.{eqb}
use lib.ListN.{length, get_or, get_or-eq_default}
use borrow.Author.Tests.{eqb-true, eqb-false, eq-eqb}
use Rattle.lists.proofs.Truths.{bool?, not_both, and_left, and_right, and_both}
use Rattle.plan.specs.Plan.{Hop}
use Rattle.std.specs.Prelude.{Some, None}
use Rattle.plan.specs.Plan.{Plan, size, next, path}
use Rattle.plan.specs.PlanRules.{PlanRules}
use Rattle.plan.proofs.NextLaws.{next_down, root_in_plan}
use Rattle.store.specs.declared.Answer.{Answer}
use Rattle.store.specs.declared.Copy.{Copy}
use Rattle.store.specs.declared.Slot.{Slot}
use Rattle.store.specs.Answers.{DONE, GOING, SLOTS, answer}
use Rattle.store.specs.Copies.{kind_number, value_held, stamp_of}
use Rattle.store.specs.State.{State, slot_at, slot_count, idle, line, or_else, in_reach, current, idle_mark}
use Rattle.store.specs.StateRules.{OnPath, StateRules}
use Rattle.store.specs.Calls.{Effect}
use Rattle.store.proofs.RulingLines.{reach_ends, reach_goes}
use Rattle.steps.specs.Carries.{bit}
use Rattle.steps.specs.Searches.{running, with_slot, ended, step_step}
use Rattle.steps.proofs.WaysOut.{StartWay, start_way, RunningWay, Visit, step_way, Freed, cancel_way}
use Rattle.steps.proofs.WaysOut.StartWay.{all-running, starts as taken}
use Rattle.steps.proofs.WaysOut.RunningWay.{no_slot, slot_idle, slot_runs}
use Rattle.steps.proofs.WaysOut.Visit.{finds, never, goes}
use Rattle.steps.proofs.WaysOut.Freed.{freed}
use Rattle.steps.proofs.LineSteps.{slot_set, slot_other, entry_slots, carry_slots}
use Rattle.steps.proofs.OnPaths.{on_path_in_plan}
use Rattle.steps.proofs.SearchLaws.{step_finds, step_never, step_goes}
use Rattle.theory.specs.Events.{Event, effect, after, answer_of, state_after_all, still_runs_after, still_runs, is_own_step, own_steps, cancels_slot, not_cancelled, EndsIn}
use Rattle.theory.specs.Events.Event.{enters, carries, starts, steps, cancels, asks}
use Rattle.theory.proofs.EventSteps.{event_keeps}
use Rattle.theory.proofs.Invariants.{reach_increases}

-- A slot that runs is one of the slots.
pub slot_there : (s : State) (i : ℕ) → (slot_at s i).running ≢ idle_mark → i < length s.slots
slot_there s i r = go (dec_lt i (length s.slots))
  where
    go : Dec (i < length s.slots) → i < length s.slots
    go (yes h) = h
    go (no h) = absurd (r (ap (λ (q : Slot). q.running) (get_or-eq_default s.slots idle (omega arith))))

-- The one event that is a step of slot i.
own_event : (i : ℕ) (e : Event) → is_own_step i e ≡ true → e ≡ steps i
unfolding is_own_step
own_event i (steps j) t = ap steps (eqb-true j i t)
own_event i (enters kind k v) t = absurd (not_both t refl)
own_event i (carries n j) t = absurd (not_both t refl)
own_event i (starts k) t = absurd (not_both t refl)
own_event i (cancels j) t = absurd (not_both t refl)
own_event i asks t = absurd (not_both t refl)

-- What is done with another slot leaves this one.
other_running : (Done : Effect → Type 0) (s : State) (i j : ℕ) → ((o : Effect) → Done o → slot_at o.after i ≡ slot_at s i)
    → {o : Effect} → RunningWay Done j s o → slot_at o.after i ≡ slot_at s i
other_running Done s i j f (no_slot h) = refl
other_running Done s i j f (slot_idle h g) = refl
other_running Done s i j f (slot_runs {e = o} h g d) = f o d

module _ (p : Plan) (s : State) (i : ℕ) where
  other_started : {k : ℕ} {o : Effect} → (slot_at s i).running ≢ idle_mark → StartWay k s o → slot_at o.after i ≡ slot_at s i
  other_started r (all-running h) = refl
  other_started {k = k} r (taken j h f g) =
      slot_other j (running k 0 0) s i (λ (q : i ≡ j). r (subst (λ (l : ℕ). (slot_at s l).running ≡ idle_mark) (sym q) f))

  other_stepped : (j : ℕ) → i ≢ j → slot_at (after p (steps j) s) i ≡ slot_at s i
  unfolding effect
  other_stepped j h = other_running (Visit j p s) s i j (λ o. go) (step_way j p s)
    where
      go : {o : Effect} → Visit j p s o → slot_at o.after i ≡ slot_at s i
      go (finds x f) = slot_other j idle s i h
      go (never f g) = slot_other j idle s i h
      go (goes f t g) = slot_other j (running (slot_at s j).key t (suc (slot_at s j).visits)) s i h

  other_cancelled : (j : ℕ) → i ≢ j → slot_at (after p (cancels j) s) i ≡ slot_at s i
  unfolding effect
  other_cancelled j h = other_running (Freed j s) s i j (λ o. go) (cancel_way j p s)
    where
      go : {o : Effect} → Freed j s o → slot_at o.after i ≡ slot_at s i
      go freed = slot_other j idle s i h

  -- An event that is no step of the search's own and does not cancel it leaves its slot.
  slot_stays : (e : Event) → is_own_step i e ≡ false → cancels_slot i e ≡ false → (slot_at s i).running ≢ idle_mark
      → slot_at (after p e s) i ≡ slot_at s i
  unfolding effect is_own_step cancels_slot
  slot_stays (enters kind k v) a b r = ap (λ (qs : List Slot). get_or qs i idle) (entry_slots (kind_number kind) k (value_held kind v) p s)
  slot_stays (carries n j) a b r = ap (λ (qs : List Slot). get_or qs i idle) (carry_slots n j p s)
  slot_stays (starts k) a b r = other_started r (start_way k p s)
  slot_stays (steps j) a b r = other_stepped j (λ (q : i ≡ j). eqb-false j i a (sym q))
  slot_stays (cancels j) a b r = other_cancelled j (λ (q : i ≡ j). eqb-false j i b (sym q))
  slot_stays asks a b r = refl

  -- A search still runs after an event exactly when that does not cancel it, and its own step says GOING.
  still_runs-not_cancelled : (e : Event) → still_runs_after p i e s ≡ true → cancels_slot i e ≡ false
  unfolding still_runs_after cancels_slot
  still_runs-not_cancelled (cancels j) t = not-true (eqb j i) t
    where
      not-true : (b : Bool) → not b ≡ true → b ≡ false
      not-true true t = sym t
      not-true false t = refl
  still_runs-not_cancelled (steps j) t = refl
  still_runs-not_cancelled (enters kind k v) t = refl
  still_runs-not_cancelled (carries n j) t = refl
  still_runs-not_cancelled (starts k) t = refl
  still_runs-not_cancelled asks t = refl

  still_runs_if : (e : Event) → is_own_step i e ≡ false → cancels_slot i e ≡ false → still_runs_after p i e s ≡ true
  unfolding still_runs_after is_own_step cancels_slot
  still_runs_if (cancels j) a b = rw b
  still_runs_if (steps j) a b = rw a
  still_runs_if (enters kind k v) a b = refl
  still_runs_if (carries n j) a b = refl
  still_runs_if (starts k) a b = refl
  still_runs_if asks a b = refl

  own_still_runs : still_runs_after p i (steps i) s ≡ (eqb (answer_of p (steps i) s).number GOING)
  unfolding still_runs_after
  own_still_runs = rw (eq-eqb i i refl)

-- A search for key k runs in slot i after v visits, and what is in reach of the node where it stands is no older than t₀.
pub record Searches (p : Plan) (k t₀ i v : ℕ) (s : State) : Type 0 where
  pub node : ℕ
  pub at : slot_at s i ≡ running k node v
  pub recent : t₀ ≤ stamp_of (in_reach p s k (Some node))

-- Its next step ends it: the answer is of what is in reach of the node where it stands.
pub record Finishes (p : Plan) (k t₀ i v : ℕ) (s : State) : Type 0 where
  pub node : ℕ
  pub inside : node < size p
  pub says : answer_of p (steps i) s ≡ ended (in_reach p s k (Some node)) (suc v)
  pub recent : t₀ ≤ stamp_of (in_reach p s k (Some node))

pub ended-done : (o : Option Copy) (v : ℕ) → (ended o v).number ≡ DONE
ended-done none v = refl
ended-done (some x) v = refl

module _ (p : Plan) (rules : PlanRules p) (k t₀ i : ℕ) where
  module _ (s : State) (good : StateRules p s) where
    runs : (v : ℕ) → Searches p k t₀ i v s → (slot_at s i).running ≢ idle_mark
    runs v r z = let one = ap (λ (q : Slot). q.running) r.at in omega arith

    -- A running search stands on its key's path, its visits equal to the path nodes above it,
    pub stands : (v : ℕ) → (r : Searches p k t₀ i v s) → OnPath p k r.node v
    stands v r =
        let there : i < slot_count = omega (arith, slot_there s i (runs v r), good.slots_long) in
        rw r.at at (good.running_searches_on_their_paths i there (runs v r)).1

    -- so it has made fewer steps than the path has nodes.
    pub in_time : (v : ℕ) → Searches p k t₀ i v s → v < length (path p k)
    in_time v r = (stands v r).inside

    -- A step of its own ends it, or takes it to the next node.
    pub own_step : (v : ℕ) → Searches p k t₀ i v s
        → Finishes p k t₀ i v s ⊎ (Searches p k t₀ i (suc v) (after p (steps i) s) × ((answer_of p (steps i) s).number ≡ GOING))
    unfolding effect
    own_step v r = go (line s k n) (next p n k) refl refl
      where
        n : ℕ
        n = r.node

        inside : n < size p
        inside = on_path_in_plan p rules k n v (stands v r)

        there : i < length s.slots
        there = slot_there s i (runs v r)

        reach : in_reach p s k (Some n) ≡ or_else (line s k n) (in_reach p s k (next p n k))
        reach = reach_goes p rules s k n inside

        past : line s k n ≡ none → in_reach p s k (Some n) ≡ in_reach p s k (next p n k)
        past a = reach ∙ ap (λ (o : Option Copy). or_else o (in_reach p s k (next p n k))) a

        finishes : (o : Option Copy) → in_reach p s k (Some n) ≡ o → (step_step i p s).answer ≡ ended o (suc v) → Finishes p k t₀ i v s
        finishes o f says = record { node = n; inside = inside; says = rw f says; recent = r.recent }

        go : (o : Option Copy) (h : Hop) → line s k n ≡ o → next p n k ≡ h
            → Finishes p k t₀ i v s ⊎ (Searches p k t₀ i (suc v) (after p (steps i) s) × ((answer_of p (steps i) s).number ≡ GOING))
        go (some x) h a b =
            inl
            (finishes (some x) (reach ∙ ap (λ (o : Option Copy). or_else o (in_reach p s k (next p n k))) a)
            (ap (λ (o : Effect). o.answer) (step_finds p s i k n v there r.at x a)))
        go none None a b =
            inl
            (finishes none (past a ∙ ap (in_reach p s k) b ∙ reach_ends p rules s k)
            (ap (λ (o : Effect). o.answer) (step_never p s i k n v there r.at a b)))
        go none (Some t) a b =
            let went = step_goes p s i k n v there r.at a t b in
            inr (
              record {
                node = t;
                at = ap (λ (o : Effect). slot_at o.after i) went ∙ slot_set i (running k t (suc v)) s there;
                recent =
                    omega (
                      arith,
                      r.recent,
                      ap stamp_of (past a ∙ ap (in_reach p s k) b),
                      reach_increases p rules s good (steps i) t k (next_down p rules n k t b).1,
                    );
              },
              ap (λ (o : Effect). o.answer.number) went,
            )

    -- An event that is no step of its own, and no cancel, leaves it running.
    pub others_pass : (v : ℕ) → Searches p k t₀ i v s → (e : Event) → is_own_step i e ≡ false → cancels_slot i e ≡ false
        → Searches p k t₀ i v (after p e s)
    others_pass v r e a b =
        record {
          node = r.node;
          at = slot_stays p s i e a b (runs v r) ∙ r.at;
          recent =
              omega
              (arith, r.recent, reach_increases p rules s good e r.node k (on_path_in_plan p rules k r.node v (stands v r)));
        }

    -- An event through which it goes on.
    goes_through : (v : ℕ) → Searches p k t₀ i v s → (e : Event) → still_runs_after p i e s ≡ true
        → Searches p k t₀ i (bit (is_own_step i e) + v) (after p e s)
    goes_through v r e t = go (bool? (is_own_step i e))
      where
        own : still_runs_after p i (steps i) s ≡ true
            → Finishes p k t₀ i v s ⊎ (Searches p k t₀ i (suc v) (after p (steps i) s) × ((answer_of p (steps i) s).number ≡ GOING))
            → Searches p k t₀ i (suc v) (after p (steps i) s)
        own g (inl f) =
            let says = ap (λ (a : Answer). a.number) f.says ∙ ended-done (in_reach p s k (Some f.node)) (suc v) in
            absurd (omega (arith, eqb-true (answer_of p (steps i) s).number GOING (sym (own_still_runs p s i) ∙ g)))
        own g (inr w) = w.0

        go : (is_own_step i e ≡ true) ⊎ (is_own_step i e ≡ false) → Searches p k t₀ i (bit (is_own_step i e) + v) (after p e s)
        go (inl a) =
            let is = own_event i e a in
            rw (a, one-add)
            (subst (λ (d : Event). Searches p k t₀ i (suc v) (after p d s)) (sym is)
            (own (subst (λ (d : Event). still_runs_after p i d s ≡ true) is t) (own_step v r)))
        go (inr a) = rw (a, zero-add) (others_pass v r e a (still_runs-not_cancelled p s i e t))

  -- A sequence through which it goes on.
  pub goes_through_all : (es : List Event) (s : State) → StateRules p s → (v : ℕ) → Searches p k t₀ i v s → still_runs p i es s ≡ true
      → Searches p k t₀ i (own_steps i es + v) (state_after_all p es s)
  unfolding still_runs own_steps state_after_all
  goes_through_all [] s good v r t = rw zero-add r
  goes_through_all (e ∷ es) s good v r t =
      let q : own_steps i es + (bit (is_own_step i e) + v) ≡ bit (is_own_step i e) + own_steps i es + v = omega arith in
      subst (λ (n : ℕ). Searches p k t₀ i n (state_after_all p es (after p e s))) q
      (goes_through_all es (after p e s) (event_keeps p rules e s good) (bit (is_own_step i e) + v)
      (goes_through s good v r e (and_left (still_runs_after p i e s) (still_runs p i es (after p e s)) t))
      (and_right (still_runs_after p i e s) (still_runs p i es (after p e s)) t))

  later : (e : Event) (es : List Event) (s : State) → still_runs_after p i e s ≡ true → EndsIn p i es (after p e s) → EndsIn p i (e ∷ es) s
  unfolding still_runs state_after_all
  later e es s t w =
      record {
        first = e ∷ w.first;
        rest = w.rest;
        parts = ap (λ (l : List Event). e ∷ l) w.parts;
        until = and_both t w.until;
        done = w.done;
      }

  -- A sequence with as many steps of its own as are left on the path, in which it is not cancelled, ends it.
  pub ends_in : (es : List Event) (s : State) → StateRules p s → (v : ℕ) → Searches p k t₀ i v s → not_cancelled i es ≡ true
      → length (path p k) ≤ own_steps i es + v → EndsIn p i es s
  unfolding not_cancelled own_steps still_runs state_after_all
  ends_in [] s good v r c h = absurd (omega (arith, in_time s good v r))
  ends_in (e ∷ es) s good v r c h =
      go (bool? (is_own_step i e)) (ends_in es (after p e s) (event_keeps p rules e s good))
    where
      not_it : (b : Bool) → not b && not_cancelled i es ≡ true → b ≡ false
      not_it true t = sym t
      not_it false t = refl

      left : not_cancelled i es ≡ true
      left = and_right (not (cancels_slot i e)) (not_cancelled i es) c

      go : (is_own_step i e ≡ true) ⊎ (is_own_step i e ≡ false)
          → ((v : ℕ) → Searches p k t₀ i v (after p e s) → not_cancelled i es ≡ true → length (path p k) ≤ own_steps i es + v
          → EndsIn p i es (after p e s))
          → EndsIn p i (e ∷ es) s
      go (inl a) ih = own (own_step s good v r)
        where
          is : e ≡ steps i
          is = own_event i e a

          own : Finishes p k t₀ i v s ⊎ (Searches p k t₀ i (suc v) (after p (steps i) s) × ((answer_of p (steps i) s).number ≡ GOING))
              → EndsIn p i (e ∷ es) s
          own (inl f) =
              record {
                first = [];
                rest = es;
                parts = ap (λ (d : Event). d ∷ es) is;
                until = refl;
                done = ap (λ (x : Answer). x.number) f.says ∙ ended-done (in_reach p s k (Some f.node)) (suc v);
              }
          own (inr w) =
              later e es s
              (subst (λ (d : Event). still_runs_after p i d s ≡ true) (sym is)
              (own_still_runs p s i ∙ eq-eqb (answer_of p (steps i) s).number GOING w.1))
              (ih (suc v) (subst (λ (d : Event). Searches p k t₀ i (suc v) (after p d s)) (sym is) w.0) left
              (let one : bit (is_own_step i e) ≡ 1 = ap bit a in omega arith))
      go (inr a) ih =
          let b : cancels_slot i e ≡ false = not_it (cancels_slot i e) c in
          later e es s (still_runs_if p s i e a b)
          (ih v (others_pass s good v r e a b) left (let none_own : bit (is_own_step i e) ≡ 0 = ap bit a in omega arith))

-- A search that has just been started stands at the root after 0 visits.
pub started_slot : (p : Plan) (s : State) (k i : ℕ) → answer_of p (starts k) s ≡ answer DONE i 0 0 0
    → slot_at (after p (starts k) s) i ≡ running k 0 0
unfolding effect
started_slot p s k i h = go (start_way k p s) h
  where
    go : {o : Effect} → StartWay k s o → o.answer ≡ answer DONE i 0 0 0 → slot_at o.after i ≡ running k 0 0
    go (all-running f) e = let z : SLOTS ≡ DONE = ap (λ (a : Answer). a.number) e in absurd (omega arith)
    go (taken j f g l) e =
        let its : j ≡ i = ap (λ (a : Answer). a.a) e in
        subst (λ (n : ℕ). slot_at (with_slot j (running k 0 0) s) n ≡ running k 0 0) its (slot_set j (running k 0 0) s f)

pub just_started : (p : Plan) → PlanRules p → (s : State) → StateRules p s → (k i : ℕ) → answer_of p (starts k) s ≡ answer DONE i 0 0 0
    → Searches p k (stamp_of (current p s k)) i 0 (after p (starts k) s)
just_started p rules s good k i h =
    record {
      node = 0;
      at = started_slot p s k i h;
      recent = reach_increases p rules s good (starts k) 0 k (root_in_plan p rules);
    }
