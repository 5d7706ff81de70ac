-- A slot, event by event: one in which no search runs gets one by a start alone, and one whose search does not run on gets idle.
use mathlib.Core.Path.{◌≡◌, refl, sym, ap, ◌∙◌, subst}
use mathlib.Core.Bool.{Bool, true, false, not, ◌||◌}
use mathlib.Core.Logic.{◌≢◌, ◌⊎◌, inl, inr}
use mathlib.Core.List.{List}
use Prim.Native.Nat.{ℕ, ◌<◌, ◌≤◌}
use native.Mathlib.Omega.{arith}
use native.Mathlib.Decide.{ℕ_discrete}
use lib.Dec.{eqb}
use lib.ListN.{length, get_or, get_or-eq_default}
use borrow.Author.Tests.{eqb-true, eq-eqb}
use Rattle.lists.proofs.Truths.{not_both}
use Rattle.plan.specs.Plan.{Plan}
use Rattle.store.specs.declared.Slot.{Slot}
use Rattle.store.specs.Answers.{DONE, GOING, answer}
use Rattle.store.specs.Copies.{kind_number, value_held}
use Rattle.store.specs.State.{State, slot_at, idle, idle_mark}
use Rattle.store.specs.Calls.{Effect}
use Rattle.steps.specs.Searches.{running, with_slot}
use Rattle.steps.proofs.WaysOut.{StartWay, start_way, RunningWay, Visit, step_way, Freed, cancel_way}
use Rattle.steps.proofs.WaysOut.StartWay.{all-running, starts as taken}
use Rattle.steps.proofs.WaysOut.RunningWay.{no_slot, slot_idle, slot_runs}
use Rattle.steps.proofs.WaysOut.Visit.{finds, never, goes}
use Rattle.steps.proofs.WaysOut.Freed.{freed}
use Rattle.steps.proofs.LineSteps.{slot_set, slot_other, entry_slots, carry_slots}
use Rattle.theory.specs.Events.{Event, effect, after, answer_of, still_runs_after}
use Rattle.theory.specs.Events.Event.{enters, carries, starts, steps, cancels, asks}

-- No search runs in slot i.
abbrev pub Idles : State → ℕ → Type 0
Idles s i = (slot_at s i).running ≡ idle_mark

module _ (s : State) (i : ℕ) where
  -- Past the slots none runs; a slot that is made idle is idle.
  past_slots : length s.slots ≤ i → Idles s i
  past_slots h = ap (λ (q : Slot). q.running) (get_or-eq_default s.slots idle h)

  made_idle : i < length s.slots → Idles (with_slot i idle s) i
  made_idle h = ap (λ (q : Slot). q.running) (slot_set i idle s h)

  -- What is done with another slot leaves this one.
  other_slot : (j : ℕ) (q : Slot) → i ≢ j → Idles s i → Idles (with_slot j q s) i
  other_slot j q h e = ap (λ (r : Slot). r.running) (slot_other j q s i h) ∙ e

module _ (p : Plan) (s : State) (i : ℕ) where
  -- An event after which the slot's search does not still run leaves no search in it.
  stepped_idle : {o : Effect} → RunningWay (Visit i p s) i s o → eqb o.answer.number GOING ≡ false → Idles o.after i
  stepped_idle (no_slot h) t = past_slots s i h
  stepped_idle (slot_idle h g) t = g
  stepped_idle (slot_runs h g (finds x f)) t = made_idle s i h
  stepped_idle (slot_runs h g (never f n)) t = made_idle s i h
  stepped_idle (slot_runs h g (goes f m n)) t = absurd (not_both refl t)

  cancelled_idle : {o : Effect} → RunningWay (Freed i s) i s o → Idles o.after i
  cancelled_idle (no_slot h) = past_slots s i h
  cancelled_idle (slot_idle h g) = g
  cancelled_idle (slot_runs h g freed) = made_idle s i h

  pub stopped_idle : (e : Event) → still_runs_after p i e s ≡ false → Idles (after p e s) i
  unfolding effect still_runs_after
  stopped_idle (steps j) t = go (ℕ_discrete j i)
    where
      second : (b : Bool) → not b || eqb (answer_of p (steps j) s).number GOING ≡ false → b ≡ true
          → eqb (answer_of p (steps j) s).number GOING ≡ false
      second true t h = t
      second false t h = absurd (not_both h refl)

      first : (b c : Bool) → not b || c ≡ false → b ≡ true
      first true c t = refl
      first false c t = absurd (not_both refl t)

      go : Dec (j ≡ i) → Idles (after p (steps j) s) i
      go (yes q) =
          subst (λ (l : ℕ). Idles (after p (steps l) s) i) (sym q)
          (stepped_idle (step_way i p s)
          (subst (λ (l : ℕ). eqb (answer_of p (steps l) s).number GOING ≡ false) q (second (eqb j i) t (eq-eqb j i q))))
      go (no q) = absurd (q (eqb-true j i (first (eqb j i) (eqb (answer_of p (steps j) s).number GOING) t)))
  stopped_idle (cancels j) t =
      subst (λ (l : ℕ). Idles (after p (cancels l) s) i) (sym (eqb-true j i (is (eqb j i) t))) (cancelled_idle (cancel_way i p s))
    where
      is : (b : Bool) → not b ≡ false → b ≡ true
      is true t = refl
      is false t = absurd (not_both refl t)
  stopped_idle (enters kind k v) t = absurd (not_both refl t)
  stopped_idle (carries n j) t = absurd (not_both refl t)
  stopped_idle (starts k) t = absurd (not_both refl t)
  stopped_idle asks t = absurd (not_both refl t)

  -- A slot in which none runs gets one by a start alone.
  abbrev pub StartsIn : Event → Type 0
  StartsIn e = (k : ℕ) × (e ≡ starts k) × (answer_of p e s ≡ answer DONE i 0 0 0)

  module _ (idles : Idles s i) where
    other_running : (Kept : Effect → Type 0) (j : ℕ) → ((o : Effect) → i ≢ j → Kept o → Idles o.after i)
        → {o : Effect} → RunningWay Kept j s o → Idles o.after i
    other_running Kept j f (no_slot h) = idles
    other_running Kept j f (slot_idle h g) = idles
    other_running Kept j f (slot_runs {e = o} h g d) = f o (λ (q : i ≡ j). g (subst (λ (l : ℕ). Idles s l) q idles)) d

    pub still_idle : (e : Event) → Idles (after p e s) i ⊎ StartsIn e
    unfolding effect
    still_idle (enters kind k v) =
        inl (ap (λ (qs : List Slot). (get_or qs i idle).running) (entry_slots (kind_number kind) k (value_held kind v) p s) ∙ idles)
    still_idle (carries n j) = inl (ap (λ (qs : List Slot). (get_or qs i idle).running) (carry_slots n j p s) ∙ idles)
    still_idle (starts k) = go (start_way k p s)
      where
        go : {o : Effect} → StartWay k s o → Idles o.after i ⊎ ((l : ℕ) × (starts k ≡ starts l) × (o.answer ≡ answer DONE i 0 0 0))
        go (all-running h) = inl idles
        go (taken j h f g) = at (ℕ_discrete i j)
          where
            at : Dec (i ≡ j)
                → Idles (with_slot j (running k 0 0) s) i ⊎ ((l : ℕ) × (starts k ≡ starts l) × (answer DONE j 0 0 0 ≡ answer DONE i 0 0 0))
            at (yes q) = inr (k, refl, ap (λ (l : ℕ). answer DONE l 0 0 0) (sym q))
            at (no q) = inl (other_slot s i j (running k 0 0) q idles)
    still_idle (steps j) = inl (other_running (Visit j p s) j (λ o h. go h) (step_way j p s))
      where
        go : i ≢ j → {o : Effect} → Visit j p s o → Idles o.after i
        go h (finds x f) = other_slot s i j idle h idles
        go h (never f n) = other_slot s i j idle h idles
        go h (goes f m n) = other_slot s i j _ h idles
    still_idle (cancels j) = inl (other_running (Freed j s) j (λ o h. go h) (cancel_way j p s))
      where
        go : i ≢ j → {o : Effect} → Freed j s o → Idles o.after i
        go h freed = other_slot s i j idle h idles
    still_idle asks = inl idles

    -- A step of it does not answer DONE.
    pub not_done : (answer_of p (steps i) s).number ≡ DONE → ⊥
    unfolding effect
    not_done e = go (step_way i p s) e
      where
        go : {o : Effect} → RunningWay (Visit i p s) i s o → o.answer.number ≡ DONE → ⊥
        go (no_slot h) e = omega arith
        go (slot_idle h g) e = omega arith
        go (slot_runs h g d) e = g idles
