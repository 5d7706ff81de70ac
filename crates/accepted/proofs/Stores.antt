-- Fresh, start, step and cancel, when they are accepted.
use mathlib.Core.Path.{◌≡◌, refl, ap, ◌∙◌}
use mathlib.Core.Bool.{true, false}
use mathlib.Core.Logic.{◌≢◌, ◌⊎◌, inl, inr}
use Prim.Native.Nat.{ℕ, suc, ◌<◌}
use native.Mathlib.Omega.{arith}
use lib.ListN.{length, set}
use lib.Seq.{get_or-set_same, get_or-set_other}
use Rattle.lists.proofs.Truths.{bool?}
use Rattle.lists.proofs.Options.{not_none_and_some, one_some}
use Rattle.plan.specs.Plan.{Plan}
use Rattle.plan_table.specs.PlanTable.{plan_numbered}
use Rattle.store.specs.declared.Answer.{Answer}
use Rattle.store.specs.declared.Outcome.{Outcome}
use Rattle.store.specs.declared.Slot.{Slot}
use Rattle.store.specs.declared.Store.{Store}
use Rattle.store.specs.Answers.{DONE, GOING, PLAN, BADSTORE, answer}
use Rattle.store.specs.State.{State, node_at, slot_at, idle_mark, idle, fresh}
use Rattle.store.specs.Layout.{plan_of, state_of, store_of, fresh_store}
use Rattle.store.specs.StoreRules.{plan_number_test, good_store}
use Rattle.store.specs.Calls.{Effect, on_store}
use Rattle.store.specs.Promises.{fresh_outcome, Freshens}
use Rattle.store.proofs.Lifting.{on_bad, on_good, good_back, state_good, fresh_back, fresh-node, fresh_slot}
use Rattle.steps.specs.Searches.{running, with_slot, start_step, step_step, cancel_step}
use Rattle.steps.specs.Promises.{Starts, Steps, Cancels}
use Rattle.steps.proofs.WaysOut.{StartWay, start_way, RunningWay, Visit, step_way, Freed, cancel_way}
use Rattle.steps.proofs.WaysOut.StartWay.{all-running, starts}
use Rattle.steps.proofs.WaysOut.RunningWay.{no_slot, slot_idle, slot_runs}
use Rattle.steps.proofs.WaysOut.Visit.{finds, never, goes}
use Rattle.steps.proofs.WaysOut.Freed.{freed}
use Rattle.searches.specs.Workers.{with_slots}
use Rattle.refusals.proofs.Fresh.{plan_test_lem}
use Rattle.accepted.specs.Stores.{slot_of, OnlySlot, Freshened, Started, WentOn, EndedSearch, Cancelled}

-- ---- from a step on states to its call

-- A call that was accepted: the store is good, and it gives what its step does.
record Acted (f : Plan → State → Effect) (z : Store) (r : Outcome) : Type 0 where
  good : good_store z ≡ true
  says : r.answer ≡ (f (plan_of z) (state_of z)).answer
  leaves : r.store ≡ store_of z.plan (f (plan_of z) (state_of z)).after

acted : (f : Plan → State → Effect) (z : Store) {r : Outcome} → r ≡ on_store f z → r.answer.number < BADSTORE → Acted f z r
acted f z {r} e low = go (bool? (good_store z))
  where
    go : (good_store z ≡ true) ⊎ (good_store z ≡ false) → Acted f z r
    go (inl good) =
        let w = e ∙ on_good f z good in
        record { good = good; says = ap (λ (o : Outcome). o.answer) w; leaves = ap (λ (o : Outcome). o.store) w }
    go (inr bad) = absurd (omega (arith, ap (λ (o : Outcome). o.answer.number) (e ∙ on_bad f z bad)))

-- A step that alters one slot of a good store's state leaves all else in the store.
only_slot : (z : Store) → good_store z ≡ true → (i : ℕ) (q : Slot) {after : Store} → i < length (state_of z).slots
    → after ≡ store_of z.plan (with_slot i q (state_of z)) → OnlySlot z i q after
unfolding state_of store_of
only_slot z good i q h e =
    let w = e ∙ ap (λ (y : Store). with_slots (set z.slots i q) y) (good_back z good) in
    record {
      whole = w;
      there = ap (λ (y : Store). slot_of y i) w ∙ get_or-set_same z.slots i q idle h;
      others = λ j d. ap (λ (y : Store). slot_of y j) w ∙ get_or-set_other z.slots i j q idle d;
    }

-- ---- fresh

pub fresh-accepted : (plan : ℕ) {r : Outcome} → Freshens plan r → r.answer.number ≡ DONE → Freshened plan r
unfolding fresh_outcome fresh_store store_of fresh
fresh-accepted plan {r} e done = go (bool? (plan_number_test plan))
  where
    go : (plan_number_test plan ≡ true) ⊎ (plan_number_test plan ≡ false) → Freshened plan r
    go (inr f) = absurd (let w : r.answer.number ≡ PLAN = rw f at (ap (λ (o : Outcome). o.answer.number) e) in omega arith)
    go (inl t) =
        let p = (plan_test_lem plan).0 t in
        let rows = plan_numbered plan in
        let back = fresh_back plan p.0 p.1 in
        let w : r ≡ record { answer = answer DONE 0 0 0 0; store = fresh_store plan } = rw t at e in
        record {
          answered = ap (λ (o : Outcome). o.answer) w;
          number = ap (λ (o : Outcome). o.store.plan) w;
          clock = ap (λ (o : Outcome). o.store.clock) w;
          nothing = λ n. ap (λ (o : Outcome). node_at (state_of o.store) n) w ∙ ap (λ (s : State). node_at s n) back ∙ fresh-node rows n;
          slots = λ i. ap (λ (o : Outcome). slot_of o.store i) w ∙ fresh_slot rows i;
        }

-- ---- start

pub start_accepted : (z : Store) (key : ℕ) {r : Outcome} → Starts z key r → r.answer.number ≡ DONE → Started z key r
unfolding state_of
start_accepted z key {r} e done = go (start_way key (plan_of z) (state_of z)) a.says a.leaves
  where
    a : Acted (start_step key) z r
    a = acted (start_step key) z e (omega arith)

    go : {w : Effect} → StartWay key (state_of z) w → r.answer ≡ w.answer → r.store ≡ store_of z.plan w.after → Started z key r
    go (all-running h) says leaves = absurd (omega (arith, ap (λ (x : Answer). x.number) says))
    go (starts i h f g) says leaves =
        record {
          slot = i;
          inside = omega (arith, (state_good z a.good).slots_long);
          was_idle = f;
          lowest = g;
          answered = says;
          stored = only_slot z a.good i (running key 0 0) h leaves;
        }

-- ---- step and cancel

-- What was done with a running slot and not refused.
record RanSlot (Done : Effect → Type 0) (z : Store) (slot : ℕ) (r : Outcome) : Type 0 where
  good : good_store z ≡ true
  inside : slot < length (state_of z).slots
  runs : (slot_at (state_of z) slot).running ≢ idle_mark
  effect : Effect
  done : Done effect
  says : r.answer ≡ effect.answer
  leaves : r.store ≡ store_of z.plan effect.after

ran_slot : (Done : Effect → Type 0) (f : Plan → State → Effect) (z : Store) (slot : ℕ) {r : Outcome}
    → RunningWay Done slot (state_of z) (f (plan_of z) (state_of z)) → r ≡ on_store f z → r.answer.number < BADSTORE → RanSlot Done z slot r
ran_slot Done f z slot {r} way e low = go way a.says a.leaves
  where
    a : Acted f z r
    a = acted f z e low

    go : {w : Effect} → RunningWay Done slot (state_of z) w → r.answer ≡ w.answer → r.store ≡ store_of z.plan w.after → RanSlot Done z slot r
    go (no_slot h) says leaves = absurd (omega (arith, ap (λ (q : Answer). q.number) says))
    go (slot_idle h f) says leaves = absurd (omega (arith, ap (λ (q : Answer). q.number) says))
    go (slot_runs {e = w} h f d) says leaves = record { good = a.good; inside = h; runs = f; effect = w; done = d; says = says; leaves = leaves }

module _ (z : Store) (slot : ℕ) {r : Outcome} (e : Steps z slot r) where
  visits : r.answer.number < BADSTORE → RanSlot (Visit slot (plan_of z) (state_of z)) z slot r
  visits low = ran_slot (Visit slot (plan_of z) (state_of z)) (step_step slot) z slot (step_way slot (plan_of z) (state_of z)) e low

  -- A step that answers GOING goes on,
  pub step_goes_on : r.answer.number ≡ GOING → WentOn z slot r
  unfolding state_of
  step_goes_on going = go v.done v.says v.leaves
    where
      v : RanSlot (Visit slot (plan_of z) (state_of z)) z slot r
      v = visits (omega arith)

      q : Slot
      q = slot_of z slot

      go : {w : Effect} → Visit slot (plan_of z) (state_of z) w → r.answer ≡ w.answer → r.store ≡ store_of z.plan w.after → WentOn z slot r
      go (finds x f) says leaves = absurd (omega (arith, ap (λ (x : Answer). x.number) says))
      go (never f g) says leaves = absurd (omega (arith, ap (λ (x : Answer). x.number) says))
      go (goes f t g) says leaves =
          record {
            node = t;
            visits = suc q.visits;
            nothing = f;
            onward = g;
            counted = refl;
            answered = says;
            stored = only_slot z v.good slot (running q.key t (suc q.visits)) v.inside leaves;
          }

  -- and one that answers DONE ends its search.
  pub step_ends : r.answer.number ≡ DONE → EndedSearch z slot r
  unfolding state_of
  step_ends done = go v.done v.says v.leaves
    where
      v : RanSlot (Visit slot (plan_of z) (state_of z)) z slot r
      v = visits (omega arith)

      go : {w : Effect} → Visit slot (plan_of z) (state_of z) w → r.answer ≡ w.answer → r.store ≡ store_of z.plan w.after → EndedSearch z slot r
      go (finds x f) says leaves =
          record {
            found = λ y g. rw (one_some g f) says;
            never = λ g. absurd (not_none_and_some g f);
            last = λ g. absurd (not_none_and_some g f);
            answered = rw f says;
            stored = only_slot z v.good slot idle v.inside leaves;
          }
      go (never f g) says leaves =
          record {
            found = λ x k. absurd (not_none_and_some f k);
            never = λ _. says;
            last = λ _. g;
            answered = rw f says;
            stored = only_slot z v.good slot idle v.inside leaves;
          }
      go (goes f t g) says leaves = absurd (omega (arith, ap (λ (x : Answer). x.number) says))

pub cancel_accepted : (z : Store) (slot : ℕ) {r : Outcome} → Cancels z slot r → r.answer.number ≡ DONE → Cancelled z slot r
unfolding state_of
cancel_accepted z slot {r} e done = go v.done v.says v.leaves
  where
    v : RanSlot (Freed slot (state_of z)) z slot r
    v = ran_slot (Freed slot (state_of z)) (cancel_step slot) z slot (cancel_way slot (plan_of z) (state_of z)) e (omega arith)

    go : {w : Effect} → Freed slot (state_of z) w → r.answer ≡ w.answer → r.store ≡ store_of z.plan w.after → Cancelled z slot r
    go freed says leaves = record { ran = v.runs; answered = says; stored = only_slot z v.good slot idle v.inside leaves }
