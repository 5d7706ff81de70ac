-- Start: BADSTORE, SLOTS. Step and cancel: BADSTORE, SLOT, IDLE. Look: BADSTORE.
use mathlib.Core.Path.{◌≡◌, refl}
use mathlib.Core.Bool.{true, false}
use mathlib.Core.List.{[], ◌∷◌}
use mathlib.Core.Logic.{◌≢◌, ◌↔◌}
use mathlib.Core.Option.{Option, none, some}
use Prim.Native.Nat.{ℕ, ◌<◌, ◌≤◌}
use native.Mathlib.Omega.{arith}
use lib.ListN.{get_or}
use Rattle.plan.specs.Plan.{Plan, path}
use Rattle.store.specs.declared.Copy.{Copy}
use Rattle.store.specs.declared.Store.{Store}
use Rattle.store.specs.Answers.{DONE, BADSTORE, SLOTS, SLOT, IDLE}
use Rattle.store.specs.Copies.{member}
use Rattle.store.specs.State.{State, slot_count, idle, line, current, idle_mark}
use Rattle.store.specs.Layout.{plan_of, state_of}
use Rattle.store.specs.StoreRules.{good_store}
use Rattle.store.specs.Calls.{Effect}
use Rattle.store.proofs.Lifting.{plan_good, state_good}
use Rattle.steps.specs.Searches.{start_step, ended, step_step, cancel_step, visits_on, look_answer}
use Rattle.steps.specs.Promises.{start_outcome, step_outcome, cancel_outcome, look_outcome}
use Rattle.steps.proofs.WaysOut.{StartWay, start_way, RunningWay, Visit, step_way, Freed, cancel_way}
use Rattle.steps.proofs.WaysOut.StartWay.{all-running, starts}
use Rattle.steps.proofs.WaysOut.RunningWay.{no_slot, slot_idle, slot_runs}
use Rattle.steps.proofs.WaysOut.Visit.{finds, never, goes}
use Rattle.steps.proofs.WaysOut.Freed.{freed}
use Rattle.steps.proofs.Refusals.{slots_exactly, step_slot_exactly, step_idle_exactly, cancel_slot_exactly, cancel_idle_exactly}
use Rattle.refusals.specs.Given.{Among, StepRefuses, Refuses, start_answers, step_answers, cancel_answers}
use Rattle.refusals.proofs.OnStores.{on_badstore, on_exactly, on_among, on_refuses, of_badstore, of_among}

-- ---- start

start_among : (key : ℕ) (p : Plan) (s : State) → Among start_answers (start_step key p s).answer
unfolding member
start_among key p s = go (start_way key p s)
  where
    go : {e : Effect} → StartWay key s e → Among start_answers e.answer
    go (all-running h) = refl
    go (starts i h f g) = refl

start_refuses : (key : ℕ) (p : Plan) (s : State) → StepRefuses s (start_step key p s)
start_refuses key p s = go (start_way key p s)
  where
    go : {e : Effect} → StartWay key s e → StepRefuses s e
    go (all-running h) = λ _. refl
    go (starts i h f g) = λ h. absurd (omega arith)

module _ (z : Store) (key : ℕ) where
  pub start_badstore : ((start_outcome z key).answer.number ≡ BADSTORE) ↔ (good_store z ≡ false)
  unfolding member
  start_badstore = on_badstore (start_step key) z start_answers (start_among key (plan_of z) (state_of z)) refl

  -- "all 8 running"
  pub start_slots : ((start_outcome z key).answer.number ≡ SLOTS)
      ↔ ((good_store z ≡ true) × ((i : ℕ) → i < slot_count → (get_or z.slots i idle).running ≢ idle_mark))
  unfolding state_of
  start_slots =
      on_exactly (start_step key) z SLOTS (λ e. omega arith) λ good.
      slots_exactly (plan_of z) (plan_good z good) (state_of z) (state_good z good) key

  pub start_answers_lem : Among (BADSTORE ∷ start_answers) (start_outcome z key).answer
  start_answers_lem = on_among (start_step key) z start_answers (start_among key (plan_of z) (state_of z))

  pub start_refused : Refuses z (start_outcome z key)
  start_refused = on_refuses (start_step key) z (start_refuses key (plan_of z) (state_of z))

-- ---- step

step_among : (slot : ℕ) (p : Plan) (s : State) → Among step_answers (step_step slot p s).answer
unfolding member
step_among slot p s = go (step_way slot p s)
  where
    visit : {e : Effect} → Visit slot p s e → Among step_answers e.answer
    visit (finds x f) = refl
    visit (never f g) = refl
    visit (goes f t g) = refl

    go : {e : Effect} → RunningWay (Visit slot p s) slot s e → Among step_answers e.answer
    go (no_slot h) = refl
    go (slot_idle h f) = refl
    go (slot_runs h f d) = visit d

step_refuses : (slot : ℕ) (p : Plan) (s : State) → StepRefuses s (step_step slot p s)
step_refuses slot p s = go (step_way slot p s)
  where
    visit : {e : Effect} → Visit slot p s e → StepRefuses s e
    visit (finds x f) = λ h. absurd (omega arith)
    visit (never f g) = λ h. absurd (omega arith)
    visit (goes f t g) = λ h. absurd (omega arith)

    go : {e : Effect} → RunningWay (Visit slot p s) slot s e → StepRefuses s e
    go (no_slot h) = λ _. refl
    go (slot_idle h f) = λ _. refl
    go (slot_runs h f d) = visit d

module _ (z : Store) (slot : ℕ) where
  pub step_badstore : ((step_outcome z slot).answer.number ≡ BADSTORE) ↔ (good_store z ≡ false)
  unfolding member
  step_badstore = on_badstore (step_step slot) z step_answers (step_among slot (plan_of z) (state_of z)) refl

  -- "slot above 7"
  pub step_slot : ((step_outcome z slot).answer.number ≡ SLOT) ↔ ((good_store z ≡ true) × (slot_count ≤ slot))
  step_slot =
      on_exactly (step_step slot) z SLOT (λ e. omega arith) λ good.
      step_slot_exactly (plan_of z) (plan_good z good) (state_of z) (state_good z good) slot

  -- "slot not running"
  pub step_idle : ((step_outcome z slot).answer.number ≡ IDLE)
      ↔ ((good_store z ≡ true) × ((slot < slot_count) × ((get_or z.slots slot idle).running ≡ idle_mark)))
  unfolding state_of
  step_idle =
      on_exactly (step_step slot) z IDLE (λ e. omega arith) λ good.
      step_idle_exactly (plan_of z) (plan_good z good) (state_of z) (state_good z good) slot

  pub step_answers_lem : Among (BADSTORE ∷ step_answers) (step_outcome z slot).answer
  step_answers_lem = on_among (step_step slot) z step_answers (step_among slot (plan_of z) (state_of z))

  pub step_refused : Refuses z (step_outcome z slot)
  step_refused = on_refuses (step_step slot) z (step_refuses slot (plan_of z) (state_of z))

-- ---- cancel

cancel_among : (slot : ℕ) (p : Plan) (s : State) → Among cancel_answers (cancel_step slot p s).answer
unfolding member
cancel_among slot p s = go (cancel_way slot p s)
  where
    frees : {e : Effect} → Freed slot s e → Among cancel_answers e.answer
    frees freed = refl

    go : {e : Effect} → RunningWay (Freed slot s) slot s e → Among cancel_answers e.answer
    go (no_slot h) = refl
    go (slot_idle h f) = refl
    go (slot_runs h f d) = frees d

cancel_refuses : (slot : ℕ) (p : Plan) (s : State) → StepRefuses s (cancel_step slot p s)
cancel_refuses slot p s = go (cancel_way slot p s)
  where
    frees : {e : Effect} → Freed slot s e → StepRefuses s e
    frees freed = λ h. absurd (omega arith)

    go : {e : Effect} → RunningWay (Freed slot s) slot s e → StepRefuses s e
    go (no_slot h) = λ _. refl
    go (slot_idle h f) = λ _. refl
    go (slot_runs h f d) = frees d

module _ (z : Store) (slot : ℕ) where
  pub cancel_badstore : ((cancel_outcome z slot).answer.number ≡ BADSTORE) ↔ (good_store z ≡ false)
  unfolding member
  cancel_badstore = on_badstore (cancel_step slot) z cancel_answers (cancel_among slot (plan_of z) (state_of z)) refl

  pub cancel_slot : ((cancel_outcome z slot).answer.number ≡ SLOT) ↔ ((good_store z ≡ true) × (slot_count ≤ slot))
  cancel_slot =
      on_exactly (cancel_step slot) z SLOT (λ e. omega arith) λ good.
      cancel_slot_exactly (plan_of z) (plan_good z good) (state_of z) (state_good z good) slot

  pub cancel_idle : ((cancel_outcome z slot).answer.number ≡ IDLE)
      ↔ ((good_store z ≡ true) × ((slot < slot_count) × ((get_or z.slots slot idle).running ≡ idle_mark)))
  unfolding state_of
  cancel_idle =
      on_exactly (cancel_step slot) z IDLE (λ e. omega arith) λ good.
      cancel_idle_exactly (plan_of z) (plan_good z good) (state_of z) (state_good z good) slot

  pub cancel_answers_lem : Among (BADSTORE ∷ cancel_answers) (cancel_outcome z slot).answer
  cancel_answers_lem = on_among (cancel_step slot) z cancel_answers (cancel_among slot (plan_of z) (state_of z))

  pub cancel_refused : Refuses z (cancel_outcome z slot)
  cancel_refused = on_refuses (cancel_step slot) z (cancel_refuses slot (plan_of z) (state_of z))

-- ---- look

look_done : (key : ℕ) (p : Plan) (s : State) → (look_answer key p s).number ≡ DONE
unfolding look_answer
look_done key p s = go (current p s key)
  where
    go : (o : Option Copy) → (ended o (visits_on (line s key) (path p key))).number ≡ DONE
    go none = refl
    go (some x) = refl

-- A look has no store or buffer to alter.
pub look_badstore : (z : Store) (key : ℕ) → ((look_outcome z key).number ≡ BADSTORE) ↔ (good_store z ≡ false)
look_badstore z key = of_badstore (look_answer key) z (λ e. omega (arith, look_done key (plan_of z) (state_of z)))

pub look_answers : (z : Store) (key : ℕ) → Among (BADSTORE ∷ DONE ∷ []) (look_outcome z key)
unfolding member
look_answers z key = of_among (look_answer key) z (DONE ∷ []) (rw (look_done key (plan_of z) (state_of z)))
