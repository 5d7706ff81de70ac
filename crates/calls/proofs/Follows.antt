-- Every public call keeps the store good, and is an event on its state or replaces it.
use mathlib.Core.Path.{◌≡◌, refl, sym, ap, ◌∙◌, subst}
use mathlib.Core.Bool.{Bool, true, false, cond, not, ◌&&◌}
use mathlib.Core.Logic.{◌⊎◌, inl, inr}
use mathlib.Core.List.{List, [], ◌∷◌, ◌++◌}
use mathlib.Core.Option.{Option, none, some}
use Prim.Native.Nat.{ℕ, ◌≤◌}
use native.Mathlib.Omega.{arith}
use lib.Dec.{eqb}
use lib.ListN.{get_or}
use Rattle.lists.proofs.Truths.{bool?, not_both, and_right, both_le}
use Rattle.lists.proofs.Options.{option?, not_none_and_some, one_some}
use Rattle.plan_table.specs.PlanTable.{plans}
use Rattle.plan_table.proofs.TableLaws.{first_plan}
use Rattle.store.specs.declared.Outcome.{Outcome}
use Rattle.store.specs.declared.Store.{Store}
use Rattle.store.specs.Answers.{DONE, bare}
use Rattle.store.specs.Copies.{Kind, is_some}
use Rattle.store.specs.Copies.Kind.{withdrawn, result}
use Rattle.store.specs.Layout.{plan_of, state_of, fresh_store}
use Rattle.store.specs.StoreRules.{plan_number_test, good_store}
use Rattle.store.specs.Calls.{on_store}
use Rattle.store.specs.Promises.{fresh_outcome}
use Rattle.store.proofs.Lifting.{Keeps, on_bad, on_good, number_stays, plan_stays, store_stays, on_keeps, state_agrees, fresh_good}
use Rattle.schedule.specs.declared.Step.{Step}
use Rattle.schedule.specs.Schedule.{ENTER, WITHDRAW, CARRY, START, STEP, CANCEL}
use Rattle.schedule.specs.Running.{no_step, unknown_step, unknown_outcome, record_outcome, run_outcome}
use Rattle.trips.specs.Trips.{Declared}
use Rattle.image_loading.specs.Loading.{load_outcome}
use Rattle.trips.proofs.RoundTrips.{load_good, fresh-idle, load_idle, load_all-idle}
use Rattle.theory.specs.Events.{Event, effect, after, answer_of, state_after_all}
use Rattle.theory.specs.Events.Event.{enters, carries, starts, steps, cancels, asks}
use Rattle.theory.proofs.EventSteps.{event_keeps}
use Rattle.trips.specs.Trips.{AllIdle}
use Rattle.calls.specs.PublicCalls.{Call, accepted, replaced, store_after, returned, answer_to, store_after_all}
use Rattle.calls.specs.PublicCalls.Call.{fresh, load, enter, carry, start, step, cancel, reads, run}
use Rattle.calls.specs.Following.{event_of_record, event_of, events_of, on_event, own_outcome, store_if_accepted, replacement, same_store}
use Rattle.calls.specs.DeclaredNumbers.{DeclaredCall}

-- The outcome and the event of a record, by the six tests of its number.
outcome_by : Bool → Bool → Bool → Bool → Bool → Bool → Store → Step → ℕ → Outcome
outcome_by a b c d e f z r place =
    cond a (on_event (enters result r.x r.y) z)
    (cond b (on_event (enters withdrawn r.x 0) z)
    (cond c (on_event (carries r.x r.y) z)
    (cond d (on_event (starts r.x) z) (cond e (on_event (steps r.x) z) (cond f (on_event (cancels r.x) z) (unknown_outcome z place))))))

event_by : Bool → Bool → Bool → Bool → Bool → Bool → Step → Event
event_by a b c d e f r =
    cond a (enters result r.x r.y)
    (cond b (enters withdrawn r.x 0)
    (cond c (carries r.x r.y) (cond d (starts r.x) (cond e (steps r.x) (cond f (cancels r.x) asks)))))

-- Either they are one, or the step is unknown.
by_tests : (a b c d e f : Bool) (z : Store) (r : Step) (place : ℕ)
    → (outcome_by a b c d e f z r place ≡ on_event (event_by a b c d e f r) z)
    ⊎ ((event_by a b c d e f r ≡ asks) × ((outcome_by a b c d e f z r place).store ≡ z))
unfolding outcome_by event_by
by_tests true b c d e f z r place = inl refl
by_tests false true c d e f z r place = inl refl
by_tests false false true d e f z r place = inl refl
by_tests false false false true e f z r place = inl refl
by_tests false false false false true f z r place = inl refl
by_tests false false false false false true z r place = inl refl
by_tests false false false false false false z r place = inr (refl, store_stays (unknown_step place) z refl)

pub asks_nothing : (z : Store) → (on_event asks z).store ≡ z
unfolding on_event
asks_nothing z = store_stays (λ p s. record { answer = bare DONE; after = s }) z refl

-- The runner gives the very outcome of the record's call; or its step is unknown, and the store stays.
pub run_as : (z : Store) (list : List Step) (place : ℕ)
    → (run_outcome z list place ≡ on_event (event_of_record (get_or list place no_step)) z)
    ⊎ ((event_of_record (get_or list place no_step) ≡ asks) × ((run_outcome z list place).store ≡ z))
unfolding run_outcome record_outcome event_of_record on_event outcome_by event_by
run_as z list place =
    let r = get_or list place no_step in
    by_tests (eqb r.number ENTER) (eqb r.number WITHDRAW) (eqb r.number CARRY) (eqb r.number START) (eqb r.number STEP)
    (eqb r.number CANCEL) z r place

run_event : (z : Store) (list : List Step) (place : ℕ) → (run_outcome z list place).store ≡ (on_event (event_of_record (get_or list place no_step)) z).store
run_event z list place = go (run_as z list place)
  where
    go : (run_outcome z list place ≡ on_event (event_of_record (get_or list place no_step)) z)
        ⊎ ((event_of_record (get_or list place no_step) ≡ asks) × ((run_outcome z list place).store ≡ z))
        → (run_outcome z list place).store ≡ (on_event (event_of_record (get_or list place no_step)) z).store
    go (inl e) = ap (λ (o : Outcome). o.store) e
    go (inr w) = w.1 ∙ sym (ap (λ (e : Event). (on_event e z).store) w.0 ∙ asks_nothing z)

-- Every outcome of fresh, a refused one too, has the fresh store of a plan of the table.
fresh-outcome : (plan : ℕ) (P : Store → Type 0) → ((n : ℕ) → 1 ≤ n → n ≤ plans → P (fresh_store n)) → P (fresh_outcome plan).store
unfolding fresh_outcome plan_number_test
fresh-outcome plan P f = go (bool? (plan_number_test plan))
  where
    go : (plan_number_test plan ≡ true) ⊎ (plan_number_test plan ≡ false) → P (fresh_outcome plan).store
    go (inl t) = let w = both_le 1 plan plan plans t in rw t (f plan w.0 w.1)
    go (inr t) = rw t (f 1 (omega arith) (omega (arith, first_plan)))

-- A call is its event on the store, of any store; or it is a fresh or a load, and gives an outcome of its own.
pub record OwnOutcome (c : Call) : Type 0 where
  pub outcome : Outcome
  pub is : own_outcome c ≡ some outcome
  pub leaves : (z : Store) → store_after c z ≡ replaced outcome z
  pub answers : (z : Store) → answer_to c z ≡ some outcome.answer
  pub good : good_store outcome.store ≡ true
  pub idles : AllIdle outcome.store
  pub declared : DeclaredCall c → Declared outcome.store
  pub else_nothing : event_of c ≡ asks

pub record OnEvent (c : Call) : Type 0 where
  pub none_own : own_outcome c ≡ none
  pub leaves : (z : Store) → store_after c z ≡ (on_event (event_of c) z).store
  pub answers : (z : Store) → (answer_to c z ≡ some (on_event (event_of c) z).answer) ⊎ (event_of c ≡ asks)

run_answer : (z : Store) (list : List Step) (place : ℕ)
    → (some (run_outcome z list place).answer ≡ some (on_event (event_of_record (get_or list place no_step)) z).answer)
    ⊎ (event_of_record (get_or list place no_step) ≡ asks)
run_answer z list place = go (run_as z list place)
  where
    go : (run_outcome z list place ≡ on_event (event_of_record (get_or list place no_step)) z)
        ⊎ ((event_of_record (get_or list place no_step) ≡ asks) × ((run_outcome z list place).store ≡ z))
        → (some (run_outcome z list place).answer ≡ some (on_event (event_of_record (get_or list place no_step)) z).answer)
        ⊎ (event_of_record (get_or list place no_step) ≡ asks)
    go (inl e) = inl (ap (λ (o : Outcome). some o.answer) e)
    go (inr w) = inr w.0

pub call_way : (c : Call) → OnEvent c ⊎ OwnOutcome c
unfolding store_after returned answer_to own_outcome event_of on_event
call_way (fresh plan) =
    inr
    (record {
      outcome = fresh_outcome plan;
      is = refl;
      leaves = λ z. refl;
      answers = λ z. refl;
      good = fresh-outcome plan (λ (y : Store). good_store y ≡ true) fresh_good;
      idles = fresh-outcome plan AllIdle (λ n low high. (fresh-idle n).all-idle);
      declared = λ d. fresh-outcome plan Declared (λ n low high. (fresh-idle n).declared);
      else_nothing = refl;
    })
call_way (load bytes) =
    inr
    (record {
      outcome = load_outcome bytes;
      is = refl;
      leaves = λ z. refl;
      answers = λ z. refl;
      good = load_good bytes;
      idles = load_all-idle bytes;
      declared = λ d. (load_idle bytes d).declared;
      else_nothing = refl;
    })
call_way (enter kind k v) = inl (record { none_own = refl; leaves = λ z. refl; answers = λ z. inl refl })
call_way (carry n i) = inl (record { none_own = refl; leaves = λ z. refl; answers = λ z. inl refl })
call_way (start k) = inl (record { none_own = refl; leaves = λ z. refl; answers = λ z. inl refl })
call_way (step i) = inl (record { none_own = refl; leaves = λ z. refl; answers = λ z. inl refl })
call_way (cancel i) = inl (record { none_own = refl; leaves = λ z. refl; answers = λ z. inl refl })
call_way (reads r) = inl (record { none_own = refl; leaves = λ z. sym (asks_nothing z); answers = λ z. inr refl })
call_way (run list place) = inl (record { none_own = refl; leaves = λ z. run_event z list place; answers = λ z. run_answer z list place })

-- What takes the store's place, by the outcome of the call's own.
replacement_is : (c : Call) (o : Option Outcome) → own_outcome c ≡ o → replacement c ≡ store_if_accepted o
unfolding replacement
replacement_is c o e = ap store_if_accepted e

-- A call that is a step does not replace the store, leaves what the step leaves, and answers as it does.
pub record Acts (c : Call) (e : Event) : Type 0 where
  pub replaces_none : replacement c ≡ none
  pub leaves : (z : Store) → store_after c z ≡ (on_event e z).store
  pub answers : (z : Store) → answer_to c z ≡ some (on_event e z).answer

pub acts_as : (c : Call) (e : Event) → event_of c ≡ e → (e ≡ asks → ⊥) → Acts c e
acts_as c e is acts = go (call_way c)
  where
    said : OnEvent c → (z : Store) → answer_to c z ≡ some (on_event (event_of c) z).answer
    said w z = at (w.answers z)
      where
        at : (answer_to c z ≡ some (on_event (event_of c) z).answer) ⊎ (event_of c ≡ asks)
            → answer_to c z ≡ some (on_event (event_of c) z).answer
        at (inl q) = q
        at (inr q) = absurd (acts (sym is ∙ q))

    go : OnEvent c ⊎ OwnOutcome c → Acts c e
    go (inl w) =
        record {
          replaces_none = replacement_is c none w.none_own;
          leaves = λ z. w.leaves z ∙ ap (λ (d : Event). (on_event d z).store) is;
          answers = λ z. said w z ∙ ap (λ (d : Event). some (on_event d z).answer) is;
        }
    go (inr w) = absurd (acts (sym is ∙ w.else_nothing))

-- A step is no event that only asks.
is_ask : Event → Bool
is_ask asks = true
is_ask (enters kind k v) = false
is_ask (carries n i) = false
is_ask (starts k) = false
is_ask (steps i) = false
is_ask (cancels i) = false

pub entry_acts : (kind : Kind) (k v : ℕ) → enters kind k v ≡ asks → ⊥
unfolding is_ask
entry_acts kind k v e = not_both (ap is_ask e) refl

pub carry_acts : (n i : ℕ) → carries n i ≡ asks → ⊥
unfolding is_ask
carry_acts n i e = not_both (ap is_ask e) refl

pub start_acts : (k : ℕ) → starts k ≡ asks → ⊥
unfolding is_ask
start_acts k e = not_both (ap is_ask e) refl

pub step_acts : (i : ℕ) → steps i ≡ asks → ⊥
unfolding is_ask
step_acts i e = not_both (ap is_ask e) refl

-- A call that does not replace the store is its event on it, of any store.
pub event_on : (c : Call) (z : Store) → replacement c ≡ none → store_after c z ≡ (on_event (event_of c) z).store
event_on c z e = go (call_way c)
  where
    refused : (o : Outcome) → store_if_accepted (some o) ≡ none → replaced o z ≡ z
    refused o e = at (accepted o.answer) e
      where
        at : (b : Bool) → cond b (some o.store) none ≡ none → cond b o.store z ≡ z
        at true e = absurd (not_none_and_some e refl)
        at false e = refl

    go : OnEvent c ⊎ OwnOutcome c → store_after c z ≡ (on_event (event_of c) z).store
    go (inl w) = w.leaves z
    go (inr w) =
        w.leaves z
        ∙ (refused w.outcome (sym (replacement_is c (some w.outcome) w.is) ∙ e)
        ∙ sym (ap (λ (d : Event). (on_event d z).store) w.else_nothing ∙ asks_nothing z))

-- One that does leaves its replacement, a good store with all slots idle, of the declared type if the call's numbers are.
pub record Replaced (c : Call) (y : Store) : Type 0 where
  pub leaves : (z : Store) → store_after c z ≡ y
  pub good : good_store y ≡ true
  pub all-idle : AllIdle y
  pub declared : DeclaredCall c → Declared y

accepted_store : (o : Outcome) (y : Store) → store_if_accepted (some o) ≡ some y → (o.store ≡ y) × ((z : Store) → replaced o z ≡ y)
accepted_store o y e = go (accepted o.answer) e
  where
    go : (b : Bool) → cond b (some o.store) none ≡ some y → (o.store ≡ y) × ((z : Store) → cond b o.store z ≡ y)
    go true e = (one_some refl e, λ z. one_some refl e)
    go false e = absurd (not_none_and_some refl e)

pub replaced_by_lem : (c : Call) (y : Store) → replacement c ≡ some y → Replaced c y
replaced_by_lem c y e = go (call_way c)
  where
    go : OnEvent c ⊎ OwnOutcome c → Replaced c y
    go (inl w) = absurd (not_none_and_some (replacement_is c none w.none_own) e)
    go (inr w) =
        let a = accepted_store w.outcome y (sym (replacement_is c (some w.outcome) w.is) ∙ e) in
        record {
          leaves = λ z. w.leaves z ∙ a.1 z;
          good = subst (λ (z : Store). good_store z ≡ true) a.0 w.good;
          all-idle = subst AllIdle a.0 w.idles;
          declared = λ d. subst Declared a.0 (w.declared d);
        }

-- An event keeps the rules, as a step.
effect_keeps : (e : Event) → Keeps (λ p s. effect p e s)
effect_keeps e p rules s good = event_keeps p rules e s good

-- The outcome of an event is its effect on the state.
pub by_effect : (e : Event) (z : Store) → on_event e z ≡ on_store (λ p s. effect p e s) z
unfolding on_event effect
by_effect (enters kind k v) z = refl
by_effect (carries n i) z = refl
by_effect (starts k) z = refl
by_effect (steps i) z = refl
by_effect (cancels i) z = refl
by_effect asks z = refl

module _ (e : Event) (z : Store) where
  -- What holds of the effect's outcome holds of the event's.
  told : {A : Type 0} {a : A} (f : Outcome → A) → f (on_store (λ p s. effect p e s) z) ≡ a → f (on_event e z) ≡ a
  told f h = ap f (by_effect e z) ∙ h

  event_keeps_number : (on_event e z).store.plan ≡ z.plan
  event_keeps_number = told (λ o. o.store.plan) (number_stays (λ p s. effect p e s) z)

  pub event_keeps_plan : plan_of (on_event e z).store ≡ plan_of z
  event_keeps_plan = told (λ o. plan_of o.store) (plan_stays (λ p s. effect p e s) z)

  pub event_on_bad : good_store z ≡ false → (on_event e z).store ≡ z
  event_on_bad bad = told (λ o. o.store) (ap (λ (o : Outcome). o.store) (on_bad (λ p s. effect p e s) z bad))

  module _ (good : good_store z ≡ true) where
    pub event_keeps_good : good_store (on_event e z).store ≡ true
    event_keeps_good = told (λ o. good_store o.store) (on_keeps (λ p s. effect p e s) z (effect_keeps e) good)

    -- The state follows the event, and the answer is the event's.
    pub event_state : state_of (on_event e z).store ≡ after (plan_of z) e (state_of z)
    event_state = told (λ o. state_of o.store) (state_agrees (λ p s. effect p e s) z (effect_keeps e) good)

    pub event_answer : (on_event e z).answer ≡ answer_of (plan_of z) e (state_of z)
    event_answer = told (λ o. o.answer) (ap (λ (o : Outcome). o.answer) (on_good (λ p s. effect p e s) z good))

-- Every public call keeps a good store good,
pub call_keeps_good : (c : Call) (z : Store) → good_store z ≡ true → good_store (store_after c z) ≡ true
call_keeps_good c z good = go (option? (replacement c))
  where
    go : (replacement c ≡ none) ⊎ ((y : Store) × (replacement c ≡ some y)) → good_store (store_after c z) ≡ true
    go (inl e) = rw (event_on c z e) (event_keeps_good (event_of c) z good)
    go (inr w) = let r = replaced_by_lem c w.0 w.1 in rw (r.leaves z) r.good

-- so every sequence does;
pub calls_keep_good : (cs : List Call) (z : Store) → good_store z ≡ true → good_store (store_after_all cs z) ≡ true
unfolding store_after_all
calls_keep_good [] z good = good
calls_keep_good (c ∷ cs) z good = calls_keep_good cs (store_after c z) (call_keeps_good c z good)

-- and a bad store is left as it is, or replaced by a good one.
pub call_on_bad : (c : Call) (z : Store) → good_store z ≡ false → (store_after c z ≡ z) ⊎ (good_store (store_after c z) ≡ true)
call_on_bad c z bad = go (option? (replacement c))
  where
    go : (replacement c ≡ none) ⊎ ((y : Store) × (replacement c ≡ some y)) → (store_after c z ≡ z) ⊎ (good_store (store_after c z) ≡ true)
    go (inl e) = inl (event_on c z e ∙ event_on_bad (event_of c) z bad)
    go (inr w) = let r = replaced_by_lem c w.0 w.1 in inr (rw (r.leaves z) r.good)

-- One sequence after another.
pub after-append : (cs ds : List Call) (z : Store) → store_after_all (cs ++ ds) z ≡ store_after_all ds (store_after_all cs z)
unfolding store_after_all
after-append [] ds z = refl
after-append (c ∷ cs) ds z = after-append cs ds (store_after c z)

-- Over a sequence in which the store is not replaced, its state follows the events, and its plan stays, by number too.
pub record FollowsEvents (cs : List Call) (z : Store) : Type 0 where
  pub number : (store_after_all cs z).plan ≡ z.plan
  pub plan : plan_of (store_after_all cs z) ≡ plan_of z
  pub state : state_of (store_after_all cs z) ≡ state_after_all (plan_of z) (events_of cs) (state_of z)

-- The first call of such a sequence does not replace it.
pub first_stays : (c : Call) (cs : List Call) → same_store (c ∷ cs) ≡ true → replacement c ≡ none
unfolding same_store
first_stays c cs t = go (replacement c) t
  where
    go : (o : Option Store) → not (is_some o) && same_store cs ≡ true → o ≡ none
    go none t = refl
    go (some y) t = absurd (not_both t refl)

pub rest_stays : (c : Call) (cs : List Call) → same_store (c ∷ cs) ≡ true → same_store cs ≡ true
unfolding same_store
rest_stays c cs t = and_right (not (is_some (replacement c))) (same_store cs) t

pub follows_events : (cs : List Call) (z : Store) → good_store z ≡ true → same_store cs ≡ true → FollowsEvents cs z
unfolding store_after_all events_of state_after_all
follows_events [] z good t = record { number = refl; plan = refl; state = refl }
follows_events (c ∷ cs) z good t =
    let is : store_after c z ≡ (on_event (event_of c) z).store = event_on c z (first_stays c cs t) in
    let plan : plan_of (store_after c z) ≡ plan_of z = ap (λ (y : Store). plan_of y) is ∙ event_keeps_plan (event_of c) z in
    let state : state_of (store_after c z) ≡ after (plan_of z) (event_of c) (state_of z) =
    ap state_of is ∙ event_state (event_of c) z good in
    let again = follows_events cs (store_after c z) (call_keeps_good c z good) (rest_stays c cs t) in
    record {
      number = again.number ∙ ap (λ (y : Store). y.plan) is ∙ event_keeps_number (event_of c) z;
      plan = again.plan ∙ plan;
      state = again.state ∙ rw (state, plan);
    }
