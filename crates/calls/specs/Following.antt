-- Public calls followed over a sequence: each is an event on the store's state, or replaces the store; and what is counted since the
-- store was last replaced.
use Rattle.std.specs.Prelude.{Bool, true, false, cond, not, ◌&&◌, List, [], ◌∷◌, ◌++◌, ℕ, ◌+◌, eqb, get_or}
use Rattle.std.proofs.Math.Option.{Option, none, some}
use Rattle.store.specs.declared.Copy.{Copy}
use Rattle.store.specs.declared.Outcome.{Outcome}
use Rattle.store.specs.declared.Store.{Store}
use Rattle.store.specs.Answers.{DONE, bare}
use Rattle.store.specs.Copies.{kind_number, value_held, copy, is_some}
use Rattle.store.specs.Copies.Kind.{withdrawn, result}
use Rattle.store.specs.State.{line}
use Rattle.store.specs.Layout.{plan_of, state_of, fresh_store}
use Rattle.store.specs.Calls.{on_store}
use Rattle.store.specs.Promises.{fresh_outcome}
use Rattle.steps.specs.Promises.{entry_outcome, carry_outcome, start_outcome, step_outcome, cancel_outcome}
use Rattle.steps.specs.Carries.{bit}
use Rattle.image_loading.specs.Loading.{load_outcome}
use Rattle.schedule.specs.declared.Step.{Step}
use Rattle.schedule.specs.Schedule.{ENTER, WITHDRAW, CARRY, START, STEP, CANCEL}
use Rattle.schedule.specs.Running.{no_step}
use Rattle.theory.specs.Events.{Event, option_list, held, rounds}
use Rattle.theory.specs.Events.Event.{enters, carries, starts, steps, cancels, asks}
use Rattle.calls.specs.PublicCalls.{Call, accepted, store_after}
use Rattle.calls.specs.PublicCalls.Call.{fresh, load, enter, carry, start, step, cancel, reads, run}
use Rattle.calls.specs.PublicCalls.ReadOnly.{save}

-- The event of a step record; an unknown step does nothing.
unfoldable pub event_of_record : Step → Event
event_of_record r =
    cond (eqb r.number ENTER) (enters result r.x r.y)
    (cond (eqb r.number WITHDRAW) (enters withdrawn r.x 0)
    (cond (eqb r.number CARRY) (carries r.x r.y)
    (cond (eqb r.number START) (starts r.x)
    (cond (eqb r.number STEP) (steps r.x)
    (cond (eqb r.number CANCEL) (cancels r.x) asks)))))

-- What a call is to the state of the store that it is given.
unfoldable pub event_of : Call → Event
event_of (enter kind k v) = enters kind k v
event_of (carry n i) = carries n i
event_of (start k) = starts k
event_of (step i) = steps i
event_of (cancel i) = cancels i
event_of (run list place) = event_of_record (get_or list place no_step)
event_of (fresh plan) = asks
event_of (load bytes) = asks
event_of (reads r) = asks

-- The events of a sequence.
unfoldable pub events_of : List Call → List Event
events_of [] = []
events_of (c ∷ cs) = event_of c ∷ events_of cs

-- An event as a call: its outcome. Where nothing is done, a good store is answered DONE.
unfoldable pub on_event : Event → Store → Outcome
on_event (enters kind k v) z = entry_outcome kind z k v
on_event (carries n i) z = carry_outcome z n i
on_event (starts k) z = start_outcome z k
on_event (steps i) z = step_outcome z i
on_event (cancels i) z = cancel_outcome z i
on_event asks z = on_store (λ p s. record { answer = bare DONE; after = s }) z

-- The outcome of a fresh or load, which is given no store; no other call has one of its own.
unfoldable pub own_outcome : Call → Option Outcome
own_outcome (fresh plan) = some (fresh_outcome plan)
own_outcome (load bytes) = some (load_outcome bytes)
own_outcome (enter kind k v) = none
own_outcome (carry n i) = none
own_outcome (start k) = none
own_outcome (step i) = none
own_outcome (cancel i) = none
own_outcome (reads r) = none
own_outcome (run list place) = none

-- The store of an outcome, if there is one and it is accepted.
abbrev pub store_if_accepted : Option Outcome → Option Store
store_if_accepted none = none
store_if_accepted (some o) = cond (accepted o.answer) (some o.store) none

-- The store that takes another's place: of an accepted fresh or load, and of no other call.
unfoldable pub replacement : Call → Option Store
replacement c = store_if_accepted (own_outcome c)

-- No call of a sequence replaces the store.
unfoldable pub same_store : List Call → Bool
same_store [] = true
same_store (c ∷ cs) = not (is_some (replacement c)) && same_store cs

-- The copy that an event enters, if it is an accepted entry.
unfoldable pub entered_by : Event → Store → Option Copy
entered_by (enters kind k v) z =
    cond (accepted (on_event (enters kind k v) z).answer) (some (copy k (kind_number kind) (value_held kind v) z.clock)) none
entered_by (carries n i) z = none
entered_by (starts k) z = none
entered_by (steps i) z = none
entered_by (cancels i) z = none
entered_by asks z = none

-- Node n of a store has the line's copy.
abbrev pub has_line : Store → ℕ → ℕ → Bool
has_line z k n = is_some (line (state_of z) k n)

-- "A carry carries a line exactly when the node had its copy before and lacks it after."
unfoldable pub carried_by : ℕ → Event → Store → Bool
carried_by k (carries n i) z = has_line z k n && not (has_line (on_event (carries n i) z).store k n)
carried_by k (enters kind j v) z = false
carried_by k (starts j) z = false
carried_by k (steps i) z = false
carried_by k (cancels i) z = false
carried_by k asks z = false

-- What a call does to a history: it starts again with what the new store holds, or gets the copy that was entered.
abbrev pub history_with : Option Store → Option Copy → List Copy → List Copy
history_with (some y) x h = held (state_of y)
history_with none x h = h ++ option_list x

-- The history: the copies entered since the store was last replaced, after those that it was fresh or loaded with.
unfoldable pub history : List Call → Store → List Copy → List Copy
history [] z h = h
history (c ∷ cs) z h = history cs (store_after c z) (history_with (replacement c) (entered_by (event_of c) z) h)

-- What a call does to a count of carries: it starts again at an accepted fresh or load.
abbrev pub carries_with : Option Store → Bool → ℕ → ℕ
carries_with (some y) b n = 0
carries_with none b n = bit b + n

-- The carries of a line since the store was last replaced.
unfoldable pub carries_since : ℕ → List Call → Store → ℕ → ℕ
carries_since k [] z n = n
carries_since k (c ∷ cs) z n = carries_since k cs (store_after c z) (carries_with (replacement c) (carried_by k (event_of c) z) n)

-- The call of an event.
unfoldable pub call_of : Event → Call
call_of (enters kind k v) = enter kind k v
call_of (carries n i) = carry n i
call_of (starts k) = start k
call_of (steps i) = step i
call_of (cancels i) = cancel i
call_of asks = reads (save [])

-- The calls of some events.
unfoldable pub calls_of : List Event → List Call
calls_of [] = []
calls_of (e ∷ es) = call_of e ∷ calls_of es

-- The calls that reach demand 3's bound: a fresh store of the plan, then the line entered and carried down its path, so many times.
unfoldable pub round_calls : ℕ → ℕ → ℕ → ℕ → List Call
round_calls plan k v r = fresh plan ∷ calls_of (rounds (plan_of (fresh_store plan)) k v r)
