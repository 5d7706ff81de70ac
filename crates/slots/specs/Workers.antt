-- What the workers on a store's slots promise and ask, and what a call on a store gives where it may be refused.
use Rattle.std.specs.Prelude.{◌≡◌, ◌≢◌, ◌⊎◌, List, ℕ, ◌<◌, ◌≤◌, get_or, set, Result, Ok, Err}
use Rattle.plan.specs.Sizes.{most_nodes}
use Rattle.plan.specs.declared.rows.Rows.{Rows}
use Rattle.plan.specs.Plan.{Plan, size}
use Rattle.plan.specs.PlanArrays.{RowsOf}
use Rattle.store.specs.declared.Answer.{Answer}
use Rattle.store.specs.declared.Copy.{Copy}
use Rattle.store.specs.declared.Outcome.{Outcome}
use Rattle.store.specs.declared.Slot.{Slot}
use Rattle.store.specs.declared.Store.{Store}
use Rattle.store.specs.declared.refusal.Refusal.{Refusal}
use Rattle.store.specs.declared.refusal.Refusal.TheVariants as because
use Rattle.store.specs.Answers.{bare}
use Rattle.store.specs.Calls.{Effect}
use Rattle.store.specs.Layout.{state_in}
use Rattle.store.specs.Refusals.{refusal_number}
use Rattle.store.specs.State.{State, slot_count, idle, idle_mark}
use Rattle.store.specs.Workers.{AllOrdered}
use Rattle.steps.specs.Searches.{step_step}

-- The store with other slots.
abbrev pub with_slots : List Slot → Store → Store
with_slots slots z =
    record {
      plan = z.plan;
      clock = z.clock;
      counts = z.counts;
      keys = z.keys;
      kinds = z.kinds;
      values = z.values;
      stamps = z.stamps;
      slots = slots;
    }

-- The answer of a call that is done, or that of its refusal.
abbrev pub answered : Result Answer Refusal → Answer
answered (Ok a) = a
answered (Err r) = bare (refusal_number r)

-- The outcome of a call: that answer, and the store after it.
abbrev pub outcome_of : Result Answer Refusal → Store → Outcome
outcome_of r z = record { answer = answered r; store = z }

-- An answer, and the slots after it:
pub record Moved : Type 0 where
  pub answer : Answer
  pub slots : List Slot

-- those that a worker gives,
abbrev pub moved : Result Answer Refusal → List Slot → Moved
moved r after = record { answer = answered r; slots = after }

-- and those of a step.
abbrev pub moved_by : Effect → Moved
moved_by e = record { answer = e.answer; slots = e.after.slots }

-- What a start or a cancel does with the slots, whatever else a state holds.
abbrev pub ChangesBy : (Plan → State → Effect) → List Slot → Result Answer Refusal → List Slot → Type 0
ChangesBy step slots r after =
    (p : Plan) (clock : ℕ) (nodes : List (List Copy)) → moved r after ≡ moved_by (step p (record { clock = clock; nodes = nodes; slots = slots }))

-- A slot's search stands at a node that there are places for, after fewer visits than a plan may have nodes.
pub record SearchStands (q : Slot) : Type 0 where
  pub node : q.node < most_nodes
  pub visits : q.visits < most_nodes

-- What a step asks for: nodes in which a look can go by halves, and that each running search stands. A good store has both.
pub record Steppable (z : Store) : Type 0 where
  pub ordered : AllOrdered z.counts z.keys
  pub stand : (i : ℕ) → i < slot_count → (get_or z.slots i idle).running ≢ idle_mark → SearchStands (get_or z.slots i idle)

-- The running searches stand at nodes of the plan.
abbrev pub SearchesIn : Plan → List Slot → Type 0
SearchesIn p slots = (i : ℕ) → i < slot_count → (get_or slots i idle).running ≢ idle_mark → (get_or slots i idle).node < size p

-- What a step does with a store: by every plan that has these rows and in which the searches stand, whatever the clock.
-- It writes the slots alone, and where it is refused not even them.
pub record StepsBy (rows : Rows) (z : Store) (slot : ℕ) (r : Result Answer Refusal) (after : Store) : Type 0 where
  pub does : (p : Plan) (clock : ℕ) → RowsOf p (size p) rows.counts rows.lows rows.highs rows.targets → SearchesIn p z.slots
      → moved r after.slots ≡ moved_by (step_step slot p (state_in (size p) clock z.counts z.keys z.kinds z.values z.stamps z.slots))
  pub slots_alone : after ≡ with_slots after.slots z
  -- And whatever the rows and wherever the searches stand: a step that is done writes its own slot, and no other.
  pub one_slot : (a : Answer) → r ≡ Ok a → (slot < slot_count) × ((q : Slot) × (after.slots ≡ set z.slots slot q))
  pub refused_stays : (why : Refusal) → r ≡ Err why → after ≡ z

-- A search runs in the slot, and this is its place;
abbrev pub RunsAt : List Slot → ℕ → ℕ → Type 0
RunsAt slots slot i = (i ≡ slot) × (i < slot_count) × ((get_or slots i idle).running ≢ idle_mark)

-- or none runs, and this is why: SLOT before IDLE.
abbrev pub RestsAt : List Slot → ℕ → Refusal → Type 0
RestsAt slots slot why =
    ((slot_count ≤ slot) × (why ≡ because.Slot)) ⊎ ((slot < slot_count) × ((get_or slots slot idle).running ≡ idle_mark) × (why ≡ because.Idle))
