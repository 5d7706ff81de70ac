-- What an accepted fresh, start, step and cancel give. Document 01, "What each step does" and "Answer numbers".
use Rattle.std.specs.Prelude.{◌≡◌, [], ◌≢◌, ℕ, suc, ◌<◌, get_or, set}
use Rattle.std.proofs.Math.Option.{none, some}
use Rattle.std.specs.Prelude.{Some, None}
use Rattle.plan.specs.Plan.{next}
use Rattle.store.specs.declared.Copy.{Copy}
use Rattle.store.specs.declared.Outcome.{Outcome}
use Rattle.store.specs.declared.Slot.{Slot}
use Rattle.store.specs.declared.Store.{Store}
use Rattle.store.specs.Answers.{DONE, GOING, answer}
use Rattle.store.specs.State.{slot_count, idle_mark, idle, node_at, line}
use Rattle.store.specs.Layout.{plan_of, state_of}
use Rattle.steps.specs.Searches.{running, ended}
use Rattle.searches.specs.Workers.{with_slots}

-- A slot of a store by its number.
abbrev pub slot_of : Store → ℕ → Slot
slot_of z i = get_or z.slots i idle

-- One slot is now this one; the others and all else in the store are as they were.
pub record OnlySlot (z : Store) (i : ℕ) (q : Slot) (after : Store) : Type 0 where
  pub whole : after ≡ with_slots (set z.slots i q) z
  pub there : slot_of after i ≡ q
  pub others : (j : ℕ) → j ≢ i → slot_of after j ≡ slot_of z j

-- A fresh store: DONE with zeros; the plan asked for, clock 1, nothing held, all slots idle.
pub record Freshened (plan : ℕ) (r : Outcome) : Type 0 where
  pub answered : r.answer ≡ answer DONE 0 0 0 0
  pub number : r.store.plan ≡ plan
  pub clock : r.store.clock ≡ 1
  pub nothing : (n : ℕ) → node_at (state_of r.store) n ≡ []
  pub slots : (i : ℕ) → slot_of r.store i ≡ idle

-- A started search: DONE with the lowest idle slot as a and zeros beside; that slot has the key, at the root, 0 visits.
pub record Started (z : Store) (key : ℕ) (r : Outcome) : Type 0 where
  pub slot : ℕ
  pub inside : slot < slot_count
  pub was_idle : (slot_of z slot).running ≡ idle_mark
  pub lowest : (j : ℕ) → j < slot → (slot_of z j).running ≢ idle_mark
  pub answered : r.answer ≡ answer DONE slot 0 0 0
  pub stored : OnlySlot z slot (running key 0 0) r.store

-- A step that goes on: its node has no copy of the key. GOING with the key's next node as a, the visits so far as b and zeros beside; the slot
-- has just these.
pub record WentOn (z : Store) (slot : ℕ) (r : Outcome) : Type 0 where
  pub node : ℕ
  pub visits : ℕ
  pub nothing : line (state_of z) (slot_of z slot).key (slot_of z slot).node ≡ none
  pub onward : next (plan_of z) (slot_of z slot).node (slot_of z slot).key ≡ Some node
  pub counted : visits ≡ suc (slot_of z slot).visits
  pub answered : r.answer ≡ answer GOING node visits 0 0
  pub stored : OnlySlot z slot (running (slot_of z slot).key node visits) r.store

-- A step that ends its search: "0 never, 1 withdrawn or 2 result, then value, stamp, visits" of the node's copy of the key; never only at the end of
-- the key's path. The slot is idle.
pub record EndedSearch (z : Store) (slot : ℕ) (r : Outcome) : Type 0 where
  pub found : (x : Copy) → line (state_of z) (slot_of z slot).key (slot_of z slot).node ≡ some x
      → r.answer ≡ answer DONE (suc x.kind) x.value x.stamp (suc (slot_of z slot).visits)
  pub never : line (state_of z) (slot_of z slot).key (slot_of z slot).node ≡ none → r.answer ≡ answer DONE 0 0 0 (suc (slot_of z slot).visits)
  pub last : line (state_of z) (slot_of z slot).key (slot_of z slot).node ≡ none → next (plan_of z) (slot_of z slot).node (slot_of z slot).key ≡ None
  pub answered : r.answer ≡ ended (line (state_of z) (slot_of z slot).key (slot_of z slot).node) (suc (slot_of z slot).visits)
  pub stored : OnlySlot z slot idle r.store

-- A cancelled search: DONE with zeros, and the slot is idle.
pub record Cancelled (z : Store) (slot : ℕ) (r : Outcome) : Type 0 where
  pub ran : (slot_of z slot).running ≢ idle_mark
  pub answered : r.answer ≡ answer DONE 0 0 0 0
  pub stored : OnlySlot z slot idle r.store
