-- The ways out of each step, in the order of the refusals: which answer and which state, and exactly when.
use mathlib.Core.Path.{◌≡◌, refl}
use mathlib.Core.Bool.{Bool, true, false, cond}
use mathlib.Core.Logic.{◌≢◌}
use mathlib.Core.List.{List, [], ◌∷◌}
use mathlib.Core.Option.{Option, none, some}
use Prim.Native.Nat.{ℕ, zero, suc, ◌<◌, ◌≤◌}
use native.Mathlib.Omega.{arith}
use native.Mathlib.Nat.{le_of_suc-le-suc, not-suc-le-zero}
use lib.Dec.{ltb, eqb}
use lib.ListN.{length, get_or}
use borrow.Author.Tests.{ltb-true, ltb-false, eqb-true, eqb-false}
use Rattle.plan.specs.Plan.{Hop}
use Rattle.std.specs.Prelude.{Some, None}
use Rattle.plan.specs.Plan.{Plan, size, capacity_of, edges_of, edge_of, next}
use Rattle.plan.specs.PlanRules.{IsEdge}
use Rattle.store.specs.declared.Copy.{Copy}
use Rattle.store.specs.declared.Slot.{Slot}
use Rattle.store.specs.Answers.{DONE, GOING, CLOCK, FULL, NODE, EDGE, SLOTS, SLOT, IDLE, answer, bare}
use Rattle.store.specs.Copies.{copy, key_of, find}
use Rattle.store.specs.State.{State, last_clock, node_at, slot_at, idle, line, idle_mark}
use Rattle.store.specs.Calls.{Effect}
use Rattle.steps.specs.Entries.{room, refused, entered, entry}
use Rattle.steps.specs.Carries.{merge_along, carried_out, carry_step}
use Rattle.steps.specs.Searches.{running, with_slot, lowest_idle, start_step, ended, visited, with_running, step_step, cancel_step}
use Rattle.steps.proofs.NodeLists.{no_room}

-- An entry: the clock is at its last value, or the root is full and lacks the key, or the copy enters.
pub data EntryWay (kind k v : ℕ) (p : Plan) (s : State) : Effect → Type 0 where
  at_last_clock : last_clock ≤ s.clock → EntryWay kind k v p s (refused CLOCK s)
  root_full : s.clock < last_clock → find key_of (node_at s 0) k ≡ none → capacity_of p 0 ≤ length (node_at s 0)
      → EntryWay kind k v p s (refused FULL s)
  enters : s.clock < last_clock → room key_of (capacity_of p 0) (node_at s 0) k ≡ true
      → EntryWay kind k v p s (record { answer = answer DONE s.clock 0 0 0; after = entered (copy k kind v s.clock) s })

pub entry_way : (kind k v : ℕ) (p : Plan) (s : State) → EntryWay kind k v p s (entry kind k v p s)
unfolding entry
entry_way kind k v p s =
    go (ltb s.clock last_clock) (room key_of (capacity_of p 0) (node_at s 0) k) refl refl
  where
    go : (a b : Bool) → ltb s.clock last_clock ≡ a → room key_of (capacity_of p 0) (node_at s 0) k ≡ b
        → EntryWay kind k v p s
        (cond a
        (cond b (record { answer = answer DONE s.clock 0 0 0; after = entered (copy k kind v s.clock) s }) (refused FULL s))
        (refused CLOCK s))
    go false b f g = at_last_clock (ltb-false s.clock last_clock f)
    go true false f g =
        let n = no_room key_of (capacity_of p 0) (node_at s 0) k g in
        root_full (ltb-true s.clock last_clock f) n.0 n.1
    go true true f g = enters (ltb-true s.clock last_clock f) g

-- A carry: there is no such node, or no such edge, or the copies are merged along the edge.
pub data CarryWay (n i : ℕ) (p : Plan) (s : State) : Effect → Type 0 where
  no_node : size p ≤ n → CarryWay n i p s (refused NODE s)
  no_edge_lem : n < size p → length (edges_of p n) ≤ i → CarryWay n i p s (refused EDGE s)
  merges : IsEdge p n i → CarryWay n i p s (carried_out n (edge_of p n i) (merge_along p n (edge_of p n i) s) s)

pub carry_way : (n i : ℕ) (p : Plan) (s : State) → CarryWay n i p s (carry_step n i p s)
unfolding carry_step
carry_way n i p s = go (ltb n (size p)) (ltb i (length (edges_of p n))) refl refl
  where
    go : (a b : Bool) → ltb n (size p) ≡ a → ltb i (length (edges_of p n)) ≡ b
        → CarryWay n i p s
        (cond a (cond b (carried_out n (edge_of p n i) (merge_along p n (edge_of p n i) s) s) (refused EDGE s)) (refused NODE s))
    go false b f g = no_node (ltb-false n (size p) f)
    go true false f g = no_edge_lem (ltb-true n (size p) f) (ltb-false i (length (edges_of p n)) g)
    go true true f g = merges (record { node = ltb-true n (size p) f; edge = ltb-true i (length (edges_of p n)) g })

-- A start: no slot is idle, or the lowest idle slot takes the key.
pub data StartWay (k : ℕ) (s : State) : Effect → Type 0 where
  all-running : ((i : ℕ) → i < length s.slots → (slot_at s i).running ≢ idle_mark) → StartWay k s (refused SLOTS s)
  starts : (i : ℕ) → i < length s.slots → (slot_at s i).running ≡ idle_mark → ((j : ℕ) → j < i → (slot_at s j).running ≢ idle_mark)
      → StartWay k s (record { answer = answer DONE i 0 0 0; after = with_slot i (running k 0 0) s })

-- Below the lowest idle slot all run,
pub below_lowest : (qs : List Slot) (j : ℕ) → j < lowest_idle qs → (get_or qs j idle).running ≢ idle_mark
unfolding lowest_idle
below_lowest [] j h = absurd (not-suc-le-zero h)
below_lowest (q ∷ qs) j h = go (eqb q.running idle_mark) refl j h (below_lowest qs)
  where
    go : (b : Bool) → eqb q.running idle_mark ≡ b → (j : ℕ) → j < cond b 0 (suc (lowest_idle qs))
        → ((j : ℕ) → j < lowest_idle qs → (get_or qs j idle).running ≢ idle_mark) → (get_or (q ∷ qs) j idle).running ≢ idle_mark
    go true e j h again = absurd (not-suc-le-zero h)
    go false e zero h again = eqb-false q.running idle_mark e
    go false e (suc j) h again = again j (le_of_suc-le-suc h)

-- and if it is a slot at all, it is idle.
pub lowest_idle_lem : (qs : List Slot) → lowest_idle qs < length qs → (get_or qs (lowest_idle qs) idle).running ≡ idle_mark
unfolding lowest_idle
lowest_idle_lem [] h = absurd (not-suc-le-zero h)
lowest_idle_lem (q ∷ qs) h = go (eqb q.running idle_mark) refl h (lowest_idle_lem qs)
  where
    go : (b : Bool) → eqb q.running idle_mark ≡ b → cond b 0 (suc (lowest_idle qs)) < suc (length qs)
        → (lowest_idle qs < length qs → (get_or qs (lowest_idle qs) idle).running ≡ idle_mark)
        → (get_or (q ∷ qs) (cond b 0 (suc (lowest_idle qs))) idle).running ≡ idle_mark
    go true e h again = eqb-true q.running idle_mark e
    go false e h again = again (le_of_suc-le-suc h)

pub start_way : (k : ℕ) (p : Plan) (s : State) → StartWay k s (start_step k p s)
unfolding start_step
start_way k p s = go (ltb (lowest_idle s.slots) (length s.slots)) refl
  where
    i : ℕ
    i = lowest_idle s.slots

    go : (b : Bool) → ltb i (length s.slots) ≡ b
        → StartWay k s (cond b (record { answer = answer DONE i 0 0 0; after = with_slot i (running k 0 0) s }) (refused SLOTS s))
    go false e =
        all-running (λ j h. below_lowest s.slots j (omega (arith, ltb-false i (length s.slots) e)))
    go true e =
        let h = ltb-true i (length s.slots) e in
        starts i h (lowest_idle_lem s.slots h) (below_lowest s.slots)

-- What is done with a running slot: there is no such slot, or it is idle, or it is done.
pub data RunningWay (Done : Effect → Type 0) (i : ℕ) (s : State) : Effect → Type 0 where
  no_slot : length s.slots ≤ i → RunningWay Done i s (refused SLOT s)
  slot_idle : i < length s.slots → (slot_at s i).running ≡ idle_mark → RunningWay Done i s (refused IDLE s)
  slot_runs : {e : Effect} → i < length s.slots → (slot_at s i).running ≢ idle_mark → Done e → RunningWay Done i s e

pub running_way : (Done : Effect → Type 0) (f : Slot → Effect) (i : ℕ) (s : State) → Done (f (slot_at s i))
    → RunningWay Done i s (with_running f i s)
unfolding with_running
running_way Done f i s d = go (ltb i (length s.slots)) (eqb (slot_at s i).running idle_mark) refl refl
  where
    go : (a b : Bool) → ltb i (length s.slots) ≡ a → eqb (slot_at s i).running idle_mark ≡ b
        → RunningWay Done i s (cond a (cond b (refused IDLE s) (f (slot_at s i))) (refused SLOT s))
    go false b g h = no_slot (ltb-false i (length s.slots) g)
    go true true g h = slot_idle (ltb-true i (length s.slots) g) (eqb-true (slot_at s i).running idle_mark h)
    go true false g h = slot_runs (ltb-true i (length s.slots) g) (eqb-false (slot_at s i).running idle_mark h) d

-- A visit: a copy is found and ends the search, a withdrawn one too; or nothing, at the path's end or on the way to the next node.
pub data Visit (i : ℕ) (p : Plan) (s : State) : Effect → Type 0 where
  finds : (x : Copy) → line s (slot_at s i).key (slot_at s i).node ≡ some x
      → Visit i p s (record { answer = ended (some x) (suc (slot_at s i).visits); after = with_slot i idle s })
  never : line s (slot_at s i).key (slot_at s i).node ≡ none → next p (slot_at s i).node (slot_at s i).key ≡ None
      → Visit i p s (record { answer = ended none (suc (slot_at s i).visits); after = with_slot i idle s })
  goes : line s (slot_at s i).key (slot_at s i).node ≡ none → (t : ℕ) → next p (slot_at s i).node (slot_at s i).key ≡ Some t
      → Visit i p s
      (record {
        answer = answer GOING t (suc (slot_at s i).visits) 0 0;
        after = with_slot i (running (slot_at s i).key t (suc (slot_at s i).visits)) s;
      })

pub step_way : (i : ℕ) (p : Plan) (s : State) → RunningWay (Visit i p s) i s (step_step i p s)
unfolding step_step
step_way i p s =
    running_way (Visit i p s) (λ q. visited (line s q.key q.node) (next p q.node q.key) i q s) i s
    (go (line s (slot_at s i).key (slot_at s i).node) (next p (slot_at s i).node (slot_at s i).key) refl refl)
  where
    go : (o : Option Copy) (h : Hop) → line s (slot_at s i).key (slot_at s i).node ≡ o → next p (slot_at s i).node (slot_at s i).key ≡ h
        → Visit i p s (visited o h i (slot_at s i) s)
    go (some x) h a b = finds x a
    go none None a b = never a b
    go none (Some t) a b = goes a t b

-- A cancel makes the slot idle.
pub data Freed (i : ℕ) (s : State) : Effect → Type 0 where
  freed : Freed i s (record { answer = bare DONE; after = with_slot i idle s })

pub cancel_way : (i : ℕ) (p : Plan) (s : State) → RunningWay (Freed i s) i s (cancel_step i p s)
unfolding cancel_step
cancel_way i p s = running_way (Freed i s) (λ q. record { answer = bare DONE; after = with_slot i idle s }) i s freed
