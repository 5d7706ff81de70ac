-- "A refusal is given exactly when its line holds and none earlier in the order does", and leaves the state unaltered; and a start takes
-- the lowest idle slot.
use mathlib.Core.Path.{◌≡◌, refl}
use mathlib.Core.Logic.{◌≢◌, ◌↔◌}
use mathlib.Core.Option.{none}
use Prim.Native.Nat.{ℕ, ◌<◌, ◌≤◌}
use native.Mathlib.Omega.{arith}
use lib.ListN.{length}
use Rattle.lists.proofs.Truths.{not_both}
use Rattle.plan.specs.Plan.{Plan, size, capacity_of, edges_of}
use Rattle.plan.specs.PlanRules.{PlanRules}
use Rattle.plan.proofs.NextLaws.{root_in_plan}
use Rattle.store.specs.Answers.{GOING, CLOCK, FULL, NODE, EDGE, SLOTS, SLOT, IDLE}
use Rattle.store.specs.Copies.{key_of, find}
use Rattle.store.specs.State.{State, last_clock, slot_count, node_at, slot_at, idle_mark}
use Rattle.store.specs.StateRules.{StateRules}
use Rattle.store.specs.Calls.{Effect}
use Rattle.steps.specs.Entries.{entry}
use Rattle.steps.specs.Carries.{carried_out, carry_step}
use Rattle.steps.specs.Searches.{start_step, step_step, cancel_step}
use Rattle.steps.proofs.NodeLists.{room_none}
use Rattle.steps.proofs.WaysOut.{EntryWay, entry_way, CarryWay, carry_way, StartWay, start_way, RunningWay, Visit, step_way, Freed, cancel_way}
use Rattle.steps.proofs.WaysOut.EntryWay.{at_last_clock, root_full, enters}
use Rattle.steps.proofs.WaysOut.CarryWay.{no_node, no_edge_lem, merges}
use Rattle.steps.proofs.WaysOut.StartWay.{all-running, starts}
use Rattle.steps.proofs.WaysOut.RunningWay.{no_slot, slot_idle, slot_runs}
use Rattle.steps.proofs.WaysOut.Visit.{finds, never, goes}
use Rattle.steps.proofs.WaysOut.Freed.{freed}

-- Where an effect is a refusal, the state is as it was.
abbrev pub Unaltered : State → Effect → Type 0
Unaltered s o = 2 ≤ o.answer.number → o.after ≡ s

module _ (p : Plan) (rules : PlanRules p) (s : State) (good : StateRules p s) where
  module _ (kind k v : ℕ) where
    -- CLOCK: "entry at clock 4294967295".
    pub clock_exactly : ((entry kind k v p s).answer.number ≡ CLOCK) ↔ (s.clock ≡ last_clock)
    clock_exactly = go (entry_way kind k v p s)
      where
        go : {o : Effect} → EntryWay kind k v p s o → (o.answer.number ≡ CLOCK) ↔ (s.clock ≡ last_clock)
        go (at_last_clock h) = (λ e. omega (arith, good.clock_within), λ e. refl)
        go (root_full h f g) = (λ e. absurd (omega arith), λ e. absurd (omega arith))
        go (enters h f) = (λ e. absurd (omega arith), λ e. absurd (omega arith))

    -- FULL: "root full and lacks the key".
    pub record RootFull : Type 0 where
      pub clock_left : s.clock < last_clock
      pub lacks_key : find key_of (node_at s 0) k ≡ none
      pub no_place : length (node_at s 0) ≡ capacity_of p 0

    pub full_exactly : ((entry kind k v p s).answer.number ≡ FULL) ↔ RootFull
    full_exactly = go (entry_way kind k v p s)
      where
        within : length (node_at s 0) ≤ capacity_of p 0
        within = good.counts_within_capacity 0 (root_in_plan p rules)

        go : {o : Effect} → EntryWay kind k v p s o → (o.answer.number ≡ FULL) ↔ RootFull
        go (at_last_clock h) = (λ e. absurd (omega arith), λ r. absurd (omega (arith, r.clock_left)))
        go (root_full h f g) = (λ e. record { clock_left = h; lacks_key = f; no_place = omega (arith, within) }, λ r. refl)
        go (enters h f) = (
          λ e. absurd (omega arith),
          λ r.
              absurd
              (not_both f (room_none key_of (capacity_of p 0) (node_at s 0) k r.lacks_key (omega (arith, r.no_place)))),
        )

    pub entry_unaltered : Unaltered s (entry kind k v p s)
    entry_unaltered = go (entry_way kind k v p s)
      where
        go : {o : Effect} → EntryWay kind k v p s o → Unaltered s o
        go (at_last_clock h) = λ e. refl
        go (root_full h f g) = λ e. refl
        go (enters h f) = λ e. absurd (omega arith)

  module _ (n i : ℕ) where
    -- NODE: "plan has no such node".
    pub node_exactly : ((carry_step n i p s).answer.number ≡ NODE) ↔ (size p ≤ n)
    node_exactly = go (carry_way n i p s)
      where
        go : {o : Effect} → CarryWay n i p s o → (o.answer.number ≡ NODE) ↔ (size p ≤ n)
        go (no_node h) = (λ e. h, λ g. refl)
        go (no_edge_lem h f) = (λ e. absurd (omega arith), λ g. absurd (omega arith))
        go (merges d) = (λ e. absurd (unfold carried_out in omega arith), λ g. absurd (omega (arith, d.node)))

    -- EDGE: "node has no such edge".
    pub edge_exactly : ((carry_step n i p s).answer.number ≡ EDGE) ↔ ((n < size p) × (length (edges_of p n) ≤ i))
    edge_exactly = go (carry_way n i p s)
      where
        go : {o : Effect} → CarryWay n i p s o → (o.answer.number ≡ EDGE) ↔ ((n < size p) × (length (edges_of p n) ≤ i))
        go (no_node h) = (λ e. absurd (omega arith), λ g. absurd (omega (arith, g.0)))
        go (no_edge_lem h f) = (λ e. (h, f), λ g. refl)
        go (merges d) = (λ e. absurd (unfold carried_out in omega arith), λ g. absurd (omega (arith, d.edge, g.1)))

    pub carry_unaltered : Unaltered s (carry_step n i p s)
    carry_unaltered = go (carry_way n i p s)
      where
        go : {o : Effect} → CarryWay n i p s o → Unaltered s o
        go (no_node h) = λ e. refl
        go (no_edge_lem h f) = λ e. refl
        go (merges d) = λ e. absurd (unfold carried_out in omega arith)

  module _ (k : ℕ) where
    -- SLOTS: "all 8 running".
    pub slots_exactly : ((start_step k p s).answer.number ≡ SLOTS) ↔ ((i : ℕ) → i < slot_count → (slot_at s i).running ≢ idle_mark)
    slots_exactly = go (start_way k p s)
      where
        go : {o : Effect} → StartWay k s o → (o.answer.number ≡ SLOTS) ↔ ((i : ℕ) → i < slot_count → (slot_at s i).running ≢ idle_mark)
        go (all-running h) = (λ e i g. h i (omega (arith, good.slots_long)), λ f. refl)
        go (starts i h f g) = (λ e. absurd (omega arith), λ all. absurd (all i (omega (arith, good.slots_long)) f))

    pub start_unaltered : Unaltered s (start_step k p s)
    start_unaltered = go (start_way k p s)
      where
        go : {o : Effect} → StartWay k s o → Unaltered s o
        go (all-running h) = λ e. refl
        go (starts i h f g) = λ e. absurd (omega arith)

  -- What is done with a slot, and is no refusal when it is done.
  module _ (Done : Effect → Type 0) (i : ℕ) (accepted : (o : Effect) → Done o → o.answer.number ≤ GOING) where
    running_slot : {o : Effect} → RunningWay Done i s o → (o.answer.number ≡ SLOT) ↔ (slot_count ≤ i)
    running_slot (no_slot h) = (λ e. omega (arith, good.slots_long), λ g. refl)
    running_slot (slot_idle h f) = (λ e. absurd (omega arith), λ g. absurd (omega (arith, good.slots_long)))
    running_slot (slot_runs {e = o} h f d) = (λ e. absurd (omega (arith, accepted o d)), λ g. absurd (omega (arith, good.slots_long)))

    running-idle : {o : Effect} → RunningWay Done i s o → (o.answer.number ≡ IDLE) ↔ ((i < slot_count) × ((slot_at s i).running ≡ idle_mark))
    running-idle (no_slot h) = (λ e. absurd (omega arith), λ g. absurd (omega (arith, good.slots_long, g.0)))
    running-idle (slot_idle h f) = (λ e. (omega (arith, good.slots_long), f), λ g. refl)
    running-idle (slot_runs {e = o} h f d) = (λ e. absurd (omega (arith, accepted o d)), λ g. absurd (f g.1))

    running_unaltered : {o : Effect} → RunningWay Done i s o → Unaltered s o
    running_unaltered (no_slot h) = λ e. refl
    running_unaltered (slot_idle h f) = λ e. refl
    running_unaltered (slot_runs {e = o} h f d) = λ e. absurd (omega (arith, accepted o d))

  module _ (i : ℕ) where
    visit_accepted : (o : Effect) → Visit i p s o → o.answer.number ≤ GOING
    visit_accepted o v = go v
      where
        go : {o : Effect} → Visit i p s o → o.answer.number ≤ GOING
        go (finds x f) = omega arith
        go (never f g) = omega arith
        go (goes f t g) = omega arith

    freed_accepted : (o : Effect) → Freed i s o → o.answer.number ≤ GOING
    freed_accepted o v = go v
      where
        go : {o : Effect} → Freed i s o → o.answer.number ≤ GOING
        go freed = omega arith

    -- SLOT: "slot above 7"; IDLE: "slot not running".
    pub step_slot_exactly : ((step_step i p s).answer.number ≡ SLOT) ↔ (slot_count ≤ i)
    step_slot_exactly = running_slot (Visit i p s) i visit_accepted (step_way i p s)

    pub step_idle_exactly : ((step_step i p s).answer.number ≡ IDLE) ↔ ((i < slot_count) × ((slot_at s i).running ≡ idle_mark))
    step_idle_exactly = running-idle (Visit i p s) i visit_accepted (step_way i p s)

    pub step_unaltered : Unaltered s (step_step i p s)
    step_unaltered = running_unaltered (Visit i p s) i visit_accepted (step_way i p s)

    pub cancel_slot_exactly : ((cancel_step i p s).answer.number ≡ SLOT) ↔ (slot_count ≤ i)
    cancel_slot_exactly = running_slot (Freed i s) i freed_accepted (cancel_way i p s)

    pub cancel_idle_exactly : ((cancel_step i p s).answer.number ≡ IDLE) ↔ ((i < slot_count) × ((slot_at s i).running ≡ idle_mark))
    cancel_idle_exactly = running-idle (Freed i s) i freed_accepted (cancel_way i p s)

    pub cancel_unaltered : Unaltered s (cancel_step i p s)
    cancel_unaltered = running_unaltered (Freed i s) i freed_accepted (cancel_way i p s)
