-- Every step keeps all state rules, for every plan that meets the plan rules, and whatever numbers it is called with.
use mathlib.Core.Path.{◌≡◌, refl, sym, ◌∙◌, subst}
use mathlib.Core.Bool.{Bool, true, false, cond}
use mathlib.Core.Logic.{◌≢◌, ◌⊎◌, inl, inr}
use mathlib.Core.Option.{some}
use Prim.Native.Nat.{ℕ, suc, ◌<◌, ◌≤◌}
use native.Mathlib.Omega.{arith}
use native.Mathlib.Decide.{ℕ_discrete}
use lib.Dec.{eqb}
use lib.ListN.{length, length-set}
use borrow.Author.Tests.{eqb-true}
use Rattle.lists.proofs.Options.{one_some}
use Rattle.lists.proofs.RisingKeys.{Rising}
use Rattle.plan.specs.declared.Edge.{Edge}
use Rattle.plan.specs.Plan.{Plan, size, capacity_of, edge_of}
use Rattle.plan.specs.PlanRules.{IsEdge, PlanRules}
use Rattle.store.specs.declared.Copy.{Copy}
use Rattle.store.specs.declared.Slot.{Slot}
use Rattle.store.specs.Copies.{has_value, Kind, kind_number, value_held, copy, key_of}
use Rattle.store.specs.State.{State, node_at, slot_at, idle, line, last_clock, slot_count, idle_mark, running_mark}
use Rattle.store.specs.StateRules.{KindAndValue, OnPath, StateRules}
use Rattle.store.specs.Calls.{Effect}
use Rattle.store.proofs.KindLaws.{kind_known}
use Rattle.store.proofs.Lifting.{Keeps}
use Rattle.steps.specs.Entries.{room, entered, entry, entry_step}
use Rattle.steps.specs.Carries.{Merged, bit, merge_along, carried_to, carried_out, carry_step}
use Rattle.steps.specs.Searches.{running, with_slot, start_step, step_step, cancel_step}
use Rattle.steps.proofs.NodeLists.{put_rising, put_fits}
use Rattle.steps.proofs.Merges.{Merging, stay_rising, target_rising, stay_short, target_fits}
use Rattle.steps.proofs.OnPaths.{root_on_path, next_on_path}
use Rattle.steps.proofs.WaysOut.{EntryWay, entry_way, CarryWay, carry_way, StartWay, start_way, RunningWay, Visit, step_way, Freed, cancel_way}
use Rattle.steps.proofs.WaysOut.EntryWay.{at_last_clock, root_full, enters}
use Rattle.steps.proofs.WaysOut.CarryWay.{no_node, no_edge_lem, merges}
use Rattle.steps.proofs.WaysOut.StartWay.{all-running, starts}
use Rattle.steps.proofs.WaysOut.RunningWay.{no_slot, slot_idle, slot_runs}
use Rattle.steps.proofs.WaysOut.Visit.{finds, never, goes}
use Rattle.steps.proofs.WaysOut.Freed.{freed}
use Rattle.steps.proofs.RulesOnLines.{LineRules, rising_nodes, line_rules, slot_rules, from_lines}
use Rattle.steps.proofs.LineSteps.{
  every_node-entered,
  every_node-carried,
  slot_set,
  slot_other,
  entered-line,
  entered_step,
  merged_line,
  merging_along,
  carried_from,
  after_carry,
}
use Rattle.steps.proofs.LinesKept.{lines_kept}

bit_one : (b : Bool) → bit b ≡ 1 → b ≡ true
bit_one true e = refl
bit_one false e = absurd (omega arith)

module _ (p : Plan) (rules : PlanRules p) (s : State) (good : StateRules p s) where
  root : 0 < length s.nodes
  root = omega (arith, good.a_list_for_each_node, rules.nodes_within)

  -- An entry for which there is room.
  module _ (x : Copy) (t : x.stamp ≡ s.clock) where
    entered_lines : KindAndValue x → LineRules p (entered x s)
    unfolding entered
    entered_lines fit =
        lines_kept p rules s (entered x s) (λ k. 0) (λ k. bit (eqb x.key k)) (λ k. entered_step p rules s good k x t)
        (line_rules p s good) good.clock_within.0 (λ j k a b. sym (its j a) ∙ its k b)
        (λ k y a e.
        subst KindAndValue
        (one_some (subst (λ (z : ℕ). line (entered x s) z 0 ≡ some x) (its k a) (entered-line x s root).got) e) fit)
      where
        its : (k : ℕ) → bit (eqb x.key k) ≡ 1 → x.key ≡ k
        its k a = eqb-true x.key k (bit_one (eqb x.key k) a)

    pub entered_keeps : KindAndValue x → s.clock < last_clock → room key_of (capacity_of p 0) (node_at s 0) x.key ≡ true
        → StateRules p (entered x s)
    entered_keeps fit h r =
        from_lines p (entered x s) (unfold entered in simp length-set good.a_list_for_each_node) (unfold entered in omega arith)
        (every_node-entered x s root (λ n xs. n < size p → length xs ≤ capacity_of p n)
        (λ g. put_fits key_of (capacity_of p 0) x (rising_nodes p s good 0) (good.counts_within_capacity 0 g) r)
        good.counts_within_capacity)
        (every_node-entered x s root (λ n xs. Rising key_of 0 xs) (put_rising key_of x (omega arith) (rising_nodes p s good 0))
        (rising_nodes p s good))
        (entered_lines fit) (unfold entered in slot_rules p s good)

  -- A carry along an edge of the plan.
  module _ (n i : ℕ) (d : IsEdge p n i) where
    carried_lines : LineRules p (after_carry p n i s)
    unfolding carried_to
    carried_lines =
        lines_kept p rules s (after_carry p n i s) (carried_from s (after_carry p n i s) n) (λ k. 0) (λ k. merged_line p rules s good k n i d)
        (line_rules p s good) good.clock_within.0 (λ j k a b. absurd (omega arith)) (λ k x a e. absurd (omega arith))

    pub carried_keeps : StateRules p (after_carry p n i s)
    carried_keeps =
        from_lines p (after_carry p n i s) (unfold carried_to in simp length-set good.a_list_for_each_node)
        (unfold carried_to in good.clock_within)
        (every_node-carried n t m s down.0 exists (λ j xs. j < size p → length xs ≤ capacity_of p j)
        (λ g. omega (arith, good.counts_within_capacity n g, stay_short key_of (capacity_of p t) e along))
        (λ g. target_fits key_of (capacity_of p t) e along (rising_nodes p s good t) (good.counts_within_capacity t g))
        good.counts_within_capacity)
        (every_node-carried n t m s down.0 exists (λ j xs. Rising key_of 0 xs)
        (stay_rising key_of (capacity_of p t) e along (rising_nodes p s good n))
        (target_rising key_of (capacity_of p t) e along (rising_nodes p s good t)) (rising_nodes p s good))
        carried_lines (unfold carried_to in slot_rules p s good)
      where
        e : Edge
        e = edge_of p n i

        t : ℕ
        t = e.target

        m : Merged Copy
        m = merge_along p n e s

        along : Merging key_of (capacity_of p t) e (node_at s n) (node_at s t) m.stay m.target
        along = merging_along p n e s

        down : (n < t) × (t < size p)
        down = rules.target_greater_and_exists n i d

        exists : t < length s.nodes
        exists = omega (arith, down.1, good.a_list_for_each_node)

pub entry_keeps : (kind k v : ℕ) → ((t : ℕ) → KindAndValue (copy k kind v t)) → Keeps (entry kind k v)
entry_keeps kind k v fit p rules s good = go (entry_way kind k v p s)
  where
    go : {e : Effect} → EntryWay kind k v p s e → StateRules p e.after
    go (at_last_clock h) = good
    go (root_full h f g) = good
    go (enters h r) = entered_keeps p rules s good (copy k kind v s.clock) refl (fit s.clock) h r

-- A copy of an entry has a kind that there is, and a value or 0.
pub entry_fits : (kind : Kind) (k v t : ℕ) → KindAndValue (copy k (kind_number kind) (value_held kind v) t)
entry_fits kind k v t = (kind_known kind, go (has_value (kind_number kind)))
  where
    go : (has : Bool) → (has ≡ true) ⊎ (cond has v 0 ≡ 0)
    go true = inl refl
    go false = inr refl

pub kind_keeps : (kind : Kind) (k v : ℕ) → Keeps (entry_step kind k v)
kind_keeps kind k v = entry_keeps (kind_number kind) k (value_held kind v) (entry_fits kind k v)

pub carry_keeps : (n i : ℕ) → Keeps (carry_step n i)
carry_keeps n i p rules s good = go (carry_way n i p s)
  where
    go : {e : Effect} → CarryWay n i p s e → StateRules p e.after
    go (no_node h) = good
    go (no_edge_lem h f) = good
    go (merges d) = unfold carried_out in carried_keeps p rules s good n i d

-- The rules of one slot.
record SlotFits (p : Plan) (q : Slot) : Type 0 where
  idle-zero : q.running ≡ idle_mark → q ≡ idle
  on_path : (q.running ≡ idle_mark → ⊥) → (q.running ≡ running_mark) × OnPath p q.key q.node q.visits

idle_fits : (p : Plan) → SlotFits p idle
idle_fits p = record { idle-zero = λ e. refl; on_path = λ f. absurd (f refl) }

search_fits : (p : Plan) (k n visits : ℕ) → OnPath p k n visits → SlotFits p (running k n visits)
search_fits p k n visits o = record { idle-zero = λ e. absurd (omega arith); on_path = λ f. (refl, o) }

-- Setting a slot to one that meets its rules keeps all rules.
slot_keeps : (p : Plan) (s : State) → StateRules p s → (i : ℕ) (q : Slot) → i < length s.slots → SlotFits p q → StateRules p (with_slot i q s)
slot_keeps p s good i q h f =
    record {
      a_list_for_each_node = good.a_list_for_each_node;
      clock_within = good.clock_within;
      counts_within_capacity = good.counts_within_capacity;
      keys_strictly_rise = good.keys_strictly_rise;
      kinds_and_values = good.kinds_and_values;
      copies_on_their_paths = good.copies_on_their_paths;
      stamps_below_the_clock = good.stamps_below_the_clock;
      stamps_all-different = good.stamps_all-different;
      stamps_fall_down_a_path = good.stamps_fall_down_a_path;
      slots_long = simp length-set good.slots_long;
      idle_slots_all-zero = λ j g. (at j g).idle-zero;
      running_searches_on_their_paths = λ j g. (at j g).on_path;
    }
  where
    at : (j : ℕ) → j < slot_count → SlotFits p (slot_at (with_slot i q s) j)
    at j g = go (ℕ_discrete j i)
      where
        go : Dec (j ≡ i) → SlotFits p (slot_at (with_slot i q s) j)
        go (yes e) = rw (e, slot_set i q s h) f
        go (no e) =
            rw (slot_other i q s j e)
            (record { idle-zero = good.idle_slots_all-zero j g; on_path = good.running_searches_on_their_paths j g })

pub start_keeps : (k : ℕ) → Keeps (start_step k)
start_keeps k p rules s good = go (start_way k p s)
  where
    go : {e : Effect} → StartWay k s e → StateRules p e.after
    go (all-running h) = good
    go (starts i h f g) = slot_keeps p s good i (running k 0 0) h (search_fits p k 0 0 (root_on_path p rules k))

running_keeps : (Done : Effect → Type 0) (p : Plan) (s : State) (i : ℕ) → StateRules p s
    → ((e : Effect) → i < length s.slots → (slot_at s i).running ≢ idle_mark → Done e → StateRules p e.after)
    → {e : Effect} → RunningWay Done i s e → StateRules p e.after
running_keeps Done p s i good f (no_slot h) = good
running_keeps Done p s i good f (slot_idle h g) = good
running_keeps Done p s i good f (slot_runs {e = e} h g d) = f e h g d

pub step_keeps : (i : ℕ) → Keeps (step_step i)
step_keeps i p rules s good = running_keeps (Visit i p s) p s i good (λ e. go) (step_way i p s)
  where
    go : {e : Effect} → i < length s.slots → (slot_at s i).running ≢ idle_mark → Visit i p s e → StateRules p e.after
    go h f (finds x g) = slot_keeps p s good i idle h (idle_fits p)
    go h f (never g c) = slot_keeps p s good i idle h (idle_fits p)
    go h f (goes g t c) =
        let o = (good.running_searches_on_their_paths i (omega (arith, good.slots_long)) f).1 in
        slot_keeps p s good i (running (slot_at s i).key t (suc (slot_at s i).visits)) h
        (search_fits p (slot_at s i).key t (suc (slot_at s i).visits)
        (next_on_path p rules (slot_at s i).key (slot_at s i).node t (slot_at s i).visits o c))

pub cancel_keeps : (i : ℕ) → Keeps (cancel_step i)
cancel_keeps i p rules s good = running_keeps (Freed i s) p s i good (λ e. go) (cancel_way i p s)
  where
    go : {e : Effect} → i < length s.slots → (slot_at s i).running ≢ idle_mark → Freed i s e → StateRules p e.after
    go h f freed = slot_keeps p s good i idle h (idle_fits p)
