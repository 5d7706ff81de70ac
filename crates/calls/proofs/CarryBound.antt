-- Demand 3 over all sequences of public calls, fresh and load among them: since the store was last replaced, a line is carried at most as
-- often as its path has edges times the entries of it, loaded copies included; and this is reached.
use mathlib.Core.Path.{◌≡◌, refl, sym, ap, ◌∙◌}
use mathlib.Core.Bool.{true, false}
use mathlib.Core.Logic.{◌⊎◌, inl, inr}
use mathlib.Core.List.{List, [], ◌∷◌, ◌++◌}
use mathlib.Core.Option.{none, some}
use Prim.Native.Nat.{ℕ, ◌+◌, ◌*◌, ◌<◌, ◌≤◌}
use native.Mathlib.Omega.{arith}
use native.Mathlib.Nat.{add-zero, mul-add}
use Rattle.lists.proofs.Truths.{bool?, not_both, le_both}
use Rattle.lists.proofs.Options.{option?}
use Rattle.plan.specs.Plan.{edges_on}
use Rattle.plan_table.specs.PlanTable.{plan_numbered, plans}
use Rattle.store.specs.declared.Copy.{Copy}
use Rattle.store.specs.declared.Store.{Store}
use Rattle.store.specs.State.{last_clock, fresh}
use Rattle.store.specs.Layout.{plan_of, state_of, fresh_store}
use Rattle.store.specs.StoreRules.{plan_number_test, good_store}
use Rattle.store.specs.Promises.{fresh_outcome}
use Rattle.store.proofs.WhichPlan.{plan_back}
use Rattle.store.proofs.Lifting.{plan_good, state_good, fresh_back, fresh_good}
use Rattle.steps.specs.Carries.{bit}
use Rattle.theory.specs.Events.{Event, entry_of, option_list, held, of_line, copies_of, carried, worth, rounds}
use Rattle.theory.specs.Events.Event.{enters, carries, starts, steps, cancels, asks}
use Rattle.theory.proofs.Bound.{worth-held, event_pays, copies_with, copies_entered}
use Rattle.theory.proofs.Reached.{reached}
use Rattle.calls.specs.PublicCalls.{Call, store_after, store_after_all}
use Rattle.calls.specs.PublicCalls.Call.{fresh as fresh_call}
use Rattle.calls.specs.Following.{
  event_of,
  events_of,
  on_event,
  own_outcome,
  replacement,
  same_store,
  entered_by,
  carried_by,
  history_with,
  history,
  carries_with,
  carries_since,
  call_of,
  calls_of,
  round_calls,
}
use Rattle.calls.specs.Counts.{most_entries}
use Rattle.calls.proofs.Follows.{event_on, event_on_bad, event_keeps_plan, event_keeps_good, event_state, replaced_by_lem}
use Rattle.calls.proofs.Histories.{entered_same, carried_same, nothing-carried, fresh-history, same_history, same_carries, replaced-history, replaced-carries}

module _ (k : ℕ) where
  -- Of a good store the carries so far, and what its copies of the line are worth, are paid by the entries in its history; with a bad one
  -- nothing is carried.
  record Paid (z : Store) (n : ℕ) (h : List Copy) : Type 0 where
    of_good : good_store z ≡ true → n + worth (plan_of z) k (state_of z) ≤ edges_on (plan_of z) k * copies_of k h
    of_bad : good_store z ≡ false → n ≡ 0

  -- So it is at the start, and after an accepted fresh or load,
  paid_at_start : (z : Store) → Paid z 0 (held (state_of z))
  paid_at_start z =
      record { of_good = λ good. omega (arith, worth-held (plan_of z) (plan_good z good) k (state_of z)); of_bad = λ bad. refl }

  -- and an event keeps it so.
  paid_good : (e : Event) (z : Store) (n : ℕ) (h : List Copy) → Paid z n h → good_store z ≡ true
      → bit (carried_by k e z) + n + worth (plan_of (on_event e z).store) k (state_of (on_event e z).store)
      ≤ edges_on (plan_of (on_event e z).store) k * copies_of k (h ++ option_list (entered_by e z))
  paid_good e z n h q good =
      let p = plan_of z in
      let s = state_of z in
      rw (event_state e z good, event_keeps_plan e z, entered_same e z good, carried_same k e z good, copies_with k h (entry_of p e s))
      (omega (
        arith,
        mul-add (edges_on p k) (copies_of k h) (bit (of_line k (entry_of p e s))),
        event_pays p (plan_good z good) k e s (state_good z good),
        q.of_good good,
      ))

  paid_on : (e : Event) (z : Store) (n : ℕ) (h : List Copy) → Paid z n h
      → Paid (on_event e z).store (bit (carried_by k e z) + n) (h ++ option_list (entered_by e z))
  paid_on e z n h q = go (bool? (good_store z))
    where
      go : (good_store z ≡ true) ⊎ (good_store z ≡ false) → Paid (on_event e z).store (bit (carried_by k e z) + n) (h ++ option_list (entered_by e z))
      go (inl good) =
          record {
            of_good = λ g. paid_good e z n h q good;
            of_bad = λ bad. absurd (not_both (event_keeps_good e z good) bad);
          }
      go (inr bad) =
          record {
            of_good = λ good. absurd (not_both good (ap good_store (event_on_bad e z bad) ∙ bad));
            of_bad = λ b. rw (nothing-carried k e z bad) (omega (arith, q.of_bad bad));
          }

  -- So every call does,
  call_pays : (c : Call) (z : Store) (n : ℕ) (h : List Copy) → Paid z n h
      → Paid (store_after c z) (carries_with (replacement c) (carried_by k (event_of c) z) n) (history_with (replacement c) (entered_by (event_of c) z) h)
  call_pays c z n h q = go (option? (replacement c))
    where
      go : (replacement c ≡ none) ⊎ ((y : Store) × (replacement c ≡ some y))
          → Paid (store_after c z) (carries_with (replacement c) (carried_by k (event_of c) z) n)
          (history_with (replacement c) (entered_by (event_of c) z) h)
      go (inl e) = rw (e, event_on c z e) (paid_on (event_of c) z n h q)
      go (inr w) = rw (w.1, (replaced_by_lem c w.0 w.1).leaves z) (paid_at_start w.0)

  -- and every sequence.
  calls_pay : (cs : List Call) (z : Store) (n : ℕ) (h : List Copy) → Paid z n h → Paid (store_after_all cs z) (carries_since k cs z n) (history cs z h)
  unfolding store_after_all carries_since history
  calls_pay [] z n h q = q
  calls_pay (c ∷ cs) z n h q =
      calls_pay cs (store_after c z) (carries_with (replacement c) (carried_by k (event_of c) z) n)
      (history_with (replacement c) (entered_by (event_of c) z) h) (call_pays c z n h q)

  -- Demand 3, from any store and over any sequence of public calls: since the last accepted fresh or load, or since the start, the line was
  -- carried at most as often as its path has edges times its entries, each loaded copy counting as one.
  pub calls_bound : (cs : List Call) (z : Store)
      → carries_since k cs z 0 ≤ edges_on (plan_of (store_after_all cs z)) k * copies_of k (history cs z (held (state_of z)))
  calls_bound cs z = go (bool? (good_store (store_after_all cs z))) (calls_pay cs z 0 (held (state_of z)) (paid_at_start z))
    where
      go : (good_store (store_after_all cs z) ≡ true) ⊎ (good_store (store_after_all cs z) ≡ false)
          → Paid (store_after_all cs z) (carries_since k cs z 0) (history cs z (held (state_of z)))
          → carries_since k cs z 0 ≤ edges_on (plan_of (store_after_all cs z)) k * copies_of k (history cs z (held (state_of z)))
      go (inl good) q = omega (arith, q.of_good good)
      go (inr bad) q = rw (q.of_bad bad) (omega arith)

-- The calls of some events: they are those events, and replace nothing.
event_back : (e : Event) → (event_of (call_of e) ≡ e) × (replacement (call_of e) ≡ none)
unfolding event_of call_of own_outcome replacement
event_back (enters kind k v) = (refl, refl)
event_back (carries n i) = (refl, refl)
event_back (starts k) = (refl, refl)
event_back (steps i) = (refl, refl)
event_back (cancels i) = (refl, refl)
event_back asks = (refl, refl)

events_back : (es : List Event) → events_of (calls_of es) ≡ es
unfolding events_of calls_of
events_back [] = refl
events_back (e ∷ es) = rw ((event_back e).0, events_back es)

calls_stay : (es : List Event) → same_store (calls_of es) ≡ true
unfolding same_store calls_of
calls_stay [] = refl
calls_stay (e ∷ es) = rw (event_back e).1 (calls_stay es)

-- From a fresh store, the events' counts are the calls'.
from_fresh : (plan : ℕ) → 1 ≤ plan → plan ≤ plans → (k v r : ℕ) → r < last_clock
    → (copies_of k (history (calls_of (rounds (plan_of (fresh_store plan)) k v r)) (fresh_store plan) []) ≡ r)
    × (carries_since k (calls_of (rounds (plan_of (fresh_store plan)) k v r)) (fresh_store plan) 0 ≡ edges_on (plan_of (fresh_store plan)) k * r)
unfolding copies_of
from_fresh plan low high k v r h =
    let p = plan_of (fresh_store plan) in
    let es = rounds p k v r in
    let good = fresh_good plan low high in
    let w = reached p (plan_good (fresh_store plan) good) k v r h in
    let its : p ≡ plan_numbered plan = unfold fresh_store in plan_back plan (fresh (plan_numbered plan)) in
    let begins : state_of (fresh_store plan) ≡ fresh p = fresh_back plan low high ∙ ap fresh (sym its) in (
      ap (copies_of k) (same_history (calls_of es) (fresh_store plan) good (calls_stay es) [])
          ∙ (rw (begins, events_back es) (copies_entered p k es (fresh p)) ∙ w.0),
      same_carries k (calls_of es) (fresh_store plan) good (calls_stay es) 0
          ∙ (add-zero (carried (plan_of (fresh_store plan)) k (events_of (calls_of es)) (state_of (fresh_store plan)))
          ∙ rw (begins, events_back es) w.1),
    )

-- An accepted fresh: the store is the plan's fresh store.
fresh_replaces : (plan : ℕ) → 1 ≤ plan → plan ≤ plans → replacement (fresh_call plan) ≡ some (fresh_store plan)
unfolding own_outcome replacement fresh_outcome plan_number_test
fresh_replaces plan low high = rw (le_both 1 plan plan plans low high)

-- The bound is reached, for every plan of the table, every line, every value and every number of entries that the clock allows: whatever
-- the store was before.
pub calls_reach : (plan : ℕ) → 1 ≤ plan → plan ≤ plans → (k v r : ℕ) → r ≤ most_entries → (z : Store)
    → (copies_of k (history (round_calls plan k v r) z (held (state_of z))) ≡ r)
    × (carries_since k (round_calls plan k v r) z 0 ≡ edges_on (plan_of (fresh_store plan)) k * r)
unfolding round_calls
calls_reach plan low high k v r h z =
    let e = fresh_replaces plan low high in
    let cs = calls_of (rounds (plan_of (fresh_store plan)) k v r) in
    let w = from_fresh plan low high k v r (omega arith) in (
      ap (copies_of k)
          (replaced-history (fresh_call plan) cs z (fresh_store plan) (held (state_of z)) e
          ∙ ap (λ (xs : List Copy). history cs (fresh_store plan) xs) (fresh-history plan low high))
          ∙ w.0,
      replaced-carries k (fresh_call plan) cs z (fresh_store plan) 0 e ∙ w.1,
    )
