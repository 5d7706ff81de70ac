-- Start, step and cancel of a good store: what they ask for is there, and their answer and slots are the call's outcome. A bad store is refused.
use mathlib.Core.Path.{◌≡◌, refl, sym, ap, ◌∙◌}
use mathlib.Core.Bool.{true, false}
use mathlib.Core.Logic.{◌≢◌}
use mathlib.Core.List.{List}
use Prim.Native.Nat.{ℕ, ◌<◌}
use native.Mathlib.Omega.{arith}
use lib.ListN.{get_or}
use Rattle.std.specs.Prelude.{Result, Err}
use Rattle.plan.specs.declared.rows.Rows.{Rows}
use Rattle.plan.specs.Plan.{Plan}
use Rattle.plan.specs.PlanArrays.{rows_of}
use Rattle.plan.proofs.PathLaws.{path_within}
use Rattle.plan.proofs.RowsLent.{own_count}
use Rattle.plan_table.specs.PlanTable.{plan_numbered}
use Rattle.store.specs.declared.Answer.{Answer}
use Rattle.store.specs.declared.Slot.{Slot}
use Rattle.store.specs.declared.Store.{Store}
use Rattle.store.specs.declared.refusal.Refusal.{Refusal}
use Rattle.store.specs.declared.refusal.Refusal.TheVariants.{BadStore}
use Rattle.store.specs.State.{State, slot_count, idle, idle_mark}
use Rattle.store.specs.StateRules.{OnPath}
use Rattle.store.specs.Layout.{plan_of, state_of, store_of}
use Rattle.store.specs.StoreRules.{good_store}
use Rattle.store.specs.Calls.{Effect, on_store}
use Rattle.store.proofs.WhichPlan.{rows_here}
use Rattle.store.proofs.Lifting.{plan_good, state_good, good_ordered, good_back, on_bad, on_way}
use Rattle.steps.specs.Searches.{step_step}
use Rattle.steps.proofs.LineSteps.{Still, step_still}
use Rattle.steps.proofs.OnPaths.{on_path_in_plan}
use Rattle.slots.specs.Workers.{with_slots, outcome_of, Moved, moved, moved_by, ChangesBy, Steppable, SearchesIn, StepsBy}

-- A bad store is refused.
pub bad_refused : (f : Plan → State → Effect) (z : Store) {why : Refusal} → (why ≡ BadStore) × (good_store z ≡ false)
    → outcome_of (Err why) z ≡ on_store f z
bad_refused f z w = rw w.0 (sym (on_bad f z w.1))

module _ (z : Store) (good : good_store z ≡ true) where
  -- A running search stands on its key's path, so at a node of the plan,
  on_its_path : (i : ℕ) → i < slot_count → let q = get_or z.slots i idle in
      q.running ≢ idle_mark → OnPath (plan_of z) q.key q.node q.visits
  unfolding state_of
  on_its_path i h runs = ((state_good z good).running_searches_on_their_paths i h runs).1

  pub good_searches : SearchesIn (plan_of z) z.slots
  good_searches i h runs =
      let q = get_or z.slots i idle in
      on_path_in_plan (plan_of z) (plan_good z good) q.key q.node q.visits (on_its_path i h runs)

  -- after fewer visits than a plan may have nodes.
  pub good_steppable : Steppable z
  good_steppable =
      record {
        ordered = good_ordered z good;
        stand = λ i h runs.
            let q = get_or z.slots i idle in
            let rules = plan_good z good in
            record {
              node = omega (arith, good_searches i h runs, rules.nodes_within);
              visits = omega (arith, (on_its_path i h runs).inside, path_within (plan_of z) rules q.key, rules.nodes_within);
            };
      }

  -- The store of a state that differs from the store's own in its slots alone.
  still_store : (t : State) → Still (state_of z) t → store_of z.plan t ≡ with_slots t.slots z
  unfolding state_of store_of
  still_store t still =
      (λ j. store_of z.plan (record { clock = still.clock j; nodes = still.nodes j; slots = t.slots }))
      ∙ ap (with_slots t.slots) (good_back z good)

  -- A step that leaves nodes and clock: its answer and slots give the call's outcome.
  moved_out : (f : Plan → State → Effect) → Still (state_of z) (f (plan_of z) (state_of z)).after
      → (r : Result Answer Refusal) (after : List Slot) → moved r after ≡ moved_by (f (plan_of z) (state_of z))
      → outcome_of r (with_slots after z) ≡ on_store f z
  moved_out f still r after e =
      let w = f (plan_of z) (state_of z) in
      ap (λ (n : Moved). record { answer = n.answer; store = with_slots n.slots z }) e
      ∙ on_way f z good w.answer w.after (with_slots w.after.slots z) refl (sym (still_store w.after still))

  -- What a worker gives by the slots alone,
  pub changes_out : (f : Plan → State → Effect) → Still (state_of z) (f (plan_of z) (state_of z)).after
      → (r : Result Answer Refusal) (after : List Slot) → ChangesBy f z.slots r after → outcome_of r (with_slots after z) ≡ on_store f z
  unfolding state_of
  changes_out f still r after d = moved_out f still r after (d (plan_of z) (state_of z).clock (state_of z).nodes)

  -- and a step by the rows of the store's plan.
  pub steps_out : (i : ℕ) (rows : Rows) → rows ≡ rows_of (plan_numbered z.plan) → (r : Result Answer Refusal) (after : Store)
      → StepsBy rows z i r after → outcome_of r after ≡ on_store (step_step i) z
  unfolding state_of
  steps_out i rows e r after d =
      ap (outcome_of r) d.slots_alone
      ∙ moved_out (step_step i) (step_still i (plan_of z) (state_of z)) r after.slots
      (d.does (plan_of z) z.clock (own_count (rows_here z (plan_good z good) rows e)) good_searches)
