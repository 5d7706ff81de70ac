-- A carry's rise is at most its fall, so no count that its answer says is cut off at 0.
use mathlib.Core.Path.{◌≡◌, ap, ◌∙◌}
use mathlib.Core.Bool.{true}
use Prim.Native.Nat.{ℕ, ◌<◌}
use lib.ListN.{length}
use Rattle.plan.specs.Plan.{Plan, size, edge_of}
use Rattle.plan.specs.PlanRules.{IsEdge}
use Rattle.store.specs.declared.Store.{Store}
use Rattle.store.specs.State.{node_at}
use Rattle.store.specs.Layout.{plan_of, count_of, state_of}
use Rattle.store.specs.StoreRules.{good_store}
use Rattle.store.proofs.Laying.{state_count}
use Rattle.store.proofs.Lifting.{plan_good, state_good}
use Rattle.steps.proofs.LineSteps.{after_carry}
use Rattle.steps.proofs.CarryLaws.{carry_after}
use Rattle.theory.specs.Events.{effect}
use Rattle.theory.specs.Events.Event.{carries}
use Rattle.paper.proofs.Totals.{rise_in_fall}
use Rattle.calls.specs.PublicCalls.{Call, store_after}
use Rattle.calls.specs.Following.{event_of}
use Rattle.calls.proofs.Follows.{Acts, acts_as, carry_acts, event_keeps_plan, event_state}
use Rattle.paper_calls.specs.Sums.{RiseWithinFall}

-- So it is of a carry along an edge of the store's plan, by a record run too.
pub rise_within_fall : (c : Call) (n i : ℕ) → event_of c ≡ carries n i → (z : Store) → good_store z ≡ true → IsEdge (plan_of z) n i
    → RiseWithinFall c n i z
rise_within_fall c n i is z good d =
    rw (← (before t down.1), ← (before n d.node), ← (then t down.1), ← (then n d.node))
    (rise_in_fall p (plan_good z good) (state_of z) (state_good z good) n i d (state_of (store_after c z)) state)
  where
    p : Plan
    p = plan_of z

    t : ℕ
    t = (edge_of (plan_of z) n i).target

    down : (n < t) × (t < size p)
    down = (plan_good z good).target_greater_and_exists n i d

    its : Acts c (carries n i)
    its = acts_as c (carries n i) is (carry_acts n i)

    state : state_of (store_after c z) ≡ after_carry p n i (state_of z)
    state =
        ap state_of (its.leaves z)
        ∙ (event_state (carries n i) z good ∙ (unfold effect in carry_after p (plan_good z good) (state_of z) (state_good z good) n i d))

    plan : plan_of (store_after c z) ≡ plan_of z
    plan = ap (λ (y : Store). plan_of y) (its.leaves z) ∙ event_keeps_plan (carries n i) z

    before : (m : ℕ) → m < size p → length (node_at (state_of z) m) ≡ count_of z m
    before m h = state_count z m h

    then : (m : ℕ) → m < size p → length (node_at (state_of (store_after c z)) m) ≡ count_of (store_after c z) m
    then m h = state_count (store_after c z) m (rw plan h)
