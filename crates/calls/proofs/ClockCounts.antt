-- How many entries the clock allows: each accepted entry takes one stamp, and nothing else does.
use mathlib.Core.Path.{◌≡◌, ap, ◌∙◌}
use mathlib.Core.Bool.{true}
use mathlib.Core.List.{List, []}
use Prim.Native.Nat.{ℕ, suc, ◌+◌, ◌≤◌}
use native.Mathlib.Omega.{arith}
use lib.ListN.{length}
use Rattle.plan_table.specs.PlanTable.{plans}
use Rattle.store.specs.declared.Store.{Store}
use Rattle.store.specs.State.{State, fresh as fresh_state}
use Rattle.store.specs.Layout.{plan_of, state_of, store_of, fresh_store}
use Rattle.store.specs.StoreRules.{good_store}
use Rattle.store.proofs.Lifting.{state_good, fresh_good}
use Rattle.theory.proofs.ClockSteps.{events_count}
use Rattle.calls.specs.PublicCalls.{Call, store_after_all}
use Rattle.calls.specs.Following.{events_of, same_store, history}
use Rattle.calls.specs.Counts.{most_entries}
use Rattle.calls.proofs.Follows.{calls_keep_good, follows_events}
use Rattle.calls.proofs.Histories.{same_history}

-- Over calls that do not replace the store the clock goes up by as many as they enter;
pub clock_counts : (cs : List Call) (z : Store) → good_store z ≡ true → same_store cs ≡ true
    → (store_after_all cs z).clock ≡ length (history cs z []) + z.clock
unfolding state_of
clock_counts cs z good stays =
    ap (λ (s : State). s.clock) (follows_events cs z good stays).state
    ∙ events_count (plan_of z) (events_of cs) (state_of z)
    ∙ rw (same_history cs z good stays [])

-- and from a fresh store it is one more than the accepted entries, of which there are at most 4294967294.
pub most_entries_lem : (plan : ℕ) → 1 ≤ plan → plan ≤ plans → (cs : List Call) → same_store cs ≡ true
    → ((store_after_all cs (fresh_store plan)).clock ≡ suc (length (history cs (fresh_store plan) [])))
    × (length (history cs (fresh_store plan) []) ≤ most_entries)
unfolding state_of fresh_store store_of fresh_state
most_entries_lem plan low high cs stays =
    let good = fresh_good plan low high in
    let counts : (store_after_all cs (fresh_store plan)).clock ≡ suc (length (history cs (fresh_store plan) [])) =
    omega (arith, clock_counts cs (fresh_store plan) good stays) in
    (counts, omega (arith, (state_good (store_after_all cs (fresh_store plan)) (calls_keep_good cs (fresh_store plan) good)).clock_within.1))
