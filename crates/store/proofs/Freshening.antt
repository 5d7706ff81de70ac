-- The fresh store in full, and the two answers of its making.
use mathlib.Core.Path.{◌≡◌, sym}
use mathlib.Core.Bool.{true, false}
use mathlib.Core.List.{[]}
use Prim.Native.Nat.{ℕ, ◌<◌, ◌≤◌}
use lib.Dec.{leb}
use lib.ListN.{replicate}
use borrow.Author.Tests.{le-leb, lt-leb}
use Rattle.lists.proofs.Storing.{get_d_same}
use Rattle.plan.specs.Sizes.{most_nodes}
use Rattle.plan.specs.Plan.{size}
use Rattle.plan_table.specs.PlanTable.{plan_numbered, plans}
use Rattle.store.specs.declared.Answer.{Answer}
use Rattle.store.specs.declared.Store.{Store}
use Rattle.store.specs.Answers.{DONE, PLAN, bare}
use Rattle.store.specs.State.{slot_count, idle, fresh}
use Rattle.store.specs.Layout.{places, fresh_store}
use Rattle.store.specs.StoreRules.{plan_number_test}
use Rattle.store.specs.Promises.{fresh_outcome}
use Rattle.store.proofs.Laying.{blank_store}

-- Clock 1, nothing held, all slots idle: repeated zeros over all places.
pub fresh_store_is : (plan : ℕ)
    → fresh_store plan
    ≡ record {
      plan = plan;
      clock = 1;
      counts = replicate most_nodes 0;
      keys = replicate places 0;
      kinds = replicate places 0;
      values = replicate places 0;
      stamps = replicate places 0;
      slots = replicate slot_count idle;
    }
unfolding fresh_store fresh
fresh_store_is plan = sym (blank_store plan (fresh (plan_numbered plan)) (λ n. get_d_same (size (plan_numbered plan)) n []))

-- A plan's number is from 1 to the number of plans.
module _ (plan : ℕ) where
  pub below_the_plans : plan < 1 → false ≡ plan_number_test plan
  unfolding plan_number_test
  below_the_plans h = rw (lt-leb 1 plan h)

  pub from_the_first_plan : 1 ≤ plan → leb plan plans ≡ plan_number_test plan
  unfolding plan_number_test
  from_the_first_plan h = rw (le-leb 1 plan h)

-- The two ways out of its making.
module _ (plan : ℕ) (a : Answer) (z : Store) where
  pub fresh-done : plan_number_test plan ≡ true → a ≡ bare DONE → z ≡ fresh_store plan → record { answer = a; store = z } ≡ fresh_outcome plan
  unfolding fresh_outcome
  fresh-done t e f = rw (t, e, f)

  pub fresh-refused : plan_number_test plan ≡ false → a ≡ bare PLAN → z ≡ fresh_store 1 → record { answer = a; store = z } ≡ fresh_outcome plan
  unfolding fresh_outcome
  fresh-refused t e f = rw (t, e, f)
