-- Calls on stores: what a step on states shows of its call, the store rules kept by it, and the fresh store.
use mathlib.Core.Path.{◌≡◌, sym, ap, ◌∙◌, subst}
use mathlib.Core.Bool.{true, false, cond}
use mathlib.Core.Logic.{◌⊎◌, inl, inr}
use mathlib.Core.List.{[]}
use Prim.Native.Nat.{ℕ, suc, ◌+◌, ◌-◌, ◌*◌, ◌<◌, ◌≤◌}
use native.Mathlib.Omega.{arith}
use lib.ListN.{length, length-replicate}
use Rattle.lists.proofs.Truths.{bool?}
use Rattle.lists.proofs.Storing.{get_d_same}
use Rattle.plan.specs.Sizes.{most_nodes}
use Rattle.plan.specs.Plan.{Plan, size}
use Rattle.plan.specs.PlanRules.{PlanRules}
use Rattle.plan_table.specs.PlanTable.{plan_numbered, plans}
use Rattle.store.specs.declared.Answer.{Answer}
use Rattle.store.specs.declared.Outcome.{Outcome}
use Rattle.store.specs.declared.Slot.{Slot}
use Rattle.store.specs.declared.Store.{Store}
use Rattle.store.specs.Answers.{BADSTORE, bare}
use Rattle.store.specs.State.{State, node_at, slot_at, slot_count, idle, fresh}
use Rattle.store.specs.StateRules.{StateRules, HeldAt}
use Rattle.store.specs.Layout.{plan_of, width, count_of, state_of, store_of, fresh_store}
use Rattle.store.specs.StoreRules.{StoreRules, good_store}
use Rattle.store.specs.Workers.{RisesIn, Ordered}
use Rattle.store.specs.Calls.{Effect, on_store, of_store}
use Rattle.store.proofs.WhichPlan.{plan_numbered_lem, plan_back, known_rules}
use Rattle.store.proofs.Laying.{every_count, every_copy, store_back, node_fits, rules_back, rules_store}
use Rattle.store.proofs.Ruling.{good_rules, rules_good}

-- Two steps that do the same to a store's state are the same call.
pub same_call : (f g : Plan → State → Effect) (z : Store) → f (plan_of z) (state_of z) ≡ g (plan_of z) (state_of z)
    → on_store f z ≡ on_store g z
unfolding on_store
same_call f g z e =
    ap
    (λ (w : Effect).
    cond (good_store z) (record { answer = w.answer; store = store_of z.plan w.after }) (record { answer = bare BADSTORE; store = z }))
    e

-- The two ways of a call: a bad store, and a good one.
module _ (f : Plan → State → Effect) (z : Store) where
  pub on_bad : good_store z ≡ false → on_store f z ≡ record { answer = bare BADSTORE; store = z }
  unfolding on_store
  on_bad bad = rw bad

  pub on_good : good_store z ≡ true
      → on_store f z ≡ record {
        answer = (f (plan_of z) (state_of z)).answer;
        store = store_of z.plan (f (plan_of z) (state_of z)).after;
      }
  unfolding on_store
  on_good good = rw good

  -- The store's plan stays as it is, and so does its number.
  pub number_stays : (on_store f z).store.plan ≡ z.plan
  unfolding store_of
  number_stays = go (bool? (good_store z))
    where
      go : (good_store z ≡ true) ⊎ (good_store z ≡ false) → (on_store f z).store.plan ≡ z.plan
      go (inl good) = ap (λ (o : Outcome). o.store.plan) (on_good good)
      go (inr bad) = ap (λ (o : Outcome). o.store.plan) (on_bad bad)

  pub plan_stays : plan_of (on_store f z).store ≡ plan_of z
  plan_stays = go (bool? (good_store z))
    where
      go : (good_store z ≡ true) ⊎ (good_store z ≡ false) → plan_of (on_store f z).store ≡ plan_of z
      go (inl good) =
          ap (λ (o : Outcome). plan_of o.store) (on_good good) ∙ plan_back z.plan (f (plan_of z) (state_of z)).after ∙ sym (plan_numbered_lem z)
      go (inr bad) = ap (λ (o : Outcome). plan_of o.store) (on_bad bad)

module _ (f : Plan → State → Answer) (z : Store) where
  pub of_bad : good_store z ≡ false → of_store f z ≡ bare BADSTORE
  unfolding of_store
  of_bad bad = rw bad

  pub of_good : good_store z ≡ true → of_store f z ≡ f (plan_of z) (state_of z)
  unfolding of_store
  of_good good = rw good

-- A step keeps the rules.
abbrev pub Keeps : (Plan → State → Effect) → Type 0
Keeps f = (p : Plan) → PlanRules p → (s : State) → StateRules p s → StateRules p (f p s).after

-- A fresh state keeps the rules: it holds nothing, and all its slots are idle.
module _ (p : Plan) where
  pub fresh-node : (n : ℕ) → node_at (fresh p) n ≡ []
  unfolding fresh
  fresh-node n = get_d_same (size p) n []

  pub fresh_slot : (i : ℕ) → slot_at (fresh p) i ≡ idle
  unfolding fresh
  fresh_slot i = get_d_same slot_count i idle

  nothing-held : (n i : ℕ) → HeldAt (fresh p) n i → ⊥
  nothing-held n i h = omega (arith, ap length (fresh-node n))

  pub fresh_rules : StateRules p (fresh p)
  unfolding fresh
  fresh_rules =
      record {
        a_list_for_each_node = length-replicate (size p) [];
        clock_within = omega arith;
        counts_within_capacity = λ n h. omega (arith, ap length (fresh-node n));
        keys_strictly_rise = λ n i h. absurd (nothing-held n (suc i) h);
        kinds_and_values = λ n i h. absurd (nothing-held n i h);
        copies_on_their_paths = λ n i h. absurd (nothing-held n i h);
        stamps_below_the_clock = λ n i h. absurd (nothing-held n i h);
        stamps_all-different = λ n i m j h g e. absurd (nothing-held n i h);
        stamps_fall_down_a_path = λ n i m j h g e d. absurd (nothing-held n i h);
        slots_long = length-replicate slot_count idle;
        idle_slots_all-zero = λ i h e. fresh_slot i;
        running_searches_on_their_paths = λ i h runs. absurd (runs (ap (λ (q : Slot). q.running) (fresh_slot i)));
      }

pub fresh_back : (plan : ℕ) → 1 ≤ plan → plan ≤ plans → state_of (fresh_store plan) ≡ fresh (plan_numbered plan)
unfolding fresh_store
fresh_back plan low high = rules_back plan low high (fresh_rules (plan_numbered plan))

pub fresh_good : (plan : ℕ) → 1 ≤ plan → plan ≤ plans → good_store (fresh_store plan) ≡ true
unfolding fresh_store
fresh_good plan low high = rules_good (store_of plan (fresh (plan_numbered plan))) (rules_store plan low high (fresh_rules (plan_numbered plan)))

-- A good store's plan and state keep the rules, and so does what a step that keeps them leaves.
pub plan_good : (z : Store) → good_store z ≡ true → PlanRules (plan_of z)
plan_good z good = known_rules z (good_rules z good).plan_known

pub state_good : (z : Store) → good_store z ≡ true → StateRules (plan_of z) (state_of z)
state_good z good = (good_rules z good).state_rules

-- Its nodes are in order: a look goes by halves in each.
pub good_ordered : (z : Store) → good_store z ≡ true → (n : ℕ) → n < most_nodes → Ordered z.counts z.keys n
good_ordered z good n h = record { fits = few; rises = rises }
  where
    rules : StoreRules z
    rules = good_rules z good

    few : count_of z n ≤ width
    few = omega (arith, every_count z rules n h, node_fits (plan_good z good) rules.state_rules n)

    rises : RisesIn z.keys (width * n) (width * n + count_of z n)
    rises i from end =
        let j = i - width * n in
        let here : width * n + j ≡ i = omega arith in
        let next : width * n + suc j ≡ suc i = omega arith in
        let held : suc j < length (node_at (state_of z) n) = omega (arith, every_count z rules n h) in
        let a = every_copy z rules n j h (omega (arith, few)) in
        let b = every_copy z rules n (suc j) h (omega (arith, few)) in
        rw (a, b, here, next) at (rules.state_rules.keys_strictly_rise n j held)

pub good_back : (z : Store) → good_store z ≡ true → store_of z.plan (state_of z) ≡ z
good_back z good = store_back z (good_rules z good)

module _ (f : Plan → State → Effect) (z : Store) where
  -- A step that leaves the state leaves the store, of any z.
  pub store_stays : (f (plan_of z) (state_of z)).after ≡ state_of z → (on_store f z).store ≡ z
  store_stays stays = go (bool? (good_store z))
    where
      go : (good_store z ≡ true) ⊎ (good_store z ≡ false) → (on_store f z).store ≡ z
      go (inl good) = ap (λ (o : Outcome). o.store) (on_good f z good) ∙ ap (store_of z.plan) stays ∙ good_back z good
      go (inr bad) = ap (λ (o : Outcome). o.store) (on_bad f z bad)

  module _ (keeps : Keeps f) (good : good_store z ≡ true) where
    after_good : StateRules (plan_numbered z.plan) (f (plan_of z) (state_of z)).after
    after_good =
        subst (λ (p : Plan). StateRules p (f (plan_of z) (state_of z)).after) (plan_numbered_lem z)
        (keeps (plan_of z) (plan_good z good) (state_of z) (state_good z good))

    pub on_keeps : good_store (on_store f z).store ≡ true
    on_keeps =
        let r = (good_rules z good).plan_known in
        let e = ap (λ (o : Outcome). good_store o.store) (on_good f z good) in
        e ∙ rules_good (store_of z.plan (f (plan_of z) (state_of z)).after) (rules_store z.plan r.0 r.1 after_good)

    pub state_agrees : state_of (on_store f z).store ≡ (f (plan_of z) (state_of z)).after
    state_agrees =
        let r = (good_rules z good).plan_known in
        ap (λ (o : Outcome). state_of o.store) (on_good f z good) ∙ rules_back z.plan r.0 r.1 after_good

-- A call's outcome on a bad store.
pub on_broken : (f : Plan → State → Effect) (z : Store) → good_store z ≡ false → (a : Answer) → a ≡ bare BADSTORE
    → record { answer = a; store = z } ≡ on_store f z
on_broken f z bad a e = rw e (sym (on_bad f z bad))

-- A call's outcome on a good store, by the way out of its step: the answer and a store of the state after it,
module _ (f : Plan → State → Effect) (z : Store) (good : good_store z ≡ true) where
  pub on_way : (a : Answer) (t : State) (r : Store) → f (plan_of z) (state_of z) ≡ record { answer = a; after = t }
      → r ≡ store_of z.plan t → record { answer = a; store = r } ≡ on_store f z
  on_way a t r e q =
      ap (λ (y : Store). record { answer = a; store = y }) q
      ∙ sym (on_good f z good ∙ ap (λ (w : Effect). record { answer = w.answer; store = store_of z.plan w.after }) e)

  -- or a refusal, and the store as it was.
  pub on_refusal : (number : ℕ) → f (plan_of z) (state_of z) ≡ record { answer = bare number; after = state_of z }
      → record { answer = bare number; store = z } ≡ on_store f z
  on_refusal number e = on_way (bare number) (state_of z) z e (sym (good_back z good))
