-- Fresh: PLAN.
use mathlib.Core.Path.{◌≡◌, sym, ap, ◌∙◌}
use mathlib.Core.Bool.{true, false}
use mathlib.Core.Logic.{◌↔◌, ◌⊎◌, inl, inr}
use Prim.Native.Nat.{ℕ, ◌≤◌}
use native.Mathlib.Omega.{arith}
use Rattle.lists.proofs.Truths.{bool?, both_le, le_both, not_both}
use Rattle.std.proofs.lemmas.Bool.{false_from_ne_true}
use Rattle.plan_table.specs.PlanTable.{plans}
use Rattle.store.specs.declared.Outcome.{Outcome}
use Rattle.store.specs.Answers.{DONE, PLAN, bare}
use Rattle.store.specs.Layout.{fresh_store}
use Rattle.store.specs.StoreRules.{plan_number_test}
use Rattle.store.specs.Promises.{fresh_outcome}
use Rattle.refusals.specs.Given.{IsPlan}

module _ (plan : ℕ) where
  pub plan_test_lem : (plan_number_test plan ≡ true) ↔ IsPlan plan
  unfolding plan_number_test
  plan_test_lem = (λ t. both_le 1 plan plan plans t, λ h. le_both 1 plan plan plans h.0 h.1)

  -- "plan not 1 to 3"
  pub plan_test_fails : (plan_number_test plan ≡ false) ↔ (IsPlan plan → ⊥)
  plan_test_fails = (λ f h. not_both (plan_test_lem.1 h) f, λ no. false_from_ne_true (plan_number_test plan) (λ t. no (plan_test_lem.0 t)))

  made : plan_number_test plan ≡ true → fresh_outcome plan ≡ record { answer = bare DONE; store = fresh_store plan }
  unfolding fresh_outcome
  made t = rw t

  refused : plan_number_test plan ≡ false → fresh_outcome plan ≡ record { answer = bare PLAN; store = fresh_store 1 }
  unfolding fresh_outcome
  refused t = rw t

  pub fresh_plan : ((fresh_outcome plan).answer.number ≡ PLAN) ↔ (IsPlan plan → ⊥)
  fresh_plan = (
    λ e. plan_test_fails.0 (false_from_ne_true (plan_number_test plan) λ t.
        let d : ◌≡◌ {A = ℕ} DONE PLAN = sym (ap (λ (o : Outcome). o.answer.number) (made t)) ∙ e in omega arith),
    λ no. ap (λ (o : Outcome). o.answer.number) (refused (plan_test_fails.1 no)),
  )

  -- "A refused fresh .. returns a fresh store of plan 1": PLAN is its only refusal.
  pub fresh-refused : 2 ≤ (fresh_outcome plan).answer.number → fresh_outcome plan ≡ record { answer = bare PLAN; store = fresh_store 1 }
  fresh-refused = go (bool? (plan_number_test plan))
    where
      go : (plan_number_test plan ≡ true) ⊎ (plan_number_test plan ≡ false) → 2 ≤ (fresh_outcome plan).answer.number
          → fresh_outcome plan ≡ record { answer = bare PLAN; store = fresh_store 1 }
      go (inl t) h = absurd (let e : (fresh_outcome plan).answer.number ≡ DONE = ap (λ (o : Outcome). o.answer.number) (made t) in omega arith)
      go (inr f) h = refused f
