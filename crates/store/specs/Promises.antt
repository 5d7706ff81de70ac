-- The promises of the fresh store and of the check alone: they fix the answer and the store for every number and store. Document 01, "Answer
-- numbers".
use Rattle.std.specs.Prelude.{◌≡◌, cond, ℕ}
use Rattle.store.specs.declared.Answer.{Answer}
use Rattle.store.specs.declared.Outcome.{Outcome}
use Rattle.store.specs.declared.Store.{Store}
use Rattle.store.specs.Answers.{DONE, PLAN, bare}
use Rattle.store.specs.Layout.{fresh_store, refused_store}
use Rattle.store.specs.StoreRules.{plan_number_test}
use Rattle.store.specs.Calls.{of_store}

-- "PLAN: plan not 1 to 3"; "A refused fresh .. returns a fresh store of plan 1."
unfoldable pub fresh_outcome : ℕ → Outcome
fresh_outcome plan =
    cond (plan_number_test plan)
    (record { answer = bare DONE; store = fresh_store plan })
    (record { answer = bare PLAN; store = refused_store })

-- The outcome of a fresh: it is given no store.
abbrev pub Freshens : ℕ → Outcome → Type 0
Freshens plan r = r ≡ fresh_outcome plan

-- The outcome of the check alone: DONE, or BADSTORE.
abbrev pub check_outcome : Store → Answer
check_outcome z = of_store (λ p s. bare DONE) z

-- The answer of the check alone.
abbrev pub Checks : Store → Answer → Type 0
Checks store r = r ≡ check_outcome store
