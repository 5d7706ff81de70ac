-- From steps on states to calls on stores. Document 01, "Answer numbers": BADSTORE comes first.
use Rattle.std.specs.Prelude.{cond}
use Rattle.plan.specs.Plan.{Plan}
use Rattle.store.specs.declared.Answer.{Answer}
use Rattle.store.specs.declared.Outcome.{Outcome}
use Rattle.store.specs.declared.Store.{Store}
use Rattle.store.specs.Answers.{BADSTORE, bare}
use Rattle.store.specs.State.{State}
use Rattle.store.specs.Layout.{plan_of, state_of, store_of}
use Rattle.store.specs.StoreRules.{good_store}

-- What a step does: its answer, and the state after it.
pub record Effect : Type 0 where
  pub answer : Answer
  pub after : State

-- A call that may alter the store: BADSTORE and the store as it was, or the step on its state.
unfoldable pub on_store : (Plan → State → Effect) → Store → Outcome
on_store step z =
    cond (good_store z)
    (let e = step (plan_of z) (state_of z) in record { answer = e.answer; store = store_of z.plan e.after })
    (record { answer = bare BADSTORE; store = z })

-- A call that only asks: BADSTORE, or the answer from its state.
unfoldable pub of_store : (Plan → State → Answer) → Store → Answer
of_store ask z = cond (good_store z) (ask (plan_of z) (state_of z)) (bare BADSTORE)
