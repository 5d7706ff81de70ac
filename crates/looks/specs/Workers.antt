-- What a look in one node gave, as a line has it, and what a look down a path asks and promises.
use Rattle.std.specs.Prelude.{◌≡◌, [], ℕ, Some, None}
use Rattle.std.proofs.Math.Option.{Option, none, some}
use Rattle.plan.specs.declared.rows.Rows.{Rows}
use Rattle.plan.specs.Plan.{Plan, size}
use Rattle.plan.specs.PlanArrays.{RowsOf}
use Rattle.store.specs.declared.Answer.{Answer}
use Rattle.store.specs.declared.Copy.{Copy}
use Rattle.store.specs.declared.Store.{Store}
use Rattle.store.specs.Copies.{Found}
use Rattle.store.specs.Layout.{state_in}
use Rattle.store.specs.State.{State}
use Rattle.store.specs.Workers.{AllOrdered}
use Rattle.steps.specs.Searches.{look_answer}

-- The copy that was found, if one was.
abbrev pub copy_found : Found → Option Copy
copy_found None = none
copy_found (Some x) = some x

-- The rows' edges are those of a plan that meets the plan rules, whatever node count and capacities the rows say: a look asks for neither.
abbrev pub EdgesOfPlan : Plan → Rows → Type 0
EdgesOfPlan p r = RowsOf p (size p) r.counts r.lows r.highs r.targets

-- What a look down a path asks for: the rows of a plan, and nodes in which a look can go by halves. A good store has both.
pub record Lookable (r : Rows) (z : Store) : Type 0 where
  pub plan : Plan
  pub rows : EdgesOfPlan plan r
  pub ordered : AllOrdered z.counts z.keys

-- The state that a look reads: what the store holds in the nodes of a plan, with neither clock nor slots.
abbrev pub looked_in : Store → Plan → State
looked_in z p = state_in (size p) 0 z.counts z.keys z.kinds z.values z.stamps []

-- The answer of a look, by every plan that has these rows.
abbrev pub LooksDown : Rows → Store → ℕ → Answer → Type 0
LooksDown r z key a = (p : Plan) → EdgesOfPlan p r → a ≡ look_answer key p (looked_in z p)
