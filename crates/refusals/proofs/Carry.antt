-- Carry: BADSTORE, NODE, EDGE.
use mathlib.Core.Path.{◌≡◌, refl}
use mathlib.Core.Bool.{true, false}
use mathlib.Core.List.{◌∷◌}
use mathlib.Core.Logic.{◌↔◌}
use Prim.Native.Nat.{ℕ, ◌<◌, ◌≤◌}
use native.Mathlib.Omega.{arith}
use lib.ListN.{length}
use Rattle.plan.specs.Plan.{Plan, size, edges_of}
use Rattle.store.specs.declared.Store.{Store}
use Rattle.store.specs.Answers.{BADSTORE, NODE, EDGE}
use Rattle.store.specs.Copies.{member}
use Rattle.store.specs.State.{State}
use Rattle.store.specs.Layout.{plan_of, state_of}
use Rattle.store.specs.StoreRules.{good_store}
use Rattle.store.specs.Calls.{Effect}
use Rattle.store.proofs.Lifting.{plan_good, state_good}
use Rattle.steps.specs.Carries.{carried_out, carry_step}
use Rattle.steps.specs.Promises.{carry_outcome}
use Rattle.steps.proofs.WaysOut.{CarryWay, carry_way}
use Rattle.steps.proofs.WaysOut.CarryWay.{no_node, no_edge_lem, merges}
use Rattle.steps.proofs.Refusals.{node_exactly, edge_exactly}
use Rattle.refusals.specs.Given.{Among, StepRefuses, Refuses, carry_answers}
use Rattle.refusals.proofs.OnStores.{on_badstore, on_exactly, on_among, on_refuses}

step_among : (node edge : ℕ) (p : Plan) (s : State) → Among carry_answers (carry_step node edge p s).answer
unfolding member carried_out
step_among node edge p s = go (carry_way node edge p s)
  where
    go : {e : Effect} → CarryWay node edge p s e → Among carry_answers e.answer
    go (no_node h) = refl
    go (no_edge_lem h f) = refl
    go (merges d) = refl

step_refuses : (node edge : ℕ) (p : Plan) (s : State) → StepRefuses s (carry_step node edge p s)
unfolding carried_out
step_refuses node edge p s = go (carry_way node edge p s)
  where
    go : {e : Effect} → CarryWay node edge p s e → StepRefuses s e
    go (no_node h) = λ _. refl
    go (no_edge_lem h f) = λ _. refl
    go (merges d) = λ h. absurd (omega arith)

module _ (z : Store) (node edge : ℕ) where
  pub carry_badstore : ((carry_outcome z node edge).answer.number ≡ BADSTORE) ↔ (good_store z ≡ false)
  unfolding member
  carry_badstore = on_badstore (carry_step node edge) z carry_answers (step_among node edge (plan_of z) (state_of z)) refl

  -- "plan has no such node"
  pub carry_node : ((carry_outcome z node edge).answer.number ≡ NODE) ↔ ((good_store z ≡ true) × (size (plan_of z) ≤ node))
  carry_node =
      on_exactly (carry_step node edge) z NODE (λ e. omega arith) λ good.
      node_exactly (plan_of z) (plan_good z good) (state_of z) (state_good z good) node edge

  -- "node has no such edge"
  pub carry_edge : ((carry_outcome z node edge).answer.number ≡ EDGE)
      ↔ ((good_store z ≡ true) × ((node < size (plan_of z)) × (length (edges_of (plan_of z) node) ≤ edge)))
  carry_edge =
      on_exactly (carry_step node edge) z EDGE (λ e. omega arith) λ good.
      edge_exactly (plan_of z) (plan_good z good) (state_of z) (state_good z good) node edge

  pub carry_answers_lem : Among (BADSTORE ∷ carry_answers) (carry_outcome z node edge).answer
  carry_answers_lem = on_among (carry_step node edge) z carry_answers (step_among node edge (plan_of z) (state_of z))

  pub carry_refused : Refuses z (carry_outcome z node edge)
  carry_refused = on_refuses (carry_step node edge) z (step_refuses node edge (plan_of z) (state_of z))
