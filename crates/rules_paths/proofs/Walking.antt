-- A walk down a key's path: what is said of the nodes still to come, turn by turn.
use mathlib.Core.Path.{◌≡◌, refl}
use mathlib.Core.List.{[], ◌∷◌}
use Prim.Native.Nat.{ℕ, zero, suc, ◌-◌, ◌<◌, ◌≤◌}
use native.Mathlib.Omega.{arith}
use borrow.Author.Tests.{eq-eqb, ne_eqb}
use Rattle.plan.specs.Plan.{Hop}
use Rattle.std.specs.Prelude.{Some, None}
use Rattle.plan.specs.Plan.{Plan, size, next, walk, path_from, path}
use Rattle.plan.specs.PlanRules.{PlanRules}
use Rattle.rules_paths.specs.Workers.{place_from, nodes_above}

-- A path is a walk from the root, of at most as many nodes as the plan has.
pub path-walk : (p : Plan) (k left : ℕ) → left ≡ size p → path p k ≡ walk p k left (Some 0)
unfolding path_from
path-walk p k left e = rw e

module _ (p : Plan) (k left : ℕ) (hop : Hop) where
  -- It stops where no node is left, or where the path ends; else it takes the next node.
  pub walk_out : left ≤ 0 → walk p k left hop ≡ []
  unfolding walk
  walk_out l = let e : left ≡ 0 = omega arith in rw e

  pub walk_ends : hop ≡ None → walk p k left hop ≡ []
  unfolding walk
  walk_ends e = rw e (none left)
    where
      none : (m : ℕ) → walk p k m None ≡ []
      none zero = refl
      none (suc m) = refl

  pub walk_goes : (n : ℕ) → 0 < left → hop ≡ Some n → walk p k left hop ≡ n ∷ walk p k (left - 1) (next p n k)
  unfolding walk
  walk_goes n l e = rw e (go left l)
    where
      go : (m : ℕ) → 0 < m → walk p k m (Some n) ≡ n ∷ walk p k (m - 1) (next p n k)
      go zero h = absurd (omega arith)
      go (suc m) h = let s : suc m - 1 ≡ m = omega arith in rw s

  -- The place of a node among those to come, counted from a number on.
  module _ (node over : ℕ) where
    pub place_out : left ≤ 0 → place_from over node (walk p k left hop) ≡ None
    unfolding place_from
    place_out l = rw (walk_out l)

    pub place_ends : hop ≡ None → place_from over node (walk p k left hop) ≡ None
    unfolding place_from
    place_ends e = rw (walk_ends e)

    pub place_here : (n : ℕ) → 0 < left → hop ≡ Some n → node ≡ n → place_from over node (walk p k left hop) ≡ Some over
    unfolding place_from
    place_here n l e h = rw (walk_goes n l e, eq-eqb node n h)

    pub place_later : (n : ℕ) → 0 < left → hop ≡ Some n → (node ≡ n → ⊥)
        → place_from over node (walk p k left hop) ≡ place_from (suc over) node (walk p k (left - 1) (next p n k))
    unfolding place_from
    place_later n l e h = rw (walk_goes n l e, ne_eqb node n h)

-- The root is the first node of each path: its place is 0, and any other node's is among the nodes after it, counted from 1 on.
module _ (p : Plan) (rules : PlanRules p) (k node : ℕ) where
  some_node : 0 < size p
  some_node = let within = rules.nodes_within in omega arith

  pub root_here : node ≡ 0 → nodes_above node (path p k) ≡ Some 0
  root_here h = rw (path-walk p k (size p) refl) (place_here p k (size p) (Some 0) node 0 0 some_node refl h)

  pub root_later : (node ≡ 0 → ⊥) → nodes_above node (path p k) ≡ place_from 1 node (walk p k (size p - 1) (next p 0 k))
  root_later h = rw (path-walk p k (size p) refl) (place_later p k (size p) (Some 0) node 0 0 some_node refl h)
