-- The test of paths: of a node's copies and of the search slots.
use Rattle.std.specs.Prelude.{Bool, cond, ◌&&◌, List, [], ◌∷◌, ℕ, suc, ◌*◌, eqb, ltb, length, get_or, Option, Some, None}
use Rattle.lists.specs.Indexed.{all_from, all_below}
use Rattle.plan.specs.Sizes.{most_nodes}
use Rattle.plan.specs.Plan.{Plan, size, next, path}
use Rattle.plan.specs.PlanArrays.{RowsOfPlan}
use Rattle.plan.specs.declared.rows.Rows.{Rows}
use Rattle.store.specs.declared.Slot.{Slot}
use Rattle.store.specs.declared.Store.{Store}
use Rattle.store.specs.Copies.{stamp_of, member}
use Rattle.store.specs.State.{State, slot_count, idle, in_reach}
use Rattle.store.specs.Layout.{width, count_of, state_in}
use Rattle.store.specs.StoreRules.{slot_test}
use Rattle.store.specs.Workers.{number_in, AllOrdered}

-- What a walk down a path asks for: the rows of a plan, and nodes in which a look can go by halves. A good store has both.
pub record Walkable (r : Rows) (z : Store) : Type 0 where
  pub plan : Plan
  pub rows : RowsOfPlan plan r
  pub ordered : AllOrdered z.counts z.keys

-- Where a node stands in a list, counted from a number on, if it stands there.
unfoldable pub place_from : ℕ → ℕ → List ℕ → Option ℕ
place_from over n [] = None
place_from over n (m ∷ ms) = cond (eqb n m) (Some over) (place_from (suc over) n ms)

-- How many nodes of a path stand above a node, if it stands in the path.
abbrev pub nodes_above : ℕ → List ℕ → Option ℕ
nodes_above n path = place_from 0 n path

-- The state that a store holds in the nodes of a plan. By its own plan it is the store's state.
abbrev pub state_by : Plan → Store → State
state_by p z = state_in (size p) z.clock z.counts z.keys z.kinds z.values z.stamps z.slots

-- The state of these columns. The rules of paths read neither clock nor kinds nor values, and of searches the slots alone.
abbrev pub keyed : ℕ → List ℕ → List ℕ → List ℕ → State
keyed nodes counts keys stamps = state_in nodes 0 counts keys [] [] stamps []

-- The stamp of the key's first copy below a node, down its path.
abbrev pub stamp_below : Plan → Store → ℕ → ℕ → ℕ
stamp_below p z n k = stamp_of (in_reach p (state_by p z) k (next p n k))

-- The second part of a node's rules: a copy in a node of its key's path, with a stamp above that of the next copy down the path,
unfoldable pub placed_test : Plan → Store → ℕ → ℕ → Bool
placed_test p z n i =
    let k = number_in z.keys i in
    member n (path p k) && ltb (stamp_below p z n k) (number_in z.stamps i)

-- and so all copies of a node.
unfoldable pub paths_test : Plan → Store → ℕ → Bool
paths_test p z n = all_from (width * n) (count_of z n) (placed_test p z n)

-- The test of all slots: there are as many as a store has, and each passes.
abbrev pub slots_test : Plan → List Slot → Bool
slots_test p slots = eqb (length slots) slot_count && all_below slot_count (λ i. slot_test p (get_or slots i idle))

-- The test of the searches and of all copies.
abbrev pub on_paths_test : Plan → Store → Bool
on_paths_test p z = slots_test p z.slots && all_below most_nodes (paths_test p z)
