-- Carry. Document 01, "What each step does", and "Left" below the answer table.
use Rattle.std.specs.Prelude.{Bool, true, false, cond, ◌&&◌, List, [], ◌∷◌, ℕ, ◌+◌, ◌-◌, ltb, length, set}
use Rattle.plan.specs.declared.Edge.{Edge}
use Rattle.plan.specs.Plan.{Plan, size, capacity_of, edges_of, edge_of, holds}
use Rattle.store.specs.declared.Copy.{Copy}
use Rattle.store.specs.Answers.{DONE, NODE, EDGE, answer}
use Rattle.store.specs.Copies.{key_of}
use Rattle.store.specs.State.{State, node_at}
use Rattle.store.specs.Calls.{Effect}
use Rattle.steps.specs.Entries.{put, room, refused}

-- What stays in the node, and what the target then has.
pub record Merged (A : Type 0) : Type 0 where
  pub stay : List A
  pub target : List A

-- A copy is carried if the edge holds its key and the target has the key or a free place.
unfoldable pub carries : {A : Type 0} → (A → ℕ) → ℕ → Edge → A → List A → Bool
carries key capacity e x ys = holds e (key x) && room key capacity ys (key x)

-- "The node's copies whose keys the edge holds are taken in rising key order. If the target has the key, the target's copy is
-- discarded and the carried one stands there. Otherwise it is added if the target has a free place, else it stays, and the next is tried."
unfoldable pub merge : {A : Type 0} → (A → ℕ) → ℕ → Edge → List A → List A → Merged A
merge key capacity e [] ys = record { stay = []; target = ys }
merge key capacity e (x ∷ xs) ys =
    let m = carries key capacity e x ys in
    let r = merge key capacity e xs (cond m (put key x ys) ys) in
    record { stay = cond m r.stay (x ∷ r.stay); target = r.target }

-- 1 for a test that holds, else 0.
abbrev pub bit : Bool → ℕ
bit true = 1
bit false = 0

-- The number of copies whose keys the edge holds.
unfoldable pub count_held : {A : Type 0} → (A → ℕ) → Edge → List A → ℕ
count_held key e [] = 0
count_held key e (x ∷ xs) = bit (holds e (key x)) + count_held key e xs

-- The merge of node n's copies into its target's.
unfoldable pub merge_along : Plan → ℕ → Edge → State → Merged Copy
merge_along p n e s = merge key_of (capacity_of p e.target) e (node_at s n) (node_at s e.target)

-- The state after a merge: what stays in node n, and what its target t then has.
unfoldable pub carried_to : ℕ → ℕ → Merged Copy → State → State
carried_to n t m s = record { clock = s.clock; nodes = set (set s.nodes n m.stay) t m.target; slots = s.slots }

-- "Carried is the fall in the node's count; discarded is carried less the rise in the target's";
-- "'Left' is the number of copies in the edge's range still in the node."
unfoldable pub carried_out : ℕ → Edge → Merged Copy → State → Effect
carried_out n e m s =
    let carried = length (node_at s n) - length m.stay in
    let rise = length m.target - length (node_at s e.target) in
    record { answer = answer DONE carried (carried - rise) (count_held key_of e m.stay) 0; after = carried_to n e.target m s }

-- Carry (node, edge): NODE before EDGE.
unfoldable pub carry_step : ℕ → ℕ → Plan → State → Effect
carry_step n i p s =
    cond (ltb n (size p))
    (cond (ltb i (length (edges_of p n))) (carried_out n (edge_of p n i) (merge_along p n (edge_of p n i) s) s) (refused EDGE s))
    (refused NODE s)
