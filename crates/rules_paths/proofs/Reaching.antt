-- The stamp in reach from a key's next step, walked down node by node.
use mathlib.Core.Path.{◌≡◌, sym, ◌∙◌}
use Prim.Native.Nat.{ℕ, ◌-◌, ◌<◌, ◌≤◌}
use Rattle.plan.specs.Plan.{Hop}
use Rattle.std.specs.Prelude.{Some, None}
use Rattle.plan.specs.Plan.{Plan, size, first_edge, next, walk}
use Rattle.plan.specs.PlanArrays.{RowsOfPlan, row_edges}
use Rattle.plan.specs.declared.rows.Rows.{Rows}
use Rattle.plan.proofs.NextLaws.{next_down}
use Rattle.plan.proofs.RowsLent.{next_here}
use Rattle.store.specs.declared.Copy.{Copy}
use Rattle.store.specs.declared.Store.{Store}
use Rattle.store.specs.Copies.{key_of, find, found_of, stamp_of}
use Rattle.store.specs.State.{line, first_on, or_else, in_reach}
use Rattle.store.specs.Layout.{node_of}
use Rattle.store.proofs.Laying.{parts_node}
use Rattle.store.proofs.Halving.{found_some, found_none}
use Rattle.rules_paths.specs.Workers.{state_by}
use Rattle.rules_paths.proofs.Walking.{walk_out, walk_ends, walk_goes}

-- A step leads to one of so many nodes,
abbrev pub LeadsOn : ℕ → Hop → Type 0
LeadsOn nodes h = (t : ℕ) → h ≡ Some t → t < nodes

-- if it is a key's next step, by the rows of a plan.
pub leads_on : {p : Plan} (r : Rows) → RowsOfPlan p r → (n k : ℕ) (h : Hop) → h ≡ first_edge (row_edges r n) k → LeadsOn r.nodes h
leads_on {p} r rows n k h e t g = rw rows.nodes_are (next_down p rows.rules n k t (sym (next_here rows n k h e) ∙ g)).1

-- A walk through the nodes of a store, for the key k.
module _ (p : Plan) (z : Store) (k : ℕ) where
  -- The stamp in reach from a step, within so many nodes.
  abbrev pub stamp_on : ℕ → Hop → ℕ
  stamp_on left hop = stamp_of (first_on (line (state_by p z) k) (walk p k left hop))

  module _ (left : ℕ) (hop : Hop) where
    pub reach_starts : left ≡ size p → stamp_of (in_reach p (state_by p z) k hop) ≡ stamp_on left hop
    unfolding in_reach
    reach_starts e = rw e

    pub reach_out : left ≤ 0 → stamp_on left hop ≡ 0
    unfolding first_on
    reach_out l = rw (walk_out p k left hop l)

    pub reach_ends : hop ≡ None → stamp_on left hop ≡ 0
    unfolding first_on
    reach_ends e = rw (walk_ends p k left hop e)

    -- A turn, at a node of the plan, by what a look in it gives.
    module _ (n : ℕ) (l : 0 < left) (e : hop ≡ Some n) (h : n < size p) where
      first_line : stamp_on left hop
          ≡ stamp_of (or_else (find key_of (node_of z n) k) (first_on (line (state_by p z) k) (walk p k (left - 1) (next p n k))))
      unfolding first_on
      first_line = rw (walk_goes p k left hop n l e, parts_node (size p) z.clock z.counts z.keys z.kinds z.values z.stamps z.slots n h)

      pub reach_held : (x : Copy) → found_of (find key_of (node_of z n) k) ≡ Some x → stamp_on left hop ≡ x.stamp
      reach_held x f = first_line ∙ rw (found_some f)

      pub reach_on : found_of (find key_of (node_of z n) k) ≡ None → stamp_on left hop ≡ stamp_on (left - 1) (next p n k)
      reach_on f = first_line ∙ rw (found_none f)
