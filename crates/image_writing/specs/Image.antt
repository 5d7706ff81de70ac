-- The image of a store. Document 01, "Bytes": "format 1, plan, clock, then per node of the plan its count and its copies by
-- rising key: key, kind, value (only for kind 1), stamp. Searches aren't saved".
use Rattle.std.specs.Prelude.{List, [], ◌∷◌, ◌++◌, ℕ, length}
use Rattle.lists.specs.Indexed.{tabulate}
use Rattle.number.specs.Number.{form}
use Rattle.store.specs.declared.Copy.{Copy}
use Rattle.store.specs.declared.Store.{Store}
use Rattle.store.specs.State.{State}
use Rattle.store.specs.Layout.{node_of, state_in, state_of}
use Rattle.copies.specs.CopyBytes.{copy_bytes}

-- "format 1"
abbrev pub format_number : ℕ
format_number = 1

-- Copies one after another.
unfoldable pub copies_bytes : List Copy → List ℕ
copies_bytes [] = []
copies_bytes (x ∷ xs) = copy_bytes x ++ copies_bytes xs

-- A node: "its count and its copies".
unfoldable pub node_bytes : List Copy → List ℕ
node_bytes xs = form (length xs) ++ copies_bytes xs

-- Nodes one after another.
unfoldable pub nodes_bytes : List (List Copy) → List ℕ
nodes_bytes [] = []
nodes_bytes (xs ∷ ns) = node_bytes xs ++ nodes_bytes ns

-- The image of a state, by its plan's number.
unfoldable pub image_of : ℕ → State → List ℕ
image_of plan s = form format_number ++ (form plan ++ (form s.clock ++ nodes_bytes s.nodes))

-- The image of a store.
abbrev pub image : Store → List ℕ
image z = image_of z.plan (state_of z)

-- The copies of its first nodes, so many of them,
abbrev pub nodes_in : Store → ℕ → List (List Copy)
nodes_in z nodes = tabulate 0 nodes (node_of z)

-- and its image where its plan has so many nodes.
abbrev pub image_by : ℕ → Store → List ℕ
image_by nodes z = image_of z.plan (state_in nodes z.clock z.counts z.keys z.kinds z.values z.stamps z.slots)
