-- Plans, the key's next node, and its path. Document 01, "Lines, copies, plans".
use Rattle.std.specs.Prelude.{◌≡◌, Bool, cond, ◌&&◌, List, [], ◌∷◌, ℕ, zero, suc, ◌-◌, leb, length, get_or, Option, Some, None}
use Rattle.plan.specs.declared.Edge.{Edge}

-- "In a plan each node has its capacity and up to four edges."
pub record Node : Type 0 where
  pub capacity : ℕ
  pub edges : List Edge

-- A plan is its nodes, numbered from 0: "Node 0 is the root."
abbrev pub Plan : Type 0
Plan = List Node

-- What stands for an edge that a node does not have.
abbrev pub no_edge : Edge
no_edge = record { lowest = 0; highest = 0; target = 0 }

-- What stands for a node that a plan does not have: no room and no edge.
abbrev pub no_node : Node
no_node = record { capacity = 0; edges = [] }

-- The number of nodes.
abbrev pub size : Plan → ℕ
size p = length p

-- The capacity of a node.
abbrev pub capacity_of : Plan → ℕ → ℕ
capacity_of p n = (get_or p n no_node).capacity

-- The edges of a node, in edge order.
abbrev pub edges_of : Plan → ℕ → List Edge
edges_of p n = (get_or p n no_node).edges

-- The edge of a node by its number, from 0.
abbrev pub edge_of : Plan → ℕ → ℕ → Edge
edge_of p n i = get_or (edges_of p n) i no_edge

-- The edge's range holds the key: from the lowest to the highest, "both included".
unfoldable pub holds : Edge → ℕ → Bool
holds e k = leb e.lowest k && leb k e.highest

-- A key's next step: to a node, or nowhere, where its path ends.
abbrev pub Hop : Type 0
Hop = Option ℕ

-- "The first edge, in edge order, whose range holds the key": its target.
unfoldable pub first_edge : List Edge → ℕ → Hop
first_edge [] k = None
first_edge (e ∷ es) k = cond (holds e k) (Some e.target) (first_edge es k)

-- The key's next step at a node.
unfoldable pub next : Plan → ℕ → ℕ → Hop
next p n k = first_edge (edges_of p n) k

-- The nodes that a key goes through from here on, in at most so many.
unfoldable pub walk : Plan → ℕ → ℕ → Hop → List ℕ
walk p k zero h = []
walk p k (suc most) None = []
walk p k (suc most) (Some n) = n ∷ walk p k most (next p n k)

-- "So each key has one path from the root, ending at a node with no edge for it."
unfoldable pub path_from : Plan → ℕ → ℕ → List ℕ
path_from p k n = walk p k (size p) (Some n)

-- The key's path from the root.
abbrev pub path : Plan → ℕ → List ℕ
path p k = path_from p k 0

-- The edges on a key's path.
abbrev pub edges_on : Plan → ℕ → ℕ
edges_on p k = length (path p k) - 1

-- A list of nodes that is a path from a node: each next step is the next node, and the last has none.
pub data IsPath (hop : ℕ → Hop) : ℕ → List ℕ → Type 0 where
  last : {n : ℕ} → hop n ≡ None → IsPath hop n (n ∷ [])
  more : {n t : ℕ} {ns : List ℕ} → hop n ≡ Some t → IsPath hop t ns → IsPath hop n (n ∷ ns)

-- A node leads to another, itself included: "n is on k's path" is Reach (λ m. next p m k) 0 n.
pub data Reach (hop : ℕ → Hop) : ℕ → ℕ → Type 0 where
  here : {n : ℕ} → Reach hop n n
  there : {n t m : ℕ} → hop n ≡ Some t → Reach hop t m → Reach hop n m
