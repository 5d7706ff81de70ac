-- The paper's graph (sections 3 and 7): edges, ways, insets, and its invariants 5, 6 and 7.
use Rattle.std.specs.Prelude.{◌≡◌, ◌≢◌, cond, ℕ, ◌<◌}
use Rattle.std.proofs.Math.Option.{Option, none, some}
use Rattle.plan.specs.Plan.{Plan, size, edge_of, path}
use Rattle.plan.specs.PlanRules.{IsEdge}
use Rattle.store.specs.declared.Copy.{Copy}
use Rattle.store.specs.Copies.{stamp_of, member}
use Rattle.store.specs.State.{State}
use Rattle.theory.specs.Paper.{Contents, Edgeset, ContentsInReach}

-- (n, m) ∈ E: the plan has an edge from n to m.
pub record EdgeTo (p : Plan) (n m : ℕ) : Type 0 where
  pub edge : ℕ
  pub is_edge : IsEdge p n edge
  pub target : (edge_of p n edge).target ≡ m

-- A way of one or more edges.
pub data Way (p : Plan) : ℕ → ℕ → Type 0 where
  one : {n m : ℕ} → EdgeTo p n m → Way p n m
  more : {n t m : ℕ} → EdgeTo p n t → Way p t m → Way p n m

-- "A multicopy (search) structure is a directed acyclic graph": no node leads to itself.
abbrev pub Acyclic : Plan → Type 0
Acyclic p = (n : ℕ) → Way p n n → ⊥

-- Inset: k ∈ ins(n), "there exists a (possibly empty) path from the root r to n, and k is in the edgeset of all edges along that path".
pub data Inset (p : Plan) (k : ℕ) : ℕ → Type 0 where
  root : Inset p k 0
  down : {n m : ℕ} → Inset p k n → Edgeset p n m k → Inset p k m

-- Invariant 5: "if k ∈ es(n, m) and C_n(k) ≠ ⊥ then ts(C_ir(m)(k)) ≤ ts(C_n(k))"; here it is even smaller.
abbrev pub OlderBelow : Plan → State → Type 0
OlderBelow p s =
    (n m k : ℕ) → Edgeset p n m k → Contents s n k ≢ none → stamp_of (ContentsInReach p s m k) < stamp_of (Contents s n k)

-- es'(n, m) = es(n, m) ∩ ins(n): the edgeset cut to the keys that reach its node.
pub record CutEdgeset (p : Plan) (n m k : ℕ) : Type 0 where
  pub edgeset : Edgeset p n m k
  pub reaches : Inset p k n

-- The inset along cut edgesets.
pub data CutInset (p : Plan) (k : ℕ) : ℕ → Type 0 where
  root : CutInset p k 0
  down : {n m : ℕ} → CutInset p k n → CutEdgeset p n m k → CutInset p k m

-- (5) with cut edgesets, of any contents-in-reach C of the key: "C_n(k) if k ∈ dom(C_n); C_ir(n')(k) else if ∃n'. k ∈ es(n, n'); ⊥ otherwise".
pub record CutEquation (p : Plan) (s : State) (k : ℕ) (C : ℕ → Option Copy) (n : ℕ) : Type 0 where
  pub here : (x : Copy) → Contents s n k ≡ some x → C n ≡ some x
  pub below : Contents s n k ≡ none → (m : ℕ) → CutEdgeset p n m k → C n ≡ C m
  pub nowhere : Contents s n k ≡ none → ((m : ℕ) → CutEdgeset p n m k → ⊥) → C n ≡ none

-- Contents-in-reach along cut edgesets: that of the node if the node is on the key's path, else nothing.
abbrev pub CutInReach : Plan → State → ℕ → ℕ → Option Copy
CutInReach p s n k = cond (member n (path p k)) (ContentsInReach p s n k) none

-- Invariant 6, with cut edgesets: "A key is in the contents-in-reach of a node only if it is also in the node's inset."
pub record InReachInInset (p : Plan) (s : State) : Type 0 where
  -- dom(C_ir(n)) ⊆ ins(n);
  pub in_inset : (n k : ℕ) (x : Copy) → CutInReach p s n k ≡ some x → Inset p k n
  -- this contents-in-reach satisfies the paper's equation, and it is the only one that does;
  pub equation : (n k : ℕ) → n < size p → CutEquation p s k (λ m. CutInReach p s m k) n
  pub only_one :
      (k : ℕ) (C : ℕ → Option Copy) → ((n : ℕ) → n < size p → CutEquation p s k C n) → (n : ℕ) → n < size p → C n ≡ CutInReach p s n k
  -- and the cut changes no inset, and nothing in reach of a node that the key reaches.
  pub same_inset : (n k : ℕ) → Inset p k n → CutInset p k n
  pub same_in_reach : (n k : ℕ) → Inset p k n → CutInReach p s n k ≡ ContentsInReach p s n k

-- Invariant 6 with the edgesets as they are.
abbrev pub UncutInReachInInset : Plan → State → Type 0
UncutInReachInInset p s = (n k : ℕ) (x : Copy) → n < size p → ContentsInReach p s n k ≡ some x → Inset p k n

-- Invariant 7: "for all distinct nodes n, p, m, and keys k, if k ∈ es(n, m) ∩ es(p, m) then k ∉ ins(n) ∩ ins(p)".
abbrev pub PredecessorsApart : Plan → Type 0
PredecessorsApart p = (n q m k : ℕ) → n ≢ q → Edgeset p n m k → Edgeset p q m k → Inset p k n → Inset p k q → ⊥
