-- The paper's words (sections 3 and 6) for a store's state: contents, edgesets, the upsert history and the
-- logical contents.
use Rattle.std.specs.Prelude.{◌≡◌, true, cond, ◌⊎◌, ℕ, suc, ◌<◌, ◌≤◌, eqb, length}
use mathlib.Core.List.{List, ◌∷◌, ◌++◌, Memᴰ}
use Rattle.std.proofs.Math.Option.{Option, none, some}
use Rattle.std.specs.Prelude.{Some}
use Rattle.plan.specs.Plan.{Plan, edge_of, holds, path}
use Rattle.plan.specs.PlanRules.{IsEdge}
use Rattle.store.specs.declared.Copy.{Copy}
use Rattle.store.specs.Copies.{stamp_of}
use Rattle.store.specs.State.{State, line, in_reach, current}
use Rattle.steps.specs.Searches.{ended}
use Rattle.theory.specs.Events.{Event, after, answer_of, state_after_all, entered_copies, held, own_steps}
use Rattle.theory.specs.Events.Event.{starts, steps}

-- Contents: C_n(k), the copy of the key in the node, or nothing.
abbrev pub Contents : State → ℕ → ℕ → Option Copy
Contents s n k = line s k n

-- Edgeset: the key is in es(n, m).
pub record Edgeset (p : Plan) (n m k : ℕ) : Type 0 where
  pub edge : ℕ
  pub is_edge : IsEdge p n edge
  pub target : (edge_of p n edge).target ≡ m
  pub key : holds (edge_of p n edge) k ≡ true

-- Contents-in-reach: C_ir(n)(k).
abbrev pub ContentsInReach : Plan → State → ℕ → ℕ → Option Copy
ContentsInReach p s n k = in_reach p s k (Some n)

-- (5): "C_n(k) if k ∈ dom(C_n); C_ir(n')(k) else if ∃n'. k ∈ es(n, n'); ⊥ otherwise".
pub record InReachEquation (p : Plan) (s : State) (n k : ℕ) : Type 0 where
  pub here : (x : Copy) → Contents s n k ≡ some x → ContentsInReach p s n k ≡ some x
  pub below : Contents s n k ≡ none → (m : ℕ) → Edgeset p n m k → ContentsInReach p s n k ≡ ContentsInReach p s m k
  pub nowhere : Contents s n k ≡ none → ((m : ℕ) → Edgeset p n m k → ⊥) → ContentsInReach p s n k ≡ none

-- A set of copies with their keys, H ⊆ KS × (V × ℕ): (k, (v, t)) is a key with a copy of it, and none is "never", at stamp 0.
abbrev pub CopySet : Type 1
CopySet = ℕ → Option Copy → Type 0

-- "Never" of every key, and nothing else: the history of a fresh store.
abbrev pub Nevers : CopySet
Nevers k none = Unit {0}
Nevers k (some x) = ⊥

-- H ∪ xs: the set with these copies added, each at its key.
abbrev pub with_copies : CopySet → List Copy → CopySet
with_copies H xs k none = H k none
with_copies H xs k (some x) = H k (some x) ⊎ ((x.key ≡ k) × Memᴰ x xs)

-- The copies entered or loaded so far.
abbrev pub History : Type 0
History = List Copy

-- The upsert history of these: never of every key, and each of them.
abbrev pub InHistory : History → CopySet
InHistory h = with_copies Nevers h

-- HInit(H): "∀k. (k, (□, 0)) ∈ H".
abbrev pub HInit : CopySet → Type 0
HInit H = (k : ℕ) → H k none

-- HUnique(H): "(k, (v₁, t')) ∈ H ∧ (k, (v₂, t')) ∈ H ⇒ v₁ = v₂"; here a stamp has one key, too.
pub record HUnique (H : CopySet) : Type 0 where
  pub one : (k : ℕ) (a b : Option Copy) → H k a → H k b → stamp_of a ≡ stamp_of b → a ≡ b
  pub one_key : (j k : ℕ) (x y : Copy) → H j (some x) → H k (some y) → x.stamp ≡ y.stamp → j ≡ k

-- HClock(t, H): "∀(k, (_, t')) ∈ H. t' < t".
abbrev pub HClock : ℕ → CopySet → Type 0
HClock t H = (k : ℕ) (a : Option Copy) → H k a → stamp_of a < t

-- The logical contents, H̃: of the copies of the key in the history the one with the greatest stamp, or never.
pub record Logical (H : CopySet) (k : ℕ) (o : Option Copy) : Type 0 where
  pub in_history : H k o
  pub greatest : (a : Option Copy) → H k a → stamp_of a ≤ stamp_of o

-- (1): M[k ↦ v], the logical contents after an upsert.
abbrev pub upserted : (ℕ → Option Copy) → Copy → ℕ → Option Copy
upserted M x k = cond (eqb x.key k) (some x) (M k)

-- The paper's structure in terms of its history: what holds of a state and its history at all times.
pub record Multicopy (p : Plan) (s : State) (H : CopySet) : Type 0 where
  -- "the edgesets of all outgoing edges of a node n are pairwise disjoint"
  pub edgesets_disjoint : (n m l k : ℕ) → Edgeset p n m k → Edgeset p n l k → m ≡ l
  pub h_init : HInit H
  pub h_unique : HUnique H
  -- Invariant 4, HClock: "All timestamps in H are smaller than the current time of the global clock"
  pub h_clock : HClock s.clock H
  -- Invariant 1: "The logical contents .. is the contents-in-reach of its root node"
  pub invariant_1 : (k : ℕ) → Logical H k (ContentsInReach p s 0 k)
  -- Invariant 3: "for all nodes n, C_n ⊆ H"
  pub invariant_3 : (n k : ℕ) → H k (Contents s n k)

-- Search recency, of a search for key k in slot i: it was started after the events `before` from the state s, went on through the events
-- `between`, and then ended by a step of its own.
pub record SearchRecency (p : Plan) (s : State) (before between : List Event) (k i : ℕ) : Type 0 where
  -- The answer is of what was found, and its visits are the search's own steps;
  pub found : Option Copy
  pub says : answer_of p (steps i) (state_after_all p between (after p (starts k) (state_after_all p before s))) ≡ ended found (suc (own_steps i between))
  -- at most as many as the key's path has nodes.
  pub in_time : suc (own_steps i between) ≤ length (path p k)
  -- What was found was really entered or held, or is never: (k, (v, t)) ∈ H;
  pub real : InHistory (held s ++ entered_copies p (before ++ starts k ∷ between) s) k found
  -- and nothing older than the line's latest at the search's start: t ≥ t₀.
  pub no_older : stamp_of (current p (state_after_all p before s) k) ≤ stamp_of found
  -- It "either returns the logical value associated with k at the point when the search started, or any other copy of k that was upserted
  -- between the search's start time and the search's end time".
  pub at_start_or_between :
      (found ≡ current p (state_after_all p before s) k)
      ⊎ ((x : Copy) × (found ≡ some x) × Memᴰ x (entered_copies p between (after p (starts k) (state_after_all p before s))))
  -- (2): "search returns the logical value M(k) = v of its query key k", as it was at some point while the search ran.
  pub at_some_point :
      (first rest : List Event) × (between ≡ first ++ rest)
      × (found ≡ current p (state_after_all p first (after p (starts k) (state_after_all p before s))) k)
