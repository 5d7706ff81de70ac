-- The plan rules, as a record with a field for each and as a test that computes. Document 01, "Lines, copies, plans".
use Rattle.std.specs.Prelude.{◌≡◌, Bool, true, false, ◌&&◌, ◌||◌, ℕ, suc, ◌<◌, ◌≤◌, leb, ltb, length}
use Rattle.lists.specs.Indexed.{all_below}
use Rattle.plan.specs.declared.Edge.{Edge}
use Rattle.plan.specs.Plan.{Hop}
use Rattle.std.specs.Prelude.{Some, None}
use Rattle.plan.specs.Sizes.{most_nodes, most_capacity, most_edges, last_key}
use Rattle.plan.specs.Plan.{Plan, size, capacity_of, edges_of, edge_of, holds, next}

-- The plan has an edge i at node n.
pub record IsEdge (p : Plan) (n i : ℕ) : Type 0 where
  pub node : n < size p
  pub edge : i < length (edges_of p n)

-- The plan rules.
pub record PlanRules (p : Plan) : Type 0 where
  -- "2 to 8 nodes"
  pub nodes_within : (2 ≤ size p) × (size p ≤ most_nodes)
  -- "capacity 1 to 64"
  pub capacity_within : (n : ℕ) → n < size p → (1 ≤ capacity_of p n) × (capacity_of p n ≤ most_capacity)
  -- "up to four edges"
  pub edges_within : (n : ℕ) → n < size p → length (edges_of p n) ≤ most_edges
  -- "An edge has a lowest key, a highest key": keys of 32 bits
  pub highest_is_a_key : (n i : ℕ) → IsEdge p n i → (edge_of p n i).highest ≤ last_key
  -- "lowest not above highest"
  pub lowest_not_above_highest : (n i : ℕ) → IsEdge p n i → (edge_of p n i).lowest ≤ (edge_of p n i).highest
  -- "ranges at one node share no key"
  pub ranges_share_no_key : (n i j k : ℕ) → i < j → IsEdge p n j → holds (edge_of p n i) k ≡ true → holds (edge_of p n j) k ≡ true → ⊥
  -- "a target has a greater number than its node and exists"
  pub target_greater_and_exists : (n i : ℕ) → IsEdge p n i → (n < (edge_of p n i).target) × ((edge_of p n i).target < size p)
  -- "the root's edges cover every key"
  pub root_covers_every_key : (k : ℕ) → k ≤ last_key → (i : ℕ) × (i < length (edges_of p 0)) × (holds (edge_of p 0 i) k ≡ true)

-- A test at every node.
abbrev pub at_nodes : Plan → (ℕ → Bool) → Bool
at_nodes p f = all_below (size p) f

-- A test at every edge.
abbrev pub at_edges : Plan → (ℕ → ℕ → Bool) → Bool
at_edges p f = at_nodes p (λ n. all_below (length (edges_of p n)) (f n))

-- Two ranges share no key: one ends below the other's start.
unfoldable pub apart : Edge → Edge → Bool
apart e d = ltb e.highest d.lowest || ltb d.highest e.lowest

-- There is a next step.
abbrev pub goes_on : Hop → Bool
goes_on (Some t) = true
goes_on None = false

-- Each rule as a test, in the same order. The number of nodes.
unfoldable pub nodes_test : Plan → Bool
nodes_test p = leb 2 (size p) && leb (size p) most_nodes

-- The nodes' capacities.
unfoldable pub capacities_test : Plan → Bool
capacities_test p = at_nodes p (λ n. leb 1 (capacity_of p n) && leb (capacity_of p n) most_capacity)

-- The number of each node's edges.
unfoldable pub edge_counts_test : Plan → Bool
edge_counts_test p = at_nodes p (λ n. leb (length (edges_of p n)) most_edges)

-- The edges' highest keys are keys.
unfoldable pub keys_test : Plan → Bool
keys_test p = at_edges p (λ n i. leb (edge_of p n i).highest last_key)

-- No edge's lowest key is above its highest.
unfoldable pub ranges_test : Plan → Bool
ranges_test p = at_edges p (λ n i. leb (edge_of p n i).lowest (edge_of p n i).highest)

-- The ranges at one node share no key.
unfoldable pub apart_test : Plan → Bool
apart_test p = at_edges p (λ n j. all_below j (λ i. apart (edge_of p n i) (edge_of p n j)))

-- Each edge's target is a node with a larger number than its own.
unfoldable pub targets_test : Plan → Bool
targets_test p = at_edges p (λ n i. ltb n (edge_of p n i).target && ltb (edge_of p n i).target (size p))

-- Key 0 is held, and past the highest key of each edge of the root the next key is, if there is one.
unfoldable pub cover_test : Plan → Bool
cover_test p =
    goes_on (next p 0 0)
    && all_below (length (edges_of p 0)) (λ i. leb last_key (edge_of p 0 i).highest || goes_on (next p 0 (suc (edge_of p 0 i).highest)))

-- The plan rules as one test.
unfoldable pub plan_test : Plan → Bool
plan_test p =
    nodes_test p && capacities_test p && edge_counts_test p && keys_test p && ranges_test p && apart_test p && targets_test p && cover_test p
