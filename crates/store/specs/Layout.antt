-- How the declared store holds a state: places in four columns, as many to each node.
-- The only file of the store's definitions that knows columns, width and padding.
use Rattle.std.specs.Prelude.{◌≡◌, List, [], ℕ, ◌*◌, ◌/◌, ◌%◌, length, get_or}
use Rattle.lists.specs.Indexed.{tabulate}
use Rattle.plan.specs.Sizes.{most_nodes, most_capacity}
use Rattle.plan.specs.Plan.{Plan, size}
use Rattle.plan_table.specs.PlanTable.{plan_numbered}
use Rattle.store.specs.declared.Copy.{Copy}
use Rattle.store.specs.declared.Slot.{Slot}
use Rattle.store.specs.declared.Store.{Store}
use Rattle.store.specs.Copies.{no_copy}
use Rattle.store.specs.State.{State, slot_count, fresh}

-- As many places to each node as it may have copies.
abbrev pub width : ℕ
width = most_capacity

-- As many places in all as the nodes have.
abbrev pub places : ℕ
places = most_nodes * width

-- The copy that four columns hold at a place.
abbrev pub copy_in : List ℕ → List ℕ → List ℕ → List ℕ → ℕ → Copy
copy_in keys kinds values stamps i = record { key = get_or keys i 0; kind = get_or kinds i 0; value = get_or values i 0; stamp = get_or stamps i 0 }

-- The copies of node n: of its places the first, as many as its count says.
unfoldable pub node_in : List ℕ → List ℕ → List ℕ → List ℕ → List ℕ → ℕ → List Copy
node_in counts keys kinds values stamps n = tabulate (width * n) (get_or counts n 0) (copy_in keys kinds values stamps)

-- The copy at a place of a store.
abbrev pub copy_of : Store → ℕ → Copy
copy_of z i = copy_in z.keys z.kinds z.values z.stamps i

-- The count of a node.
abbrev pub count_of : Store → ℕ → ℕ
count_of z n = get_or z.counts n 0

-- The copies of a node.
abbrev pub node_of : Store → ℕ → List Copy
node_of z n = node_in z.counts z.keys z.kinds z.values z.stamps n

-- Which plan a store has: that of its number.
unfoldable pub plan_of : Store → Plan
plan_of z = plan_numbered z.plan

-- The state that these parts hold, of so many nodes.
abbrev pub state_in : ℕ → ℕ → List ℕ → List ℕ → List ℕ → List ℕ → List ℕ → List Slot → State
state_in nodes clock counts keys kinds values stamps slots =
    record { clock = clock; nodes = tabulate 0 nodes (node_in counts keys kinds values stamps); slots = slots }

-- The state of a store.
unfoldable pub state_of : Store → State
state_of z = state_in (size (plan_of z)) z.clock z.counts z.keys z.kinds z.values z.stamps z.slots

-- What stands at a place where the nodes hold these lists: past a node's copies the empty copy.
abbrev pub place_of : List (List Copy) → ℕ → Copy
place_of ns i = get_or (get_or ns (i / width) []) (i % width) no_copy

-- A column: one number of each place.
unfoldable pub column : (Copy → ℕ) → List (List Copy) → List ℕ
column part ns = tabulate 0 places (λ i. part (place_of ns i))

-- The store of a state, by the plan's number.
unfoldable pub store_of : ℕ → State → Store
store_of plan s =
    record {
      plan = plan;
      clock = s.clock;
      counts = tabulate 0 most_nodes (λ n. length (get_or s.nodes n []));
      keys = column (λ (x : Copy). x.key) s.nodes;
      kinds = column (λ (x : Copy). x.kind) s.nodes;
      values = column (λ (x : Copy). x.value) s.nodes;
      stamps = column (λ (x : Copy). x.stamp) s.nodes;
      slots = s.slots;
    }

-- "places for copies .., a count per node, and .. search slots"
pub record Shape (z : Store) : Type 0 where
  pub counts_long : length z.counts ≡ most_nodes
  pub keys_long : length z.keys ≡ places
  pub kinds_long : length z.kinds ≡ places
  pub values_long : length z.values ≡ places
  pub stamps_long : length z.stamps ≡ places
  pub slots_long : length z.slots ≡ slot_count

-- The fresh store of a plan.
unfoldable pub fresh_store : ℕ → Store
fresh_store plan = store_of plan (fresh (plan_numbered plan))

-- "A refused fresh or load returns a fresh store of plan 1".
abbrev pub refused_store : Store
refused_store = fresh_store 1
