-- The store rules that speak of nodes, copies, stamps and searches, a field for each. Document 01, "Store rules".
use Rattle.std.specs.Prelude.{◌≡◌, true, ◌⊎◌, ℕ, suc, ◌<◌, ◌≤◌, length, get_or}
use Rattle.plan.specs.Plan.{Plan, size, capacity_of, path}
use Rattle.store.specs.declared.Copy.{Copy}
use Rattle.store.specs.Copies.{last_kind, has_value}
use Rattle.store.specs.State.{State, node_at, copy_at, slot_at, idle_mark, running_mark, idle, last_clock, slot_count}

-- Node n holds a copy at place i.
abbrev pub HeldAt : State → ℕ → ℕ → Type 0
HeldAt s n i = i < length (node_at s n)

-- A kind that there is; and a copy whose kind has no value holds 0.
abbrev pub KindAndValue : Copy → Type 0
KindAndValue x = (x.kind ≤ last_kind) × ((has_value x.kind ≡ true) ⊎ (x.value ≡ 0))

-- The node stands on the key's path, with so many path nodes above it.
pub record OnPath (p : Plan) (k n above : ℕ) : Type 0 where
  pub inside : above < length (path p k)
  pub here : get_or (path p k) above 0 ≡ n

-- The store rules that are about a state.
pub record StateRules (p : Plan) (s : State) : Type 0 where
  -- each node of the plan has its list
  pub a_list_for_each_node : length s.nodes ≡ size p
  -- "clock 1 to 4294967295"
  pub clock_within : (1 ≤ s.clock) × (s.clock ≤ last_clock)
  -- "counts within capacity"
  pub counts_within_capacity : (n : ℕ) → n < size p → length (node_at s n) ≤ capacity_of p n
  -- "keys strictly rising in a node"
  pub keys_strictly_rise : (n i : ℕ) → HeldAt s n (suc i) → (copy_at s n i).key < (copy_at s n (suc i)).key
  -- "kinds and values as above"
  pub kinds_and_values : (n i : ℕ) → HeldAt s n i → KindAndValue (copy_at s n i)
  -- "each copy in a node of its key's path"
  pub copies_on_their_paths : (n i : ℕ) → HeldAt s n i → (above : ℕ) × OnPath p (copy_at s n i).key n above
  -- "stamps from 1 to clock − 1"
  pub stamps_below_the_clock : (n i : ℕ) → HeldAt s n i → (1 ≤ (copy_at s n i).stamp) × ((copy_at s n i).stamp < s.clock)
  -- "and all different"
  pub stamps_all-different :
      (n i m j : ℕ) → HeldAt s n i → HeldAt s m j → (copy_at s n i).stamp ≡ (copy_at s m j).stamp → (n ≡ m) × (i ≡ j)
  -- "down a path, a key's stamps strictly fall" (node numbers rise down a path)
  pub stamps_fall_down_a_path :
      (n i m j : ℕ) → HeldAt s n i → HeldAt s m j → (copy_at s n i).key ≡ (copy_at s m j).key → n < m → (copy_at s m j).stamp < (copy_at s n i).stamp
  -- "8 search slots"
  pub slots_long : length s.slots ≡ slot_count
  -- "idle slots all zero"
  pub idle_slots_all-zero : (i : ℕ) → i < slot_count → (slot_at s i).running ≡ idle_mark → slot_at s i ≡ idle
  -- "a running search stands on its key's path, its visits equal to the path nodes above it"
  pub running_searches_on_their_paths :
      (i : ℕ) → i < slot_count → ((slot_at s i).running ≡ idle_mark → ⊥)
      → ((slot_at s i).running ≡ running_mark) × OnPath p (slot_at s i).key (slot_at s i).node (slot_at s i).visits
