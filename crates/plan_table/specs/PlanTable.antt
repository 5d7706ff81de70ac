-- The three plans. Document 01: "The three plans are a fixed table, with edges numbered from 0 in this order".
use Rattle.std.specs.Prelude.{List, [], ◌∷◌, ℕ, zero, suc, length, get_or}
use Rattle.plan.specs.declared.Edge.{Edge}
use Rattle.plan.specs.Sizes.{last_key}
use Rattle.plan.specs.Plan.{Node, Plan}

-- An edge that holds all keys.
abbrev pub all_keys_to : ℕ → Edge
all_keys_to t = record { lowest = 0; highest = last_key; target = t }

-- An edge that holds the keys 0..2147483647.
abbrev pub low_keys_to : ℕ → Edge
low_keys_to t = record { lowest = 0; highest = 2147483647; target = t }

-- An edge that holds the keys 2147483648..4294967295.
abbrev pub high_keys_to : ℕ → Edge
high_keys_to t = record { lowest = 2147483648; highest = last_key; target = t }

-- A node with this capacity and these edges.
abbrev pub node : ℕ → List Edge → Node
node c es = record { capacity = c; edges = es }

-- The plans, a row for each, as document 01 has them: number, capacities, edges.
unfoldable pub plan_table : List Plan
plan_table =
    -- | 1 | 8, 16, 32, 64 | 0 to 1, 1 to 2, 2 to 3, all keys |
    (node 8 (all_keys_to 1 ∷ []) ∷ node 16 (all_keys_to 2 ∷ []) ∷ node 32 (all_keys_to 3 ∷ []) ∷ node 64 [] ∷ [])
    -- | 2 | 8, 32, 32 | 0 to 1 keys 0..2147483647; 0 to 2 keys 2147483648..4294967295 |
    ∷ (node 8 (low_keys_to 1 ∷ high_keys_to 2 ∷ []) ∷ node 32 [] ∷ node 32 [] ∷ [])
    -- | 3 | 8, 16, 16, 64 | 0 to 1 and 0 to 2 as in plan 2; 1 to 3 and 2 to 3, all keys |
    ∷ (node 8 (low_keys_to 1 ∷ high_keys_to 2 ∷ []) ∷ node 16 (all_keys_to 3 ∷ []) ∷ node 16 (all_keys_to 3 ∷ []) ∷ node 64 [] ∷ [])
    ∷ []

-- The number of plans: a plan's number is from 1 to this.
unfoldable pub plans : ℕ
plans = length plan_table

-- The plan by its number: "plan 1 to 3"; any other number is a plan without nodes.
unfoldable pub plan_numbered : ℕ → Plan
plan_numbered zero = []
plan_numbered (suc p) = get_or plan_table p []
