-- What a carry's answer counts, by the store before it and the store after it; and the entries that the clock allows.
use Rattle.std.specs.Prelude.{◌≡◌, true, ℕ, ◌-◌, ◌≤◌, length}
use Rattle.std.proofs.Math.Option.{none, some}
use Rattle.plan.specs.Plan.{capacity_of, edge_of, holds}
use Rattle.store.specs.declared.Copy.{Copy}
use Rattle.store.specs.declared.Store.{Store}
use Rattle.store.specs.Answers.{DONE, answer}
use Rattle.store.specs.Copies.{key_of}
use Rattle.store.specs.State.{last_clock, line, node_at}
use Rattle.store.specs.Layout.{plan_of, state_of, count_of, node_of}
use Rattle.steps.specs.Carries.{count_held}
use Rattle.calls.specs.PublicCalls.{Call, store_after, answer_to}

-- The target of edge i of node n, by the store's plan.
abbrev pub target_of : Store → ℕ → ℕ → ℕ
target_of z n i = (edge_of (plan_of z) n i).target

-- By how much a node's count falls in a call.
abbrev pub fall : Store → Call → ℕ → ℕ
fall z c n = count_of z n - count_of (store_after c z) n

-- By how much a node's count rises in a call.
abbrev pub rise : Store → Call → ℕ → ℕ
rise z c n = count_of (store_after c z) n - count_of z n

-- "Carried is the fall in the node's count; discarded is carried less the rise in the target's"; left is what the node still holds of the
-- edge's range. The node's count does not rise and the target's does not fall.
pub record CarryCounts (c : Call) (n i : ℕ) (z : Store) : Type 0 where
  pub falls : count_of (store_after c z) n ≤ count_of z n
  pub rises : count_of z (target_of z n i) ≤ count_of (store_after c z) (target_of z n i)
  pub says :
      answer_to c z
      ≡ some
      (answer DONE (fall z c n) (fall z c n - rise z c (target_of z n i))
      (count_held key_of (edge_of (plan_of z) n i) (node_of (store_after c z) n)) 0)

-- What a carry does to the lines: a line carried stands in the target with the copy that it had in the node;
pub record CarryMoves (c : Call) (n i : ℕ) (z : Store) : Type 0 where
  pub carried :
      (k : ℕ) (x : Copy) → line (state_of z) k n ≡ some x → line (state_of (store_after c z)) k n ≡ none
      → line (state_of (store_after c z)) k (target_of z n i) ≡ some x
  -- every other line is as it was, in every node;
  pub others :
      (k : ℕ) → ((x : Copy) → line (state_of z) k n ≡ some x → line (state_of (store_after c z)) k n ≡ none → ⊥)
      → (m : ℕ) → line (state_of (store_after c z)) k m ≡ line (state_of z) k m
  -- and a copy of the edge's range that stays had no room: the target lacks its key, before and after, and is full.
  pub no_room :
      (k : ℕ) (x : Copy) → line (state_of (store_after c z)) k n ≡ some x → holds (edge_of (plan_of z) n i) k ≡ true
      → (line (state_of z) k (target_of z n i) ≡ none) × (line (state_of (store_after c z)) k (target_of z n i) ≡ none)
      × (length (node_at (state_of (store_after c z)) (target_of z n i)) ≡ capacity_of (plan_of z) (target_of z n i))

-- The clock goes from 1 to 4294967295, and each accepted entry takes one of its values below the last.
abbrev pub most_entries : ℕ
most_entries = last_clock - 1
