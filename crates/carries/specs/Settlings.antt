-- What a carry is to write, settled before anything is written: its answer, the two nodes, and the two lists of places.
use Rattle.std.specs.Prelude.{◌≡◌, true, List, ℕ, ◌*◌, ◌<◌, ◌≤◌, length, set, Result, MatchResult}
use Rattle.plan.specs.declared.Edge.{Edge}
use Rattle.plan.specs.Sizes.{most_nodes}
use Rattle.plan.specs.Plan.{capacity_of, edge_of}
use Rattle.plan.specs.PlanRules.{IsEdge}
use Rattle.store.specs.declared.Store.{Store}
use Rattle.store.specs.declared.refusal.Refusal.{Refusal}
use Rattle.store.specs.Answers.{bare}
use Rattle.store.specs.Layout.{count_of, plan_of, width}
use Rattle.store.specs.Refusals.{refusal_number}
use Rattle.store.specs.StoreRules.{good_store}
use Rattle.steps.specs.Promises.{carry_outcome}
use Rattle.moves.specs.declared.Span.{Span}
use Rattle.moves.specs.Writings.{Movable, carried_column}
use Rattle.merges.specs.declared.Lists.{Lists}
use Rattle.carries.specs.declared.settling.Settled.{Settled}

-- The places of a node's copies.
abbrev pub copies_at : Store → ℕ → Span
copies_at z n = record { from = width * n; count = count_of z n }

-- The column after what is settled is written, by the two lists.
abbrev pub settled_column : Lists → Settled → List ℕ → List ℕ
settled_column lists r column = carried_column column lists.stay.items lists.target.items r.copies r.start

-- The store after it.
abbrev pub settled_store : Lists → Settled → Store → Store
settled_store lists r z =
    record {
      plan = z.plan;
      clock = z.clock;
      counts = set (set z.counts r.node (length lists.stay.items)) r.target (length lists.target.items);
      keys = settled_column lists r z.keys;
      kinds = settled_column lists r z.kinds;
      values = settled_column lists r z.values;
      stamps = settled_column lists r z.stamps;
      slots = z.slots;
    }

-- What is settled can be written in place, and is the carry's outcome, of any store.
pub record Settles (z : Store) (n i : ℕ) (lists : Lists) (r : Settled) : Type 0 where
  pub nodes : (r.node < most_nodes) × (r.target < most_nodes)
  pub counted : (length lists.stay.items ≤ width) × (length lists.target.items ≤ width)
  pub movable : Movable lists.stay.items lists.target.items r.copies r.start
  pub outcome : record { answer = r.answer; store = settled_store lists r z } ≡ carry_outcome z n i

-- It is settled, or refused, and then the outcome is the refusal and the store as it was.
abbrev pub SettlesOr : Store → ℕ → ℕ → Lists → Result Settled Refusal → Type 0
SettlesOr z n i lists r =
    MatchResult r (λ s. Settles z n i lists s) (λ why. record { answer = bare (refusal_number why); store = z } ≡ carry_outcome z n i)

-- A good store that has the counts and the keys of s, and in whose plan this is the edge i of node n, to a target of this capacity.
pub record Carriable (s : Store) (n i : ℕ) (e : Edge) (capacity : ℕ) (z : Store) : Type 0 where
  pub good : good_store z ≡ true
  pub counts_are : z.counts ≡ s.counts
  pub keys_are : z.keys ≡ s.keys
  pub is_edge : IsEdge (plan_of z) n i
  pub edge_is : e ≡ edge_of (plan_of z) n i
  pub capacity_is : capacity ≡ capacity_of (plan_of z) e.target

-- There is such a store.
abbrev pub OfGood : Store → ℕ → Edge → ℕ → Type 0
OfGood s n e capacity = (z : Store) × (i : ℕ) × Carriable s n i e capacity z

-- What is settled for every such store.
abbrev pub SettlesIn : Store → ℕ → Edge → ℕ → Lists → Settled → Type 0
SettlesIn s n e capacity lists r = (z : Store) (i : ℕ) → Carriable s n i e capacity z → Settles z n i lists r
