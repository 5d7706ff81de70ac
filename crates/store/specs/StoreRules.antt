-- The store rules of the declared store, as a record and as a test that computes. Document 01, "Store rules".
use Rattle.std.specs.Prelude.{◌≡◌, Bool, true, false, cond, ◌&&◌, ◌||◌, List, [], ◌∷◌, ◌++◌, ℕ, zero, suc, ◌+◌, ◌*◌, ◌<◌, ◌≤◌, leb, ltb, eqb, length, get_or}
use Rattle.std.proofs.Math.Seq.{slice}
use Rattle.lists.specs.Indexed.{tabulate, all_from, all_below}
use Rattle.plan.specs.Sizes.{most_nodes}
use Rattle.plan.specs.Plan.{Plan, size, capacity_of, next, path}
use Rattle.plan_table.specs.PlanTable.{plans}
use Rattle.store.specs.declared.Copy.{Copy}
use Rattle.store.specs.declared.Slot.{Slot}
use Rattle.store.specs.declared.Store.{Store}
use Rattle.store.specs.Copies.{last_kind, has_value, no_copy, stamp_of, member, different}
use Rattle.store.specs.State.{State, last_clock, slot_count, idle_mark, running_mark, idle, in_reach}
use Rattle.store.specs.StateRules.{StateRules}
use Rattle.store.specs.Layout.{plan_of, width, places, copy_of, count_of, state_of, Shape}

-- The store rules.
pub record StoreRules (z : Store) : Type 0 where
  -- what a store holds
  pub shape : Shape z
  -- "plan 1 to 3"
  pub plan_known : (1 ≤ z.plan) × (z.plan ≤ plans)
  -- "unused places .. all zero"
  pub unused_places-all-zero : (n i : ℕ) → n < most_nodes → count_of z n ≤ i → i < width → copy_of z (width * n + i) ≡ no_copy
  -- "unused nodes' counts .. zero"
  pub unused_counts_zero : (n : ℕ) → size (plan_of z) ≤ n → n < most_nodes → count_of z n ≡ 0
  -- all other rules, in StateRules
  pub state_rules : StateRules (plan_of z) (state_of z)

-- The same as a test, node by node and place by place.
unfoldable pub shape_test : Store → Bool
shape_test z =
    eqb (length z.counts) most_nodes && eqb (length z.keys) places && eqb (length z.kinds) places
    && eqb (length z.values) places && eqb (length z.stamps) places && eqb (length z.slots) slot_count

-- "plan 1 to 3"
unfoldable pub plan_number_test : ℕ → Bool
plan_number_test plan = leb 1 plan && leb plan plans

-- "clock 1 to 4294967295"
unfoldable pub clock_test : ℕ → Bool
clock_test clock = leb 1 clock && leb clock last_clock

-- A kind that there is, and a value, or 0 where the kind has none.
unfoldable pub kind_test : Copy → Bool
kind_test x = leb x.kind last_kind && (has_value x.kind || eqb x.value 0)

-- A copy held in node n: kind and value, stamp, path, and a stamp above that of the next copy down its path.
unfoldable pub copy_test : Plan → State → ℕ → Copy → Bool
copy_test p s n x =
    kind_test x && leb 1 x.stamp && ltb x.stamp s.clock && member n (path p x.key)
    && ltb (stamp_of (in_reach p s x.key (next p n x.key))) x.stamp

-- A used place of node n: its copy, with a smaller key than the next one's.
unfoldable pub place_test : Plan → State → Store → ℕ → ℕ → Bool
place_test p s z n i =
    copy_test p s n (copy_of z i) && (leb (width * n + count_of z n) (suc i) || ltb (get_or z.keys i 0) (get_or z.keys (suc i) 0))

-- The numbers of a list are all zero.
unfoldable pub all_zero : List ℕ → Bool
all_zero [] = true
all_zero (x ∷ xs) = eqb x 0 && all_zero xs

-- The places from one up to another of four columns are unused.
unfoldable pub unused_test : List ℕ → List ℕ → List ℕ → List ℕ → ℕ → ℕ → Bool
unused_test keys kinds values stamps from to =
    all_zero (slice from to keys) && all_zero (slice from to kinds) && all_zero (slice from to values) && all_zero (slice from to stamps)

-- A node: its count within capacity, its used places, and the others.
unfoldable pub node_test : Plan → State → Store → ℕ → Bool
node_test p s z n =
    leb (count_of z n) (capacity_of p n) && all_from (width * n) (count_of z n) (place_test p s z n)
    && unused_test z.keys z.kinds z.values z.stamps (width * n + count_of z n) (width * n + width)

-- The stamps of all copies held, from a node on.
unfoldable pub stamps_from : List ℕ → List ℕ → ℕ → ℕ → List ℕ
stamps_from counts stamps n zero = []
stamps_from counts stamps n (suc m) = tabulate (width * n) (get_or counts n 0) (λ i. get_or stamps i 0) ++ stamps_from counts stamps (suc n) m

-- The node stands in a path with so many nodes above it.
unfoldable pub stands_at : ℕ → List ℕ → ℕ → Bool
stands_at n [] above = false
stands_at n (m ∷ ms) zero = eqb n m
stands_at n (m ∷ ms) (suc above) = stands_at n ms above

-- An idle slot all zero, or a search at the node of its key's path that its visits say.
unfoldable pub slot_test : Plan → Slot → Bool
slot_test p q =
    cond (eqb q.running idle_mark)
    (eqb q.key 0 && eqb q.node 0 && eqb q.visits 0)
    (eqb q.running running_mark && stands_at q.node (path p q.key) q.visits)

-- The store rules as one test.
unfoldable pub good_store : Store → Bool
good_store z =
    let p = plan_of z in
    let s = state_of z in
    shape_test z && plan_number_test z.plan && clock_test z.clock && all_below most_nodes (node_test p s z)
    && different (stamps_from z.counts z.stamps 0 most_nodes) && all_below slot_count (λ i. slot_test p (get_or z.slots i idle))
