-- The store rules and their tests part by part: a place held, a copy, a search slot and unused places.
use mathlib.Core.Path.{◌≡◌, refl, ap}
use mathlib.Core.Bool.{Bool, true, false, ◌||◌}
use mathlib.Core.Logic.{◌⊎◌, ⊎_elim, inl, inr}
use mathlib.Core.List.{List}
use Prim.Native.Nat.{ℕ, ◌+◌, ◌*◌, ◌<◌, ◌≤◌}
use native.Mathlib.Omega.{arith}
use native.Mathlib.Decide.{dec_lt, ℕ_discrete}
use lib.Dec.{leb, ltb, eqb}
use lib.ListN.{length}
use borrow.Author.Tests.{eqb-true, eq-eqb, ne_eqb, leb-true, le-leb, ltb-true, lt-ltb}
use Rattle.lists.proofs.Truths.{and_left, and_right, and_both, or_cases}
use Rattle.std.proofs.lemmas.Bool.{or_left, or_right}
use Rattle.plan.specs.Plan.{Plan, size, next, path}
use Rattle.store.specs.declared.Copy.{Copy}
use Rattle.store.specs.declared.Slot.{Slot}
use Rattle.store.specs.declared.Store.{Store}
use Rattle.store.specs.Copies.{last_kind, has_value, no_copy, stamp_of, member}
use Rattle.store.specs.State.{State, copy_at, idle, in_reach, idle_mark, running_mark}
use Rattle.store.specs.StateRules.{HeldAt, KindAndValue, OnPath}
use Rattle.store.specs.Layout.{plan_of, width, copy_in, copy_of, count_of, state_of}
use Rattle.store.specs.StoreRules.{kind_test, copy_test, unused_test, slot_test}
use Rattle.store.proofs.Laying.{state_past, state_count, state_copy}
use Rattle.store.proofs.RulingLists.{member_at, at_member, stands_at_lem, at_stands, zeros_between, between_zeros}

-- A place of node n that the state holds, and where the store has it.
pub record Placed (z : Store) (n i : ℕ) : Type 0 where
  pub node : n < size (plan_of z)
  pub place : i < count_of z n
  pub copy : copy_at (state_of z) n i ≡ copy_of z (width * n + i)

module _ (z : Store) where
  pub held_placed : (n i : ℕ) → HeldAt (state_of z) n i → Placed z n i
  held_placed n i h = go (dec_lt n (size (plan_of z)))
    where
      go : Dec (n < size (plan_of z)) → Placed z n i
      go (yes g) =
          let l : i < count_of z n = omega (arith, state_count z n g) in
          record { node = g; place = l; copy = state_copy z n i g l }
      go (no g) = absurd (omega (arith, ap length (state_past z n (omega arith))))

  pub placed_held : (n i : ℕ) → n < size (plan_of z) → i < count_of z n → HeldAt (state_of z) n i
  placed_held n i h g = omega (arith, state_count z n h)

-- Kinds and values.
kind_rule : (x : Copy) → kind_test x ≡ true → KindAndValue x
unfolding kind_test
kind_rule x t = (leb-true x.kind last_kind (search and_left), go (has_value x.kind) (and_right (leb x.kind last_kind) _ t))
  where
    go : (had : Bool) → (had || eqb x.value 0) ≡ true → (had ≡ true) ⊎ (x.value ≡ 0)
    go true e = inl refl
    go false e = inr (eqb-true x.value 0 e)

rule_kind : (x : Copy) → KindAndValue x → kind_test x ≡ true
unfolding kind_test
rule_kind x r =
    and_both (le-leb x.kind last_kind r.0)
    (⊎_elim (λ (a : has_value x.kind ≡ true). or_left (has_value x.kind) (eqb x.value 0) a)
    (λ (a : x.value ≡ 0). or_right (has_value x.kind) (eqb x.value 0) (eq-eqb x.value 0 a)) r.1)

-- The rules of a copy x that node n holds.
pub record CopyRules (p : Plan) (s : State) (n : ℕ) (x : Copy) : Type 0 where
  pub kind : KindAndValue x
  pub late : 1 ≤ x.stamp
  pub early : x.stamp < s.clock
  pub on : (above : ℕ) × OnPath p x.key n above
  pub reach : stamp_of (in_reach p s x.key (next p n x.key)) < x.stamp

pub copy_rules : (p : Plan) (s : State) (n : ℕ) (x : Copy) → copy_test p s n x ≡ true → CopyRules p s n x
unfolding copy_test
copy_rules p s n x t =
    let w = member_at n (path p x.key) (search (and_left, and_right) depth 8) in
    record {
      kind = kind_rule x (search (and_left, and_right) depth 8);
      late = leb-true 1 x.stamp (search (and_left, and_right) depth 8);
      early = ltb-true x.stamp s.clock (search (and_left, and_right) depth 8);
      on = (w.0, record { inside = w.1; here = w.2 });
      reach = ltb-true (stamp_of (in_reach p s x.key (next p n x.key))) x.stamp (search (and_left, and_right) depth 8);
    }

pub rules_copy : (p : Plan) (s : State) (n : ℕ) (x : Copy) → CopyRules p s n x → copy_test p s n x ≡ true
unfolding copy_test
rules_copy p s n x r =
    let on = r.on.1 in
    let m : member n (path p x.key) ≡ true = rw on.here at (at_member (path p x.key) r.on.0 on.inside) in
    rw (rule_kind x r.kind, le-leb 1 x.stamp r.late, lt-ltb x.stamp s.clock r.early, m)
    (lt-ltb (stamp_of (in_reach p s x.key (next p n x.key))) x.stamp r.reach)

-- A key is below the next one, if there is a next one before the end.
pub order_rule : (end i a b : ℕ) → leb end i || ltb a b ≡ true → i < end → a < b
order_rule end i a b t h =
    ⊎_elim (λ (l : leb end i ≡ true). absurd (omega (arith, leb-true end i l)))
    (λ (l : ltb a b ≡ true). ltb-true a b l)
    (or_cases (leb end i) (ltb a b) t)

pub rule_order : (end i a b : ℕ) → (i < end → a < b) → leb end i || ltb a b ≡ true
rule_order end i a b r = go (dec_lt i end)
  where
    go : Dec (i < end) → leb end i || ltb a b ≡ true
    go (yes h) = or_right (leb end i) (ltb a b) (lt-ltb a b (r h))
    go (no h) = or_left (leb end i) (ltb a b) (le-leb end i (omega arith))

-- Search slots.
pub slot_idle : (p : Plan) (q : Slot) → slot_test p q ≡ true → q.running ≡ idle_mark → q ≡ idle
unfolding slot_test
slot_idle p q t e =
    let zeros = rw (eq-eqb q.running idle_mark e) at t in
    let key = eqb-true q.key 0 (search (and_left, and_right) depth 8) in
    let node = eqb-true q.node 0 (search (and_left, and_right) depth 8) in
    let visits = eqb-true q.visits 0 (search (and_left, and_right) depth 8) in
    λ i. record { running = e i; key = key i; node = node i; visits = visits i }

pub slot_runs : (p : Plan) (q : Slot) → slot_test p q ≡ true → (q.running ≡ idle_mark → ⊥)
    → (q.running ≡ running_mark) × OnPath p q.key q.node q.visits
unfolding slot_test
slot_runs p q t e =
    let runs = rw (ne_eqb q.running idle_mark e) at t in
    let w = stands_at_lem q.node (path p q.key) q.visits (search (and_left, and_right) depth 8) in
    (eqb-true q.running running_mark (search and_left), record { inside = w.0; here = w.1 })

pub rules_slot : (p : Plan) (q : Slot) → (q.running ≡ idle_mark → q ≡ idle)
    → ((q.running ≡ idle_mark → ⊥) → (q.running ≡ running_mark) × OnPath p q.key q.node q.visits) → slot_test p q ≡ true
unfolding slot_test
rules_slot p q rests runs = go (ℕ_discrete q.running idle_mark)
  where
    go : Dec (q.running ≡ idle_mark) → slot_test p q ≡ true
    go (yes e) = ap (λ (x : Slot). slot_test p x) (rests e)
    go (no e) =
        let w = runs e in
        rw (ne_eqb q.running idle_mark e, eq-eqb q.running running_mark w.0)
        (at_stands q.node (path p q.key) q.visits w.1.inside w.1.here)

-- Unused places.
module _ (keys kinds values stamps : List ℕ) (from to : ℕ) where
  pub unused_rule : unused_test keys kinds values stamps from to ≡ true → (i : ℕ) → from ≤ i → i < to → copy_in keys kinds values stamps i ≡ no_copy
  unfolding unused_test
  unused_rule t i h g =
      let key = zeros_between from to keys (search (and_left, and_right) depth 8) i h g in
      let kind = zeros_between from to kinds (search (and_left, and_right) depth 8) i h g in
      let value = zeros_between from to values (search (and_left, and_right) depth 8) i h g in
      let stamp = zeros_between from to stamps (search (and_left, and_right) depth 8) i h g in
      λ j. record { key = key j; kind = kind j; value = value j; stamp = stamp j }

  pub rule_unused : ((i : ℕ) → from ≤ i → i < to → copy_in keys kinds values stamps i ≡ no_copy) → unused_test keys kinds values stamps from to ≡ true
  unfolding unused_test
  rule_unused e =
      rw (
        between_zeros from to keys (λ i h g. ap (λ (x : Copy). x.key) (e i h g)),
        between_zeros from to kinds (λ i h g. ap (λ (x : Copy). x.kind) (e i h g)),
        between_zeros from to values (λ i h g. ap (λ (x : Copy). x.value) (e i h g)),
      )
      (between_zeros from to stamps (λ i h g. ap (λ (x : Copy). x.stamp) (e i h g)))
