-- The key's next step is the target of the first edge, in edge order, that holds the key; under the plan rules it goes to a node of
-- the plan with a greater number, and any edge that holds the key gives it.
use mathlib.Core.Path.{◌≡◌, refl, ap}
use mathlib.Core.Bool.{true, false}
use mathlib.Core.Logic.{◌⊎◌, ⊎_elim, inl, inr}
use mathlib.Core.List.{List, [], ◌∷◌}
use Prim.Native.Nat.{ℕ, zero, suc, ◌<◌, ◌≤◌}
use native.Mathlib.Omega.{arith}
use native.Mathlib.Nat.{le_of_suc-le-suc, not-suc-le-zero}
use native.Mathlib.Decide.{dec_lt}
use lib.ListN.{length, get_or, get_or-eq_default}
use Rattle.lists.proofs.Truths.{bool?, both_le, le_both}
use Rattle.plan.specs.declared.Edge.{Edge}
use Rattle.plan.specs.Plan.{Hop}
use Rattle.std.specs.Prelude.{Some, None}
use Rattle.plan.specs.Sizes.{last_key}
use Rattle.plan.specs.Plan.{Node, Plan, no_edge, no_node, size, edges_of, edge_of, holds, first_edge, next}
use Rattle.plan.specs.PlanRules.{IsEdge, PlanRules}

-- A step ends or goes on,
pub hop? : (h : Hop) → (h ≡ None) ⊎ ((t : ℕ) × (h ≡ Some t))
hop? (Some t) = inr (t, refl)
hop? None = inl refl

-- never both,
pub not_both_hops : {h : Hop} {t : ℕ} → h ≡ None → h ≡ Some t → ⊥
not_both_hops p q = let z : ◌≡◌ {A = ℕ} 0 1 = cc in omega arith

-- and to one node.
pub one_target : {h : Hop} {s t : ℕ} → h ≡ Some s → h ≡ Some t → s ≡ t
one_target p q = cc

-- An edge holds the keys from its lowest to its highest.
pub holds_range : (e : Edge) (k : ℕ) → holds e k ≡ true → (e.lowest ≤ k) × (k ≤ e.highest)
unfolding holds
holds_range e k = both_le e.lowest k k e.highest

pub range_holds : (e : Edge) (k : ℕ) → e.lowest ≤ k → k ≤ e.highest → holds e k ≡ true
unfolding holds
range_holds e k = le_both e.lowest k k e.highest

-- The edge number i is the first that holds the key.
pub record First (es : List Edge) (k i : ℕ) : Type 0 where
  pub within : i < length es
  pub held : holds (get_or es i no_edge) k ≡ true
  pub before : (j : ℕ) → j < i → holds (get_or es j no_edge) k ≡ false

-- The first edge that holds the key is taken,
pub first_taken : (es : List Edge) (k i : ℕ) → First es k i → first_edge es k ≡ Some (get_or es i no_edge).target
unfolding first_edge
first_taken [] k i f = absurd (not-suc-le-zero f.within)
first_taken (e ∷ es) k zero f = rw f.held
first_taken (e ∷ es) k (suc i) f =
    rw (f.before 0 (omega arith))
    (first_taken es k i
    (record { within = le_of_suc-le-suc f.within; held = f.held; before = λ j q. f.before (suc j) (omega arith) }))

-- what is taken is such an edge,
pub taken_first : (es : List Edge) (k t : ℕ) → first_edge es k ≡ Some t → (i : ℕ) × First es k i × ((get_or es i no_edge).target ≡ t)
unfolding first_edge
taken_first [] k t e = absurd (not_both_hops refl e)
taken_first (d ∷ es) k t e =
    ⊎_elim (λ (h : holds d k ≡ true).
    let q : Some d.target ≡ Some t = rw h at e in
    (0, record { within = omega arith; held = h; before = λ j r. absurd (not-suc-le-zero r) }, one_target refl q))
    (λ (h : holds d k ≡ false).
    let w = taken_first es k t (rw h at e) in (
      suc w.0,
      record { within = omega (arith, w.1.within); held = w.1.held; before = earlier h w.0 w.1 },
      w.2,
    ))
    (bool? (holds d k))
  where
    earlier : holds d k ≡ false → (i : ℕ) → First es k i → (j : ℕ) → j < suc i → holds (get_or (d ∷ es) j no_edge) k ≡ false
    earlier h i f zero r = h
    earlier h i f (suc j) r = f.before j (le_of_suc-le-suc r)

-- and the step ends where no edge holds the key.
pub none_ends : (es : List Edge) (k : ℕ) → ((i : ℕ) → i < length es → holds (get_or es i no_edge) k ≡ false) → first_edge es k ≡ None
unfolding first_edge
none_ends [] k f = refl
none_ends (e ∷ es) k f = rw (f 0 (omega arith)) (none_ends es k (λ i h. f (suc i) (omega arith)))

pub ends_none : (es : List Edge) (k : ℕ) → first_edge es k ≡ None → (i : ℕ) → i < length es → holds (get_or es i no_edge) k ≡ false
unfolding first_edge
ends_none [] k e i h = absurd (not-suc-le-zero h)
ends_none (d ∷ es) k e i h =
    ⊎_elim (λ (t : holds d k ≡ true). absurd (not_both_hops (rw t at e) refl))
    (λ (f : holds d k ≡ false). at f (ends_none es k (rw f at e)) i h)
    (bool? (holds d k))
  where
    at : holds d k ≡ false → ((i : ℕ) → i < length es → holds (get_or es i no_edge) k ≡ false) → (i : ℕ) → i < suc (length es)
        → holds (get_or (d ∷ es) i no_edge) k ≡ false
    at f again zero h = f
    at f again (suc i) h = again i (le_of_suc-le-suc h)

-- Past the last node there is no edge.
pub no_edges : (p : Plan) (n : ℕ) → size p ≤ n → edges_of p n ≡ []
no_edges p n h = ap (λ (d : Node). d.edges) (get_or-eq_default p no_node h)

-- The edge i of node n takes key k to node t.
pub record NextEdge (p : Plan) (n k t i : ℕ) : Type 0 where
  pub is_edge : IsEdge p n i
  pub held : holds (edge_of p n i) k ≡ true
  pub goes : (edge_of p n i).target ≡ t

pub next_edge : (p : Plan) (n k t : ℕ) → next p n k ≡ Some t → (i : ℕ) × NextEdge p n k t i
unfolding next first_edge
next_edge p n k t e = go (dec_lt n (size p))
  where
    go : Dec (n < size p) → (i : ℕ) × NextEdge p n k t i
    go (yes h) =
        let w = taken_first (edges_of p n) k t e in
        (w.0, record { is_edge = record { node = h; edge = w.1.within }; held = w.1.held; goes = w.2 })
    go (no h) = absurd (not_both_hops (ap (λ (es : List Edge). first_edge es k) (no_edges p n (omega arith))) e)

-- Only a node of the plan has a next step.
pub next_in_plan : (p : Plan) (n k t : ℕ) → next p n k ≡ Some t → n < size p
next_in_plan p n k t e = (next_edge p n k t e).1.is_edge.node

module _ (p : Plan) (rules : PlanRules p) where
  -- The next step goes down: to a node of the plan with a greater number.
  pub next_down : (n k t : ℕ) → next p n k ≡ Some t → (n < t) × (t < size p)
  next_down n k t e =
      let w = next_edge p n k t e in
      let d = rules.target_greater_and_exists n w.0 w.1.is_edge in
      let g = w.1.goes in
      (omega arith, omega arith)

  -- An edge that holds the key is the one taken, since ranges share no key.
  pub edge_next : (n i k : ℕ) → IsEdge p n i → holds (edge_of p n i) k ≡ true → next p n k ≡ Some (edge_of p n i).target
  unfolding next
  edge_next n i k d h =
      first_taken (edges_of p n) k i (record { within = d.edge; held = h; before = before })
    where
      before : (j : ℕ) → j < i → holds (edge_of p n j) k ≡ false
      before j q =
          ⊎_elim (λ (t : holds (edge_of p n j) k ≡ true). absurd (rules.ranges_share_no_key n j i k q d t h))
          (λ (f : holds (edge_of p n j) k ≡ false). f)
          (bool? (holds (edge_of p n j) k))

  -- The root is a node of the plan,
  pub root_in_plan : 0 < size p
  root_in_plan = omega (arith, rules.nodes_within)

  -- and every key goes on from it.
  pub root_next : (k : ℕ) → k ≤ last_key → (t : ℕ) × (next p 0 k ≡ Some t)
  root_next k h =
      let w = rules.root_covers_every_key k h in
      let d : IsEdge p 0 w.0 = record { node = root_in_plan; edge = w.1 } in
      ((edge_of p 0 w.0).target, edge_next 0 w.0 k d w.2)
