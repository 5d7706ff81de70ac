-- "Down a path, a key's stamps strictly fall", said of any two copies of a key and said of each copy and the first one in reach below
-- it: the two are one, where keys rise in each node and copies stand on their keys' paths.
use mathlib.Core.Path.{◌≡◌, refl, sym, ap, ◌∙◌, subst}
use mathlib.Core.Logic.{⊎_elim}
use mathlib.Core.List.{List, [], ◌∷◌}
use mathlib.Core.Option.{Option, none, some}
use Prim.Native.Nat.{ℕ, zero, suc, ◌<◌, ◌≤◌}
use native.Mathlib.Omega.{arith}
use lib.ListN.{length, get_or}
use Rattle.lists.proofs.Options.{option?, not_none_and_some}
use Rattle.plan.specs.Plan.{Hop}
use Rattle.std.specs.Prelude.{Some, None}
use Rattle.plan.specs.Plan.{Plan, size, next, walk, path_from, Reach}
use Rattle.plan.specs.Plan.Reach.{here, there}
use Rattle.plan.specs.PlanRules.{PlanRules}
use Rattle.plan.proofs.NextLaws.{hop?, one_target, next_down}
use Rattle.plan.proofs.PathLaws.{reach_le, at_reach, path_is, path_ends, path_goes, path_on}
use Rattle.store.specs.declared.Copy.{Copy}
use Rattle.store.specs.Copies.{no_copy, key_of, stamp_of}
use Rattle.store.specs.State.{State, node_at, copy_at, line, or_else, first_on, in_reach}
use Rattle.store.specs.StateRules.{HeldAt, OnPath}
use Rattle.store.specs.Workers.{below, Rises}
use Rattle.store.proofs.Seeking.{find_rising, find_some}

-- The first copy that a line has in some nodes is its copy in one of them.
first_at : (l : ℕ → Option Copy) (ns : List ℕ) (y : Copy) → first_on l ns ≡ some y → (i : ℕ) × (i < length ns) × (l (get_or ns i 0) ≡ some y)
unfolding first_on
first_at l [] y e = absurd (not_none_and_some refl e)
first_at l (n ∷ ns) y e =
    ⊎_elim (λ (q : l n ≡ none).
    let w = first_at l ns y (rw q at e) in
    (suc w.0, omega (arith, w.1), w.2))
    (λ (w : (x : Copy) × (l n ≡ some x)).
    let q : some w.0 ≡ some y = rw w.1 at e in
    (0, omega arith, w.1 ∙ q))
    (option? (l n))

-- Of two nodes that one leads to, the lower number leads to the higher.
lower_leads : (hop : ℕ → Hop) (most : ℕ) → ((n t : ℕ) → hop n ≡ Some t → (n < t) × (t < most))
    → {r n m : ℕ} → Reach hop r n → Reach hop r m → n < m → Reach hop n m
lower_leads hop most down here b h = b
lower_leads hop most down (there {n = r} {t = t} e a) here h = absurd (omega (arith, down r t e, reach_le hop most down a))
lower_leads hop most down {m = m} (there e a) (there f b) h =
    lower_leads hop most down a (subst (λ (t : ℕ). Reach hop t m) (one_target f e) b) h

module _ (p : Plan) (rules : PlanRules p) (s : State) (k : ℕ) where
  abbrev hop : ℕ → Hop
  hop m = next p m k

  down : (n t : ℕ) → next p n k ≡ Some t → (n < t) × (t < size p)
  down n t e = next_down p rules n k t e

  -- In reach from a node: its own copy, or what is in reach from its next step.
  pub reach_ends : in_reach p s k None ≡ none
  unfolding in_reach first_on walk
  reach_ends = go (size p)
    where
      go : (most : ℕ) → first_on (line s k) (walk p k most None) ≡ none
      go zero = refl
      go (suc most) = refl

  pub reach_goes : (n : ℕ) → n < size p → in_reach p s k (Some n) ≡ or_else (line s k n) (in_reach p s k (next p n k))
  unfolding in_reach first_on path_from
  reach_goes n h =
      ⊎_elim (λ (e : next p n k ≡ None).
      rw (path_ends p rules k n h e, e, reach_ends))
      (λ (w : (t : ℕ) × (next p n k ≡ Some t)). rw (path_goes p rules k n w.0 h w.1, w.1))
      (hop? (next p n k))

  -- What is in reach from a node is held there or below.
  pub reach_held : (n : ℕ) (y : Copy) → n < size p → in_reach p s k (Some n) ≡ some y → (m : ℕ) × (n ≤ m) × (line s k m ≡ some y)
  unfolding in_reach path_from
  reach_held n y h e =
      let w = first_at (line s k) (path_from p k n) y e in
      let r = at_reach hop (path_is p rules k n h) w.0 w.1 in
      (get_or (path_from p k n) w.0 0, reach_le hop (size p) down r, w.2)

  -- Each copy of the line is newer than what is in reach from its next step.
  abbrev AboveReach : Type 0
  AboveReach = (n : ℕ) (x : Copy) → line s k n ≡ some x → stamp_of (in_reach p s k (next p n k)) < x.stamp

  -- Then what is in reach from a node is no older than any copy that the node leads to,
  reach_newest : AboveReach → {n m : ℕ} → Reach hop n m → n < size p → (y : Copy) → line s k m ≡ some y → y.stamp ≤ stamp_of (in_reach p s k (Some n))
  reach_newest above (here {n = n}) h y e = rw (reach_goes n h, e) (omega arith)
  reach_newest above (there {n = n} {t = t} f r) h y e =
      let below : y.stamp ≤ stamp_of (in_reach p s k (Some t)) = reach_newest above r (down n t f).1 y e in
      rw (reach_goes n h, f) (go below f (line s k n) refl)
    where
      go : y.stamp ≤ stamp_of (in_reach p s k (Some t)) → next p n k ≡ Some t → (o : Option Copy) → line s k n ≡ o
          → y.stamp ≤ stamp_of (or_else o (in_reach p s k (Some t)))
      go below f none q = below
      go below f (some x) q =
          let a : stamp_of (in_reach p s k (Some t)) < x.stamp = rw f at (above n x q) in
          omega arith

  -- and so of two copies on the path the one in the higher node is the older.
  reach_falls : AboveReach → (n m : ℕ) (x y : Copy) → Reach hop 0 n → Reach hop 0 m → line s k n ≡ some x → line s k m ≡ some y → n < m
      → y.stamp < x.stamp
  reach_falls above n m x y a b e f h =
      go (lower_leads hop (size p) down a b h) refl
    where
      go : {l : ℕ} → Reach hop n l → l ≡ m → y.stamp < x.stamp
      go here q = absurd (omega arith)
      go (there {t = t} g r) q =
          let c = reach_newest above r (down n t g).1 y (rw q f) in
          let d : stamp_of (in_reach p s k (Some t)) < x.stamp = rw g at (above n x e) in
          omega arith

  -- The other way: what is in reach from the next step is held in a higher node, and so is older.
  falls_reach : ((n m : ℕ) (x y : Copy) → line s k n ≡ some x → line s k m ≡ some y → n < m → y.stamp < x.stamp)
      → (n : ℕ) (x : Copy) → line s k n ≡ some x → 1 ≤ x.stamp → stamp_of (in_reach p s k (next p n k)) < x.stamp
  falls_reach falls n x e late =
      ⊎_elim (λ (q : next p n k ≡ None). rw (q, reach_ends) late)
      (λ (w : (t : ℕ) × (next p n k ≡ Some t)).
      let d = down n w.0 w.1 in
      rw w.1 (go w.0 d.0 d.1 (in_reach p s k (Some w.0)) refl))
      (hop? (next p n k))
    where
      go : (t : ℕ) → n < t → t < size p → (o : Option Copy) → in_reach p s k (Some t) ≡ o → stamp_of o < x.stamp
      go t h g none q = late
      go t h g (some y) q =
          let w = reach_held t y g q in
          falls n w.0 x y e w.2 (omega (arith, w.1))

-- The keys of each node rise.
abbrev pub Rising : State → Type 0
Rising s = (n : ℕ) → Rises key_of no_copy (node_at s n)

-- A node's copy of a key is one that it holds at a place, and the other way round.
line-held : (s : State) → Rising s → (k n : ℕ) (x : Copy) → line s k n ≡ some x → (i : ℕ) × HeldAt s n i × (copy_at s n i ≡ x) × (x.key ≡ k)
line-held s rising k n x e =
    let w = find_some key_of no_copy (node_at s n) (rising n) k x e in
    (below key_of (node_at s n) k, w.0, w.1, w.2)

held-line : (s : State) → Rising s → (n i : ℕ) → HeldAt s n i → line s (copy_at s n i).key n ≡ some (copy_at s n i)
held-line s rising n i h = find_rising key_of no_copy (node_at s n) (rising n) (copy_at s n i).key i h refl

-- The two ways to say that stamps fall, by node and place.
module _ (p : Plan) (rules : PlanRules p) (s : State) (rising : Rising s) where
  pub falls_by_reach : ((n i : ℕ) → HeldAt s n i → (above : ℕ) × OnPath p (copy_at s n i).key n above)
      → ((n i : ℕ) → HeldAt s n i → stamp_of (in_reach p s (copy_at s n i).key (next p n (copy_at s n i).key)) < (copy_at s n i).stamp)
      → (n i m j : ℕ) → HeldAt s n i → HeldAt s m j → (copy_at s n i).key ≡ (copy_at s m j).key → n < m → (copy_at s m j).stamp < (copy_at s n i).stamp
  falls_by_reach on above n i m j h g e =
      reach_falls p rules s (copy_at s n i).key each n m (copy_at s n i) (copy_at s m j) (led n i h) (rw e (led m j g)) (held-line s rising n i h)
      (rw e (held-line s rising m j g))
    where
      led : (n i : ℕ) → HeldAt s n i → Reach (λ l. next p l (copy_at s n i).key) 0 n
      led n i h =
          let w = on n i h in
          rw w.1.here at (path_on p rules (copy_at s n i).key w.0 w.1.inside)

      each : (l : ℕ) (x : Copy) → line s (copy_at s n i).key l ≡ some x
          → stamp_of (in_reach p s (copy_at s n i).key (next p l (copy_at s n i).key)) < x.stamp
      each l x q =
          let w = line-held s rising (copy_at s n i).key l x q in
          let b : (copy_at s l w.0).key ≡ (copy_at s n i).key = ap key_of w.2 ∙ w.3 in
          rw (b, w.2) at (above l w.0 w.1)

  pub reach_by_falls : ((n i : ℕ) → HeldAt s n i → 1 ≤ (copy_at s n i).stamp)
      → ((n i m j : ℕ) → HeldAt s n i → HeldAt s m j → (copy_at s n i).key ≡ (copy_at s m j).key → n < m → (copy_at s m j).stamp < (copy_at s n i).stamp)
      → (n i : ℕ) → HeldAt s n i → stamp_of (in_reach p s (copy_at s n i).key (next p n (copy_at s n i).key)) < (copy_at s n i).stamp
  reach_by_falls late falls n i h =
      falls_reach p rules s (copy_at s n i).key each n (copy_at s n i) (held-line s rising n i h) (late n i h)
    where
      each : (a b : ℕ) (x y : Copy) → line s (copy_at s n i).key a ≡ some x → line s (copy_at s n i).key b ≡ some y → a < b → y.stamp < x.stamp
      each a b x y q r l =
          let v = line-held s rising (copy_at s n i).key a x q in
          let w = line-held s rising (copy_at s n i).key b y r in
          rw (v.2, w.2) at (falls a v.0 b w.0 v.1 w.1 (ap key_of v.2 ∙ v.3 ∙ sym w.3 ∙ ap key_of (sym w.2)) l)
