-- "So each key has one path from the root, ending at a node with no edge for it": for every plan that meets the plan rules.
use mathlib.Core.Path.{◌≡◌, refl, sym, ap, subst}
use mathlib.Core.Logic.{⊎_elim}
use mathlib.Core.List.{List, [], ◌∷◌}
use Prim.Native.Nat.{ℕ, zero, suc, ◌+◌, ◌-◌, ◌<◌, ◌≤◌}
use native.Mathlib.Omega.{arith}
use native.Mathlib.Nat.{le_of_suc-le-suc}
use lib.ListN.{length, get_or, drop}
use Rattle.plan.specs.Plan.{Hop}
use Rattle.std.specs.Prelude.{Some, None}
use Rattle.plan.specs.Sizes.{last_key}
use Rattle.plan.specs.Plan.{Plan, size, next, walk, path_from, path, edges_on, IsPath, Reach}
use Rattle.plan.specs.Plan.IsPath.{last, more}
use Rattle.plan.specs.Plan.Reach.{here, there}
use Rattle.plan.specs.PlanRules.{PlanRules}
use Rattle.plan.proofs.NextLaws.{hop?, not_both_hops, one_target, next_down, root_in_plan, root_next}

module _ (hop : ℕ → Hop) where
  -- Two paths from one node are the same.
  pub one_path : {n : ℕ} {ns ms : List ℕ} → IsPath hop n ns → IsPath hop n ms → ns ≡ ms
  one_path (last e) (last f) = refl
  one_path (last e) (more f q) = absurd (not_both_hops e f)
  one_path (more e p) (last f) = absurd (not_both_hops f e)
  one_path (more {n = n} {ns = ns} e p) (more {ns = ms} f q) =
      ap (λ (l : List ℕ). n ∷ l) (one_path p (subst (λ (t : ℕ). IsPath hop t ms) (one_target f e) q))

  -- A path has a node, and its first is the one that it is from.
  pub path_some : {n : ℕ} {ns : List ℕ} → IsPath hop n ns → 0 < length ns
  path_some (last e) = omega arith
  path_some (more e p) = omega arith

  pub path_first : {n : ℕ} {ns : List ℕ} → IsPath hop n ns → get_or ns 0 0 ≡ n
  path_first (last e) = refl
  path_first (more e p) = refl

  -- Each node's next step is the node after it,
  pub path-next : {n : ℕ} {ns : List ℕ} → IsPath hop n ns → (i : ℕ) → suc i < length ns → hop (get_or ns i 0) ≡ Some (get_or ns (suc i) 0)
  path-next (last e) i h = absurd (omega arith)
  path-next (more {n = n} {ns = ns} e p) zero h = subst (λ (t : ℕ). hop n ≡ Some t) (sym (path_first p)) e
  path-next (more e p) (suc i) h = path-next p i (le_of_suc-le-suc h)

  -- and the last has none.
  pub path_last : {n : ℕ} {ns : List ℕ} → IsPath hop n ns → hop (get_or ns (length ns - 1) 0) ≡ None
  path_last (last e) = e
  path_last (more {n = n} {ns = ns} e p) =
      let q : suc (length ns) - 1 ≡ suc (length ns - 1) = omega (arith, path_some p) in
      rw q (path_last p)

  -- The nodes of a path are those that its first leads to.
  pub reach_at : {n m : ℕ} {ns : List ℕ} → IsPath hop n ns → Reach hop n m → (i : ℕ) × (i < length ns) × (get_or ns i 0 ≡ m)
  reach_at (last e) here = (0, omega arith, refl)
  reach_at (more e p) here = (0, omega arith, refl)
  reach_at (last e) (there f r) = absurd (not_both_hops e f)
  reach_at {m = m} (more {ns = ns} e p) (there f r) =
      let w = reach_at p (subst (λ (t : ℕ). Reach hop t m) (one_target f e) r) in
      (suc w.0, omega (arith, w.1), w.2)

  pub at_reach : {n : ℕ} {ns : List ℕ} → IsPath hop n ns → (i : ℕ) → i < length ns → Reach hop n (get_or ns i 0)
  at_reach (last e) zero h = here
  at_reach (last e) (suc i) h = absurd (omega arith)
  at_reach (more e p) zero h = here
  at_reach (more e p) (suc i) h = there e (at_reach p i (le_of_suc-le-suc h))

  -- From a node of a path on, the rest of it is a path.
  pub path_rest : {n : ℕ} {ns : List ℕ} → IsPath hop n ns → (i : ℕ) → i < length ns → IsPath hop (get_or ns i 0) (drop i ns)
  path_rest (last e) zero h = last e
  path_rest (last e) (suc i) h = absurd (omega arith)
  path_rest (more e p) zero h = more e p
  path_rest (more e p) (suc i) h = path_rest p i (le_of_suc-le-suc h)

  -- Leading to is transitive.
  pub reach_on : {n m l : ℕ} → Reach hop n m → Reach hop m l → Reach hop n l
  reach_on here s = s
  reach_on (there e r) s = there e (reach_on r s)

  module _ (most : ℕ) (down : (n t : ℕ) → hop n ≡ Some t → (n < t) × (t < most)) where
    -- Where each step goes down and stays below `most`: a path from n has at most as many nodes as there are from n on,
    pub path_short : {n : ℕ} {ns : List ℕ} → IsPath hop n ns → n < most → n + length ns ≤ most
    path_short (last e) h = omega arith
    path_short (more {n = n} {t = t} e p) h = omega (arith, down n t e, path_short p (down n t e).1)

    -- all of them below `most`,
    pub reach_below : {n m : ℕ} → Reach hop n m → n < most → m < most
    reach_below here h = h
    reach_below (there {n = n} {t = t} e r) h = reach_below r (down n t e).1

    -- and no node leads to one of a smaller number.
    pub reach_le : {n m : ℕ} → Reach hop n m → n ≤ m
    reach_le here = omega arith
    reach_le (there {n = n} {t = t} e r) = omega (arith, down n t e, reach_le r)

    -- The numbers of a path rise.
    pub path_rises : {n : ℕ} {ns : List ℕ} → IsPath hop n ns → (i j : ℕ) → i < j → j < length ns → get_or ns i 0 < get_or ns j 0
    path_rises (last e) i j h g = absurd (omega arith)
    path_rises (more e p) i zero h g = absurd (omega arith)
    path_rises (more {n = n} {t = t} e p) zero (suc j) h g =
        omega (arith, down n t e, reach_le (at_reach p j (le_of_suc-le-suc g)))
    path_rises (more e p) (suc i) (suc j) h g = path_rises p i j (le_of_suc-le-suc h) (le_of_suc-le-suc g)

module _ (p : Plan) (rules : PlanRules p) (k : ℕ) where
  walk_is : (most n : ℕ) → n < size p → size p ≤ most + n → IsPath (λ m. next p m k) n (walk p k most (Some n))
  unfolding walk
  walk_is zero n h g = absurd (omega arith)
  walk_is (suc most) n h g =
      ⊎_elim (λ (e : next p n k ≡ None). rw (e, end most) (last e))
      (λ (w : (t : ℕ) × (next p n k ≡ Some t)).
      let d = next_down p rules n k w.0 w.1 in
      rw w.1 (more w.1 (walk_is most w.0 d.1 (omega arith))))
      (hop? (next p n k))
    where
      end : (most : ℕ) → walk p k most None ≡ []
      end zero = refl
      end (suc most) = refl

  pub path_is : (n : ℕ) → n < size p → IsPath (λ m. next p m k) n (path_from p k n)
  unfolding path_from
  path_is n h = walk_is (size p) n h (omega arith)

  -- The path unfolds by the next step.
  pub path_ends : (n : ℕ) → n < size p → next p n k ≡ None → path_from p k n ≡ n ∷ []
  path_ends n h e = one_path (λ m. next p m k) (path_is n h) (last e)

  pub path_goes : (n t : ℕ) → n < size p → next p n k ≡ Some t → path_from p k n ≡ n ∷ path_from p k t
  path_goes n t h e = one_path (λ m. next p m k) (path_is n h) (more e (path_is t (next_down p rules n k t e).1))

  down : (n t : ℕ) → next p n k ≡ Some t → (n < t) × (t < size p)
  down n t e = next_down p rules n k t e

  root_path : IsPath (λ m. next p m k) 0 (path p k)
  root_path = path_is 0 (root_in_plan p rules)

  -- A key's path has at most as many nodes as the plan,
  pub path_within : length (path p k) ≤ size p
  path_within = omega (arith, path_short (λ m. next p m k) (size p) down root_path (root_in_plan p rules))

  -- its numbers rise,
  pub path_down : (i j : ℕ) → i < j → j < length (path p k) → get_or (path p k) i 0 < get_or (path p k) j 0
  path_down = path_rises (λ m. next p m k) (size p) down root_path

  -- each is a node of the plan,
  pub path_in_plan : (i : ℕ) → i < length (path p k) → get_or (path p k) i 0 < size p
  path_in_plan i h = reach_below (λ m. next p m k) (size p) down (at_reach (λ m. next p m k) root_path i h) (root_in_plan p rules)

  -- and the last has no edge for the key.
  pub path_end : next p (get_or (path p k) (edges_on p k) 0) k ≡ None
  path_end = path_last (λ m. next p m k) root_path

  -- A node is on the key's path exactly when it stands in it.
  pub on_path : (n : ℕ) → Reach (λ m. next p m k) 0 n → (i : ℕ) × (i < length (path p k)) × (get_or (path p k) i 0 ≡ n)
  on_path n r = reach_at (λ m. next p m k) root_path r

  pub path_on : (i : ℕ) → i < length (path p k) → Reach (λ m. next p m k) 0 (get_or (path p k) i 0)
  path_on = at_reach (λ m. next p m k) root_path

  -- A key's path has at least two nodes, and so an edge, since the root covers every key.
  pub two_on_path : k ≤ last_key → 2 ≤ length (path p k)
  two_on_path h =
      let w = root_next p rules k h in
      let d = down 0 w.0 w.1 in
      rw (path_goes 0 w.0 (root_in_plan p rules) w.1) (omega (arith, path_some (λ m. next p m k) (path_is w.0 d.1)))
