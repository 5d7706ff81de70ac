-- The stamps of all copies held are different exactly when no stamp stands at two places.
use mathlib.Core.Path.{◌≡◌, refl, sym, ap, ◌∙◌}
use mathlib.Core.Bool.{true}
use mathlib.Core.Logic.{⊎_elim}
use mathlib.Core.List.{List, ◌++◌}
use Prim.Native.Nat.{ℕ, zero, suc, ◌+◌, ◌-◌, ◌*◌, ◌<◌, ◌≤◌}
use native.Mathlib.Omega.{arith}
use native.Mathlib.Decide.{dec_lt}
use lib.ListN.{get_or}
use Rattle.lists.specs.Indexed.{tabulate}
use Rattle.lists.proofs.Truths.{not_both}
use Rattle.store.specs.Copies.{member, different}
use Rattle.store.specs.Layout.{width}
use Rattle.store.specs.StoreRules.{stamps_from}
use Rattle.store.proofs.RulingLists.{
  member_tabulated,
  tabulated_member,
  different_tabulated,
  tabulated_different,
  member_left,
  member_right,
  member_sides,
  BothDifferent,
  different_both,
  both_different,
}

-- The node n is one of the m from node b on, and its count takes in its place i.
pub record Counted (counts : List ℕ) (b m n i : ℕ) : Type 0 where
  pub from : b ≤ n
  pub before : n < b + m
  pub place : i < get_or counts n 0

module _ (counts stamps : List ℕ) where
  -- The stamp at place i of node n.
  abbrev stamp : ℕ → ℕ → ℕ
  stamp n i = get_or stamps (width * n + i) 0

  -- No stamp of the m nodes from node b on stands at two places.
  abbrev pub Apart : ℕ → ℕ → Type 0
  Apart b m = (n i l j : ℕ) → Counted counts b m n i → Counted counts b m l j → stamp n i ≡ stamp l j → (n ≡ l) × (i ≡ j)

  -- The stamps of one node, and of the m from node b on.
  abbrev here : ℕ → List ℕ
  here n = tabulate (width * n) (get_or counts n 0) (λ i. get_or stamps i 0)

  abbrev later : ℕ → ℕ → List ℕ
  later b m = stamps_from counts stamps b m

  here_at : (n t : ℕ) → member t (here n) ≡ true → (i : ℕ) × (i < get_or counts n 0) × (stamp n i ≡ t)
  here_at n t h =
      let w = member_tabulated (λ i. get_or stamps i 0) (width * n) (get_or counts n 0) t h in
      let e : width * n + (w.0 - width * n) ≡ w.0 = omega (arith, w.1) in
      (w.0 - width * n, omega (arith, w.1, w.2), ap (λ (i : ℕ). get_or stamps i 0) e ∙ w.3)

  at_here : (n i : ℕ) → i < get_or counts n 0 → member (stamp n i) (here n) ≡ true
  at_here n i h = tabulated_member (λ i. get_or stamps i 0) (width * n) (get_or counts n 0) (width * n + i) (omega arith) (omega arith)

  later_at : (b m t : ℕ) → member t (later b m) ≡ true → (n i : ℕ) × Counted counts b m n i × (stamp n i ≡ t)
  unfolding stamps_from member
  later_at b zero t h = absurd (not_both h refl)
  later_at b (suc m) t h =
      ⊎_elim (λ (a : member t (here b) ≡ true).
      let w = here_at b t a in
      (b, w.0, record { from = omega arith; before = omega arith; place = w.1 }, w.2))
      (λ (a : member t (later (suc b) m) ≡ true).
      let w = later_at (suc b) m t a in
      (w.0, w.1, record { from = omega (arith, w.2.from); before = omega (arith, w.2.before); place = w.2.place }, w.3))
      (member_sides t (here b) (later (suc b) m) h)

  -- A node from b on is node b itself or a later one.
  after : {b m n i : ℕ} → Counted counts b (suc m) n i → b < n → Counted counts (suc b) m n i
  after h l = record { from = l; before = omega (arith, h.before); place = h.place }

  at_later : (b m n i : ℕ) → Counted counts b m n i → member (stamp n i) (later b m) ≡ true
  unfolding stamps_from
  at_later b zero n i h = absurd (omega arith)
  at_later b (suc m) n i h = go (dec_lt b n) (λ l. at_later (suc b) m n i (after h l))
    where
      go : Dec (b < n) → (b < n → member (stamp n i) (later (suc b) m) ≡ true) → member (stamp n i) (here b ++ later (suc b) m) ≡ true
      go (yes l) again = member_right (stamp n i) (here b) (later (suc b) m) (again l)
      go (no l) again =
          let e : b ≡ n = omega arith in
          rw e (member_left (stamp n i) (here n) (later (suc n) m) (at_here n i h.place))

  pub different-apart : (b m : ℕ) → different (later b m) ≡ true → Apart b m
  unfolding stamps_from
  different-apart b zero d n i l j h g e = absurd (omega arith)
  different-apart b (suc m) d n i l j h g e =
      let w = different_both (here b) (later (suc b) m) d in
      go w (different-apart (suc b) m w.second) (dec_lt b n) (dec_lt b l)
    where
      go : BothDifferent (here b) (later (suc b) m) → Apart (suc b) m → Dec (b < n) → Dec (b < l) → (n ≡ l) × (i ≡ j)
      go w again (yes p) (yes q) = again n i l j (after h p) (after g q) e
      go w again (yes p) (no q) =
          let a : l ≡ b = omega arith in
          absurd (w.no_shared (stamp n i) (rw (e, ← a) (at_here l j g.place)) (at_later (suc b) m n i (after h p)))
      go w again (no p) (yes q) =
          let a : n ≡ b = omega arith in
          absurd (w.no_shared (stamp n i) (rw (← a) (at_here n i h.place)) (rw e (at_later (suc b) m l j (after g q))))
      go w again (no p) (no q) =
          let x : n ≡ b = omega arith in
          let y : l ≡ b = omega arith in
          let u : i < get_or counts b 0 = rw x at h.place in
          let v : j < get_or counts b 0 = rw y at g.place in
          let r : width * n + i ≡ width * l + j =
          different_tabulated (λ q. get_or stamps q 0) (width * b) (get_or counts b 0) w.first (width * n + i) (width * l + j) (omega arith) (omega arith)
          (omega arith) (omega arith) e
          in
          (omega arith, omega arith)

  pub apart-different : (b m : ℕ) → Apart b m → different (later b m) ≡ true
  unfolding stamps_from different
  apart-different b zero d = refl
  apart-different b (suc m) d =
      both_different (here b) (later (suc b) m)
      (record {
        first = tabulated_different (λ i. get_or stamps i 0) (width * b) (get_or counts b 0) one;
        second = apart-different (suc b) m (λ n i l j h g e. d n i l j (before h) (before g) e);
        no_shared = λ t a c.
            let v = here_at b t a in
            let w = later_at (suc b) m t c in
            let q = (d b v.0 w.0 w.1 (at_b v.0 v.1) (before w.2) (v.2 ∙ sym w.3)).0 in
            omega (arith, w.2.from);
      })
    where
      before : {n i : ℕ} → Counted counts (suc b) m n i → Counted counts b (suc m) n i
      before h = record { from = omega (arith, h.from); before = omega (arith, h.before); place = h.place }

      at_b : (i : ℕ) → i < get_or counts b 0 → Counted counts b (suc m) b i
      at_b i h = record { from = omega arith; before = omega arith; place = h }

      one : (j k : ℕ) → width * b ≤ j → j < width * b + get_or counts b 0 → width * b ≤ k → k < width * b + get_or counts b 0
          → get_or stamps j 0 ≡ get_or stamps k 0 → j ≡ k
      one j k p q r t e =
          let x : width * b + (j - width * b) ≡ j = omega arith in
          let y : width * b + (k - width * b) ≡ k = omega arith in
          let w = d b (j - width * b) b (k - width * b) (at_b (j - width * b) (omega arith)) (at_b (k - width * b) (omega arith)) (rw (x, y) e) in
          omega (arith, w.1)
