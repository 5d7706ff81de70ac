-- The place of a key in a list, and by it what a look for the key finds where keys rise.
use mathlib.Core.Path.{◌≡◌, refl, sym, ap, ◌∙◌}
use mathlib.Core.Bool.{Bool, true, false, cond}
use mathlib.Core.List.{List, [], ◌∷◌, map}
use mathlib.Core.Option
use mathlib.Core.Option.{none, some}
use Prim.Native.Nat.{ℕ, zero, suc, ◌+◌, ◌-◌, ◌<◌, ◌≤◌, zero-le, suc-le-suc}
use native.Mathlib.Nat.{le_of_suc-le-suc, not-suc-le-zero}
use native.Mathlib.Decide.{dec_lt, ℕ_discrete}
use native.Mathlib.Omega.{arith}
use lib.Dec.{ltb, eqb}
use lib.ListN.{length, get_or}
use borrow.Author.Tests.{ltb-true, ltb-false, eq-eqb, ne_eqb}
use Rattle.lists.specs.Indexed.{tabulate}
use Rattle.lists.proofs.Tabulating.{length-tabulate, get_d_tabulate, map-tabulate}
use Rattle.store.specs.Copies.{find}
use Rattle.store.specs.Workers.{itself, below, Rises}

module _ {A : Type 0} (key : A → ℕ) where
  pub below_length : (xs : List A) (k : ℕ) → below key xs k ≤ length xs
  unfolding below
  below_length [] k = zero-le
  below_length (x ∷ xs) k = go (ltb (key x) k) (below_length xs k)
    where
      go : (t : Bool) → below key xs k ≤ length xs → cond t (suc (below key xs k)) 0 ≤ suc (length xs)
      go true h = suc-le-suc h
      go false h = zero-le

  -- The keys alone decide the place.
  pub below_keys : (xs : List A) (k : ℕ) → below key xs k ≡ below itself (map key xs) k
  unfolding below
  below_keys [] k = refl
  below_keys (x ∷ xs) k = ap (λ (n : ℕ). cond (ltb (key x) k) (suc n) 0) (below_keys xs k)

  module _ (d : A) where
    -- Those before the place have smaller keys,
    pub before_below : (xs : List A) (k i : ℕ) → i < below key xs k → key (get_or xs i d) < k
    unfolding below
    before_below [] k i h = absurd (not-suc-le-zero h)
    before_below (x ∷ xs) k i h = go (ltb (key x) k) refl i h (before_below xs k)
      where
        go : (t : Bool) → ltb (key x) k ≡ t → (i : ℕ) → i < cond t (suc (below key xs k)) 0
            → ((j : ℕ) → j < below key xs k → key (get_or xs j d) < k) → key (get_or (x ∷ xs) i d) < k
        go true e zero h again = ltb-true (key x) k e
        go true e (suc i) h again = again i (le_of_suc-le-suc h)
        go false e i h again = absurd (not-suc-le-zero h)

    -- and the one at it, if there is one, has not.
    pub at_below : (xs : List A) (k : ℕ) → below key xs k < length xs → k ≤ key (get_or xs (below key xs k) d)
    unfolding below
    at_below [] k h = absurd (not-suc-le-zero h)
    at_below (x ∷ xs) k h = go (ltb (key x) k) refl h (at_below xs k)
      where
        go : (t : Bool) → ltb (key x) k ≡ t → cond t (suc (below key xs k)) 0 < suc (length xs)
            → (below key xs k < length xs → k ≤ key (get_or xs (below key xs k) d))
            → k ≤ key (get_or (x ∷ xs) (cond t (suc (below key xs k)) 0) d)
        go true e h again = again (le_of_suc-le-suc h)
        go false e h again = ltb-false (key x) k e

    -- Where each key is below the next, it is below all later ones.
    pub rises_apart : (xs : List A) → Rises key d xs → (i j : ℕ) → i < j → j < length xs → key (get_or xs i d) < key (get_or xs j d)
    rises_apart xs r i zero h g = absurd (not-suc-le-zero h)
    rises_apart xs r i (suc j) h g = go (dec_lt i j) (λ p. rises_apart xs r i j p (omega arith))
      where
        go : Dec (i < j) → (i < j → key (get_or xs i d) < key (get_or xs j d)) → key (get_or xs i d) < key (get_or xs (suc j) d)
        go (yes p) again =
            let a = again p in
            let b = r j g in
            omega arith
        go (no p) again = let e : i ≡ j = omega arith in rw e (r j g)

    -- A key that is not below k stands at or after the place of k,
    pub below_up : (xs : List A) (k i : ℕ) → k ≤ key (get_or xs i d) → below key xs k ≤ i
    below_up xs k i h = go (dec_lt i (below key xs k))
      where
        go : Dec (i < below key xs k) → below key xs k ≤ i
        go (yes p) = absurd (let a = before_below xs k i p in omega arith)
        go (no p) = omega arith

    -- and where keys rise one that is below k stands before it.
    pub below_down : (xs : List A) → Rises key d xs → (k i : ℕ) → i < length xs → key (get_or xs i d) < k → i < below key xs k
    below_down xs r k i h g = go (dec_lt i (below key xs k)) (dec_lt (below key xs k) i)
      where
        go : Dec (i < below key xs k) → Dec (below key xs k < i) → i < below key xs k
        go (yes p) q = p
        go (no p) (yes q) =
            absurd
            (let a = at_below xs k (omega arith) in
            let b = rises_apart xs r (below key xs k) i q h in
            omega arith)
        go (no p) (no q) =
            absurd
            (let e : i ≡ below key xs k = omega arith in
            let a = at_below xs k (omega arith) in
            let b : key (get_or xs (below key xs k) d) < k = rw e at g in
            omega arith)

    -- These fix the place.
    pub below_is : (xs : List A) (k b : ℕ) → b ≤ length xs → ((i : ℕ) → i < b → key (get_or xs i d) < k)
        → (b < length xs → k ≤ key (get_or xs b d)) → below key xs k ≡ b
    below_is xs k b h l g = go (dec_lt b (below key xs k)) (dec_lt (below key xs k) b) (below_length xs k)
      where
        go : Dec (b < below key xs k) → Dec (below key xs k < b) → below key xs k ≤ length xs → below key xs k ≡ b
        go (yes p) q n =
            absurd
            (let u = before_below xs k b p in
            let v = g (omega arith) in
            omega arith)
        go (no p) (yes q) n =
            absurd
            (let u = l (below key xs k) q in
            let v = at_below xs k (omega arith) in
            omega arith)
        go (no p) (no q) n = omega arith

    -- Nothing is found where no key is k,
    pub find_missing : (xs : List A) (k : ℕ) → ((i : ℕ) → i < length xs → key (get_or xs i d) ≡ k → ⊥) → find key xs k ≡ none
    unfolding find
    find_missing [] k h = refl
    find_missing (x ∷ xs) k h = rw (ne_eqb (key x) k (h 0 (suc-le-suc zero-le))) (find_missing xs k (λ i g. h (suc i) (suc-le-suc g)))

    -- and else the first with key k.
    pub find_first : (xs : List A) (k i : ℕ) → i < length xs → key (get_or xs i d) ≡ k → ((j : ℕ) → j < i → key (get_or xs j d) < k)
        → find key xs k ≡ some (get_or xs i d)
    unfolding find
    find_first [] k i h e l = absurd (not-suc-le-zero h)
    find_first (x ∷ xs) k zero h e l = rw (eq-eqb (key x) k e)
    find_first (x ∷ xs) k (suc i) h e l =
        let a : key x < k = l 0 (suc-le-suc zero-le) in
        rw (ne_eqb (key x) k (λ q. omega arith)) (find_first xs k i (le_of_suc-le-suc h) e (λ j g. l (suc j) (suc-le-suc g)))

    -- So the thing at the place of k is found if its key is k,
    pub find_at : (xs : List A) (k : ℕ) → below key xs k < length xs → key (get_or xs (below key xs k) d) ≡ k
        → find key xs k ≡ some (get_or xs (below key xs k) d)
    find_at xs k h e = find_first xs k (below key xs k) h e (before_below xs k)

    module _ (xs : List A) (r : Rises key d xs) where
      -- and where keys rise any thing with key k is that one.
      pub find_rising : (k i : ℕ) → i < length xs → key (get_or xs i d) ≡ k → find key xs k ≡ some (get_or xs i d)
      find_rising k i h e = find_first xs k i h e (λ j g. let a = rises_apart xs r j i g h in omega arith)

      at_place : (k i : ℕ) → i < length xs → key (get_or xs i d) ≡ k → i ≡ below key xs k
      at_place k i h e = go (dec_lt (below key xs k) i) (below_up xs k i (omega arith))
        where
          go : Dec (below key xs k < i) → below key xs k ≤ i → i ≡ below key xs k
          go (yes p) u =
              absurd
              (let a = at_below xs k (omega arith) in
              let b = rises_apart xs r (below key xs k) i p h in
              omega arith)
          go (no p) u = omega arith

      -- Nothing is found if the thing at the place of k has another key, or is not there,
      pub find_none : (k : ℕ) → (below key xs k < length xs → key (get_or xs (below key xs k) d) ≡ k → ⊥) → find key xs k ≡ none
      find_none k h =
          find_missing xs k
          (λ i g e.
          let q = at_place k i g e in
          h (omega arith) (rw q at e))

      -- and what is found stands at the place of k and has the key.
      pub find_some : (k : ℕ) (x : A) → find key xs k ≡ some x
          → (below key xs k < length xs) × (get_or xs (below key xs k) d ≡ x) × (key x ≡ k)
      find_some k x e = go (dec_lt (below key xs k) (length xs)) (ℕ_discrete (key (get_or xs (below key xs k) d)) k)
        where
          never : (below key xs k < length xs → key (get_or xs (below key xs k) d) ≡ k → ⊥) → ⊥
          never h = let z : ◌≡◌ {A = ℕ} 0 1 = cc (find_none k h) in omega arith

          go : Dec (below key xs k < length xs) → Dec (key (get_or xs (below key xs k) d) ≡ k)
              → (below key xs k < length xs) × (get_or xs (below key xs k) d ≡ x) × (key x ≡ k)
          go (yes p) (yes q) =
              let s : get_or xs (below key xs k) d ≡ x = cc (find_at xs k p q) in
              (p, s, rw s at q)
          go (yes p) (no q) = absurd (never (λ a b. q b))
          go (no p) q = absurd (never (λ a b. p a))

-- Naturality: a list that is mapped by g has the keys of its things' g.
module _ {A B : Type 0} (key : A → ℕ) (g : B → A) where
  pub below-map : (xs : List B) (k : ℕ) → below key (map g xs) k ≡ below (λ x. key (g x)) xs k
  unfolding below
  below-map [] k = refl
  below-map (x ∷ xs) k = ap (λ (n : ℕ). cond (ltb (key (g x)) k) (suc n) 0) (below-map xs k)

  pub find-map : (xs : List B) (k : ℕ) → find key (map g xs) k ≡ Option.map g (find (λ x. key (g x)) xs k)
  unfolding find
  find-map [] k = refl
  find-map (x ∷ xs) k = go (eqb (key (g x)) k) (find-map xs k)
    where
      go : (t : Bool) → find key (map g xs) k ≡ Option.map g (find (λ x. key (g x)) xs k)
          → cond t (some (g x)) (find key (map g xs) k) ≡ Option.map g (cond t (some x) (find (λ x. key (g x)) xs k))
      go true e = refl
      go false e = e

-- A tabulated list: its things stand at the places from .. from + n.
module _ {A : Type 0} (key : A → ℕ) (d : A) (f : ℕ → A) (from n : ℕ) where
  in_tabulated : (i : ℕ) → from ≤ i → i < from + n → get_or (tabulate from n f) (i - from) d ≡ f i
  in_tabulated i p q =
      let e : from + (i - from) ≡ i = omega arith in
      get_d_tabulate f from n (i - from) d (omega arith) ∙ ap f e

  -- Its keys rise exactly when they rise from place to place.
  pub rises_tabulated : ((i : ℕ) → from ≤ i → suc i < from + n → key (f i) < key (f (suc i))) → Rises key d (tabulate from n f)
  rises_tabulated h i g =
      let l = length-tabulate f from n in
      let s : suc (from + i) ≡ from + suc i = omega arith in
      rw (get_d_tabulate f from n i d (omega arith), get_d_tabulate f from n (suc i) d (omega arith), ← s) (h (from + i) (omega arith) (omega arith))

  pub tabulated_rises : Rises key d (tabulate from n f) → (i : ℕ) → from ≤ i → suc i < from + n → key (f i) < key (f (suc i))
  tabulated_rises r i p q =
      let l = length-tabulate f from n in
      let e : suc (i - from) ≡ suc i - from = omega arith in
      rw (e, in_tabulated i (omega arith) (omega arith), in_tabulated (suc i) (omega arith) (omega arith)) at (r (i - from) (omega arith))

  -- The place of k in it is at.
  module _ (k at : ℕ) (e : at ≡ from + below key (tabulate from n f) k) where
    pub place_within : (from ≤ at) × (at ≤ from + n)
    place_within =
        let l = length-tabulate f from n in
        let b = below_length key (tabulate from n f) k in
        (omega arith, omega arith)

    pub place_before : (i : ℕ) → from ≤ i → i < at → key (f i) < k
    place_before i p q =
        let l = length-tabulate f from n in
        let b = below_length key (tabulate from n f) k in
        rw (in_tabulated i p (omega arith)) at (before_below key d (tabulate from n f) k (i - from) (omega arith))

    pub place_up : (i : ℕ) → from ≤ i → i < from + n → k ≤ key (f i) → at ≤ i
    place_up i p q h =
        let b = below_up key d (tabulate from n f) k (i - from) (rw (in_tabulated i p q) h) in
        omega arith

    module _ (r : Rises key d (tabulate from n f)) where
      pub place_down : (i : ℕ) → from ≤ i → i < from + n → key (f i) < k → i < at
      place_down i p q h =
          let l = length-tabulate f from n in
          let b = below_down key d (tabulate from n f) r k (i - from) (omega arith) (rw (in_tabulated i p q) h) in
          omega arith

      pub place_none : (at < from + n → key (f at) ≡ k → ⊥) → find key (tabulate from n f) k ≡ none
      place_none h =
          find_none key d (tabulate from n f) r k
          (λ p q.
          let l = length-tabulate f from n in
          let b : at - from ≡ below key (tabulate from n f) k = omega arith in
          let g : at < from + n = omega arith in
          h g (sym (ap key (rw b at (in_tabulated at (omega arith) g))) ∙ q))

  -- Where keys rise, the thing of the key k is found at any place.
  pub place_hit : Rises key d (tabulate from n f) → (k i : ℕ) → from ≤ i → i < from + n → key (f i) ≡ k → find key (tabulate from n f) k ≡ some (f i)
  place_hit r k i p q h =
      let l = length-tabulate f from n in
      let g = in_tabulated i p q in
      find_rising key d (tabulate from n f) r k (i - from) (omega arith) (ap key g ∙ h) ∙ ap some g

  pub find_tabulated : (k : ℕ) → find key (tabulate from n f) k ≡ Option.map f (find (λ i. key (f i)) (tabulate from n itself) k)
  find_tabulated k = ap (λ (xs : List A). find key xs k) (sym (map-tabulate f itself from n)) ∙ find-map key f (tabulate from n itself) k
