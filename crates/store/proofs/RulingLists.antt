-- The tests of lists that the store rules are made of, each read by index and back: the number stands in the list, or at a place of
-- it; all numbers are different; all of a part are zero.
use mathlib.Core.Path.{◌≡◌, refl, sym, ap, ◌∙◌}
use mathlib.Core.Bool.{true, false, not}
use mathlib.Core.Logic.{◌⊎◌, ⊎_elim, inl, inr}
use mathlib.Core.List.{List, [], ◌∷◌, ◌++◌}
use Prim.Native.Nat.{ℕ, zero, suc, ◌+◌, ◌-◌, ◌<◌, ◌≤◌}
use native.Mathlib.Omega.{arith}
use native.Mathlib.Nat.{le_of_suc-le-suc, not-suc-le-zero}
use lib.Dec.{eqb}
use lib.ListN.{length, get_or, take, length-take, length-drop}
use lib.Seq.{slice, get_or-take, get_or-drop}
use borrow.Author.Tests.{eqb-true, eq-eqb, not-true}
use Rattle.lists.specs.Indexed.{tabulate}
use Rattle.lists.proofs.Truths.{bool?, not_both, and_left, and_right, and_both, or_cases}
use Rattle.std.proofs.lemmas.Bool.{or_left, or_right}
use Rattle.lists.proofs.Tabulating.{length-tabulate, get_d_tabulate}
use Rattle.store.specs.Copies.{member, different}
use Rattle.store.specs.StoreRules.{all_zero, stands_at}

-- The number stands in the list,
pub member_at : (n : ℕ) (l : List ℕ) → member n l ≡ true → (i : ℕ) × (i < length l) × (get_or l i 0 ≡ n)
unfolding member
member_at n [] t = absurd (not_both t refl)
member_at n (m ∷ ms) t =
    ⊎_elim (λ (e : eqb n m ≡ true). (0, omega arith, sym (eqb-true n m e)))
    (λ (r : member n ms ≡ true).
    let w = member_at n ms r in
    (suc w.0, omega (arith, w.1), w.2))
    (or_cases (eqb n m) (member n ms) t)

pub at_member : (l : List ℕ) (i : ℕ) → i < length l → member (get_or l i 0) l ≡ true
unfolding member
at_member [] i h = absurd (not-suc-le-zero h)
at_member (m ∷ ms) zero h = or_left (eqb m m) (member m ms) (eq-eqb m m refl)
at_member (m ∷ ms) (suc i) h = or_right (eqb (get_or ms i 0) m) (member (get_or ms i 0) ms) (at_member ms i (le_of_suc-le-suc h))

-- and at a place of it.
pub stands_at_lem : (n : ℕ) (l : List ℕ) (i : ℕ) → stands_at n l i ≡ true → (i < length l) × (get_or l i 0 ≡ n)
unfolding stands_at
stands_at_lem n [] i t = absurd (not_both t refl)
stands_at_lem n (m ∷ ms) zero t = (omega arith, sym (eqb-true n m t))
stands_at_lem n (m ∷ ms) (suc i) t =
    let w = stands_at_lem n ms i t in
    (omega (arith, w.0), w.1)

pub at_stands : (n : ℕ) (l : List ℕ) (i : ℕ) → i < length l → get_or l i 0 ≡ n → stands_at n l i ≡ true
unfolding stands_at
at_stands n [] i h e = absurd (not-suc-le-zero h)
at_stands n (m ∷ ms) zero h e = eq-eqb n m (sym e)
at_stands n (m ∷ ms) (suc i) h e = at_stands n ms i (le_of_suc-le-suc h) e

-- All numbers from an index up to another are zero.
zeros_at : (l : List ℕ) → all_zero l ≡ true → (i : ℕ) → get_or l i 0 ≡ 0
unfolding all_zero
zeros_at [] t i = refl
zeros_at (x ∷ xs) t zero = eqb-true x 0 (and_left (eqb x 0) (all_zero xs) t)
zeros_at (x ∷ xs) t (suc i) = zeros_at xs (and_right (eqb x 0) (all_zero xs) t) i

at_zeros : (l : List ℕ) → ((i : ℕ) → i < length l → get_or l i 0 ≡ 0) → all_zero l ≡ true
unfolding all_zero
at_zeros [] z = refl
at_zeros (x ∷ xs) z = and_both (eq-eqb x 0 (z 0 (omega arith))) (at_zeros xs (λ i h. z (suc i) (omega arith)))

pub zeros_between : (from to : ℕ) (l : List ℕ) → all_zero (slice from to l) ≡ true → (i : ℕ) → from ≤ i → i < to → get_or l i 0 ≡ 0
zeros_between from to l t i h g =
    let e : from + (i - from) ≡ i = omega arith in
    sym (get_or-take to l i 0 g) ∙ ap (λ (j : ℕ). get_or (take to l) j 0) (sym e) ∙ sym (get_or-drop from (take to l) (i - from) 0)
    ∙ zeros_at (slice from to l) t (i - from)

pub between_zeros : (from to : ℕ) (l : List ℕ) → ((i : ℕ) → from ≤ i → i < to → get_or l i 0 ≡ 0) → all_zero (slice from to l) ≡ true
between_zeros from to l z =
    at_zeros (slice from to l) (λ i h.
    let g : from + i < to = omega (arith, length-drop from (take to l), length-take to l) in
    get_or-drop from (take to l) i 0 ∙ get_or-take to l (from + i) 0 g ∙ z (from + i) (omega arith) g)

-- Numbers are all different: no number stands at two indexes.
different_at : (l : List ℕ) → different l ≡ true → (i j : ℕ) → i < length l → j < length l → get_or l i 0 ≡ get_or l j 0 → i ≡ j
unfolding different
different_at [] t i j h g e = absurd (not-suc-le-zero h)
different_at (x ∷ xs) t zero zero h g e = refl
different_at (x ∷ xs) t zero (suc j) h g e =
    absurd (not_both (rw e (at_member xs j (le_of_suc-le-suc g))) (not-true (member x xs) (and_left (not (member x xs)) (different xs) t)))
different_at (x ∷ xs) t (suc i) zero h g e =
    absurd (not_both (rw (sym e) (at_member xs i (le_of_suc-le-suc h))) (not-true (member x xs) (and_left (not (member x xs)) (different xs) t)))
different_at (x ∷ xs) t (suc i) (suc j) h g e =
    ap suc (different_at xs (and_right (not (member x xs)) (different xs) t) i j (le_of_suc-le-suc h) (le_of_suc-le-suc g) e)

at_different : (l : List ℕ) → ((i j : ℕ) → i < length l → j < length l → get_or l i 0 ≡ get_or l j 0 → i ≡ j) → different l ≡ true
unfolding different
at_different [] d = refl
at_different (x ∷ xs) d =
    and_both (ap not alone) (at_different xs (λ i j h g e. let q : suc i ≡ suc j = d (suc i) (suc j) (omega arith) (omega arith) e in omega arith))
  where
    alone : member x xs ≡ false
    alone =
        ⊎_elim (λ (t : member x xs ≡ true).
        let w = member_at x xs t in
        let q : 0 ≡ suc w.0 = d 0 (suc w.0) (omega arith) (omega (arith, w.1)) (sym w.2) in
        absurd (omega arith))
        (λ (t : member x xs ≡ false). t)
        (bool? (member x xs))

-- The same of a tabulated list, by its numbers.
module _ (f : ℕ → ℕ) (i n : ℕ) where
  tabulated_at : (j : ℕ) → i ≤ j → j < i + n → get_or (tabulate i n f) (j - i) 0 ≡ f j
  tabulated_at j h g =
      let e : i + (j - i) ≡ j = omega arith in
      get_d_tabulate f i n (j - i) 0 (omega arith) ∙ ap f e

  pub member_tabulated : (t : ℕ) → member t (tabulate i n f) ≡ true → (j : ℕ) × (i ≤ j) × (j < i + n) × (f j ≡ t)
  member_tabulated t m =
      let w = member_at t (tabulate i n f) m in
      let h : w.0 < n = omega (arith, w.1, length-tabulate f i n) in
      (i + w.0, omega arith, omega arith, sym (get_d_tabulate f i n w.0 0 h) ∙ w.2)

  pub tabulated_member : (j : ℕ) → i ≤ j → j < i + n → member (f j) (tabulate i n f) ≡ true
  tabulated_member j h g =
      rw (tabulated_at j h g) at (at_member (tabulate i n f) (j - i) (omega (arith, length-tabulate f i n)))

  pub different_tabulated : different (tabulate i n f) ≡ true
      → (j k : ℕ) → i ≤ j → j < i + n → i ≤ k → k < i + n → f j ≡ f k → j ≡ k
  different_tabulated d j k a b c e q =
      let l = length-tabulate f i n in
      let r : j - i ≡ k - i =
      different_at (tabulate i n f) d (j - i) (k - i) (omega arith) (omega arith) (tabulated_at j a b ∙ q ∙ sym (tabulated_at k c e))
      in
      omega arith

  pub tabulated_different : ((j k : ℕ) → i ≤ j → j < i + n → i ≤ k → k < i + n → f j ≡ f k → j ≡ k)
      → different (tabulate i n f) ≡ true
  tabulated_different d =
      at_different (tabulate i n f) (λ j k h g e.
      let a : j < n = omega (arith, length-tabulate f i n) in
      let b : k < n = omega (arith, length-tabulate f i n) in
      let r : i + j ≡ i + k =
      d (i + j) (i + k) (omega arith) (omega arith) (omega arith) (omega arith) (sym (get_d_tabulate f i n j 0 a) ∙ e ∙ get_d_tabulate f i n k 0 b)
      in
      omega arith)

-- The same of two lists, one after the other.
pub member_left : (n : ℕ) (l m : List ℕ) → member n l ≡ true → member n (l ++ m) ≡ true
unfolding member
member_left n [] m t = absurd (not_both t refl)
member_left n (x ∷ l) m t =
    ⊎_elim (λ (e : eqb n x ≡ true). or_left (eqb n x) (member n (l ++ m)) e)
    (λ (e : member n l ≡ true). or_right (eqb n x) (member n (l ++ m)) (member_left n l m e))
    (or_cases (eqb n x) (member n l) t)

pub member_right : (n : ℕ) (l m : List ℕ) → member n m ≡ true → member n (l ++ m) ≡ true
unfolding member
member_right n [] m t = t
member_right n (x ∷ l) m t = or_right (eqb n x) (member n (l ++ m)) (member_right n l m t)

pub member_sides : (n : ℕ) (l m : List ℕ) → member n (l ++ m) ≡ true → (member n l ≡ true) ⊎ (member n m ≡ true)
unfolding member
member_sides n [] m t = inr t
member_sides n (x ∷ l) m t =
    ⊎_elim (λ (e : eqb n x ≡ true). inl (or_left (eqb n x) (member n l) e))
    (λ (e : member n (l ++ m) ≡ true).
    ⊎_elim (λ (a : member n l ≡ true). inl (or_right (eqb n x) (member n l) a)) (λ (b : member n m ≡ true). inr b) (member_sides n l m e))
    (or_cases (eqb n x) (member n (l ++ m)) t)

-- Two lists have different numbers in all.
pub record BothDifferent (l m : List ℕ) : Type 0 where
  pub first : different l ≡ true
  pub second : different m ≡ true
  pub no_shared : (n : ℕ) → member n l ≡ true → member n m ≡ true → ⊥

pub different_both : (l m : List ℕ) → different (l ++ m) ≡ true → BothDifferent l m
unfolding different member
different_both [] m t = record { first = refl; second = t; no_shared = λ n a b. not_both a refl }
different_both (x ∷ l) m t =
    let w = different_both l m (and_right (not (member x (l ++ m))) (different (l ++ m)) t) in
    let x-once = not-true (member x (l ++ m)) (and_left (not (member x (l ++ m))) (different (l ++ m)) t) in
    record {
      first = and_both (ap not (x_not x-once)) w.first;
      second = w.second;
      no_shared = λ n a b.
          ⊎_elim (λ (e : eqb n x ≡ true). not_both (member_right x l m (rw (eqb-true n x e) at b)) x-once)
          (λ (e : member n l ≡ true). w.no_shared n e b)
          (or_cases (eqb n x) (member n l) a);
    }
  where
    x_not : member x (l ++ m) ≡ false → member x l ≡ false
    x_not f =
        ⊎_elim (λ (e : member x l ≡ true). absurd (not_both (member_left x l m e) f)) (λ (e : member x l ≡ false). e) (bool? (member x l))

pub both_different : (l m : List ℕ) → BothDifferent l m → different (l ++ m) ≡ true
unfolding different member
both_different [] m d = d.second
both_different (x ∷ l) m d =
    and_both (ap not alone)
    (both_different l m
    (record {
      first = and_right (not (member x l)) (different l) d.first;
      second = d.second;
      no_shared = λ n a b. d.no_shared n (or_right (eqb n x) (member n l) a) b;
    }))
  where
    alone : member x (l ++ m) ≡ false
    alone =
        ⊎_elim (λ (t : member x (l ++ m) ≡ true).
        absurd
        (⊎_elim (λ (a : member x l ≡ true). not_both a (not-true (member x l) (and_left (not (member x l)) (different l) d.first)))
        (λ (b : member x m ≡ true). d.no_shared x (or_left (eqb x x) (member x l) (eq-eqb x x refl)) b)
        (member_sides x l m t)))
        (λ (t : member x (l ++ m) ≡ false). t)
        (bool? (member x (l ++ m)))
