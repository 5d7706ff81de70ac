-- Laws of tabulated lists: their length and elements, when a list is one, and tests at each of some numbers in a row.
use mathlib.Core.Path.{◌≡◌, refl, sym, ap, ◌∙◌}
use mathlib.Core.Bool.{Bool, true, false, ◌&&◌}
use mathlib.Core.List.{List, [], ◌∷◌, ◌++◌, map}
use Prim.Native.Nat.{ℕ, zero, suc, ◌+◌, ◌-◌, ◌<◌, ◌≤◌}
use native.Mathlib.Omega.{arith}
use native.Mathlib.Nat.{add-suc, suc-add, add-zero, zero-add}
use native.Mathlib.Decide.{dec_lt}
use native.Mathlib.Numerals.{add-one}
use lib.ListN.{length, get_or, get_or-eq_default}
use lib.Seq.{ext_get_or}
use Rattle.lists.specs.Indexed.{tabulate, all_from, all_below}
use Rattle.lists.proofs.Truths.{and_left, and_right, and_both}

module _ {A : Type 0} (f : ℕ → A) where
  pub length-tabulate : (i n : ℕ) → length (tabulate i n f) ≡ n
  unfolding tabulate
  length-tabulate i zero = refl
  length-tabulate i (suc n) = ap suc (length-tabulate (suc i) n)

  pub get_d_tabulate : (i n j : ℕ) (d : A) → j < n → get_or (tabulate i n f) j d ≡ f (i + j)
  unfolding tabulate
  get_d_tabulate i zero j d h = absurd (omega arith)
  get_d_tabulate i (suc n) zero d h = ap f (sym (add-zero i))
  get_d_tabulate i (suc n) (suc j) d h = get_d_tabulate (suc i) n j d (omega arith) ∙ ap f (suc-add i j ∙ sym (add-suc i j))

  -- From 0 on the index is the number.
  pub get_d_from_start : (n j : ℕ) (d : A) → j < n → get_or (tabulate 0 n f) j d ≡ f j
  get_d_from_start n j d h = get_d_tabulate 0 n j d h ∙ ap f (zero-add j)

  -- A list whose elements are f's is f, tabulated.
  pub as_tabulate : (l : List A) (i n : ℕ) (d : A) → length l ≡ n → ((j : ℕ) → j < n → get_or l j d ≡ f (i + j)) → l ≡ tabulate i n f
  as_tabulate l i n d h k =
      ext_get_or d l (tabulate i n f) (h ∙ sym (length-tabulate i n)) (λ j g. let m : j < n = omega arith in k j m ∙ sym (get_d_tabulate i n j d m))

-- Two tabulated lists with the same elements are one.
pub same_tabulate : {A : Type 0} (f g : ℕ → A) (i n : ℕ) → ((j : ℕ) → i ≤ j → j < i + n → f j ≡ g j) → tabulate i n f ≡ tabulate i n g
unfolding tabulate
same_tabulate f g i zero h = refl
same_tabulate {A} f g i (suc n) h =
    ap (λ (x : A). x ∷ tabulate (suc i) n f) (h i (omega arith) (omega arith))
    ∙ ap (λ (l : List A). g i ∷ l) (same_tabulate f g (suc i) n (λ j p q. h j (omega arith) (omega arith)))

pub map-tabulate : {A B : Type 0} (g : A → B) (f : ℕ → A) (i n : ℕ) → map g (tabulate i n f) ≡ tabulate i n (λ j. g (f j))
unfolding tabulate
map-tabulate g f i zero = refl
map-tabulate {B = B} g f i (suc n) = ap (λ (l : List B). g (f i) ∷ l) (map-tabulate g f (suc i) n)

-- A tabulated list can be cut in two.
pub tabulate_split : {A : Type 0} (f : ℕ → A) (i n m : ℕ) → tabulate i (n + m) f ≡ tabulate i n f ++ tabulate (i + n) m f
unfolding tabulate
tabulate_split f i zero m = rw (zero-add, add-zero)
tabulate_split {A} f i (suc n) m =
    let s : suc i + n ≡ i + suc n = omega arith in
    rw (suc-add, ← s) (ap (λ (l : List A). f i ∷ l) (tabulate_split f (suc i) n m))

-- A test at each of the n numbers from i on holds exactly when it holds at each of them.
pub all_at : (f : ℕ → Bool) (i n : ℕ) → all_from i n f ≡ true → (j : ℕ) → i ≤ j → j < i + n → f j ≡ true
unfolding all_from
all_at f i zero t j p q = absurd (omega arith)
all_at f i (suc n) t j p q = go (dec_lt i j) (λ r. all_at f (suc i) n (and_right (f i) (all_from (suc i) n f) t) j r (omega arith))
  where
    go : Dec (i < j) → (i < j → f j ≡ true) → f j ≡ true
    go (yes r) again = again r
    go (no r) again = let e : j ≡ i = omega arith in rw e (and_left (f i) (all_from (suc i) n f) t)

pub at_all : (f : ℕ → Bool) (i n : ℕ) → ((j : ℕ) → i ≤ j → j < i + n → f j ≡ true) → all_from i n f ≡ true
unfolding all_from
at_all f i zero h = refl
at_all f i (suc n) h = and_both (h i (omega arith) (omega arith)) (at_all f (suc i) n (λ j p q. h j (omega arith) (omega arith)))

pub all-below : (f : ℕ → Bool) (n : ℕ) → all_below n f ≡ true → (j : ℕ) → j < n → f j ≡ true
all-below f n t j h = all_at f 0 n t j (omega arith) (omega arith)

pub below_all : (f : ℕ → Bool) (n : ℕ) → ((j : ℕ) → j < n → f j ≡ true) → all_below n f ≡ true
below_all f n h = at_all f 0 n (λ j p q. h j (omega arith))

-- One turn of a loop that tests from i on: it fails here, goes on, or is at its end.
pub all_stop : (f : ℕ → Bool) (i n : ℕ) → i < n → f i ≡ false → all_from i (n - i) f ≡ false
unfolding all_from
all_stop f i n h e = let s : n - i ≡ suc (n - suc i) = omega arith in rw (s, e)

pub all_turn : (f : ℕ → Bool) (i n : ℕ) → i < n → f i ≡ true → all_from i (n - i) f ≡ all_from (i + 1) (n - (i + 1)) f
unfolding all_from
all_turn f i n h e = let s : n - i ≡ suc (n - (i + 1)) = omega arith in rw (s, e, add-one)

pub all_end : (f : ℕ → Bool) (i n : ℕ) → n ≤ i → all_from i (n - i) f ≡ true
unfolding all_from
all_end f i n h = let s : n - i ≡ 0 = omega arith in rw s

-- A list whose elements are f's from 0 on is f, tabulated from 0.
pub as_from_start : {A : Type 0} (f : ℕ → A) (l : List A) (n : ℕ) (d : A) → length l ≡ n → ((j : ℕ) → j < n → get_or l j d ≡ f j) → l ≡ tabulate 0 n f
as_from_start f l n d h k = as_tabulate f l 0 n d h (λ j g. k j g ∙ ap f (sym (zero-add j)))

-- Past its end stands the default.
pub get_d_tabulate_past : {A : Type 0} (f : ℕ → A) (i n j : ℕ) (d : A) → n ≤ j → get_or (tabulate i n f) j d ≡ d
get_d_tabulate_past f i n j d h = get_or-eq_default (tabulate i n f) d (omega (arith, length-tabulate f i n))

-- Two tests that are the same at each of the numbers are the same for all of them,
pub same_all : (f g : ℕ → Bool) (i n : ℕ) → ((j : ℕ) → f j ≡ g j) → all_from i n f ≡ all_from i n g
unfolding all_from
same_all f g i zero h = refl
same_all f g i (suc n) h = rw (h i, same_all f g (suc i) n h)

-- and a test of two parts holds for all of them exactly when each part does.
pub all_and : (f g : ℕ → Bool) (i n : ℕ) → all_from i n (λ j. f j && g j) ≡ (all_from i n f && all_from i n g)
unfolding all_from
all_and f g i zero = refl
all_and f g i (suc n) = rw (all_and f g (suc i) n) (go (f i) (g i) (all_from (suc i) n f) (all_from (suc i) n g))
  where
    go : (a b c d : Bool) → (a && b) && (c && d) ≡ (a && c) && (b && d)
    go false b c d = refl
    go true b true d = refl
    go true true false d = refl
    go true false false d = refl

-- A list tabulated up to a number: its first element and the list after it, or nothing.
module _ {A : Type 0} (f : ℕ → A) (i n : ℕ) where
  pub tabulate_on : i < n → tabulate i (n - i) f ≡ f i ∷ tabulate (suc i) (n - suc i) f
  unfolding tabulate
  tabulate_on h = let s : n - i ≡ suc (n - suc i) = omega arith in rw s

  pub tabulate_off : n ≤ i → tabulate i (n - i) f ≡ []
  unfolding tabulate
  tabulate_off h = let s : n - i ≡ 0 = omega arith in rw s
