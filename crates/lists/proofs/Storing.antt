-- Laws of stores into a list by index: stores in a row, a store into a tabulated list, and a list of one element only.
use mathlib.Core.Path.{◌≡◌, refl, sym, ap, ◌∙◌}
use mathlib.Core.List.{List, [], ◌∷◌, ◌++◌, map}
use Prim.Native.Nat.{ℕ, zero, suc, ◌+◌, ◌<◌, ◌≤◌}
use native.Mathlib.Omega.{arith}
use native.Mathlib.Nat.{add-suc, suc-add, add-zero, zero-add}
use native.Mathlib.Decide.{ℕ_discrete}
use lib.ListN.{length, get_or, set, replicate, length-set}
use lib.Seq.{sets, set_comm, get_or-set_same, get_or-set_other}
use Rattle.lists.specs.Indexed.{tabulate}
use Rattle.lists.proofs.Tabulating.{length-tabulate, get_d_from_start, as_tabulate}

-- Stores in a row leave what stands before and after them, and put their elements in between.
module _ {A : Type 0} where
  pub sets_below : (vs l : List A) (i j : ℕ) (d : A) → j < i → get_or (sets l i vs) j d ≡ get_or l j d
  sets_below [] l i j d h = refl
  sets_below (v ∷ vs) l i j d h = sets_below vs (set l i v) (suc i) j d (omega arith) ∙ get_or-set_other l i j v d (λ e. omega arith)

  pub sets_past : (vs l : List A) (i j : ℕ) (d : A) → i + length vs ≤ j → get_or (sets l i vs) j d ≡ get_or l j d
  sets_past [] l i j d h = refl
  sets_past (v ∷ vs) l i j d h = sets_past vs (set l i v) (suc i) j d (omega arith) ∙ get_or-set_other l i j v d (λ e. omega arith)

  pub sets_inside : (vs l : List A) (i k : ℕ) (d : A) → i + length vs ≤ length l → k < length vs → get_or (sets l i vs) (i + k) d ≡ get_or vs k d
  sets_inside [] l i k d h g = absurd (omega arith)
  sets_inside (v ∷ vs) l i zero d h g =
      rw add-zero (sets_below vs (set l i v) (suc i) i d (omega arith) ∙ get_or-set_same l i v d (omega arith))
  sets_inside (v ∷ vs) l i (suc k) d h g =
      ap (λ (n : ℕ). get_or (sets (set l i v) (suc i) vs) n d) (add-suc i k ∙ sym (suc-add i k))
      ∙ sets_inside vs (set l i v) (suc i) k d (rw length-set (omega arith)) (omega arith)

  -- A store past stores in a row may come first; right behind them, it is one more in the row.
  pub sets_later : (vs l : List A) (i k : ℕ) (x : A) → i + length vs ≤ k → sets (set l k x) i vs ≡ set (sets l i vs) k x
  sets_later [] l i k x h = refl
  sets_later (v ∷ vs) l i k x h =
      ap (λ (r : List A). sets r (suc i) vs) (set_comm l k i x v (λ (q : k ≡ i). omega arith))
      ∙ sets_later vs (set l i v) (suc i) k x (omega arith)

  pub sets_snoc : (vs l : List A) (i : ℕ) (x : A) → sets l i (vs ++ x ∷ []) ≡ set (sets l i vs) (i + length vs) x
  sets_snoc [] l i x = rw add-zero
  sets_snoc (v ∷ vs) l i x =
      let k : i + suc (length vs) ≡ suc i + length vs = omega arith in
      rw k (sets_snoc vs (set l i v) (suc i) x)

  -- A store into a tabulated list gives the one that differs there.
  pub set_tabulated : (f g : ℕ → A) (n k : ℕ) (v : A) → g k ≡ v → ((j : ℕ) → (j ≡ k → ⊥) → g j ≡ f j) → set (tabulate 0 n f) k v ≡ tabulate 0 n g
  set_tabulated f g n k v here others =
      as_tabulate g (set (tabulate 0 n f) k v) 0 n v (length-set (tabulate 0 n f) k v ∙ length-tabulate f 0 n) (λ j h. rw zero-add (go j h (ℕ_discrete j k)))
    where
      go : (j : ℕ) → j < n → Dec (j ≡ k) → get_or (set (tabulate 0 n f) k v) j v ≡ g j
      go j h (yes e) = rw e (get_or-set_same (tabulate 0 n f) k v v (omega (arith, length-tabulate f 0 n)) ∙ sym here)
      go j h (no e) = get_or-set_other (tabulate 0 n f) k j v v e ∙ get_d_from_start f n j v h ∙ sym (others j e)

  -- One element over and over, read with that element as what stands past the end.
  pub get_d_same : (n i : ℕ) (d : A) → get_or (replicate n d) i d ≡ d
  get_d_same zero i d = refl
  get_d_same (suc n) zero d = refl
  get_d_same (suc n) (suc i) d = get_d_same n i d

-- An element of a map, whatever stands past its end.
pub get_d_map : {A B : Type 0} (f : A → B) (l : List A) (i : ℕ) (d : A) (e : B) → i < length l → get_or (map f l) i e ≡ f (get_or l i d)
get_d_map f [] i d e h = absurd (omega arith)
get_d_map f (x ∷ l) zero d e h = refl
get_d_map f (x ∷ l) (suc i) d e h = get_d_map f l i d e (omega arith)
