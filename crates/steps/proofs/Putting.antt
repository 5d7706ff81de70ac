-- A thing put into a list by the place of its key among rising keys: over the one with its key, or in between.
use mathlib.Core.Path.{◌≡◌, refl, sym, ap, ◌∙◌}
use mathlib.Core.List.{List, [], ◌∷◌, ◌++◌}
use Prim.Native.Nat.{ℕ, suc, ◌<◌, ◌≤◌}
use native.Mathlib.Omega.{arith}
use native.Mathlib.Nat.{not-suc-le-zero}
use lib.ListN.{length, get_or, take, drop, set}
use borrow.Author.Tests.{lt-ltb, le-ltb}
use Rattle.lists.proofs.Orders.{Order, order?}
use Rattle.lists.proofs.Orders.Order.{less, equal, more}
use Rattle.store.specs.Workers.{below}
use Rattle.steps.specs.Entries.{put}
use Rattle.steps.proofs.NodeLists.{put_before, put_over, put_behind}

module _ {A : Type 0} (key : A → ℕ) where
  -- The place of a key in a list: past a smaller first key, and else at the front.
  below_behind : (y : A) (ys : List A) (k : ℕ) → key y < k → below key (y ∷ ys) k ≡ suc (below key ys k)
  unfolding below
  below_behind y ys k h = rw (lt-ltb (key y) k h)

  below_front : (y : A) (ys : List A) (k : ℕ) → k ≤ key y → below key (y ∷ ys) k ≡ 0
  unfolding below
  below_front y ys k h = rw (le-ltb (key y) k h)

  module _ (d x : A) where
    -- Where the thing at the place has the key, it is replaced,
    pub put-replaced : (ys : List A) (b : ℕ) → b ≡ below key ys (key x) → b < length ys → key (get_or ys b d) ≡ key x → put key x ys ≡ set ys b x
    put-replaced [] b p h e = absurd (not-suc-le-zero h)
    put-replaced (y ∷ ys) b p h e = go (order? (key x) (key y)) (put-replaced ys (below key ys (key x)) refl)
      where
        front : key x ≤ key y → b ≡ 0
        front g = p ∙ below_front y ys (key x) g

        go : Order (key x) (key y)
            → (below key ys (key x) < length ys → key (get_or ys (below key ys (key x)) d) ≡ key x → put key x ys ≡ set ys (below key ys (key x)) x)
            → put key x (y ∷ ys) ≡ set (y ∷ ys) b x
        go (less g) again = absurd (let q : key y ≡ key x = rw (front (omega arith)) at e in omega arith)
        go (equal g) again = rw (front (omega arith)) (put_over key x y ys g)
        go (more g) again =
            let q : b ≡ suc (below key ys (key x)) = p ∙ below_behind y ys (key x) g in
            rw q (put_behind key x y ys g ∙ ap (λ (l : List A). y ∷ l) (again (omega arith) (rw q at e)))

    -- and else it is put in between.
    pub put_added : (ys : List A) (b : ℕ) → b ≡ below key ys (key x) → (b < length ys → key (get_or ys b d) ≡ key x → ⊥)
        → put key x ys ≡ take b ys ++ x ∷ drop b ys
    unfolding below put
    put_added [] b p h = rw p
    put_added (y ∷ ys) b p h = go (order? (key x) (key y)) (put_added ys (below key ys (key x)) refl)
      where
        front : key x ≤ key y → b ≡ 0
        front g = p ∙ below_front y ys (key x) g

        go : Order (key x) (key y)
            → ((below key ys (key x) < length ys → key (get_or ys (below key ys (key x)) d) ≡ key x → ⊥)
            → put key x ys ≡ take (below key ys (key x)) ys ++ x ∷ drop (below key ys (key x)) ys)
            → put key x (y ∷ ys) ≡ take b (y ∷ ys) ++ x ∷ drop b (y ∷ ys)
        go (less g) again = rw (front (omega arith)) (put_before key x y ys g)
        go (equal g) again = absurd (let q = front (omega arith) in h (omega arith) (rw q (sym g)))
        go (more g) again =
            let q : b ≡ suc (below key ys (key x)) = p ∙ below_behind y ys (key x) g in
            rw q (put_behind key x y ys g ∙ ap (λ (l : List A). y ∷ l) (again (λ l e. h (omega arith) (rw q e))))
