-- A node's list, of any things with rising keys: what `find`, `put` and `room` give.
use mathlib.Core.Path.{◌≡◌, refl, sym, ap, ◌∙◌}
use mathlib.Core.Bool.{true, false}
use mathlib.Core.Logic.{◌≢◌, ◌⊎◌, inl, inr}
use mathlib.Core.List.{List, [], ◌∷◌}
use mathlib.Core.Option.{none, some}
use Prim.Native.Nat.{ℕ, zero, suc, ◌<◌, ◌≤◌}
use native.Mathlib.Omega.{arith}
use native.Mathlib.Nat.{le_of_suc-le-suc, not-suc-le-zero}
use native.Mathlib.Decide.{ℕ_discrete}
use lib.Dec.{ltb}
use lib.ListN.{length, get_or}
use borrow.Author.Tests.{ltb-true, lt-ltb, le-ltb, eq-eqb, ne_eqb}
use Rattle.lists.proofs.Truths.{not_both}
use Rattle.std.proofs.lemmas.Bool.{or_right}
use Rattle.lists.proofs.Options.{option?, not_none_and_some, one_some}
use Rattle.lists.proofs.Orders.{Order, order?}
use Rattle.lists.proofs.Orders.Order.{less, equal, more}
use Rattle.lists.proofs.RisingKeys.{Rising, rising_from, rising_least}
use Rattle.lists.proofs.RisingKeys.Rising.{end, above}
use Rattle.store.specs.Copies.{find, is_some}
use Rattle.steps.specs.Entries.{put, room}

module _ {A : Type 0} (key : A → ℕ) where
  -- The look in a list: its first thing has the key,
  pub find_same : (x : A) (xs : List A) (k : ℕ) → key x ≡ k → find key (x ∷ xs) k ≡ some x
  unfolding find
  find_same x xs k e = rw (eq-eqb (key x) k e)

  -- or the look goes on.
  pub find_other : (x : A) (xs : List A) (k : ℕ) → key x ≢ k → find key (x ∷ xs) k ≡ find key xs k
  unfolding find
  find_other x xs k e = rw (ne_eqb (key x) k e)

  pub find_empty : (k : ℕ) → find key [] k ≡ none
  unfolding find
  find_empty k = refl

  find_on : (y : A) (xs ys : List A) (k : ℕ) → find key xs k ≡ find key ys k → find key (y ∷ xs) k ≡ find key (y ∷ ys) k
  unfolding find
  find_on y xs ys k e = rw e

  -- What is found has the key,
  pub find_key : (xs : List A) (k : ℕ) (x : A) → find key xs k ≡ some x → key x ≡ k
  find_key [] k x e = absurd (not_none_and_some (find_empty k) e)
  find_key (y ∷ xs) k x e = go (ℕ_discrete (key y) k) (find_key xs k x)
    where
      go : Dec (key y ≡ k) → (find key xs k ≡ some x → key x ≡ k) → key x ≡ k
      go (yes q) again = ap key (one_some e (find_same y xs k q)) ∙ q
      go (no q) again = again (sym (find_other y xs k q) ∙ e)

  -- and a place.
  pub find_place : (xs : List A) (k : ℕ) (x d : A) → find key xs k ≡ some x → (i : ℕ) × (i < length xs) × (get_or xs i d ≡ x)
  find_place [] k x d e = absurd (not_none_and_some (find_empty k) e)
  find_place (y ∷ xs) k x d e = go (ℕ_discrete (key y) k) (find_place xs k x d)
    where
      go : Dec (key y ≡ k) → (find key xs k ≡ some x → (i : ℕ) × (i < length xs) × (get_or xs i d ≡ x))
          → (i : ℕ) × (i < suc (length xs)) × (get_or (y ∷ xs) i d ≡ x)
      go (yes q) again = (0, omega arith, one_some (find_same y xs k q) e)
      go (no q) again =
          let w = again (sym (find_other y xs k q) ∙ e) in
          (suc w.0, omega (arith, w.1), w.2)

  -- In a list with rising keys a key below the bound is not found,
  pub find_low : {b : ℕ} {xs : List A} → Rising key b xs → (k : ℕ) → k < b → find key xs k ≡ none
  find_low end k h = find_empty k
  find_low (above {x = x} {xs = xs} g r) k h =
      find_other x xs k (λ (e : key x ≡ k). omega arith) ∙ find_low r k (omega arith)

  -- and the key at each place gives what stands there.
  pub find_at : {b : ℕ} {xs : List A} → Rising key b xs → (d : A) (i : ℕ) → i < length xs
      → find key xs (key (get_or xs i d)) ≡ some (get_or xs i d)
  find_at end d i h = absurd (not-suc-le-zero h)
  find_at (above {x = x} {xs = xs} g r) d zero h = find_same x xs (key x) refl
  find_at (above {x = x} {xs = xs} g r) d (suc i) h =
      let q = le_of_suc-le-suc h in
      find_other x xs (key (get_or xs i d)) (λ (e : key x ≡ key (get_or xs i d)). omega (arith, rising_least key r d i q))
      ∙ find_at r d i q

  -- A thing is put before a larger key,
  pub put_before : (x y : A) (ys : List A) → key x < key y → put key x (y ∷ ys) ≡ x ∷ y ∷ ys
  unfolding put
  put_before x y ys h = rw (lt-ltb (key x) (key y) h)

  -- into the place of its own,
  pub put_over : (x y : A) (ys : List A) → key x ≡ key y → put key x (y ∷ ys) ≡ x ∷ ys
  unfolding put
  put_over x y ys e = rw (le-ltb (key x) (key y) (omega arith), eq-eqb (key x) (key y) e)

  -- and behind a smaller one.
  pub put_behind : (x y : A) (ys : List A) → key y < key x → put key x (y ∷ ys) ≡ y ∷ put key x ys
  unfolding put
  put_behind x y ys h =
      rw (le-ltb (key x) (key y) (omega arith), ne_eqb (key x) (key y) (λ (e : key x ≡ key y). omega arith))

  -- After a put its key gives the thing,
  pub put_same : (x : A) (ys : List A) (k : ℕ) → key x ≡ k → find key (put key x ys) k ≡ some x
  unfolding put
  put_same x [] k e = find_same x [] k e
  put_same x (y ∷ ys) k e = go (order? (key x) (key y)) (put_same x ys k e)
    where
      go : Order (key x) (key y) → find key (put key x ys) k ≡ some x → find key (put key x (y ∷ ys)) k ≡ some x
      go (less h) again = rw (put_before x y ys h) (find_same x (y ∷ ys) k e)
      go (equal h) again = rw (put_over x y ys h) (find_same x ys k e)
      go (more h) again = rw (put_behind x y ys h) (find_other y (put key x ys) k (λ (q : key y ≡ k). omega arith) ∙ again)

  -- and every other key what it gave before.
  pub put_other : (x : A) (ys : List A) (k : ℕ) → key x ≢ k → find key (put key x ys) k ≡ find key ys k
  unfolding put
  put_other x [] k e = find_other x [] k e
  put_other x (y ∷ ys) k e = go (order? (key x) (key y)) (put_other x ys k e)
    where
      go : Order (key x) (key y) → find key (put key x ys) k ≡ find key ys k → find key (put key x (y ∷ ys)) k ≡ find key (y ∷ ys) k
      go (less h) again = rw (put_before x y ys h) (find_other x (y ∷ ys) k e)
      go (equal h) again =
          rw (put_over x y ys h) (find_other x ys k e ∙ sym (find_other y ys k (λ (q : key y ≡ k). e (h ∙ q))))
      go (more h) again = rw (put_behind x y ys h) (find_on y (put key x ys) ys k again)

  -- Keys rise after a put as before.
  pub put_rising : (x : A) {b : ℕ} {ys : List A} → b ≤ key x → Rising key b ys → Rising key b (put key x ys)
  unfolding put
  put_rising x h end = above h end
  put_rising x {b = b} h (above {x = y} {xs = ys} g r) = go (order? (key x) (key y)) (λ q. put_rising x q r)
    where
      go : Order (key x) (key y) → (key y < key x → Rising key (suc (key y)) (put key x ys)) → Rising key b (put key x (y ∷ ys))
      go (less q) again = rw (put_before x y ys q) (above h (above q r))
      go (equal q) again = rw (put_over x y ys q) (above h (rising_from key (omega arith) r))
      go (more q) again = rw (put_behind x y ys q) (above g (again q))

  -- A put adds at most one,
  pub put_most : (x : A) (ys : List A) → length (put key x ys) ≤ suc (length ys)
  unfolding put
  put_most x [] = omega arith
  put_most x (y ∷ ys) = go (order? (key x) (key y)) (put_most x ys)
    where
      go : Order (key x) (key y) → length (put key x ys) ≤ suc (length ys) → length (put key x (y ∷ ys)) ≤ suc (suc (length ys))
      go (less h) again = rw (put_before x y ys h) (omega arith)
      go (equal h) again = rw (put_over x y ys h) (omega arith)
      go (more h) again = rw (put_behind x y ys h) (omega arith)

  -- one where the key was not there,
  pub put_adds : (x : A) (ys : List A) → find key ys (key x) ≡ none → length (put key x ys) ≡ suc (length ys)
  unfolding put
  put_adds x [] e = refl
  put_adds x (y ∷ ys) e = go (order? (key x) (key y)) (put_adds x ys)
    where
      go : Order (key x) (key y) → (find key ys (key x) ≡ none → length (put key x ys) ≡ suc (length ys))
          → length (put key x (y ∷ ys)) ≡ suc (suc (length ys))
      go (less h) again = rw (put_before x y ys h)
      go (equal h) again = absurd (not_none_and_some e (find_same y ys (key x) (sym h)))
      go (more h) again =
          rw (put_behind x y ys h) (ap suc (again (sym (find_other y ys (key x) (λ (q : key y ≡ key x). omega arith)) ∙ e)))

  -- none where it was.
  pub put_replaces : (x y : A) {b : ℕ} {ys : List A} → Rising key b ys → find key ys (key x) ≡ some y → length (put key x ys) ≡ length ys
  put_replaces x y end e = absurd (not_none_and_some (find_empty (key x)) e)
  put_replaces x y (above {x = z} {xs = ys} g r) e = go (order? (key x) (key z)) (put_replaces x y r)
    where
      go : Order (key x) (key z) → (find key ys (key x) ≡ some y → length (put key x ys) ≡ length ys)
          → length (put key x (z ∷ ys)) ≡ suc (length ys)
      go (less h) again =
          absurd
          (not_none_and_some (find_other z ys (key x) (λ (q : key z ≡ key x). omega arith) ∙ find_low r (key x) (omega arith)) e)
      go (equal h) again = rw (put_over x z ys h)
      go (more h) again =
          rw (put_behind x z ys h) (ap suc (again (sym (find_other z ys (key x) (λ (q : key z ≡ key x). omega arith)) ∙ e)))

  pub put_least : (x : A) (ys : List A) → length ys ≤ length (put key x ys)
  unfolding put
  put_least x [] = omega arith
  put_least x (y ∷ ys) = go (order? (key x) (key y)) (put_least x ys)
    where
      go : Order (key x) (key y) → length ys ≤ length (put key x ys) → suc (length ys) ≤ length (put key x (y ∷ ys))
      go (less h) again = rw (put_before x y ys h) (omega arith)
      go (equal h) again = rw (put_over x y ys h) (omega arith)
      go (more h) again = rw (put_behind x y ys h) (omega arith)

  -- There is room where the key is,
  pub room_has : (capacity : ℕ) (xs : List A) (k : ℕ) (x : A) → find key xs k ≡ some x → room key capacity xs k ≡ true
  unfolding room
  room_has capacity xs k x e = rw e

  -- and where a place is free,
  pub room_free : (capacity : ℕ) (xs : List A) (k : ℕ) → length xs < capacity → room key capacity xs k ≡ true
  unfolding room
  room_free capacity xs k h =
      or_right (is_some (find key xs k)) (ltb (length xs) capacity) (lt-ltb (length xs) capacity h)

  -- and nowhere else.
  pub room_none : (capacity : ℕ) (xs : List A) (k : ℕ) → find key xs k ≡ none → capacity ≤ length xs → room key capacity xs k ≡ false
  unfolding room
  room_none capacity xs k e h = rw (e, le-ltb (length xs) capacity h)

  pub no_room : (capacity : ℕ) (xs : List A) (k : ℕ) → room key capacity xs k ≡ false → (find key xs k ≡ none) × (capacity ≤ length xs)
  no_room capacity xs k e = go (option? (find key xs k)) (order? (length xs) capacity)
    where
      go : (find key xs k ≡ none) ⊎ ((x : A) × (find key xs k ≡ some x)) → Order (length xs) capacity
          → (find key xs k ≡ none) × (capacity ≤ length xs)
      go (inr w) o = absurd (not_both (room_has capacity xs k w.0 w.1) e)
      go (inl n) (less h) = absurd (not_both (room_free capacity xs k h) e)
      go (inl n) (equal h) = (n, omega arith)
      go (inl n) (more h) = (n, omega arith)

  -- A put for which there is room stays within the capacity.
  pub put_fits : (capacity : ℕ) (x : A) {b : ℕ} {ys : List A} → Rising key b ys → length ys ≤ capacity
      → room key capacity ys (key x) ≡ true → length (put key x ys) ≤ capacity
  unfolding room
  put_fits capacity x {ys = ys} r h t = go (option? (find key ys (key x)))
    where
      go : (find key ys (key x) ≡ none) ⊎ ((y : A) × (find key ys (key x) ≡ some y)) → length (put key x ys) ≤ capacity
      go (inl e) =
          let f : ltb (length ys) capacity ≡ true = rw e at t in
          omega (arith, put_adds x ys e, ltb-true (length ys) capacity f)
      go (inr w) = omega (arith, put_replaces x w.0 r w.1)
