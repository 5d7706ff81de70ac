-- The merge of a node's list into its target's, of any things with rising keys: what it does to one key, to the order, to the lengths,
-- and what its counts count.
use mathlib.Core.Path.{◌≡◌, refl, sym, ap, ◌∙◌, subst}
use mathlib.Core.Bool.{Bool, true, false, not, ◌&&◌}
use mathlib.Core.Logic.{◌⊎◌, ⊎_elim, inl, inr}
use mathlib.Core.List.{List, [], ◌∷◌}
use mathlib.Core.Option.{Option, none, some}
use Prim.Native.Nat.{ℕ, suc, ◌+◌, ◌≤◌}
use native.Mathlib.Omega.{arith}
use native.Mathlib.Decide.{ℕ_discrete}
use lib.ListN.{length}
use Rattle.lists.proofs.Truths.{bool?, not_both, and_left, and_right}
use Rattle.lists.proofs.Options.{option?, not_none_and_some}
use Rattle.lists.proofs.RisingKeys.{Rising, rising_from}
use Rattle.lists.proofs.RisingKeys.Rising.{end, above}
use Rattle.plan.specs.declared.Edge.{Edge}
use Rattle.plan.specs.Plan.{holds}
use Rattle.store.specs.Copies.{find, is_some}
use Rattle.steps.specs.Entries.{put, room}
use Rattle.steps.specs.Carries.{carries, merge, bit, count_held}
use Rattle.steps.proofs.NodeLists.{
  find_same,
  find_other,
  find_empty,
  find_low,
  put_same,
  put_other,
  put_rising,
  put_adds,
  put_replaces,
  put_least,
  room_none,
  no_room,
  put_fits,
}

-- How a merge goes: through the node's things in order, each carried or kept.
pub data Merging {A : Type 0} (key : A → ℕ) (capacity : ℕ) (e : Edge) : List A → List A → List A → List A → Type 0 where
  through : {ys : List A} → Merging key capacity e [] ys [] ys
  carry : {x : A} {xs ys stay target : List A} → carries key capacity e x ys ≡ true
      → Merging key capacity e xs (put key x ys) stay target → Merging key capacity e (x ∷ xs) ys stay target
  keep : {x : A} {xs ys stay target : List A} → carries key capacity e x ys ≡ false
      → Merging key capacity e xs ys stay target → Merging key capacity e (x ∷ xs) ys (x ∷ stay) target

-- The list has the thing's key, or lacks it.
abbrev pub has : {A : Type 0} → (A → ℕ) → List A → A → Bool
has key ys x = is_some (find key ys (key x))

abbrev pub lacks : {A : Type 0} → (A → ℕ) → List A → A → Bool
lacks key ys x = not (has key ys x)

-- The number of things of a list for which a test holds.
-- (The library's count_by counts by another recursion.)
unfoldable pub count : {A : Type 0} → (A → Bool) → List A → ℕ
count f [] = 0
count f (x ∷ xs) = bit (f x) + count f xs

-- Tests that agree at the keys of a list count the same.
count_same : {A : Type 0} (key : A → ℕ) (f g : A → Bool) {b : ℕ} {xs : List A} → Rising key b xs → ((y : A) → b ≤ key y → f y ≡ g y)
    → count f xs ≡ count g xs
unfolding count
count_same key f g end h = refl
count_same key f g (above {x = x} {xs = xs} i r) h =
    rw (h x i, count_same key f g r (λ y j. h y (omega arith)))

-- What a merge does to one key: nothing, or what the node had stands in the target.
pub data KeyMerged {A : Type 0} (key : A → ℕ) (e : Edge) (xs ys stay target : List A) (k : ℕ) : Type 0 where
  untouched : find key stay k ≡ find key xs k → find key target k ≡ find key ys k → KeyMerged key e xs ys stay target k
  carried : (x : A) → find key xs k ≡ some x → holds e k ≡ true → find key stay k ≡ none → find key target k ≡ some x
      → KeyMerged key e xs ys stay target k

module _ {A : Type 0} (key : A → ℕ) (capacity : ℕ) (e : Edge) where
  -- A merge carries a thing that has an edge and room,
  pub merge_carry : (x : A) (xs ys : List A) → carries key capacity e x ys ≡ true
      → merge key capacity e (x ∷ xs) ys ≡ merge key capacity e xs (put key x ys)
  unfolding merge
  merge_carry x xs ys t = rw t

  -- and keeps any other.
  pub merge_keep : (x : A) (xs ys : List A) → carries key capacity e x ys ≡ false
      → merge key capacity e (x ∷ xs) ys
      ≡ record { stay = x ∷ (merge key capacity e xs ys).stay; target = (merge key capacity e xs ys).target }
  unfolding merge
  merge_keep x xs ys t = rw t

  pub merging : (xs ys : List A) → Merging key capacity e xs ys (merge key capacity e xs ys).stay (merge key capacity e xs ys).target
  merging [] ys = unfold merge in through
  merging (x ∷ xs) ys =
      ⊎_elim (λ (t : carries key capacity e x ys ≡ true). rw (merge_carry x xs ys t) (carry t (merging xs (put key x ys))))
      (λ (t : carries key capacity e x ys ≡ false). rw (merge_keep x xs ys t) (keep t (merging xs ys)))
      (bool? (carries key capacity e x ys))

  -- What is carried has a key that the edge holds, and there is room for it.
  pub carries-holds : (x : A) (ys : List A) → carries key capacity e x ys ≡ true → holds e (key x) ≡ true
  unfolding carries
  carries-holds x ys t = and_left (holds e (key x)) (room key capacity ys (key x)) t

  pub carries-room : (x : A) (ys : List A) → carries key capacity e x ys ≡ true → room key capacity ys (key x) ≡ true
  unfolding carries
  carries-room x ys t = and_right (holds e (key x)) (room key capacity ys (key x)) t

  -- Keys rise in both lists as before.
  pub stay_rising : {b : ℕ} {xs ys stay target : List A} → Merging key capacity e xs ys stay target → Rising key b xs → Rising key b stay
  stay_rising through end = end
  stay_rising {b = b} (carry {x = x} t m) (above h r) = rising_from key (omega arith) (stay_rising {b = suc (key x)} m r)
  stay_rising {b = b} (keep {x = x} t m) (above h r) = above h (stay_rising {b = suc (key x)} m r)

  pub target_rising : {xs ys stay target : List A} → Merging key capacity e xs ys stay target → Rising key 0 ys → Rising key 0 target
  target_rising through r = r
  target_rising (carry {x = x} t m) r = target_rising m (put_rising key x (omega arith) r)
  target_rising (keep t m) r = target_rising m r

  -- What stays is no longer than what was there, and the target no shorter.
  pub stay_short : {xs ys stay target : List A} → Merging key capacity e xs ys stay target → length stay ≤ length xs
  stay_short through = omega arith
  stay_short (carry t m) = omega (arith, stay_short m)
  stay_short (keep t m) = omega (arith, stay_short m)

  pub target_long : {xs ys stay target : List A} → Merging key capacity e xs ys stay target → length ys ≤ length target
  target_long through = omega arith
  target_long (carry {x = x} {ys = ys} t m) = omega (arith, target_long m, put_least key x ys)
  target_long (keep t m) = target_long m

  -- The target stays within its capacity.
  pub target_fits : {xs ys stay target : List A} → Merging key capacity e xs ys stay target → Rising key 0 ys → length ys ≤ capacity
      → length target ≤ capacity
  target_fits through r h = h
  target_fits (carry {x = x} {ys = ys} t m) r h =
      target_fits m (put_rising key x (omega arith) r) (put_fits key capacity x r h (carries-room x ys t))
  target_fits (keep t m) r h = target_fits m r h

  pub key_merged : {b : ℕ} {xs ys stay target : List A} → Merging key capacity e xs ys stay target → Rising key b xs → (k : ℕ)
      → KeyMerged key e xs ys stay target k
  key_merged through end k = untouched refl refl
  key_merged {b = b} (carry {x = x} {xs = xs} {ys = ys} {stay = stay} {target = target} t m) (above h r) k =
      go (ℕ_discrete (key x) k) (key_merged {b = suc (key x)} m r k)
    where
      go : Dec (key x ≡ k) → KeyMerged key e xs (put key x ys) stay target k → KeyMerged key e (x ∷ xs) ys stay target k
      go (yes q) (untouched f g) =
          carried x (find_same key x xs k q) (subst (λ (j : ℕ). holds e j ≡ true) q (carries-holds x ys t))
          (f ∙ find_low key r k (omega arith)) (g ∙ put_same key x ys k q)
      go (yes q) (carried y f i j g) = absurd (not_none_and_some (find_low key r k (omega arith)) f)
      go (no q) (untouched f g) = untouched (f ∙ sym (find_other key x xs k q)) (g ∙ put_other key x ys k q)
      go (no q) (carried y f i j g) = carried y (find_other key x xs k q ∙ f) i j g
  key_merged {b = b} (keep {x = x} {xs = xs} {ys = ys} {stay = stay} {target = target} t m) (above h r) k =
      go (ℕ_discrete (key x) k) (key_merged {b = suc (key x)} m r k)
    where
      go : Dec (key x ≡ k) → KeyMerged key e xs ys stay target k → KeyMerged key e (x ∷ xs) ys (x ∷ stay) target k
      go (yes q) (untouched f g) = untouched (find_same key x stay k q ∙ sym (find_same key x xs k q)) g
      go (yes q) (carried y f i j g) = absurd (not_none_and_some (find_low key r k (omega arith)) f)
      go (no q) (untouched f g) = untouched (find_other key x stay k q ∙ f ∙ sym (find_other key x xs k q)) g
      go (no q) (carried y f i j g) = carried y (find_other key x xs k q ∙ f) i (find_other key x stay k q ∙ j) g

  -- A thing whose key the edge holds is kept only where the target lacks its key and is full,
  kept_full : (x : A) (ys : List A) → carries key capacity e x ys ≡ false → holds e (key x) ≡ true
      → (find key ys (key x) ≡ none) × (capacity ≤ length ys)
  unfolding carries
  kept_full x ys t h = no_room key capacity ys (key x) (rw h at t)

  -- and that holds of the target in the end.
  pub left_full : {b : ℕ} {xs ys stay target : List A} → Merging key capacity e xs ys stay target → Rising key b xs → (k : ℕ) (x : A)
      → find key stay k ≡ some x → holds e k ≡ true → (find key target k ≡ none) × (capacity ≤ length target)
  left_full through end k x f h = absurd (not_none_and_some (find_empty key k) f)
  left_full {b = b} (carry {x = z} t m) (above g r) k x f h = left_full {b = suc (key z)} m r k x f h
  left_full {b = b} (keep {x = z} {xs = xs} {ys = ys} {stay = stay} {target = target} t m) (above g r) k x f h =
      go (ℕ_discrete (key z) k) (left_full {b = suc (key z)} m r k x) (key_merged m r k)
    where
      go : Dec (key z ≡ k)
          → (find key stay k ≡ some x → holds e k ≡ true → (find key target k ≡ none) × (capacity ≤ length target))
          → KeyMerged key e xs ys stay target k → (find key target k ≡ none) × (capacity ≤ length target)
      go (yes q) again (untouched i j) =
          let n = kept_full z ys t (subst (λ (y : ℕ). holds e y ≡ true) (sym q) h) in (
            j ∙ subst (λ (y : ℕ). find key ys y ≡ none) q n.0,
            omega (arith, n.1, target_long m),
          )
      go (yes q) again (carried y i j p w) = absurd (not_none_and_some (find_low key r k (omega arith)) i)
      go (no q) again w = again (sym (find_other key z stay k q) ∙ f) h

  -- Of the things whose keys the edge holds some are carried, and the rest stay.
  pub held_counts : {xs ys stay target : List A} → Merging key capacity e xs ys stay target
      → length stay + count_held key e xs ≡ length xs + count_held key e stay
  unfolding count_held
  held_counts through = refl
  held_counts (carry {x = x} {ys = ys} t m) = rw (carries-holds x ys t) (omega (arith, held_counts m))
  held_counts (keep t m) = omega (arith, held_counts m)

  -- After what is kept come greater keys, which it does not hide.
  lacks_on : (x : A) (stay : List A) (y : A) → suc (key x) ≤ key y → lacks key (x ∷ stay) y ≡ lacks key stay y
  lacks_on x stay y h = ap (λ (o : Option A). not (is_some o)) (find_other key x stay (key y) (λ (q : key x ≡ key y). omega arith))

  -- The fall in the node's count is the number of its things that it then lacks.
  pub carried_count : {b : ℕ} {xs ys stay target : List A} → Merging key capacity e xs ys stay target → Rising key b xs
      → length stay + count (lacks key stay) xs ≡ length xs
  unfolding count
  carried_count through end = refl
  carried_count {b = b} (carry {x = x} {stay = stay} t m) (above h r) =
      rw (find_low key (stay_rising m r) (key x) (omega arith)) (omega (arith, carried_count {b = suc (key x)} m r))
  carried_count {b = b} (keep {x = x} {stay = stay} t m) (above h r) =
      rw (find_same key x stay (key x) refl)
      (omega (arith, carried_count {b = suc (key x)} m r, count_same key (lacks key (x ∷ stay)) (lacks key stay) r (lacks_on x stay)))

  -- The target rises by those of them whose keys it lacked.
  pub rise_count : {b : ℕ} {xs ys stay target : List A} → Merging key capacity e xs ys stay target → Rising key b xs → Rising key 0 ys
      → length target + count (λ x. lacks key stay x && has key ys x) xs ≡ length ys + count (lacks key stay) xs
  unfolding count
  rise_count through end s = refl
  rise_count {b = b} (carry {x = x} {xs = xs} {ys = ys} {stay = stay} {target = target} t m) (above h r) s =
      go (option? (find key ys (key x))) (rise_count {b = suc (key x)} m r (put_rising key x (omega arith) s))
    where
      gone : find key stay (key x) ≡ none
      gone = find_low key (stay_rising m r) (key x) (omega arith)

      others : count (λ y. lacks key stay y && has key (put key x ys) y) xs ≡ count (λ y. lacks key stay y && has key ys y) xs
      others =
          count_same key (λ y. lacks key stay y && has key (put key x ys) y) (λ y. lacks key stay y && has key ys y) r
          (λ y i.
          ap (λ (o : Option A). lacks key stay y && is_some o) (put_other key x ys (key y) (λ (q : key x ≡ key y). omega arith)))

      go : (find key ys (key x) ≡ none) ⊎ ((y : A) × (find key ys (key x) ≡ some y))
          → length target + count (λ y. lacks key stay y && has key (put key x ys) y) xs ≡ length (put key x ys) + count (lacks key stay) xs
          → length target + (bit (lacks key stay x && has key ys x) + count (λ y. lacks key stay y && has key ys y) xs)
          ≡ length ys + (bit (lacks key stay x) + count (lacks key stay) xs)
      go (inl n) again = rw (gone, n) (omega (arith, others, put_adds key x ys n))
      go (inr w) again = rw (gone, w.1) (omega (arith, others, put_replaces key x w.0 s w.1))
  rise_count {b = b} (keep {x = x} {ys = ys} {stay = stay} t m) (above h r) s =
      rw (find_same key x stay (key x) refl)
      (omega (
        arith,
        rise_count {b = suc (key x)} m r s,
        count_same key (lacks key (x ∷ stay)) (lacks key stay) r (lacks_on x stay),
        count_same key (λ y. lacks key (x ∷ stay) y && has key ys y) (λ y. lacks key stay y && has key ys y) r
            (λ y i. ap (λ (b : Bool). b && has key ys y) (lacks_on x stay y i)),
      ))

  -- A merge that leaves the node's count carries nothing,
  pub none_carried : {xs ys stay target : List A} → Merging key capacity e xs ys stay target → length stay ≡ length xs
      → (stay ≡ xs) × (target ≡ ys)
  none_carried through h = (refl, refl)
  none_carried (carry t m) h = absurd (omega (arith, stay_short m))
  none_carried (keep {x = x} t m) h =
      let w = none_carried m (omega arith) in
      (ap (λ (l : List A). x ∷ l) w.0, w.1)

  -- and so does one with no room for any key of the range.
  pub none_fits : {b : ℕ} {xs ys stay target : List A} → Merging key capacity e xs ys stay target → Rising key b xs
      → ((k : ℕ) (x : A) → find key xs k ≡ some x → holds e k ≡ true → (find key ys k ≡ none) × (capacity ≤ length ys))
      → (stay ≡ xs) × (target ≡ ys)
  none_fits through end h = (refl, refl)
  none_fits (carry {x = x} {xs = xs} {ys = ys} t m) (above g r) h =
      let n = h (key x) x (find_same key x xs (key x) refl) (carries-holds x ys t) in
      absurd (not_both (carries-room x ys t) (room_none key capacity ys (key x) n.0 n.1))
  none_fits {b = b} (keep {x = x} {xs = xs} t m) (above g r) h =
      let w = none_fits {b = suc (key x)} m r (λ k y f. h k y (later k y f)) in
      (ap (λ (l : List A). x ∷ l) w.0, w.1)
    where
      later : (k : ℕ) (y : A) → find key xs k ≡ some y → find key (x ∷ xs) k ≡ some y
      later k y f =
          find_other key x xs k (λ (q : key x ≡ k). not_none_and_some (find_low key r k (omega arith)) f) ∙ f

  -- So the same merge again carries nothing.
  pub merge_twice : {b : ℕ} {xs ys stay target stay' target' : List A} → Merging key capacity e xs ys stay target → Rising key b xs
      → Merging key capacity e stay target stay' target' → (stay' ≡ stay) × (target' ≡ target)
  merge_twice m r again = none_fits again (stay_rising m r) (left_full m r)
