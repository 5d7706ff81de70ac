-- A list with one thing put in and those after it moved up: how it is made, and what it holds.
use mathlib.Core.Path.{◌≡◌, sym, ap, ◌∙◌}
use mathlib.Core.List.{List, [], ◌∷◌, ◌++◌, append_assoc}
use Prim.Native.Nat.{ℕ, suc, ◌+◌, ◌-◌, ◌≤◌, ◌<◌}
use native.Mathlib.Omega.{arith}
use native.Mathlib.Decide.{dec_lt}
use lib.ListN.{length, get_or, take, drop, set, length-append, length-take, length-drop, length-set, get_or-append}
use lib.Seq.{ext_get_or, slice, slice-cons, slice_empty, length-slice, set_at, take-suc, split_at, get_or-take, get_or-drop, get_or-append-add, get_or_at, length-take-le}
use Rattle.std.specs.List.{CopiedTo, SameBelow, SameFrom}
use Rattle.std.proofs.lemmas.List.{get_or-set_same, get_or-set_other}
use Rattle.lists.proofs.Orders.{Order, order?}
use Rattle.lists.proofs.Orders.Order.{less, equal, more}
use Rattle.store.specs.Workers.{opened}

-- An element behind the first n.
behind : {A : Type 0} (ys zs : List A) (d : A) (n j : ℕ) → length ys ≡ n → get_or (ys ++ zs) (n + j) d ≡ get_or zs j d
behind ys zs d n j e = rw (← e) (get_or-append-add ys zs j d)

module _ {A : Type 0} (xs : List A) (end : ℕ) (d : A) (inside : end < length xs) where
  -- Its length stays.
  pub length-opened : (at : ℕ) (x : A) → at ≤ end → length (opened xs at end x) ≡ length xs
  unfolding opened
  length-opened at x h =
      let a = length-take-le at xs (omega arith) in
      let b = length-slice at end xs (omega arith) in
      let c = length-drop (suc end) xs in
      simp length-append (omega arith)

  -- What stands before the place stays,
  pub opened_before : (at : ℕ) (x : A) (i : ℕ) → at ≤ end → i < at → get_or (opened xs at end x) i d ≡ get_or xs i d
  unfolding opened
  opened_before at x i h g =
      get_or-append (take at xs) _ d i (simp length-take (omega arith)) ∙ get_or-take at xs i d g

  -- at it stands the new thing,
  pub opened_here : (at : ℕ) (x : A) → at ≤ end → get_or (opened xs at end x) at d ≡ x
  unfolding opened
  opened_here at x h = get_or_at (take at xs) x _ d at (length-take-le at xs (omega arith))

  -- after it, up to the end, what stood one place below,
  pub opened_after : (at : ℕ) (x : A) (i : ℕ) → at ≤ i → i < end → get_or (opened xs at end x) (suc i) d ≡ get_or xs i d
  unfolding opened
  opened_after at x i h g =
      let r = slice at end xs ++ drop (suc end) xs in
      let a = length-slice at end xs (omega arith) in
      let p : suc i ≡ at + suc (i - at) = omega arith in
      let q : at + (i - at) ≡ i = omega arith in
      ap (λ (n : ℕ). get_or (take at xs ++ x ∷ r) n d) p
      ∙ behind (take at xs) (x ∷ r) d at (suc (i - at)) (length-take-le at xs (omega arith))
      ∙ get_or-append (slice at end xs) (drop (suc end) xs) d (i - at) (omega arith)
      ∙ get_or-drop at (take end xs) (i - at) d
      ∙ ap (λ (n : ℕ). get_or (take end xs) n d) q
      ∙ get_or-take end xs i d g

  -- and past the end nothing moves.
  pub opened_past : (at : ℕ) (x : A) (i : ℕ) → at ≤ end → end < i → get_or (opened xs at end x) i d ≡ get_or xs i d
  unfolding opened
  opened_past at x i h g =
      let r = slice at end xs ++ drop (suc end) xs in
      let p : i ≡ at + suc (end - at + (i - suc end)) = omega arith in
      let q : suc end + (i - suc end) ≡ i = omega arith in
      ap (λ (n : ℕ). get_or (take at xs ++ x ∷ r) n d) p
      ∙ behind (take at xs) (x ∷ r) d at (suc (end - at + (i - suc end))) (length-take-le at xs (omega arith))
      ∙ behind (slice at end xs) (drop (suc end) xs) d (end - at) (i - suc end) (length-slice at end xs (omega arith))
      ∙ get_or-drop (suc end) xs (i - suc end) d
      ∙ ap (λ (n : ℕ). get_or xs n d) q

  -- Made from the end down: the start, the last store, and a turn of the loop.
  pub opened_start : xs ≡ opened xs end end (get_or xs end d)
  unfolding opened
  opened_start = rw (slice_empty end xs) (split_at xs end d inside)

  pub opened-set : (at : ℕ) (x y : A) → at ≤ end → set (opened xs at end x) at y ≡ opened xs at end y
  unfolding opened
  opened-set at x y h = set_at (take at xs) x (slice at end xs ++ drop (suc end) xs) y at (length-take-le at xs (omega arith))

  opened_down : (j at : ℕ) → at ≡ suc j → at ≤ end → opened xs at end (get_or xs j d) ≡ opened xs j end (get_or xs j d)
  unfolding opened
  opened_down j at q h =
      let a : j < length xs = omega arith in
      let b : j < end = omega arith in
      let c : end ≤ length xs = omega arith in
      rw (q, take-suc xs j d, slice-cons j end xs d) (append_assoc (take j xs) (get_or xs j d ∷ []) _)

  pub opened_turn : (ys : List A) (at : ℕ) → 0 < at → at ≤ end → ys ≡ opened xs at end (get_or xs at d)
      → set ys at (get_or ys (at - 1) d) ≡ opened xs (at - 1) end (get_or xs (at - 1) d)
  opened_turn ys at z h q =
      rw (q, opened_before at (get_or xs at d) (at - 1) h (omega arith), opened-set at (get_or xs at d) (get_or xs (at - 1) d) h)
      (opened_down (at - 1) at (omega arith) h)

  -- So a list is opened whose part up to the end is copied one place up, and then the new thing stored.
  pub shifted : (ys : List A) (at : ℕ) (x : A) → at ≤ end → length ys ≡ length xs → SameBelow xs ys (at + 1) → CopiedTo xs ys at (at + 1) (end - at)
      → SameFrom xs ys (at + 1 + (end - at)) → set ys at x ≡ opened xs at end x
  shifted ys at x h long below up past =
      ext_get_or d (set ys at x) (opened xs at end x) (length-set ys at x ∙ long ∙ sym (length-opened at x h)) (λ i g. go i (order? i at))
    where
      high : (i : ℕ) → at < i → Dec (i < suc end) → get_or ys i d ≡ get_or (opened xs at end x) i d
      high i l (yes q) =
          let e : at + (i - (at + 1)) ≡ i - 1 = omega arith in
          let n : suc (i - 1) ≡ i = omega arith in
          up i d (omega arith) (omega arith) ∙ ap (λ (j : ℕ). get_or xs j d) e ∙ sym (opened_after at x (i - 1) (omega arith) (omega arith))
          ∙ ap (λ (j : ℕ). get_or (opened xs at end x) j d) n
      high i l (no q) = past i d (omega arith) ∙ sym (opened_past at x i h (omega arith))

      go : (i : ℕ) → Order i at → get_or (set ys at x) i d ≡ get_or (opened xs at end x) i d
      go i (less l) = get_or-set_other ys at i x d (λ e. omega arith) ∙ below i d (omega arith) ∙ sym (opened_before at x i h l)
      go i (equal e) = ap (λ (j : ℕ). get_or (set ys at x) j d) e ∙ get_or-set_same ys at x d (omega arith) ∙ sym (opened_here at x h)
          ∙ ap (λ (j : ℕ). get_or (opened xs at end x) j d) (sym e)
      go i (more l) = get_or-set_other ys at i x d (λ e. omega arith) ∙ high i l (dec_lt i (suc end))
