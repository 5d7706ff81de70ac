-- What stands in a list can be taken apart and put together, and what a writer wrote stands there and touched nothing else.
use mathlib.Core.Path.{◌≡◌, refl, sym, ap, ap₂, ◌∙◌}
use mathlib.Core.Bool.{Bool, true, false}
use mathlib.Core.List.{List, [], ◌∷◌, ◌++◌, append_assoc, append-nil}
use Prim.Native.Nat.{ℕ, suc, ◌+◌, ◌-◌, ◌<◌, ◌≤◌}
use native.Mathlib.Omega.{arith}
use native.Mathlib.Numerals.{add-one}
use native.Mathlib.Nat.{add-zero}
use lib.Dec.{ltb}
use lib.ListN.{length, get_or, set, take, drop, length-append, length-drop, drop_of_length-le}
use lib.Seq.{sets, sets-eq, length-sets, length-take-le, drop-cons, drop-drop, drop-length, drop_at, drop-append_seam}
use borrow.Author.Tests.{ltb-true, ltb-false}
use Rattle.lists.specs.Stands.{Stands, Wrote}

-- At a place inside s stands b, and t is all that follows it.
pub record First {A : Type 0} (s : List A) (at : ℕ) (d b : A) (t : List A) : Type 0 where
  pub inside : at < length s
  pub element : get_or s at d ≡ b
  pub rest : drop (at + 1) s ≡ t

module _ {A : Type 0} where
  -- ---- where elements stand

  -- Where something is left of a list, its first element stands inside the list.
  pub first_of : {s : List A} {at : ℕ} (d : A) {b : A} {t : List A} → drop at s ≡ b ∷ t → First s at d b t
  first_of {s} {at} d {b} {t} e = go (ltb at (length s)) refl
    where
      go : (r : Bool) → ltb at (length s) ≡ r → First s at d b t
      go true r =
          let h : at < length s = ltb-true at (length s) r in
          let c : get_or s at d ∷ drop (suc at) s ≡ b ∷ t = sym (drop-cons s at d h) ∙ e in
          record { inside = h; element = cc; rest = rw add-one (cc) }
      go false r =
          let h : length s ≤ at = ltb-false at (length s) r in
          let z : length (drop at s) ≡ suc (length t) = ap length e in
          absurd (omega (arith, length-drop at s))

  -- Nothing stands at every place.
  pub stands_nil : (s : List A) (at : ℕ) → Stands s at [] at
  stands_nil s at = record { here = refl; width = omega arith }

  -- An element of the list, and what stands after it, stand together.
  pub stands_cons : {s : List A} {at : ℕ} (d : A) {l : List A} {next : ℕ} → at < length s → Stands s (at + 1) l next
      → Stands s at (get_or s at d ∷ l) next
  stands_cons {s} {at} d {l} {next} h k =
      record {
        here = drop-cons s at d h ∙ ap (λ (t : List A). get_or s at d ∷ t) (rw add-one at k.here);
        width = let w = k.width in omega arith;
      }

  -- The first of the elements that stand at a place is the list's element there.
  pub stands_first : {s : List A} {at : ℕ} (d : A) {b : A} {l : List A} {next : ℕ} → Stands s at (b ∷ l) next → First s at d b (l ++ drop next s)
  stands_first d h = first_of d h.here

  -- The elements after the first stand one place further on.
  pub stands_tail : {s : List A} {at : ℕ} {b : A} {l : List A} {next : ℕ} → Stands s at (b ∷ l) next → Stands s (at + 1) l next
  stands_tail {b = b} h = record { here = (stands_first b h).rest; width = let w = h.width in omega arith }

  -- Two lists, one after the other, stand as one.
  pub stands_join : {s : List A} {at : ℕ} {l : List A} {mid : ℕ} {k : List A} {next : ℕ} → Stands s at l mid → Stands s mid k next
      → Stands s at (l ++ k) next
  stands_join {s} {at} {l} {mid} {k} {next} a b =
      record {
        here = a.here ∙ ap (λ (t : List A). l ++ t) b.here ∙ sym (append_assoc l k (drop next s));
        width = let v = a.width in let w = b.width in omega (arith, length-append l k);
      }

  -- Behind a list that stands at a place comes what follows it.
  over : (s : List A) (at : ℕ) (l t : List A) → drop at s ≡ l ++ t → drop (at + length l) s ≡ t
  over s at l t e = sym (drop-drop (length l) at s) ∙ ap (drop (length l)) e ∙ drop-append_seam l t

  -- Of two lists that stand as one, the first stands by itself.
  pub stands_left : {s : List A} {at : ℕ} (l k : List A) {next : ℕ} → Stands s at (l ++ k) next → Stands s at l (at + length l)
  stands_left {s} {at} l k {next} h =
      let e : drop at s ≡ l ++ (k ++ drop next s) = h.here ∙ append_assoc l k (drop next s) in
      record { here = e ∙ ap (λ (t : List A). l ++ t) (sym (over s at l (k ++ drop next s) e)); width = refl }

  -- Of two lists that stand as one, the second stands where the first ends.
  pub stands_right : {s : List A} {at : ℕ} (l k : List A) {next : ℕ} → Stands s at (l ++ k) next → Stands s (at + length l) k next
  stands_right {s} {at} l k {next} h =
      record {
        here = over s at l (k ++ drop next s) (h.here ∙ append_assoc l k (drop next s));
        width = let w = h.width in omega (arith, length-append l k);
      }

  -- The front of a list stands at its beginning.
  pub stands_front : (l t : List A) → Stands (l ++ t) 0 l (length l)
  stands_front l t = record { here = ap (λ (r : List A). l ++ r) (sym (drop-append_seam l t)); width = omega arith }

  -- What is left from a place on is the list that stands there and what is left after it.
  pub stands_lengths : {s : List A} {at : ℕ} {l : List A} {next : ℕ} → Stands s at l next → length s - at ≡ length l + (length s - next)
  stands_lengths {s} {at} {l} {next} h =
      sym (length-drop at s) ∙ ap length h.here ∙ length-append l (drop next s) ∙ ap (λ (n : ℕ). length l + n) (length-drop next s)

  -- A list that is not empty ends inside the one that it stands in.
  pub stands_fits_some : {s : List A} {at : ℕ} {l : List A} {next : ℕ} → 1 ≤ length l → Stands s at l next → next ≤ length s
  stands_fits_some g h = let w = h.width in omega (arith, stands_lengths h)

  -- ---- what a writer leaves

  -- Writing nothing leaves the list as it was.
  pub wrote_nil : (b : List A) (at : ℕ) → Wrote b at [] at b
  wrote_nil b at = record { to = omega arith; holds = refl }

  -- An element stored at a place, and a list written after it, were written as one.
  pub wrote_cons : {b : List A} {at : ℕ} {x : A} {l : List A} {next : ℕ} {c : List A} → Wrote (set b at x) (at + 1) l next c → Wrote b at (x ∷ l) next c
  wrote_cons {b} {at} {x} {l} w = record { to = let e = w.to in omega arith; holds = rw add-one at w.holds }

  -- Stores in a row can be cut in two.
  pub sets_join : (l k b : List A) (at : ℕ) → sets b at (l ++ k) ≡ sets (sets b at l) (at + length l) k
  sets_join [] k b at = rw add-zero
  sets_join (x ∷ l) k b at =
      let e : suc at + length l ≡ at + suc (length l) = omega arith in
      sets_join l k (set b at x) (suc at) ∙ ap (λ (n : ℕ). sets (sets (set b at x) (suc at) l) n k) e

  -- Two lists written one after the other were written as one.
  pub wrote_join : {b : List A} {at : ℕ} {l : List A} {mid : ℕ} {c k : List A} {next : ℕ} {e : List A} → Wrote b at l mid c → Wrote c mid k next e
      → Wrote b at (l ++ k) next e
  wrote_join {b} {at} {l} {mid} {c} {k} p q =
      record {
        to = let x = p.to in let y = q.to in omega (arith, length-append l k);
        holds = q.holds ∙ ap₂ (λ (t : List A) (n : ℕ). sets t n k) p.holds p.to ∙ sym (sets_join l k b at);
      }

  -- A write keeps the length.
  pub wrote_length : {b : List A} {at : ℕ} {l : List A} {next : ℕ} {c : List A} → Wrote b at l next c → length c ≡ length b
  wrote_length {b} {at} {l} w = ap length w.holds ∙ length-sets b at l

  -- After a write that fits, the elements stand there.
  pub wrote_stands : {b : List A} {at : ℕ} {l : List A} {next : ℕ} {c : List A} → at + length l ≤ length b → Wrote b at l next c → Stands c at l next
  wrote_stands {b} {at} {l} {next} {c} h w =
      let g : at ≤ length b = omega arith in
      let t : length (take at b) ≡ at = length-take-le at b g in
      let v : length (take at b ++ l) ≡ next = let e = w.to in omega (arith, length-append (take at b) l) in
      let e : c ≡ take at b ++ l ++ drop (at + length l) b = w.holds ∙ sets-eq l b at h in
      let p : drop next c ≡ drop (at + length l) b = ap (drop next) e ∙ drop_at (take at b ++ l) (drop (at + length l) b) next v in
      record {
        here =
            ap (drop at) (e ∙ append_assoc (take at b) l (drop (at + length l) b))
            ∙ drop_at (take at b) (l ++ drop (at + length l) b) at t
            ∙ ap (λ (r : List A). l ++ r) (sym p);
        width = w.to;
      }

  -- A list stands in itself, from its beginning to its end.
  pub stands_itself : (l : List A) → Stands l 0 l (length l)
  stands_itself l = record { here = sym (ap (λ (t : List A). l ++ t) (drop-length l) ∙ append-nil l); width = omega arith }

  -- What stands from the beginning of a list to its end is the list.
  pub stands_whole : {s l : List A} {next : ℕ} → Stands s 0 l next → length s ≤ next → l ≡ s
  stands_whole {s} {l} h g = sym (h.here ∙ ap (λ (t : List A). l ++ t) (drop_of_length-le s g) ∙ append-nil l)

  -- A list of no elements is empty.
  pub no_elements : (l : List A) → length l ≡ 0 → l ≡ []
  no_elements [] h = refl
  no_elements (x ∷ l) h = absurd (omega arith)

  -- Where two lists fit as one, the first fits.
  pub fits_left : (at : ℕ) (l k : List A) {most : ℕ} → at + length (l ++ k) ≤ most → at + length l ≤ most
  fits_left at l k h = omega (arith, length-append l k)

  -- And once it is written, the second fits after it.
  pub fits_right : {b : List A} {at : ℕ} (l k : List A) {next : ℕ} {c : List A} → at + length (l ++ k) ≤ length b → Wrote b at l next c
      → next + length k ≤ length c
  fits_right l k h w = let t = w.to in omega (arith, length-append l k, wrote_length w)
