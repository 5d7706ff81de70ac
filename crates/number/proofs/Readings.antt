-- What was written is read back, and what is read was the form: one number, one form, and no form begins another.
-- Each law is shown for numbers of any size, and then for the 32-bit numbers of document 01.
use mathlib.Core.Path.{◌≡◌, refl, sym, ap, ◌∙◌}
use mathlib.Core.Logic.{◌↔◌}
use mathlib.Core.Bool.{Bool, true, false}
use mathlib.Core.List.{List, [], ◌∷◌, ◌++◌, append-nil}
use Prim.Native.Nat.{ℕ, zero, suc, ◌+◌, ◌-◌, ◌*◌, ◌/◌, ◌%◌, ◌<◌, ◌≤◌}
use native.Mathlib.Omega.{arith}
use native.Mathlib.Decide.{dec_lt}
use lib.ListN.{length, get_or, drop}
use lib.Seq.{drop-length, drop-append_seam}
use borrow.Author.Tests.{lt-ltb, le-ltb}
use Rattle.lists.specs.Stands.{Stands, Wrote}
use Rattle.lists.proofs.Standing.{stands_nil, stands_cons, stands_first, stands_tail, stands_front, stands_fits_some, wrote_stands}
use Rattle.number.specs.Number.{Reading, Value, Cut, Malformed, Bytes, NumberSize, largest_in, largest, narrow, form_in, form, read_last, put_below, read_in, read_at}
use Rattle.number.proofs.Forms.{form_some, form-length, small_narrow, largest-narrow}
use Rattle.number.proofs.Ways.{never, value_or_cut, value_or_malformed, last_value_lem, LastWay, gives, refuses, last_way, read_full, read_ends, read_goes, FullWay, full_way, MoreWay, more_way}

-- ---- numbers of any size

-- A byte below 128 that the kind allows is the last one.
pub ends_in : (s : List ℕ) (last more : ℕ) (first : Bool) (at : ℕ) → at < length s → get_or s at 0 < 128 → get_or s at 0 ≤ largest_in last more
    → read_in s last more first at ≡ read_last first (get_or s at 0) (at + 1)
unfolding largest_in
ends_in s last zero first at h g k = read_full s last first at h k
ends_in s last (suc more) first at h g k = read_ends s last first at more h g

-- A number of one byte is read back.
back_one : {s : List ℕ} (last more : ℕ) (first : Bool) {at v next : ℕ} → v < 128 → v ≤ largest_in last more → (first ≡ false → 1 ≤ v)
    → Stands s at (v ∷ []) next → read_in s last more first at ≡ Value v next
back_one {s} last more first {at} {v} {next} g h r k =
    let f = stands_first 0 k in
    let w = k.width in
    let e : at + 1 ≡ next = omega arith in
    ends_in s last more first at f.inside (omega (arith, f.element)) (omega (arith, f.element))
    ∙ ap (λ (b : ℕ). read_last first b (at + 1)) f.element
    ∙ last_value_lem first v (at + 1) r
    ∙ ap (Value v) e

-- A group below a number gives the number of both.
below_value : (low v next : ℕ) → put_below low (Value v next) ≡ Value (low + 128 * v) next
unfolding put_below
below_value low v next = refl

module _ (last : ℕ) (low : last < 128) where
  -- Where a form stands, reading gives its number and the offset after it, whatever follows.
  pub read_back_in : (more : ℕ) {s : List ℕ} (first : Bool) {at v next : ℕ} → v ≤ largest_in last more → (first ≡ false → 1 ≤ v)
      → Stands s at (form_in more v) next → read_in s last more first at ≡ Value v next
  unfolding largest_in form_in
  read_back_in zero first h r k = back_one last 0 first (omega arith) h r k
  read_back_in (suc more) {s} first {at} {v} {next} h r k =
      go (dec_lt v 128) k (λ m q t. read_back_in more false m (λ _. q) t)
    where
      go : Dec (v < 128) → Stands s at (form_in (suc more) v) next
          → (v / 128 ≤ largest_in last more → 1 ≤ v / 128 → Stands s (at + 1) (form_in more (v / 128)) next
          → read_in s last more false (at + 1) ≡ Value (v / 128) next)
          → read_in s last (suc more) first at ≡ Value v next
      go (yes g) k again = back_one last (suc more) first g h r (rw (lt-ltb v 128 g) at k)
      go (no g) k again =
          let t : Stands s at ((128 + v % 128) ∷ form_in more (v / 128)) next = rw (le-ltb v 128 (omega arith)) at k in
          let f = stands_first 0 t in
          let y = f.element in
          let x : (get_or s at 0 - 128) + 128 * (v / 128) ≡ v = omega arith in
          read_goes s last first at more f.inside (omega arith)
          ∙ ap (put_below (get_or s at 0 - 128)) (again (omega arith) (omega arith) (stands_tail t))
          ∙ below_value (get_or s at 0 - 128) (v / 128) next
          ∙ ap (λ (n : ℕ). Value n next) x

-- What a reading that gives a number says: its form stands there, the kind allows it, and after others it is not 0.
pub record Accepted (last more : ℕ) (s : List ℕ) (first : Bool) (at v next : ℕ) : Type 0 where
  pub stands : Stands s at (form_in more v) next
  pub small : v ≤ largest_in last more
  pub real : first ≡ false → 1 ≤ v

-- What a last byte that gives a number says: which number, the offset after it, and that after others it is not 0.
record Ended (first : Bool) (b at v next : ℕ) : Type 0 where
  value : v ≡ b
  after : next ≡ at
  real : first ≡ false → 1 ≤ v

-- A last byte that gives a number says so.
ended : {first : Bool} {b at v next : ℕ} → read_last first b at ≡ Value v next → Ended first b at v next
ended {first} {b} {at} {v} {next} e = go (last_way first b at)
  where
    go : LastWay first b at → Ended first b at v next
    go (gives r q) = let x : v ≡ b = cc in record { value = x; after = cc; real = λ z. omega (arith, r z) }
    go (refuses p z q) = absurd (value_or_malformed e q)

-- A byte with the top bit gives a number only if the bytes after it do.
below_is : (low : ℕ) (r : Reading) {v next : ℕ} → put_below low r ≡ Value v next → (w : ℕ) × (r ≡ Value w next) × (v ≡ low + 128 * w)
unfolding put_below
below_is low (Value w m) e = (w, cc, cc)
below_is low Cut e = absurd (value_or_cut e refl)
below_is low Malformed e = absurd (value_or_malformed e refl)

-- A last byte stands by itself.
one_stands : {s : List ℕ} {first : Bool} {at v next : ℕ} → at < length s → Ended first (get_or s at 0) (at + 1) v next → Stands s at (v ∷ []) next
one_stands {s} {at = at} h e = rw (e.value, e.after) (stands_cons 0 h (stands_nil s (at + 1)))

-- Where reading gives a number, its form stands.
pub read_form_in : (last more : ℕ) (s : List ℕ) (first : Bool) (at : ℕ) {v next : ℕ} → Bytes s → read_in s last more first at ≡ Value v next
    → Accepted last more s first at v next
unfolding largest_in form_in
read_form_in last zero s first at {v} {next} b e = go (full_way s last first at)
  where
    go : FullWay s last first at → Accepted last 0 s first at v next
    go (FullWay.cut h q) = absurd (value_or_cut e q)
    go (FullWay.above h g q) = absurd (value_or_malformed e q)
    go (FullWay.ends h g q) =
        let d : Ended first (get_or s at 0) (at + 1) v next = ended (sym q ∙ e) in
        record { stands = one_stands h d; small = omega (arith, d.value); real = d.real }
read_form_in last (suc more) s first at {v} {next} b e = go (more_way s last more first at) (λ w q. read_form_in last more s false (at + 1) b q)
  where
    go : MoreWay s last more first at
        → ((w : ℕ) → read_in s last more false (at + 1) ≡ Value w next → Accepted last more s false (at + 1) w next)
        → Accepted last (suc more) s first at v next
    go (MoreWay.cut h q) again = absurd (value_or_cut e q)
    go (MoreWay.ends h g q) again =
        let d : Ended first (get_or s at 0) (at + 1) v next = ended (sym q ∙ e) in
        let x : v < 128 = omega (arith, d.value) in
        record { stands = rw (lt-ltb v 128 x) (one_stands h d); small = omega arith; real = d.real }
    go (MoreWay.goes h g q) again =
        let d = below_is (get_or s at 0 - 128) (read_in s last more false (at + 1)) (sym q ∙ e) in
        let r = again d.0 d.1 in
        let o = r.real refl in
        let a = b at in
        let z = d.2 in
        let m = r.small in
        let i : v / 128 ≡ d.0 = omega arith in
        let j : 128 + v % 128 ≡ get_or s at 0 = omega arith in
        let k : 128 ≤ v = omega arith in
        record { stands = rw (le-ltb v 128 k, i, j) (stands_cons 0 h r.stands); small = omega arith; real = λ _. omega arith }

-- Where a number begins, 0 is a number too.
first_real : {v : ℕ} → true ≡ false → 1 ≤ v
first_real e = absurd (never e)

module _ (n : NumberSize) where
  -- Where a form stands, reading gives its number and the offset after it, whatever follows.
  pub number_back_in : {s : List ℕ} {at v next : ℕ} → v ≤ largest n → Stands s at (form_in n.more v) next → read_at n s at ≡ Value v next
  unfolding read_at
  number_back_in h k = read_back_in n.last n.low n.more true h first_real k

  -- After a write that fits, the number is read back.
  pub wrote_back_in : {b : List ℕ} {at v next : ℕ} {c : List ℕ} → v ≤ largest n → at + length (form_in n.more v) ≤ length b
      → Wrote b at (form_in n.more v) next c → read_at n c at ≡ Value v next
  wrote_back_in h g w = number_back_in h (wrote_stands g w)

  -- Where reading gives a number, the size allows it and its form stands.
  pub number_form_in : (s : List ℕ) (at : ℕ) {v next : ℕ} → Bytes s → read_at n s at ≡ Value v next → (v ≤ largest n) × Stands s at (form_in n.more v) next
  unfolding read_at
  number_form_in s at b e = let a = read_form_in n.last n.more s true at b e in (a.small, a.stands)

  -- Reading gives a number exactly where the size allows it and its form stands.
  pub value_when_in : (s : List ℕ) (at : ℕ) {v next : ℕ} → Bytes s
      → (read_at n s at ≡ Value v next) ↔ ((v ≤ largest n) × Stands s at (form_in n.more v) next)
  value_when_in s at b = (number_form_in s at b, λ k. number_back_in k.0 k.1)

  -- One number, one form: two lists of bytes that are read whole as the same number are equal.
  pub one_form_in : {l k : List ℕ} {v : ℕ} → Bytes l → Bytes k → read_at n l 0 ≡ Value v (length l) → read_at n k 0 ≡ Value v (length k) → l ≡ k
  one_form_in {v = v} a b p q = whole a p ∙ sym (whole b q)
    where
      whole : {l : List ℕ} → Bytes l → read_at n l 0 ≡ Value v (length l) → l ≡ form_in n.more v
      whole {l} a p = (number_form_in l 0 a p).1.here ∙ rw (drop-length l) (append-nil (form_in n.more v))

  -- A form is never the beginning of another number's form.
  pub form-apart_in : {v w : ℕ} (a b : List ℕ) → v ≤ largest n → w ≤ largest n → form_in n.more v ++ a ≡ form_in n.more w ++ b → v ≡ w
  form-apart_in {v} {w} a b h g e =
      let p = number_back_in h (stands_front (form_in n.more v) a) in
      let q = number_back_in g (stands_front (form_in n.more w) b) in
      let r : read_at n (form_in n.more v ++ a) 0 ≡ Value w (length (form_in n.more w)) = rw e q in
      cc

  -- Where two forms begin the same list, the same follows them.
  pub form_rest_in : {v w : ℕ} (a b : List ℕ) → v ≤ largest n → w ≤ largest n → form_in n.more v ++ a ≡ form_in n.more w ++ b → a ≡ b
  form_rest_in {v} {w} a b h g e =
      let x = form-apart_in a b h g e in
      sym (drop-append_seam (form_in n.more v) a)
      ∙ ap (drop (length (form_in n.more v))) (e ∙ ap (λ (k : ℕ). form_in n.more k ++ b) (sym x))
      ∙ drop-append_seam (form_in n.more v) b

-- ---- 32-bit numbers

-- Where a form stands, reading gives its number and the offset after it, whatever follows.
pub read_back : {s : List ℕ} {at v next : ℕ} → v ≤ 4294967295 → Stands s at (form v) next → read_at narrow s at ≡ Value v next
unfolding form
read_back h k = number_back_in narrow (small_narrow h) k

-- After a write that fits, the number is read back.
pub wrote_back : {b : List ℕ} {at v next : ℕ} {c : List ℕ} → v ≤ 4294967295 → at + length (form v) ≤ length b → Wrote b at (form v) next c
    → read_at narrow c at ≡ Value v next
wrote_back h g w = read_back h (wrote_stands g w)

-- Where reading gives a number, its form stands.
pub read_stands : (s : List ℕ) (at : ℕ) {v next : ℕ} → Bytes s → read_at narrow s at ≡ Value v next → Stands s at (form v) next
unfolding form
read_stands s at b e = (number_form_in narrow s at b e).1

-- Only numbers of 32 bits are read.
pub read_small : (s : List ℕ) (at : ℕ) {v next : ℕ} → Bytes s → read_at narrow s at ≡ Value v next → v ≤ 4294967295
read_small s at b e = rw largest-narrow at (number_form_in narrow s at b e).0

-- A number that is read ends inside the bytes.
pub read_fits : (s : List ℕ) (at : ℕ) {v next : ℕ} → Bytes s → read_at narrow s at ≡ Value v next → next ≤ length s
read_fits s at {v} b e = stands_fits_some (form_some v) (read_stands s at b e)

-- The offset after a number is from one to five above its own.
pub read_next : (s : List ℕ) (at : ℕ) {v next : ℕ} → Bytes s → read_at narrow s at ≡ Value v next → (at < next) × (next ≤ at + 5)
read_next s at {v} b e = let w = (read_stands s at b e).width in omega (arith, form_some v, form-length v)

-- Reading gives a number exactly where it has 32 bits and its form stands.
pub value_when : (s : List ℕ) (at : ℕ) {v next : ℕ} → Bytes s → (read_at narrow s at ≡ Value v next) ↔ ((v ≤ 4294967295) × Stands s at (form v) next)
value_when s at b = (λ e. (read_small s at b e, read_stands s at b e), λ k. read_back k.0 k.1)

-- One number, one form: two lists of bytes that are read whole as the same number are equal.
pub one_form : {l k : List ℕ} {v : ℕ} → Bytes l → Bytes k → read_at narrow l 0 ≡ Value v (length l) → read_at narrow k 0 ≡ Value v (length k) → l ≡ k
one_form a b p q = one_form_in narrow a b p q

-- A form is never the beginning of another number's form.
pub form-apart : {v w : ℕ} (a b : List ℕ) → v ≤ 4294967295 → w ≤ 4294967295 → form v ++ a ≡ form w ++ b → v ≡ w
unfolding form
form-apart a b h g e = form-apart_in narrow a b (small_narrow h) (small_narrow g) e

-- Where two forms begin the same list, the same follows them.
pub form_rest : {v w : ℕ} (a b : List ℕ) → v ≤ 4294967295 → w ≤ 4294967295 → form v ++ a ≡ form w ++ b → a ≡ b
unfolding form
form_rest a b h g e = form_rest_in narrow a b (small_narrow h) (small_narrow g) e
