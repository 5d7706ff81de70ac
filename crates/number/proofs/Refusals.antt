-- When each refusal comes: CUT and NUMBER are given exactly where document 01 says.
-- Each law is shown for numbers of any size, and then for reading at an offset.
use mathlib.Core.Path.{◌≡◌, refl, sym, ◌∙◌}
use mathlib.Core.Logic.{◌↔◌, ◌⊎◌, inl, inr, ⊎_elim}
use mathlib.Core.Bool.{Bool, true, false}
use mathlib.Core.List.{List}
use Prim.Native.Nat.{ℕ, zero, suc, ◌+◌, ◌-◌, ◌<◌, ◌≤◌}
use native.Mathlib.Omega.{arith}
use native.Mathlib.Nat.{add-zero}
use native.Mathlib.Decide.{dec_lt}
use lib.ListN.{length, get_or, get_or-eq_default}
use Rattle.number.specs.Number.{Reading, Value, Cut, Malformed, NumberSize, read_last, put_below, read_in, read_at, Tops, EndsEarly, EndsInZero, EndsAbove}
use Rattle.number.proofs.Ways.{never, value_or_cut, value_or_malformed, cut_or_malformed, LastWay, gives, refuses, last_way, last_zero, read_cut, FullWay, full_way, MoreWay, more_way}

-- ---- bytes with the top bit

-- One byte with the top bit before others makes one more.
tops_cons : (s : List ℕ) (at to : ℕ) → 128 ≤ get_or s at 0 → Tops s (at + 1) to → Tops s at to
tops_cons s at to h k i p q = go (dec_lt at i)
  where
    go : Dec (at < i) → 128 ≤ get_or s i 0
    go (yes g) = k i (omega arith) q
    go (no g) = let e : i ≡ at = omega arith in rw e h

-- The bytes after the first have the top bit too.
tops_tail : (s : List ℕ) (at to : ℕ) → Tops s at to → Tops s (at + 1) to
tops_tail s at to k i p q = k i (omega arith) q

-- Past the end there is no byte with the top bit.
tops_inside : (s : List ℕ) (i : ℕ) → 128 ≤ get_or s i 0 → i < length s
tops_inside s i h = go (dec_lt i (length s))
  where
    go : Dec (i < length s) → i < length s
    go (yes g) = g
    go (no g) = let e : get_or s i 0 ≡ 0 = get_or-eq_default s 0 (omega arith) in absurd (omega arith)

-- ---- CUT

-- A last byte never gives CUT.
last_whole : (first : Bool) (b next : ℕ) → read_last first b next ≡ Cut → ⊥
last_whole first b next e = go (last_way first b next)
  where
    go : LastWay first b next → ⊥
    go (gives r q) = value_or_cut q e
    go (refuses p z q) = cut_or_malformed e q

-- A byte with the top bit gives CUT exactly if the bytes after it do.
below_cut : (low : ℕ) (r : Reading) → (put_below low r ≡ Cut) ↔ (r ≡ Cut)
unfolding put_below
below_cut low (Value w m) = (λ e. absurd (value_or_cut refl e), λ e. absurd (value_or_cut refl e))
below_cut low Cut = (λ e. refl, λ e. refl)
below_cut low Malformed = (λ e. absurd (cut_or_malformed e refl), λ e. absurd (cut_or_malformed e refl))

-- CUT is given exactly if the bytes end after none to `more`, all with the top bit set.
pub cut_when_in : (last more : ℕ) (first : Bool) (s : List ℕ) (at : ℕ) → (read_in s last more first at ≡ Cut) ↔ EndsEarly more s at
cut_when_in last zero first s at = (λ e. there e (full_way s last first at), λ k. read_cut s last first at 0 (let f = k.few in omega arith))
  where
    there : read_in s last 0 first at ≡ Cut → FullWay s last first at → EndsEarly 0 s at
    there e (FullWay.cut h q) = record { few = omega arith; tops = λ i p r. absurd (omega arith) }
    there e (FullWay.above h g q) = absurd (cut_or_malformed e q)
    there e (FullWay.ends h g q) = absurd (last_whole first (get_or s at 0) (at + 1) (sym q ∙ e))
cut_when_in last (suc more) first s at = (
  λ e. there e (more_way s last more first at) (cut_when_in last more false s (at + 1)).0,
  λ k. back k (more_way s last more first at) (cut_when_in last more false s (at + 1)).1,
)
  where
    there : read_in s last (suc more) first at ≡ Cut → MoreWay s last more first at
        → (read_in s last more false (at + 1) ≡ Cut → EndsEarly more s (at + 1)) → EndsEarly (suc more) s at
    there e (MoreWay.cut h q) again = record { few = omega arith; tops = λ i p r. absurd (omega arith) }
    there e (MoreWay.ends h g q) again = absurd (last_whole first (get_or s at 0) (at + 1) (sym q ∙ e))
    there e (MoreWay.goes h g q) again =
        let k = again ((below_cut (get_or s at 0 - 128) (read_in s last more false (at + 1))).0 (sym q ∙ e)) in
        record { few = let f = k.few in omega arith; tops = tops_cons s at (length s) g k.tops }

    back : EndsEarly (suc more) s at → MoreWay s last more first at
        → (EndsEarly more s (at + 1) → read_in s last more false (at + 1) ≡ Cut) → read_in s last (suc more) first at ≡ Cut
    back k (MoreWay.cut h q) again = q
    back k (MoreWay.ends h g q) again = let t = k.tops at (omega arith) h in absurd (omega arith)
    back k (MoreWay.goes h g q) again =
        q ∙ (below_cut (get_or s at 0 - 128) (read_in s last more false (at + 1))).1
        (again (record { few = let f = k.few in omega arith; tops = tops_tail s at (length s) k.tops }))

-- So it is where a number of a size begins.
pub cut_when : (n : NumberSize) (s : List ℕ) (at : ℕ) → (read_at n s at ≡ Cut) ↔ EndsEarly n.more s at
unfolding read_at
cut_when n s at = cut_when_in n.last n.more true s at

-- ---- NUMBER

-- A byte with the top bit gives NUMBER exactly if the bytes after it do.
below_malformed : (low : ℕ) (r : Reading) → (put_below low r ≡ Malformed) ↔ (r ≡ Malformed)
unfolding put_below
below_malformed low (Value w m) = (λ e. absurd (value_or_malformed refl e), λ e. absurd (value_or_malformed refl e))
below_malformed low Cut = (λ e. absurd (cut_or_malformed refl e), λ e. absurd (cut_or_malformed refl e))
below_malformed low Malformed = (λ e. refl, λ e. refl)

-- A last byte 00, at most `more` bytes further on; where the number begins, it comes after others.
record ZeroEnd (first : Bool) (more : ℕ) (s : List ℕ) (at : ℕ) : Type 0 where
  place : ℕ
  from : at ≤ place
  others : first ≡ true → at < place
  within : place ≤ at + more
  inside : place < length s
  tops : Tops s at place
  byte : get_or s place 0 ≡ 0

-- A last byte that is refused is 00 after others.
zero_here : (first : Bool) (more : ℕ) (s : List ℕ) (at : ℕ) → at < length s → read_last first (get_or s at 0) (at + 1) ≡ Malformed → ZeroEnd first more s at
zero_here first more s at h e = go (last_way first (get_or s at 0) (at + 1))
  where
    go : LastWay first (get_or s at 0) (at + 1) → ZeroEnd first more s at
    go (gives r q) = absurd (value_or_malformed q e)
    go (refuses p z q) =
        record {
          place = at;
          from = omega arith;
          others = λ t. absurd (never (sym t ∙ p));
          within = omega arith;
          inside = h;
          tops = λ i x y. absurd (omega arith);
          byte = z;
        }

-- A last byte 00 after others is refused.
zero-refused : (first : Bool) (b next : ℕ) → b ≡ 0 → (first ≡ true → ⊥) → read_last first b next ≡ Malformed
zero-refused true b next z n = absurd (n refl)
zero-refused false b next z n = rw z (last_zero next)

-- NUMBER is given exactly if a last byte is 00 after others, or a byte after `more` others is above `last`.
malformed_from : (last more : ℕ) (first : Bool) (s : List ℕ) (at : ℕ)
    → (read_in s last more first at ≡ Malformed) ↔ (ZeroEnd first more s at ⊎ EndsAbove last more s at)
malformed_from last zero first s at = (λ e. there e (full_way s last first at), ⊎_elim (zero_back (full_way s last first at)) (above_back (full_way s last first at)))
  where
    there : read_in s last 0 first at ≡ Malformed → FullWay s last first at → ZeroEnd first 0 s at ⊎ EndsAbove last 0 s at
    there e (FullWay.cut h q) = absurd (cut_or_malformed q e)
    there e (FullWay.above h g q) = inr (record { tops = λ i p r. absurd (omega arith); byte = rw add-zero g })
    there e (FullWay.ends h g q) = inl (zero_here first 0 s at h (sym q ∙ e))

    zero_back : FullWay s last first at → ZeroEnd first 0 s at → read_in s last 0 first at ≡ Malformed
    zero_back (FullWay.cut h q) k = absurd (omega arith)
    zero_back (FullWay.above h g q) k = q
    zero_back (FullWay.ends h g q) k =
        let e : at ≡ k.place = omega arith in
        q ∙ zero-refused first (get_or s at 0) (at + 1) (rw e k.byte) (λ t. omega (arith, k.others t))

    above_back : FullWay s last first at → EndsAbove last 0 s at → read_in s last 0 first at ≡ Malformed
    above_back (FullWay.cut h q) k =
        let b = rw add-zero at k.byte in
        let e : get_or s at 0 ≡ 0 = get_or-eq_default s 0 h in
        absurd (omega arith)
    above_back (FullWay.above h g q) k = q
    above_back (FullWay.ends h g q) k = let b = rw add-zero at k.byte in absurd (omega arith)
malformed_from last (suc more) first s at =
    let again = malformed_from last more false s (at + 1) in (
      λ e. there e (more_way s last more first at) again.0,
      ⊎_elim (zero_back (more_way s last more first at) (λ k. again.1 (inl k))) (above_back (more_way s last more first at) (λ k. again.1 (inr k))),
    )
  where
    step : (at + 1) + more ≡ at + suc more
    step = omega arith

    there : read_in s last (suc more) first at ≡ Malformed → MoreWay s last more first at
        → (read_in s last more false (at + 1) ≡ Malformed → ZeroEnd false more s (at + 1) ⊎ EndsAbove last more s (at + 1))
        → ZeroEnd first (suc more) s at ⊎ EndsAbove last (suc more) s at
    there e (MoreWay.cut h q) again = absurd (cut_or_malformed q e)
    there e (MoreWay.ends h g q) again = inl (zero_here first (suc more) s at h (sym q ∙ e))
    there e (MoreWay.goes h g q) again =
        ⊎_elim
        (λ k. inl (record {
          place = k.place;
          from = omega arith;
          others = λ _. omega arith;
          within = omega arith;
          inside = k.inside;
          tops = tops_cons s at k.place g k.tops;
          byte = k.byte;
        }))
        (λ k. inr (record { tops = rw step at (tops_cons s at ((at + 1) + more) g k.tops); byte = rw step at k.byte }))
        (again ((below_malformed (get_or s at 0 - 128) (read_in s last more false (at + 1))).0 (sym q ∙ e)))

    zero_back : MoreWay s last more first at → (ZeroEnd false more s (at + 1) → read_in s last more false (at + 1) ≡ Malformed)
        → ZeroEnd first (suc more) s at → read_in s last (suc more) first at ≡ Malformed
    zero_back (MoreWay.cut h q) again k = absurd (omega arith)
    zero_back (MoreWay.ends h g q) again k = go (dec_lt at k.place)
      where
        go : Dec (at < k.place) → read_in s last (suc more) first at ≡ Malformed
        go (yes l) = absurd (omega (arith, k.tops at (omega arith) l))
        go (no l) =
            let e : at ≡ k.place = omega arith in
            q ∙ zero-refused first (get_or s at 0) (at + 1) (rw e k.byte) (λ t. omega (arith, k.others t))
    zero_back (MoreWay.goes h g q) again k = go (dec_lt at k.place)
      where
        go : Dec (at < k.place) → read_in s last (suc more) first at ≡ Malformed
        go (yes l) =
            q ∙ (below_malformed (get_or s at 0 - 128) (read_in s last more false (at + 1))).1
            (again (record {
              place = k.place;
              from = omega arith;
              others = λ t. absurd (never (sym t));
              within = omega arith;
              inside = k.inside;
              tops = tops_tail s at k.place k.tops;
              byte = k.byte;
            }))
        go (no l) =
            let e : at ≡ k.place = omega arith in
            let z : get_or s at 0 ≡ 0 = rw e k.byte in
            absurd (omega arith)

    above_back : MoreWay s last more first at → (EndsAbove last more s (at + 1) → read_in s last more false (at + 1) ≡ Malformed)
        → EndsAbove last (suc more) s at → read_in s last (suc more) first at ≡ Malformed
    above_back (MoreWay.cut h q) again k = absurd (omega (arith, tops_inside s at (k.tops at (omega arith) (omega arith))))
    above_back (MoreWay.ends h g q) again k = absurd (omega (arith, k.tops at (omega arith) (omega arith)))
    above_back (MoreWay.goes h g q) again k =
        q ∙ (below_malformed (get_or s at 0 - 128) (read_in s last more false (at + 1))).1
        (again (record { tops = tops_tail s at ((at + 1) + more) (rw step k.tops); byte = rw step k.byte }))

-- Where a number begins, NUMBER is given exactly if a last byte is 00 after others, or a byte after `more` others is above `last`.
pub malformed_when : (n : NumberSize) (s : List ℕ) (at : ℕ)
    → (read_at n s at ≡ Malformed) ↔ (EndsInZero n.more s at ⊎ EndsAbove n.last n.more s at)
unfolding read_at
malformed_when n s at =
    let m = malformed_from n.last n.more true s at in
    (λ e. ⊎_elim (λ k. inl (there k)) inr (m.0 e), ⊎_elim (λ k. m.1 (inl (back k))) (λ k. m.1 (inr k)))
  where
    there : ZeroEnd true n.more s at → EndsInZero n.more s at
    there k = record { place = k.place; others = k.others refl; within = k.within; inside = k.inside; tops = k.tops; byte = k.byte }

    back : EndsInZero n.more s at → ZeroEnd true n.more s at
    back k =
        record {
          place = k.place;
          from = omega arith;
          others = λ _. k.others;
          within = k.within;
          inside = k.inside;
          tops = k.tops;
          byte = k.byte;
        }
