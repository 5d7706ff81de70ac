-- Why the writers of a line leave what they promise.
use mathlib.Core.Path.{◌≡◌, refl, ap, ◌∙◌}
use mathlib.Core.List.{List, [], ◌∷◌, ◌++◌, append_assoc, append-nil}
use Prim.Native.Nat.{ℕ, ◌+◌, ◌*◌, ◌<◌, ◌≤◌}
use native.Mathlib.Omega.{arith}
use lib.ListN.{length, get_or, set, take}
use lib.Seq.{sets-eq, drop-drop, take-append_seam}
use borrow.Rule.Slice.PartMut.{put_mid}
use Rattle.std.proofs.lemmas.List.{take_more}
use Rattle.lists.specs.Stands.{Stands, Wrote}
use Rattle.lists.proofs.Standing.{wrote_nil, wrote_cons, wrote_join, wrote_length, wrote_stands}
use Rattle.store.specs.declared.Answer.{Answer}
use Rattle.lines.specs.Text.{SPACE, FEED, decimal, printed_text, answer_text, most_digits, most_text}
use Rattle.lines.specs.Promises.{Prints}

-- ---- write_number

-- A text copied over a part of the buffer.
pub wrote_part : (b text : List ℕ) {copied l : List ℕ} (at k : ℕ) → copied ≡ text → text ≡ l → k ≡ length text → at + length text ≤ length b
    → Wrote b at l (at + length text) (put_mid at k b copied)
wrote_part b text at k c t e h =
    record {
      to = rw t;
      holds = rw (c, e, ← t, drop-drop (length text) at b, sets-eq text b at h, append_assoc);
    }

-- ---- print_into

-- Numbers, each with a space before it.
pub spaced : List ℕ → List ℕ
spaced [] = []
spaced (v ∷ l) = SPACE ∷ (decimal v ++ spaced l)

spaced_last : (l : List ℕ) (v : ℕ) → spaced (l ++ v ∷ []) ≡ spaced l ++ SPACE ∷ decimal v
unfolding spaced
spaced_last [] v = ap (λ (t : List ℕ). SPACE ∷ t) (append-nil (decimal v))
spaced_last (x ∷ l) v = rw (spaced_last l v, append_assoc)

printed_spaced : (v : ℕ) (l : List ℕ) → printed_text (v ∷ l) ≡ decimal v ++ (spaced l ++ FEED ∷ [])
unfolding printed_text spaced
printed_spaced v [] = refl
printed_spaced v (x ∷ l) = rw (printed_spaced x l, append_assoc)

-- The first number and n more, each with a space before it, were written from a place on.
pub record Printing (before : List ℕ) (at first : ℕ) (l : List ℕ) (n end : ℕ) (out : List ℕ) : Type 0 where
  pub wrote : Wrote before at (decimal first ++ spaced l) end out
  pub few : end ≤ at + most_digits + (1 + most_digits) * n

pub printing_starts : {before out : List ℕ} {at end : ℕ} (first : ℕ) → Wrote before at (decimal first) end out × (end ≤ at + most_digits)
    → Printing before at first [] 0 end out
unfolding spaced
printing_starts first w = record { wrote = rw append-nil w.0; few = omega (arith, w.1) }

module _ {before out : List ℕ} {at first end : ℕ} where
  -- One number more, after a space.
  pub printing_turns : (l : List ℕ) {after : List ℕ} {n next : ℕ} → n < length l → Printing before at first (take n l) n end out
      → Wrote (set out end SPACE) (end + 1) (decimal (get_or l n 0)) next after × (next ≤ end + 1 + most_digits)
      → Printing before at first (take (n + 1) l) (n + 1) next after
  printing_turns l {n = n} h k w =
      record {
        wrote = rw (take_more l n 0 h, spaced_last (take n l) (get_or l n 0), ← append_assoc) (wrote_join k.wrote (wrote_cons w.0));
        few = omega (arith, k.few, w.1);
      }

  -- All six, and a line feed.
  pub printing_ends : (x : Answer) {n : ℕ} → n ≡ 5 → Printing before at first (take n (x.number ∷ x.a ∷ x.b ∷ x.c ∷ x.d ∷ [])) n end out
      → Prints before at first x (end + 1) (set out end FEED)
  printing_ends x e k =
      let w = rw e at k.wrote in (
        rw (printed_spaced first (x.number ∷ x.a ∷ x.b ∷ x.c ∷ x.d ∷ []), ← append_assoc) (wrote_join w (wrote_cons (wrote_nil _ _))),
        omega (arith, k.few),
      )

-- A printed line lies within its buffer: for a program that passes it on.
pub line_within : (first : ℕ) (x : Answer) {before after : List ℕ} {at next : ℕ} → Prints before at first x next after
    → at + most_text ≤ length before → next ≤ length after
line_within first x p fits = omega (arith, p.1, wrote_length p.0)

-- ---- print

-- A line printed at the beginning of a buffer with room for it stands there.
pub line_there : (first : ℕ) (x : Answer) {before after : List ℕ} {next : ℕ} → Prints before 0 first x next after → most_text ≤ length before
    → take next after ≡ answer_text first x
line_there first x {after = after} {next} p fits =
    let to : next ≡ length (answer_text first x) = let t = p.0.to in omega arith in
    let stands : Stands after 0 (answer_text first x) next = wrote_stands (omega (arith, p.1, to)) p.0 in
    ap (take next) stands.here ∙ rw to (take-append_seam (answer_text first x) _)
