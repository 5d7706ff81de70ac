-- A page's bytes written one after another: each turn and each way out. And what the library's starts_with says of kept bytes and a page.
use mathlib.Core.Path.{◌≡◌, refl, ap, ◌∙◌}
use mathlib.Core.List.{List, ◌++◌}
use Prim.Native.Nat.{ℕ, ◌+◌, ◌<◌, ◌≤◌}
use native.Mathlib.Omega.{arith}
use native.Mathlib.Numerals.{add-one}
use lib.ListN.{length, get_or, drop, length-append, drop_of_length-le}
use lib.Seq.{drop-cons}
use Rattle.lists.specs.Stands.{Wrote}
use Rattle.lists.proofs.Standing.{wrote_nil, wrote_join, wrote_length}
use Rattle.number.specs.Number.{form}
use Rattle.store.specs.Copies.{RESULT}
use Rattle.copies.specs.CopyBytes.{value_bytes}
use Rattle.page_lines.specs.declared.PageLine.{PageLine}
use Rattle.page.specs.PageBytes.{page_line_bytes, page_lines_bytes, page_bytes}

-- ---- a line

pub line_long : (l : PageLine) → length (page_line_bytes l)
    ≡ length (form l.analyte) + (length (value_bytes RESULT l.value) + length (form l.stamp))
unfolding page_line_bytes
line_long l = simp length-append

pub line_wrote : (l : PageLine) {b : List ℕ} {at : ℕ} {c : List ℕ} {mid : ℕ} {d : List ℕ} {late next : ℕ} {e : List ℕ} → Wrote b at (form l.analyte) mid c
    → Wrote c mid (value_bytes RESULT l.value) late d → Wrote d late (form l.stamp) next e → Wrote b at (page_line_bytes l) next e
unfolding page_line_bytes
line_wrote l p q r = wrote_join p (wrote_join q r)

-- ---- the lines

-- The bytes of the lines from i on.
abbrev pub bytes_from : List PageLine → ℕ → List ℕ
bytes_from ls i = page_lines_bytes (drop i ls)

-- The bytes of the lines from i on fit at an offset, and once they are written there, those of all lines were written at the first.
pub record WritingLines (ls : List PageLine) (before : List ℕ) (at : ℕ) (buffer : List ℕ) (next i : ℕ) : Type 0 where
  pub kept : length buffer ≡ length before
  pub fits : next + length (bytes_from ls i) ≤ length buffer
  pub joins : (end : ℕ) (after : List ℕ) → Wrote buffer next (bytes_from ls i) end after
      → Wrote before at (page_lines_bytes ls) end after

module _ (ls : List PageLine) where
  pub lines_start : (before : List ℕ) (at : ℕ) → at + length (page_lines_bytes ls) ≤ length before → WritingLines ls before at before at 0
  lines_start before at h = record { kept = refl; fits = h; joins = λ end after w. w }

  module _ (d : PageLine) (i : ℕ) (h : i < length ls) where
    bytes_on : bytes_from ls i ≡ page_line_bytes (get_or ls i d) ++ bytes_from ls (i + 1)
    unfolding page_lines_bytes
    bytes_on = rw (drop-cons ls i d h, add-one)

    bytes_long : length (bytes_from ls i) ≡ length (page_line_bytes (get_or ls i d)) + length (bytes_from ls (i + 1))
    bytes_long = ap length bytes_on ∙ length-append (page_line_bytes (get_or ls i d)) (bytes_from ls (i + 1))

    module _ {before : List ℕ} {at : ℕ} {buffer : List ℕ} {next : ℕ} (k : WritingLines ls before at buffer next i) where
      -- A turn writes one line.
      pub line_fits : next + length (page_line_bytes (get_or ls i d)) ≤ length buffer
      line_fits = omega (arith, k.fits, bytes_long)

      pub lines_turn : {last : ℕ} {after : List ℕ} → Wrote buffer next (page_line_bytes (get_or ls i d)) last after
          → WritingLines ls before at after last (i + 1)
      lines_turn w =
          record {
            kept = wrote_length w ∙ k.kept;
            fits = omega (arith, k.fits, bytes_long, w.to, wrote_length w);
            joins = λ end after v. k.joins end after (rw bytes_on (wrote_join w v));
          }

  pub lines_end : {before : List ℕ} {at : ℕ} {buffer : List ℕ} {next i : ℕ} → WritingLines ls before at buffer next i → length ls ≤ i
      → Wrote before at (page_lines_bytes ls) next buffer
  unfolding page_lines_bytes
  lines_end {buffer = buffer} {next = next} {i = i} k h = k.joins next buffer (rw (drop_of_length-le ls h) (wrote_nil buffer next))

-- ---- the page

pub page_long : (sample : ℕ) (ls : List PageLine) → length (page_bytes sample ls) ≡ length (form sample) + (length (form (length ls)) + length (page_lines_bytes ls))
unfolding page_bytes
page_long sample ls = simp length-append

pub page_wrote : (sample : ℕ) (ls : List PageLine) {b c : List ℕ} {mid : ℕ} {d : List ℕ} {late next : ℕ} {e : List ℕ} → Wrote b 0 (form sample) mid c
    → Wrote c mid (form (length ls)) late d → Wrote d late (page_lines_bytes ls) next e → Wrote b 0 (page_bytes sample ls) next e
unfolding page_bytes
page_wrote sample ls p q w = wrote_join p (wrote_join q w)
