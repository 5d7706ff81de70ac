-- "At most 357 bytes."
use mathlib.Core.Bool.{Bool, true, false, cond}
use mathlib.Core.List.{List, ◌∷◌}
use mathlib.Core.Option.{Option, none, some}
use Prim.Native.Nat.{ℕ, zero, suc, ◌+◌, ◌*◌, ◌<◌, ◌≤◌}
use native.Mathlib.Omega.{arith}
use lib.ListN.{length, length-append}
use Rattle.number.specs.Number.{form}
use Rattle.number.proofs.Forms.{form_some, form-length, form-width}
use Rattle.plan.specs.Plan.{Plan}
use Rattle.store.specs.declared.Copy.{Copy}
use Rattle.store.specs.Copies.{RESULT, has_value}
use Rattle.store.specs.State.{State, current}
use Rattle.copies.proofs.CopyLengths.{value_short}
use Rattle.page_lines.specs.declared.PageLine.{PageLine}
use Rattle.page_lines.specs.PageLine.{analytes, last_sample, key_for, page_line, shown, page_lines_from, page_lines}
use Rattle.page_lines.proofs.LineLaws.{lines_few}
use Rattle.page.specs.PageBytes.{page_line_bytes, page_lines_bytes, page_bytes, most_page_bytes, page_of}

one_byte : (v : ℕ) → v < 128 → length (form v) ≤ 1
one_byte v h = (form-width v 1 (omega arith) (omega arith)).1 h

line-length : (l : PageLine) → l.analyte < 128 → length (page_line_bytes l) ≤ 11
unfolding page_line_bytes
line-length l h =
    simp length-append
    (omega (arith, one_byte l.analyte h, value_short RESULT l.value, form-length l.stamp))

module _ (p : Plan) (s : State) (sample : ℕ) where
  lines_length : (b n : ℕ) → b + n ≤ 128 → length (page_lines_bytes (page_lines_from p s sample b n)) ≤ 11 * n
  unfolding page_lines_from page_lines_bytes
  lines_length b zero h = omega arith
  lines_length b (suc n) h = go (current p s (key_for sample b)) (lines_length (suc b) n (omega arith))
    where
      ls : List PageLine
      ls = page_lines_from p s sample (suc b) n

      go : (o : Option Copy) → length (page_lines_bytes ls) ≤ 11 * n → length (page_lines_bytes (shown b o ls)) ≤ 11 * suc n
      go none q = omega arith
      go (some x) q = cases (has_value x.kind)
        where
          l : PageLine
          l = page_line b x.value x.stamp

          cases : (r : Bool) → length (page_lines_bytes (cond r (l ∷ ls) ls)) ≤ 11 * suc n
          cases true = rw length-append (omega (arith, line-length l (omega arith)))
          cases false = omega arith

  pub page_length : sample ≤ last_sample → length (page_of p s sample) ≤ most_page_bytes
  unfolding page_bytes
  page_length h =
      simp length-append
      (omega (
        arith,
        (form-width sample 4 (omega arith) (omega arith)).1 (omega arith),
        one_byte (length (page_lines p s sample)) (omega (arith, lines_few p s sample 0 analytes)),
        lines_length 0 analytes (omega arith),
      ))

  -- No page is empty.
  pub page_some : 1 ≤ length (page_of p s sample)
  unfolding page_bytes
  page_some = simp length-append (omega (arith, form_some sample))
