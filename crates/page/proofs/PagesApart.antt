-- A page reads back from the left: two byte strings that begin with pages and are equal have the same sample and the same lines.
use mathlib.Core.Path.{◌≡◌, refl, sym, ◌∙◌}
use mathlib.Core.Bool.{true}
use mathlib.Core.List.{List, [], ◌∷◌, ◌++◌, append_assoc}
use Prim.Native.Nat.{ℕ, ◌≤◌}
use native.Mathlib.Omega.{arith}
use lib.Dec.{eqb}
use lib.ListN.{length}
use borrow.Author.Tests.{eqb-true, eq-eqb}
use Rattle.lists.proofs.Truths.{and_left, and_right, not_both}
use Rattle.number.specs.Number.{form}
use Rattle.number.proofs.Readings.{form-apart, form_rest}
use Rattle.copies.proofs.CopyLengths.{result_written}
use Rattle.page_lines.specs.declared.PageLine.{PageLine}
use Rattle.page.specs.PageBytes.{page_line_bytes, page_lines_bytes, page_bytes, begins}

-- A line whose numbers have 32 bits.
pub record Small (l : PageLine) : Type 0 where
  pub analyte : l.analyte ≤ 4294967295
  pub value : l.value ≤ 4294967295
  pub stamp : l.stamp ≤ 4294967295

abbrev pub AllSmall : List PageLine → Type 0
AllSmall [] = Unit {0}
AllSmall (l ∷ ls) = Small l × AllSmall ls

-- Two lines that begin one byte string are equal, and so is what follows them.
line-apart : (l m : PageLine) → Small l → Small m → (a b : List ℕ) → page_line_bytes l ++ a ≡ page_line_bytes m ++ b → (l ≡ m) × (a ≡ b)
unfolding page_line_bytes
line-apart l m p q a b e = (λ i. record { analyte = e1 i; value = e3 i; stamp = e5 i }, e6)
  where
    e0 : form l.analyte ++ (form l.value ++ (form l.stamp ++ a)) ≡ form m.analyte ++ (form m.value ++ (form m.stamp ++ b))
    e0 = simp (append_assoc, result_written) at e

    e1 : l.analyte ≡ m.analyte
    e1 = form-apart _ _ p.analyte q.analyte e0

    e2 : form l.value ++ (form l.stamp ++ a) ≡ form m.value ++ (form m.stamp ++ b)
    e2 = form_rest _ _ p.analyte q.analyte e0

    e3 : l.value ≡ m.value
    e3 = form-apart _ _ p.value q.value e2

    e4 : form l.stamp ++ a ≡ form m.stamp ++ b
    e4 = form_rest _ _ p.value q.value e2

    e5 : l.stamp ≡ m.stamp
    e5 = form-apart _ _ p.stamp q.stamp e4

    e6 : a ≡ b
    e6 = form_rest _ _ p.stamp q.stamp e4

lines_apart : (ls ms : List PageLine) → length ls ≡ length ms → AllSmall ls → AllSmall ms → (a b : List ℕ)
    → page_lines_bytes ls ++ a ≡ page_lines_bytes ms ++ b → ls ≡ ms
unfolding page_lines_bytes
lines_apart [] [] n p q a b e = refl
lines_apart [] (m ∷ ms) n p q a b e = absurd (omega arith)
lines_apart (l ∷ ls) [] n p q a b e = absurd (omega arith)
lines_apart (l ∷ ls) (m ∷ ms) n p q a b e =
    let w =
    line-apart l m p.0 q.0 (page_lines_bytes ls ++ a) (page_lines_bytes ms ++ b)
    (sym (append_assoc (page_line_bytes l) (page_lines_bytes ls) a) ∙ e ∙ append_assoc (page_line_bytes m) (page_lines_bytes ms) b)
    in
    let r : ls ≡ ms = lines_apart ls ms (omega arith) p.1 q.1 a b w.1 in
    λ i. w.0 i ∷ r i

-- Two pages that begin one byte string are of one sample and have the same lines.
pub page_apart : (sample other : ℕ) (ls ms : List PageLine) → sample ≤ 4294967295 → other ≤ 4294967295
    → length ls ≤ 4294967295 → length ms ≤ 4294967295 → AllSmall ls → AllSmall ms → (a b : List ℕ)
    → page_bytes sample ls ++ a ≡ page_bytes other ms ++ b → (sample ≡ other) × (ls ≡ ms)
unfolding page_bytes
page_apart sample other ls ms h g hl gl p q a b e = (form-apart _ _ h g e0, lines_apart ls ms (form-apart _ _ hl gl e1) p q a b (form_rest _ _ hl gl e1))
  where
    e0 : form sample ++ (form (length ls) ++ (page_lines_bytes ls ++ a)) ≡ form other ++ (form (length ms) ++ (page_lines_bytes ms ++ b))
    e0 = simp append_assoc at e

    e1 : form (length ls) ++ (page_lines_bytes ls ++ a) ≡ form (length ms) ++ (page_lines_bytes ms ++ b)
    e1 = form_rest _ _ h g e0

-- Bytes that begin with others are these and a rest.
pub begins_rest : (bytes page : List ℕ) → begins bytes page ≡ true → (rest : List ℕ) × (bytes ≡ page ++ rest)
unfolding begins
begins_rest bytes [] t = (bytes, refl)
begins_rest [] (b ∷ bs) t = absurd (not_both t refl)
begins_rest (a ∷ bytes) (b ∷ bs) t =
    let e : a ≡ b = eqb-true a b (and_left (eqb a b) (begins bytes bs) t) in
    let w = begins_rest bytes bs (and_right (eqb a b) (begins bytes bs) t) in
    (w.0, λ i. e i ∷ w.1 i)

pub rest_begins : (page rest : List ℕ) → begins (page ++ rest) page ≡ true
unfolding begins
rest_begins [] rest = refl
rest_begins (b ∷ bs) rest = rw (eq-eqb b b refl) (rest_begins bs rest)
