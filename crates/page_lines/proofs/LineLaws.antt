-- For each analyte a page's line is what its look gives, and there are no more lines than analytes.
use mathlib.Core.Path.{◌≡◌, refl, sym, ap, ◌∙◌}
use mathlib.Core.Bool.{Bool, true, false, cond}
use mathlib.Core.List.{List, ◌∷◌}
use mathlib.Core.Option.{Option, none, some}
use Prim.Native.Nat.{ℕ, zero, suc, ◌+◌, ◌<◌, ◌≤◌}
use native.Mathlib.Omega.{arith}
use native.Mathlib.Decide.{dec_lt}
use lib.Dec.{eqb}
use lib.ListN.{length}
use borrow.Author.Tests.{eqb-true, eq-eqb, ne_eqb}
use Rattle.plan.specs.Plan.{Plan}
use Rattle.store.specs.declared.Copy.{Copy}
use Rattle.store.specs.Copies.{has_value, find}
use Rattle.store.specs.State.{State, current}
use Rattle.page_lines.specs.declared.PageLine.{PageLine}
use Rattle.page_lines.specs.PageLine.{analytes, key_for, page_line, shown, page_lines_from, page_lines}

abbrev pub analyte_of : PageLine → ℕ
analyte_of l = l.analyte

-- The line that a look's result makes.
abbrev pub page_line_of : ℕ → Option Copy → Option PageLine
page_line_of analyte none = none
page_line_of analyte (some x) = cond (has_value x.kind) (some (page_line analyte x.value x.stamp)) none

-- What is shown of one analyte, by cases: nothing, or its line.
find-shown : (a b : ℕ) (o : Option Copy) (ls : List PageLine) → (a ≡ b → find analyte_of ls a ≡ none)
    → find analyte_of (shown b o ls) a ≡ cond (eqb b a) (page_line_of b o) (find analyte_of ls a)
unfolding find
find-shown a b none ls h = go (eqb b a) refl
  where
    go : (t : Bool) → eqb b a ≡ t → find analyte_of ls a ≡ cond t none (find analyte_of ls a)
    go true t = h (sym (eqb-true b a t))
    go false t = refl
find-shown a b (some x) ls h = go (has_value x.kind) (eqb b a) refl
  where
    l : PageLine
    l = page_line b x.value x.stamp

    go : (r t : Bool) → eqb b a ≡ t → find analyte_of (cond r (l ∷ ls) ls) a ≡ cond t (cond r (some l) none) (find analyte_of ls a)
    go true true e = rw e
    go true false e = rw e
    go false true e = h (sym (eqb-true b a e))
    go false false e = refl

module _ (p : Plan) (s : State) (sample : ℕ) where
  -- No line of an analyte below those asked for.
  lines_above : (a b n : ℕ) → a < b → find analyte_of (page_lines_from p s sample b n) a ≡ none
  unfolding page_lines_from
  lines_above a b zero h = unfold find in refl
  lines_above a b (suc n) h =
      let r = lines_above a (suc b) n (omega arith) in
      find-shown a b (current p s (key_for sample b)) (page_lines_from p s sample (suc b) n) (λ e. r)
      ∙ rw (ne_eqb b a (λ e. omega arith)) r

  -- The page's line of an analyte is its look's result, or none.
  pub lines_find : (a b n : ℕ) → b ≤ a → a < b + n → find analyte_of (page_lines_from p s sample b n) a ≡ page_line_of a (current p s (key_for sample a))
  unfolding page_lines_from
  lines_find a b zero h g = absurd (omega arith)
  lines_find a b (suc n) h g = go (dec_lt b a) (λ q. lines_find a (suc b) n q (omega arith))
    where
      rest : List PageLine
      rest = page_lines_from p s sample (suc b) n

      go : Dec (b < a) → (b < a → find analyte_of rest a ≡ page_line_of a (current p s (key_for sample a)))
          → find analyte_of (shown b (current p s (key_for sample b)) rest) a ≡ page_line_of a (current p s (key_for sample a))
      go (yes q) again =
          find-shown a b (current p s (key_for sample b)) rest (λ e. absurd (omega arith)) ∙ rw (ne_eqb b a (λ e. omega arith)) (again q)
      go (no q) again =
          let e : b ≡ a = omega arith in
          find-shown a b (current p s (key_for sample b)) rest (λ d. lines_above a (suc b) n (omega arith))
          ∙ rw (eq-eqb b a e) (ap (λ (c : ℕ). page_line_of c (current p s (key_for sample c))) e)

  -- A page has at most a line for each analyte asked for.
  pub lines_few : (b n : ℕ) → length (page_lines_from p s sample b n) ≤ n
  unfolding page_lines_from
  lines_few b zero = omega arith
  lines_few b (suc n) = go (current p s (key_for sample b)) (lines_few (suc b) n)
    where
      go : (o : Option Copy) → length (page_lines_from p s sample (suc b) n) ≤ n → length (shown b o (page_lines_from p s sample (suc b) n)) ≤ suc n
      go none h = omega arith
      go (some x) h = cases (has_value x.kind)
        where
          cases : (r : Bool)
              → length (cond r (page_line b x.value x.stamp ∷ page_lines_from p s sample (suc b) n) (page_lines_from p s sample (suc b) n))
              ≤ suc n
          cases true = omega arith
          cases false = omega arith

-- Pages with the same lines, of two states of any plans, show the same of every analyte.
pub same_line : (p q : Plan) (s t : State) (sample : ℕ) → page_lines p s sample ≡ page_lines q t sample → (a : ℕ) → a < analytes
    → page_line_of a (current p s (key_for sample a)) ≡ page_line_of a (current q t (key_for sample a))
same_line p q s t sample e a h =
    sym (lines_find p s sample a 0 analytes (omega arith) (omega arith)) ∙ ap (λ (ls : List PageLine). find analyte_of ls a) e
    ∙ lines_find q t sample a 0 analytes (omega arith) (omega arith)
