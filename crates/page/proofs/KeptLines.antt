-- Two pages of a sample, of two states of any plans: where they begin one byte string they have the same lines, and where the same is shown of
-- every analyte they are one page.
use mathlib.Core.Path.{◌≡◌, refl, ap, ◌∙◌}
use mathlib.Core.Bool.{Bool, true, false, cond}
use mathlib.Core.List.{List, ◌∷◌, ◌++◌}
use mathlib.Core.Option.{Option, none, some}
use Prim.Native.Nat.{ℕ, zero, suc, ◌+◌, ◌<◌, ◌≤◌}
use native.Mathlib.Omega.{arith}
use Rattle.plan.specs.Plan.{Plan}
use Rattle.store.specs.declared.Copy.{Copy}
use Rattle.store.specs.Copies.{has_value}
use Rattle.store.specs.State.{State, last_clock, current}
use Rattle.page_lines.specs.declared.PageLine.{PageLine}
use Rattle.page_lines.specs.PageLine.{analytes, last_sample, key_for, page_line, shown, page_lines_from, page_lines}
use Rattle.page_lines.proofs.LineLaws.{lines_few}
use Rattle.page.specs.PageBytes.{page_bytes, page_of}
use Rattle.page.proofs.PagesApart.{AllSmall, page_apart}

-- Current results have 32-bit values, and stamps below a clock of 32 bits.
pub record Bounded (p : Plan) (s : State) : Type 0 where
  pub values : (k : ℕ) (x : Copy) → current p s k ≡ some x → x.value ≤ 4294967295
  pub stamps : (k : ℕ) (x : Copy) → current p s k ≡ some x → x.stamp < s.clock
  pub clock : s.clock ≤ last_clock

module _ (p : Plan) (s : State) (sample : ℕ) (bounded : Bounded p s) where
  pub lines_small : (b n : ℕ) → b + n ≤ 4294967295 → AllSmall (page_lines_from p s sample b n)
  unfolding page_lines_from
  lines_small b zero h = tt
  lines_small b (suc n) h = go (current p s (key_for sample b)) refl (lines_small (suc b) n (omega arith))
    where
      ls : List PageLine
      ls = page_lines_from p s sample (suc b) n

      go : (o : Option Copy) → current p s (key_for sample b) ≡ o → AllSmall ls → AllSmall (shown b o ls)
      go none e h = h
      go (some x) e q = cases (has_value x.kind)
        where
          cases : (r : Bool) → AllSmall (cond r (page_line b x.value x.stamp ∷ ls) ls)
          cases true = (
            record {
              analyte = omega arith;
              value = bounded.values (key_for sample b) x e;
              stamp = omega (arith, bounded.stamps (key_for sample b) x e, bounded.clock);
            },
            q,
          )
          cases false = q

module _ (p q : Plan) (s t : State) (sample : ℕ) where
  -- Two pages that begin one byte string have the same lines.
  pub same_lines : sample ≤ last_sample → Bounded p s → Bounded q t → (a b : List ℕ) → page_of p s sample ++ a ≡ page_of q t sample ++ b
      → page_lines p s sample ≡ page_lines q t sample
  same_lines h bs bt a b e =
      (page_apart sample sample (page_lines p s sample) (page_lines q t sample) (omega arith) (omega arith)
      (omega (arith, lines_few p s sample 0 analytes)) (omega (arith, lines_few q t sample 0 analytes))
      (lines_small p s sample bs 0 analytes (omega arith)) (lines_small q t sample bt 0 analytes (omega arith)) a b e
      ).1

  -- Where the same is shown of so many analytes, the lines are the same;
  same_lines_from : (b n : ℕ)
      → ((a : ℕ) → a < b + n → (ls : List PageLine) → shown a (current p s (key_for sample a)) ls ≡ shown a (current q t (key_for sample a)) ls)
      → page_lines_from p s sample b n ≡ page_lines_from q t sample b n
  unfolding page_lines_from
  same_lines_from b zero same = refl
  same_lines_from b (suc n) same =
      ap (λ (ls : List PageLine). shown b (current p s (key_for sample b)) ls) (same_lines_from (suc b) n (λ a h. same a (omega arith)))
      ∙ same b (omega arith) (page_lines_from q t sample (suc b) n)

  -- where it is of every analyte, the pages are.
  pub same-page :
      ((a : ℕ) → a < analytes → (ls : List PageLine) → shown a (current p s (key_for sample a)) ls ≡ shown a (current q t (key_for sample a)) ls)
      → page_of p s sample ≡ page_of q t sample
  same-page same = ap (page_bytes sample) (same_lines_from 0 analytes (λ a h. same a (omega arith)))
