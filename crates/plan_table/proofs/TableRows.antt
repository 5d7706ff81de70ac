-- What is said of a plan by its number, row by row of the table.
use mathlib.Core.Path.{◌≡◌, sym, ap, ◌∙◌}
use mathlib.Core.Bool.{cond}
use mathlib.Core.List.{List, [], map}
use Prim.Native.Nat.{ℕ, suc, ◌+◌, ◌<◌, ◌≤◌}
use native.Mathlib.Omega.{arith}
use native.Mathlib.Decide.{dec_lt}
use lib.Dec.{leb}
use lib.ListN.{get_or}
use borrow.Author.Tests.{le-leb, lt-leb}
use Rattle.lists.proofs.Storing.{get_d_map}
use Rattle.plan.specs.Plan.{Plan}
use Rattle.plan_table.specs.PlanTable.{plan_table, plans, plan_numbered}
use Rattle.plan_table.proofs.TableLaws.{no_plan}

-- The plan with this number, if its row is among so many first ones; else a plan without nodes.
unfoldable pub among : ℕ → ℕ → Plan
among rows plan = cond (leb plan rows) (plan_numbered plan) []

module _ (plan : ℕ) where
  own : (rows : ℕ) → plan ≤ rows → among rows plan ≡ plan_numbered plan
  unfolding among
  own rows h = rw (le-leb plan rows h)

  other : (rows : ℕ) → rows < plan → among rows plan ≡ []
  unfolding among
  other rows h = rw (lt-leb plan rows h)

-- Said of a plan, before any row,
module _ {A : Type 0} (f : Plan → A) (plan : ℕ) where
  pub no_row : f [] ≡ f (among 0 plan)
  unfolding plan_numbered
  no_row = go (dec_lt 0 plan)
    where
      go : Dec (0 < plan) → f [] ≡ f (among 0 plan)
      go (yes h) = ap f (sym (other plan 0 h))
      go (no h) = let none : 0 ≡ plan = omega arith in ap (λ (n : ℕ). f (plan_numbered n)) none ∙ ap f (sym (own plan 0 (omega arith)))

  -- at its own row,
  pub own_row : (rows : List A) (none : A) (row : ℕ) → rows ≡ map f plan_table → row < plans → row + 1 ≡ plan
      → get_or rows row none ≡ f (among (row + 1) plan)
  unfolding plans plan_numbered
  own_row rows none row e h i =
      let next : suc row ≡ plan = omega arith in
      ap (λ (l : List A). get_or l row none) e ∙ get_d_map f plan_table row [] none h ∙ ap (λ (n : ℕ). f (plan_numbered n)) next
      ∙ ap f (sym (own plan (row + 1) (omega arith)))

  -- at another's,
  pub other_row : (row : ℕ) → (row + 1 ≡ plan → ⊥) → f (among row plan) ≡ f (among (row + 1) plan)
  other_row row i = go (dec_lt row plan)
    where
      go : Dec (row < plan) → f (among row plan) ≡ f (among (row + 1) plan)
      go (yes h) = ap f (other plan row h ∙ sym (other plan (row + 1) (omega arith)))
      go (no h) = ap f (own plan row (omega arith) ∙ sym (own plan (row + 1) (omega arith)))

  -- and past the last.
  pub last_row : (row : ℕ) → plans ≤ row → f (among row plan) ≡ f (plan_numbered plan)
  last_row row h = go (dec_lt row plan)
    where
      go : Dec (row < plan) → f (among row plan) ≡ f (plan_numbered plan)
      go (yes g) = ap f (other plan row g ∙ sym (no_plan plan (omega arith)))
      go (no g) = ap f (own plan row (omega arith))

  -- So a row by its index is the plan's own,
  pub row_at : (rows : List A) (none : A) (row : ℕ) → rows ≡ map f plan_table → row < plans → row + 1 ≡ plan → get_or rows row none ≡ f (plan_numbered plan)
  row_at rows none row e h i = own_row rows none row e h i ∙ ap f (own plan (row + 1) (omega arith))

  -- and a number that no plan has is said of a plan without nodes.
  pub row_of_none : (1 ≤ plan → plans < plan) → f [] ≡ f (plan_numbered plan)
  row_of_none h = go (dec_lt 0 plan)
    where
      go : Dec (0 < plan) → f [] ≡ f (plan_numbered plan)
      go (yes l) = ap f (sym (no_plan plan (h (omega arith))))
      go (no l) = no_row ∙ ap f (own plan 0 (omega arith))
