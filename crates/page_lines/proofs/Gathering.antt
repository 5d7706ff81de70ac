-- The lines of a page gathered analyte by analyte: what the start, each turn and the end leave.
use mathlib.Core.Path.{◌≡◌, refl, sym, ap, ◌∙◌}
use mathlib.Core.Bool.{Bool, true, false, cond}
use mathlib.Core.List.{List, [], ◌∷◌, ◌++◌, append_assoc, append-nil}
use mathlib.Core.Option.{Option, none, some}
use Rattle.std.specs.Prelude.{Some, None}
use Prim.Native.Nat.{ℕ, suc, ◌+◌, ◌-◌, ◌<◌, ◌≤◌}
use native.Mathlib.Omega.{arith}
use native.Mathlib.Numerals.{add-one}
use lib.ListN.{length, get_or, length-append}
use Rattle.arrayvec.specs.ArrayVec.{ArrayVec}
use Rattle.store.specs.declared.Copy.{Copy}
use Rattle.store.specs.declared.Store.{Store}
use Rattle.store.specs.Copies.{has_value}
use Rattle.store.specs.State.{current}
use Rattle.page_lines.specs.declared.PageLine.{PageLine}
use Rattle.page_lines.specs.PageLine.{analytes, key_for, page_line, shown, page_lines_from, page_lines}
use Rattle.page_lines.specs.Workers.{state_up_to, EachPlanOf, Place, copy_there}

pub same_items : {v w : ArrayVec PageLine} → v ≡ w → v.items ≡ w.items
same_items e = ap (λ (v : ArrayVec PageLine). v.items) e

-- What is shown of a line stands in front of the lines after it,
shown_front : (analyte : ℕ) (o : Option Copy) (ls : List PageLine) → shown analyte o ls ≡ shown analyte o [] ++ ls
shown_front analyte none ls = refl
shown_front analyte (some x) ls = go (has_value x.kind)
  where
    l : PageLine
    l = page_line analyte x.value x.stamp

    go : (b : Bool) → cond b (l ∷ ls) ls ≡ cond b (l ∷ []) [] ++ ls
    go true = refl
    go false = refl

-- and is at most one line.
shown_few : (analyte : ℕ) (o : Option Copy) → length (shown analyte o []) ≤ 1
shown_few analyte none = omega arith
shown_few analyte (some x) = go (has_value x.kind)
  where
    go : (b : Bool) → length (cond b (page_line analyte x.value x.stamp ∷ []) []) ≤ 1
    go true = omega arith
    go false = omega arith

-- A turn, by the place of the line's current copy: it has none, or none with a value, and there is no line more; or one, and its line.
pub data Turn (z : Store) (analyte : ℕ) (place : Place) (ls ms : List PageLine) : Type 0 where
  never : ((i : ℕ) → place ≡ Some i → ⊥) → ms ≡ ls → Turn z analyte place ls ms
  other : {i : ℕ} → place ≡ Some i → has_value (get_or z.kinds i 0) ≡ false → ms ≡ ls → Turn z analyte place ls ms
  valued : {i : ℕ} → place ≡ Some i → has_value (get_or z.kinds i 0) ≡ true
      → ms ≡ ls ++ page_line analyte (get_or z.values i 0) (get_or z.stamps i 0) ∷ [] → Turn z analyte place ls ms

-- What it adds is what is shown of the copy there.
turn_adds : (z : Store) (analyte : ℕ) (place : Place) (ls ms : List PageLine) → Turn z analyte place ls ms
    → ls ++ shown analyte (copy_there z place) [] ≡ ms
turn_adds z analyte None ls ms (never m d) = rw (append-nil, d)
turn_adds z analyte (Some i) ls ms (never m d) = absurd (m i refl)
turn_adds z analyte place ls ms (other e k d) = rw (e, k, append-nil, d)
turn_adds z analyte place ls ms (valued e k d) = rw (e, k, d)

module _ (nodes : ℕ) (z : Store) (sample : ℕ) where
  -- The lines gathered of the analytes below one, and those of the analytes from it on, are all of the page's, in each plan.
  pub record Gathered (analyte : ℕ) (ls : List PageLine) : Type 0 where
    pub few : length ls ≤ analyte
    pub all : EachPlanOf nodes z (λ p. ls ++ page_lines_from p (state_up_to nodes z) sample analyte (analytes - analyte) ≡ page_lines p (state_up_to nodes z) sample)

  -- Before the first analyte there is no line.
  pub gather_starts : (ls : List PageLine) → ls ≡ [] → Gathered 0 ls
  gather_starts ls e = record { few = omega (arith, ap length e); all = λ p w. rw e }

  -- A turn adds what is shown of its analyte,
  added : (analyte : ℕ) (ls : List PageLine) (place : Place) → analyte < analytes
      → EachPlanOf nodes z (λ p. copy_there z place ≡ current p (state_up_to nodes z) (key_for sample analyte))
      → Gathered analyte ls → Gathered (analyte + 1) (ls ++ shown analyte (copy_there z place) [])
  unfolding page_lines_from
  added analyte ls place h e g =
      record {
        few = omega (arith, length-append ls (shown analyte (copy_there z place) []), shown_few analyte (copy_there z place), g.few);
        all = λ p w. rw append_assoc (ap (λ (ms : List PageLine). ls ++ ms) (sym (turn p w)) ∙ g.all p w);
      }
    where
      turn : EachPlanOf nodes z (λ p. page_lines_from p (state_up_to nodes z) sample analyte (analytes - analyte)
          ≡ shown analyte (copy_there z place) [] ++ page_lines_from p (state_up_to nodes z) sample (analyte + 1) (analytes - (analyte + 1)))
      turn p w =
          let m : analytes - analyte ≡ suc (analytes - (analyte + 1)) = omega arith in
          rw (m, e p w, add-one)
          (shown_front analyte (current p (state_up_to nodes z) (key_for sample analyte)) (page_lines_from p (state_up_to nodes z) sample (suc analyte) (analytes - suc analyte)))

  -- whichever way it takes.
  pub gather_turns : (analyte : ℕ) (ls ms : List PageLine) (place : Place) → analyte < analytes
      → EachPlanOf nodes z (λ p. copy_there z place ≡ current p (state_up_to nodes z) (key_for sample analyte))
      → Gathered analyte ls → Turn z analyte place ls ms → Gathered (analyte + 1) ms
  gather_turns analyte ls ms place h e g t = rw (turn_adds z analyte place ls ms t) at (added analyte ls place h e g)

  pub gather_ends : (ls : List PageLine) → Gathered analytes ls → EachPlanOf nodes z (λ p. ls ≡ page_lines p (state_up_to nodes z) sample)
  unfolding page_lines_from
  gather_ends ls g p w = rw append-nil at (g.all p w)
