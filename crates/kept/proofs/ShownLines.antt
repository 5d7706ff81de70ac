-- The page of a sample is what is shown of each of its lines, and no more: two stores, of any plans, have one page of a sample exactly when
-- they show the same of each line.
use mathlib.Core.Path.{◌≡◌, refl, sym, ap, ◌∙◌, subst}
use mathlib.Core.Bool.{true, false}
use mathlib.Core.List.{List, ◌∷◌, ◌++◌, Memᴰ}
use mathlib.Core.Logic.{◌⊎◌, inl, inr}
use mathlib.Core.Option.{Option, none, some}
use Prim.Native.Nat.{ℕ, ◌<◌, ◌≤◌}
use native.Mathlib.Omega.{arith}
use Rattle.lists.proofs.Truths.{bool?}
use Rattle.store.specs.declared.Copy.{Copy}
use Rattle.store.specs.declared.Store.{Store}
use Rattle.store.specs.Copies.{has_value, stamp_of}
use Rattle.store.specs.Layout.{plan_of, state_of}
use Rattle.store.specs.StoreRules.{good_store}
use Rattle.store.proofs.Lifting.{plan_good, state_good}
use Rattle.theory.specs.Events.{held}
use Rattle.theory.specs.Paper.{InHistory, Multicopy}
use Rattle.theory.proofs.Invariants.{history_in, multicopy_held}
use Rattle.trips.specs.Trips.{Declared}
use Rattle.page_lines.specs.declared.PageLine.{PageLine}
use Rattle.page_lines.specs.PageLine.{last_sample, key_for, page_line, shown}
use Rattle.page_lines.proofs.LineLaws.{page_line_of, same_line}
use Rattle.page.specs.Promises.{page_now}
use Rattle.page.proofs.KeptLines.{Bounded, same_lines, same-page}
use Rattle.calls.specs.Recent.{current_in}
use Rattle.calls.proofs.KeepsDeclared.{declared_small}
use Rattle.kept.specs.Shows.{shown_of, ShowsSame}

-- ---- one line

-- The lines with what is shown of one more analyte.
abbrev with_shown : ℕ → Option (ℕ × ℕ) → List PageLine → List PageLine
with_shown a none ls = ls
with_shown a (some w) ls = page_line a w.0 w.1 ∷ ls

shown_with : (a : ℕ) (o : Option Copy) (ls : List PageLine) → shown a o ls ≡ with_shown a (shown_of o) ls
shown_with a none ls = refl
shown_with a (some x) ls = go (bool? (has_value x.kind))
  where
    go : (has_value x.kind ≡ true) ⊎ (has_value x.kind ≡ false) → shown a (some x) ls ≡ with_shown a (shown_of (some x)) ls
    go (inl t) = rw t
    go (inr f) = rw f

-- What a page's line shows.
abbrev value_and_stamp : Option PageLine → Option (ℕ × ℕ)
value_and_stamp none = none
value_and_stamp (some l) = some (l.value, l.stamp)

line-shows : (a : ℕ) (o : Option Copy) → value_and_stamp (page_line_of a o) ≡ shown_of o
line-shows a none = refl
line-shows a (some x) = go (bool? (has_value x.kind))
  where
    go : (has_value x.kind ≡ true) ⊎ (has_value x.kind ≡ false) → value_and_stamp (page_line_of a (some x)) ≡ shown_of (some x)
    go (inl t) = rw t
    go (inr f) = rw f

-- ---- stores

-- What a page can show of a good store of the declared type has 32 bits.
pub store_bounded : (z : Store) → good_store z ≡ true → Declared z → Bounded (plan_of z) (state_of z)
store_bounded z good declared =
    record {
      values = λ k x e. (declared_small z good declared x (in_held k x e)).value;
      stamps = λ k x e. subst (λ (o : Option Copy). stamp_of o < (state_of z).clock) e (c.h_clock k (current_in z k) (c.invariant_1 k).in_history);
      clock = (state_good z good).clock_within.1;
    }
  where
    c : Multicopy (plan_of z) (state_of z) (InHistory (held (state_of z)))
    c = multicopy_held (plan_of z) (plan_good z good) (state_of z) (state_good z good)

    in_held : (k : ℕ) (x : Copy) → current_in z k ≡ some x → Memᴰ x (held (state_of z))
    in_held k x e = (history_in (held (state_of z)) k (current_in z k) x (c.invariant_1 k).in_history e).1

module _ (z y : Store) (sample : ℕ) where
  -- Two stores that show the same of a sample have one page of it.
  pub page_if_same : ShowsSame z y sample → page_now y sample ≡ page_now z sample
  page_if_same same =
      sym
      (same-page (plan_of z) (plan_of y) (state_of z) (state_of y) sample λ a h ls.
      shown_with a (current_in z (key_for sample a)) ls
      ∙ ap (λ (o : Option (ℕ × ℕ)). with_shown a o ls) (same a (omega arith))
      ∙ sym (shown_with a (current_in y (key_for sample a)) ls))

  -- Two stores whose pages of a sample begin one byte string show the same of it.
  pub same_if_pages : good_store z ≡ true → Declared z → good_store y ≡ true → Declared y → sample ≤ last_sample
      → (a b : List ℕ) → page_now z sample ++ a ≡ page_now y sample ++ b → ShowsSame z y sample
  same_if_pages good-z declared-z good_y declared_y h a b e n g =
      let lines =
      same_lines (plan_of z) (plan_of y) (state_of z) (state_of y) sample h (store_bounded z good-z declared-z)
      (store_bounded y good_y declared_y) a b e in
      sym (line-shows n (current_in z (key_for sample n)))
      ∙ ap value_and_stamp (same_line (plan_of z) (plan_of y) (state_of z) (state_of y) sample lines n g)
      ∙ line-shows n (current_in y (key_for sample n))
