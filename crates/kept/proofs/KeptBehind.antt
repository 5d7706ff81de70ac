-- The harm from C: page and serve behind a pointer, and any calls of the C interface between them, each by its promise.
use mathlib.Core.Path.{◌≡◌, refl, sym, ap, ◌∙◌, subst}
use mathlib.Core.Bool.{true}
use mathlib.Core.List.{List, map}
use mathlib.Core.Logic.{◌↔◌}
use mathlib.Core.Option.{some}
use Prim.Native.Nat.{ℕ, ◌<◌}
use lib.ListN.{take}
use Rattle.store.specs.declared.Answer.{Answer}
use Rattle.store.specs.declared.Store.{Store}
use Rattle.store.specs.Answers.{DONE}
use Rattle.store.specs.Copies.{Kind}
use Rattle.store.specs.StoreRules.{good_store}
use Rattle.image.specs.Promises.{Saves}
use Rattle.trips.specs.Trips.{Declared}
use Rattle.page_lines.specs.PageLine.{analytes, key_for}
use Rattle.page.specs.Promises.{Pages, served_length, ServesLength}
use Rattle.export.specs.Promises.{LoadsBehind}
use Rattle.calls.specs.PublicCalls.{Call, store_after_all}
use Rattle.calls.specs.DeclaredNumbers.{DeclaredCalls}
use Rattle.calls.proofs.Follows.{calls_keep_good}
use Rattle.calls.proofs.KeepsDeclared.{calls_keep_declared}
use Rattle.behind.specs.Behind.{CallBehind, AllMeet, public_call}
use Rattle.behind.proofs.BehindPointers.{calls_behind}
use Rattle.kept.specs.Shows.{shows, ShowsSame}
use Rattle.kept.specs.Kept.{KeptOf, LengthIf}
use Rattle.kept.specs.Amended.{StoreGoesOn, SampleShowsAgain}
use Rattle.kept.specs.EntriesBehind.{EntersBehind, UntouchedBehind}
use Rattle.kept.proofs.PagesKept.{page_done, from_page_to_length}
use Rattle.kept.proofs.AmendedPages.{not_again, untouched_again, same_exactly}
use Rattle.kept.proofs.LoadedPages.{saved_and_loaded, loaded_store}
use Rattle.kept.proofs.EntriesBehind.{enters_behind, untouched_behind}

-- Page wrote into a buffer, and calls were made on the store behind the pointer through which it goes on.
module _ (z : Store) (declared : Declared z) (sample : ℕ) (before : List ℕ) (r : Answer) (after : List ℕ) (paged : Pages z sample before r after)
    (done : r.number ≡ DONE) (cs : List CallBehind) (y : Store) (all : AllMeet cs z y) (ds : DeclaredCalls (map public_call cs))
    (on : StoreGoesOn (map public_call cs) z) (kept : List ℕ) (begun : KeptOf r after kept) where
  good : good_store z ≡ true
  good = (page_done z sample before r after paged done).good

  abbrev calls : List Call
  calls = map public_call cs

  left : y ≡ store_after_all calls z
  left = calls_behind cs z y all

  good_left : good_store y ≡ true
  good_left = ap good_store left ∙ calls_keep_good calls z good

  declared_left : Declared y
  declared_left = subst Declared (sym left) (calls_keep_declared calls ds z declared)

  -- What it wrote was served.
  module _ (n : ℕ) (gives : ServesLength y sample kept n) where
    -- The length that serve gives is what page wrote exactly when every line of the sample shows again what it showed, and 0 exactly otherwise.
    pub page_calls_length : LengthIf (SampleShowsAgain z (map public_call cs) sample) r n
    page_calls_length =
        record {
          page_exactly = (λ m. same.0 (f.page_exactly.0 m), λ again. f.page_exactly.1 (same.1 again));
          none_exactly = (λ m again. f.none_exactly.0 m (same.1 again), λ no. f.none_exactly.1 (λ shown. no (same.0 shown)));
        }
      where
        same : ShowsSame z y sample ↔ SampleShowsAgain z calls sample
        same =
            subst (λ (w : Store). ShowsSame z w sample ↔ SampleShowsAgain z calls sample) (sym left)
            (same_exactly z good declared calls ds on sample)

        f : LengthIf (ShowsSame z y sample) r n
        f = from_page_to_length z y declared good_left declared_left sample before r after paged done kept begun n gives

    -- Never again: the page shows a line, and one of the calls was a step 1 or 2 of it that answered DONE.
    pub never_again_behind : (a : ℕ) → a < analytes → (w : ℕ × ℕ) → shows z (key_for sample a) ≡ some w
        → (kind : Kind) (v : ℕ) → EntersBehind cs kind (key_for sample a) v → n ≡ 0
    never_again_behind a g w shown kind v e =
        let f = enters_behind cs z y all kind (key_for sample a) v e in
        page_calls_length.none_exactly.1 λ again. not_again calls z kind (key_for sample a) f.0 f.1 w shown (again a g)

    -- The page, while no step 1 or 2 of the sample's lines answered DONE.
    pub served_behind_while_untouched : UntouchedBehind cs sample → n ≡ r.a
    served_behind_while_untouched none-of-it =
        page_calls_length.page_exactly.1 (untouched_again calls z sample (untouched_behind cs z y all sample none-of-it))

  -- In the evening and next morning: save was accepted, what it wrote was loaded behind any pointer, and what page wrote was served there.
  pub evening_and_morning_behind : UntouchedBehind cs sample
      → (room : List ℕ) (s : Answer) (saved : List ℕ) → Saves y room s saved → s.number ≡ DONE
      → (l : Answer) (x : Store) → LoadsBehind (take s.a saved) l x → (n : ℕ) → ServesLength x sample kept n → n ≡ r.a
  evening_and_morning_behind none-of-it room s saved saves saved-done l x loads n gives =
      gives
      ∙ ap (λ (w : Store). served_length w sample kept) (loads.1 ∙ loaded_store y good_left declared_left room s saved saves saved-done)
      ∙ ((saved_and_loaded y good_left declared_left).serves_same y sample).length_same kept
      ∙ served_behind_while_untouched (served_length y sample kept) refl none-of-it
