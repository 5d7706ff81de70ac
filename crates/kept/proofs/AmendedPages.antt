-- Bytes kept from a store, over calls through which it goes on, saved and loaded too: when they are served, exactly; never again after an
-- entry of a line that they show; not while a result entered since stands; and always while nothing is entered of the sample.
use mathlib.Core.Path.{◌≡◌, refl, sym, ap, ◌∙◌}
use mathlib.Core.Bool.{Bool, true, false, cond}
use mathlib.Core.List.{List, [], ◌∷◌}
use mathlib.Core.Logic.{◌↔◌, ◌⊎◌, inl, inr}
use mathlib.Core.Option.{Option, none, some}
use Prim.Native.Nat.{ℕ, ◌<◌, ◌≤◌}
use native.Mathlib.Omega.{arith}
use denote.Ref.{Bor}
use Rattle.lists.proofs.Truths.{bool?, not_both}
use Rattle.lists.proofs.Options.{option?, not_none_and_some, one_some}
use Rattle.store.specs.declared.Answer.{Answer}
use Rattle.store.specs.declared.Copy.{Copy}
use Rattle.store.specs.declared.Store.{Store}
use Rattle.store.specs.Answers.{DONE}
use Rattle.store.specs.Copies.{has_value, Kind}
use Rattle.store.specs.Copies.Kind.{result}
use Rattle.store.specs.State.{or_else}
use Rattle.store.specs.Layout.{state_of}
use Rattle.store.specs.StoreRules.{good_store}
use Rattle.store.proofs.KindLaws.{result_valued}
use Rattle.store.proofs.Lifting.{state_good}
use Rattle.trips.specs.Trips.{Declared}
use Rattle.page_lines.specs.PageLine.{analytes, last_sample, key_for}
use Rattle.page.specs.Promises.{Pages, Serves}
use Rattle.calls.specs.PublicCalls.{Call, store_after, store_after_all}
use Rattle.calls.specs.Following.{same_store}
use Rattle.calls.specs.Recent.{current_in}
use Rattle.calls.specs.DeclaredNumbers.{DeclaredCalls}
use Rattle.calls.proofs.Follows.{calls_keep_good, first_stays, rest_stays}
use Rattle.calls.proofs.KeepsDeclared.{calls_keep_declared}
use Rattle.kept.specs.Shows.{shown_of, shows, ShowsSame}
use Rattle.kept.specs.Kept.{KeptFrom, ServedExactly, LengthExactly, ServeSame, KeptOf, ServedIf}
use Rattle.kept.specs.Amended.{
  StoreGoesOn,
  entry_copy,
  EntersLine,
  SampleUntouched,
  NotWithdrawn,
  last_entry,
  ShowsAgain,
  SampleShowsAgain,
  PageServed,
  PageNotServed,
  ServedAfterCalls,
}
use Rattle.kept.specs.Amended.ShowsAgain.{untouched, hidden_again}
use Rattle.kept.proofs.ShownLines.{store_bounded}
use Rattle.kept.proofs.ExactlyServed.{serve_same, served_exactly, length_exactly}
use Rattle.kept.proofs.PagesKept.{page_done, from_page_to_serve}
use Rattle.kept.proofs.LastEntries.{
  current-after-all,
  last_late,
  untouched_none,
  last_has_value,
  LastOf,
  entered_then_last,
}

-- A store that no call replaces goes on.
pub goes_on : (cs : List Call) (z : Store) → same_store cs ≡ true → StoreGoesOn cs z
goes_on [] z t = tt
goes_on (c ∷ cs) z t = (inl (first_stays c cs t), goes_on cs (store_after c z) (rest_stays c cs t))

-- ---- one line

-- The stamp that is shown.
abbrev shown_stamp : Option (ℕ × ℕ) → ℕ
shown_stamp none = 0
shown_stamp (some w) = w.1

-- A good store shows stamps below its clock.
stamps_below : (z : Store) → good_store z ≡ true → Declared z → (k : ℕ) → shown_stamp (shows z k) < z.clock
unfolding state_of
stamps_below z good declared k = go (current_in z k) refl
  where
    clock_some : 1 ≤ z.clock
    clock_some = (state_good z good).clock_within.0

    go : (o : Option Copy) → current_in z k ≡ o → shown_stamp (shown_of o) < z.clock
    go none e = omega (arith, clock_some)
    go (some x) e = at (has_value x.kind)
      where
        at : (b : Bool) → shown_stamp (cond b (some (x.value, x.stamp)) none) < z.clock
        at true = (store_bounded z good declared).stamps k x e
        at false = omega (arith, clock_some)

-- A line that was shown and had an accepted entry never shows again what it showed;
pub not_again : (cs : List Call) (z : Store) (kind : Kind) (k v : ℕ) → EntersLine cs z kind k v → (w : ℕ × ℕ) → shows z k ≡ some w
    → ShowsAgain z cs k → ⊥
not_again cs z kind k v e w shown (untouched none-since) = not_none_and_some none-since (entered_then_last cs z kind k v e).is_last
not_again cs z kind k v e w shown (hidden_again x hidden is bare) = not_none_and_some hidden shown

-- nor does a line while a result entered since stands;
not_while : (cs : List Call) (z : Store) (k v : ℕ) → (e : EntersLine cs z result k v)
    → NotWithdrawn e.later (store_after e.call (store_after_all e.before z)) k → ShowsAgain z cs k → ⊥
not_while cs z k v e stands = go
  where
    l : LastOf cs z result k v e
    l = entered_then_last cs z result k v e

    has_value_lem : (l.last ≡ entry_copy result k v (store_after_all e.before z))
        ⊎ (last_entry k e.later (store_after e.call (store_after_all e.before z)) ≡ some l.last)
        → has_value l.last.kind ≡ true
    has_value_lem (inl is) = ap (λ (x : Copy). has_value x.kind) is ∙ result_valued
    has_value_lem (inr is) = last_has_value k e.later (store_after e.call (store_after_all e.before z)) stands l.last is

    go : ShowsAgain z cs k → ⊥
    go (untouched none-since) = not_none_and_some none-since l.is_last
    go (hidden_again x hidden is bare) =
        not_both (has_value_lem l.which) (ap (λ (y : Copy). has_value y.kind) (one_some l.is_last is) ∙ bare)

-- and every line of a sample does of which nothing was entered.
pub untouched_again : (cs : List Call) (z : Store) (sample : ℕ) → SampleUntouched cs z sample → SampleShowsAgain z cs sample
untouched_again cs z sample none-of-it a g = untouched (untouched_none cs z sample none-of-it a g)

module _ (z : Store) (good : good_store z ≡ true) (declared : Declared z) (cs : List Call) (ds : DeclaredCalls cs) (on : StoreGoesOn cs z) where
  -- What is shown after the calls: the last entry, or what was shown before.
  now_shown : (k : ℕ) (o : Option Copy) → last_entry k cs z ≡ o → shows (store_after_all cs z) k ≡ shown_of (or_else o (current_in z k))
  now_shown k o e = ap shown_of (current-after-all cs z good declared ds on k ∙ ap (λ (l : Option Copy). or_else l (current_in z k)) e)

  -- A line shows the same after the calls exactly when it shows again what it showed.
  same_if_again : (k : ℕ) → ShowsAgain z cs k → shows z k ≡ shows (store_after_all cs z) k
  same_if_again k (untouched e) = sym (now_shown k none e)
  same_if_again k (hidden_again x hidden e w) = hidden ∙ sym (now_shown k (some x) e ∙ rw w)

  again_if_same : (k : ℕ) → shows z k ≡ shows (store_after_all cs z) k → ShowsAgain z cs k
  again_if_same k same = go (option? (last_entry k cs z))
    where
      at : (x : Copy) → last_entry k cs z ≡ some x → (has_value x.kind ≡ true) ⊎ (has_value x.kind ≡ false) → ShowsAgain z cs k
      at x e (inl v) =
          let now : shows z k ≡ some (x.value, x.stamp) = same ∙ now_shown k (some x) e ∙ rw v in
          absurd (omega (arith, last_late cs z good declared ds on k x e, stamps_below z good declared k, ap shown_stamp now))
      at x e (inr v) = hidden_again x (same ∙ now_shown k (some x) e ∙ rw v) e v

      go : (last_entry k cs z ≡ none) ⊎ ((x : Copy) × (last_entry k cs z ≡ some x)) → ShowsAgain z cs k
      go (inl e) = untouched e
      go (inr w) = at w.0 w.1 (bool? (has_value w.0.kind))

  -- ---- the sample, over calls

  pub same_exactly : (sample : ℕ) → ShowsSame z (store_after_all cs z) sample ↔ SampleShowsAgain z cs sample
  same_exactly sample = (
    λ same a g. again_if_same (key_for sample a) (same a g),
    λ again a g. same_if_again (key_for sample a) (again a g),
  )

  -- Calls that leave the sample alone (`what_leaves_sample`) change nothing, nor does a load of what was saved.
  pub untouched_serves_same : (sample : ℕ) → SampleUntouched cs z sample → ServeSame z (store_after_all cs z) sample
  untouched_serves_same sample none-of-it =
      serve_same z (store_after_all cs z) good (calls_keep_good cs z good) sample ((same_exactly sample).1 (untouched_again cs z sample none-of-it))

  -- Exactly.
  pub served-after_calls : (sample : ℕ) → sample ≤ last_sample → (kept notice : Bor (List ℕ)) → KeptFrom z sample kept.now
      → ServedAfterCalls z cs sample kept notice
  served-after_calls sample h kept notice begun =
      record {
        served_if_again = λ again. record { hands_back = e.page_if_same (same.1 again); length_given = l.page_exactly.1 (same.1 again) };
        page_only_if_again = λ other q. same.0 (e.page_only_if_same other q);
        length_only_if_again = λ q. same.0 (l.page_exactly.0 q);
        notice_otherwise =
            λ no.
            record {
              hands_back = e.notice_otherwise (λ all. no (same.0 all));
              length_given = l.none_exactly.1 (λ all. no (same.0 all));
            };
      }
    where
      y : Store
      y = store_after_all cs z

      good_y : good_store y ≡ true
      good_y = calls_keep_good cs z good

      declared_y : Declared y
      declared_y = calls_keep_declared cs ds z declared

      e : ServedExactly z y sample kept notice
      e = served_exactly z y good declared good_y declared_y sample h kept notice begun

      l : LengthExactly z y sample kept.now
      l = length_exactly z y good declared good_y declared_y sample h kept.now begun

      same : ShowsSame z y sample ↔ SampleShowsAgain z cs sample
      same = same_exactly sample

  module _ (sample : ℕ) (h : sample ≤ last_sample) (kept notice : Bor (List ℕ)) (begun : KeptFrom z sample kept.now) where
    -- Served while each call is no entry of a line of the sample, or its answer is not DONE: whatever else was entered, carried, searched,
    -- refused, saved and loaded.
    pub served_while_untouched : SampleUntouched cs z sample → PageServed z (store_after_all cs z) sample kept notice
    served_while_untouched none-of-it = (served-after_calls sample h kept notice begun).served_if_again (untouched_again cs z sample none-of-it)

    module _ (a : ℕ) (g : a < analytes) where
      -- Never again: the kept bytes show the line, and one of the calls is an entry of it that answers DONE, be it a result of the same value
      -- or a withdrawal; whatever else the calls are.
      pub never_again : (w : ℕ × ℕ) → shows z (key_for sample a) ≡ some w → (kind : Kind) (v : ℕ) → EntersLine cs z kind (key_for sample a) v
          → PageNotServed (store_after_all cs z) sample kept notice
      never_again w shown kind v e =
          (served-after_calls sample h kept notice begun).notice_otherwise λ again. not_again cs z kind (key_for sample a) v e w shown (again a g)

      -- Not while a result stands: of the line, shown before or not, a result was entered with the answer DONE, and no withdrawal since.
      pub not_while_a_result_stands : (v : ℕ) (e : EntersLine cs z result (key_for sample a) v)
          → NotWithdrawn e.later (store_after e.call (store_after_all e.before z)) (key_for sample a)
          → PageNotServed (store_after_all cs z) sample kept notice
      not_while_a_result_stands v e stands =
          (served-after_calls sample h kept notice begun).notice_otherwise λ again. not_while cs z (key_for sample a) v e stands (again a g)

-- By the promises of page and serve alone: page was accepted, calls were made, and what it wrote was served.
pub page_calls_serve : (z : Store) → Declared z → (sample : ℕ) (before : List ℕ) (r : Answer) (after : List ℕ) → Pages z sample before r after
    → r.number ≡ DONE → (cs : List Call) → DeclaredCalls cs → StoreGoesOn cs z
    → (kept notice q : Bor (List ℕ)) → KeptOf r after kept.now → Serves (store_after_all cs z) sample kept notice q
    → ServedIf (SampleShowsAgain z cs sample) r after kept notice q
page_calls_serve z declared sample before r after paged done cs ds on kept notice q begun serves =
    record {
      page_if_due = λ again. f.page_if_due (same.1 again);
      notice_otherwise = λ no. f.notice_otherwise (λ all. no (same.0 all));
    }
  where
    good : good_store z ≡ true
    good = (page_done z sample before r after paged done).good

    same : ShowsSame z (store_after_all cs z) sample ↔ SampleShowsAgain z cs sample
    same = same_exactly z good declared cs ds on sample

    f : ServedIf (ShowsSame z (store_after_all cs z) sample) r after kept notice q
    f =
        from_page_to_serve z (store_after_all cs z) declared (calls_keep_good cs z good) (calls_keep_declared cs ds z declared) sample before r after
        paged done kept notice q begun serves
