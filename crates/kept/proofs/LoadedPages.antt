-- Save and load: a loaded store serves what the saved one did, in place of whatever store it is loaded.
use mathlib.Core.Path.{◌≡◌, sym, ap, ◌∙◌, subst}
use mathlib.Core.Bool.{true}
use mathlib.Core.List.{List}
use Prim.Native.Nat.{ℕ, ◌<◌, ◌≤◌}
use native.Mathlib.Omega.{arith}
use native.Mathlib.Decide.{dec_lt}
use lib.ListN.{length, take}
use denote.Ref.{Bor}
use Rattle.store.specs.declared.Answer.{Answer}
use Rattle.store.specs.declared.Outcome.{Outcome}
use Rattle.store.specs.declared.Store.{Store}
use Rattle.store.specs.Answers.{DONE, answer}
use Rattle.store.specs.StoreRules.{good_store}
use Rattle.store.proofs.Ruling.{good_rules}
use Rattle.wire.proofs.Buffers.{done-answer, done_front}
use Rattle.image_writing.specs.Image.{image}
use Rattle.image_loading.specs.Loading.{load_outcome}
use Rattle.image.specs.Promises.{save_answer, save_buffer, Saves, Loads}
use Rattle.trips.specs.Trips.{Declared, idled}
use Rattle.trips.proofs.ImageBytes.{image_bytes}
use Rattle.trips.proofs.RoundTrips.{saved_loads, idled_good}
use Rattle.page_lines.specs.PageLine.{last_sample, key_for}
use Rattle.page.specs.Promises.{page_now, Pages, Handed, served, Serves}
use Rattle.refusals.proofs.Save.{save_small}
use Rattle.calls.specs.PublicCalls.{Call, store_after, store_after_all}
use Rattle.calls.specs.PublicCalls.Call.{load}
use Rattle.calls.specs.DeclaredNumbers.{DeclaredCalls}
use Rattle.calls.proofs.Follows.{calls_keep_good}
use Rattle.calls.proofs.KeepsDeclared.{calls_keep_declared}
use Rattle.kept.specs.Shows.{shown_of}
use Rattle.kept.specs.Kept.{KeptFrom, ServeSame, PageDone, KeptOf}
use Rattle.kept.specs.Amended.{StoreGoesOn, SampleUntouched, PageServed, SavedAndLoaded}
use Rattle.kept.proofs.ExactlyServed.{serve_same}
use Rattle.kept.proofs.PagesKept.{page_done, page_is_kept}
use Rattle.kept.proofs.LastEntries.{load_own, idled-current}
use Rattle.kept.proofs.AmendedPages.{served_while_untouched}

-- What an accepted save wrote is the image.
saved_image_lem : (z : Store) → good_store z ≡ true → (before : List ℕ) (r : Answer) (after : List ℕ) → Saves z before r after → r.number ≡ DONE
    → take r.a after ≡ image z
unfolding save_answer save_buffer
saved_image_lem z good before r after promise done = go (dec_lt (length before) (length (image z)))
  where
    go : Dec (length before < length (image z)) → take r.a after ≡ image z
    go (yes s) =
        absurd (omega (arith, done, ap (λ (q : Answer). q.number) promise.0, (save_small z before).1 (good, s)))
    go (no s) =
        let fits : length (image z) ≤ length before = omega arith in
        let says : save_answer z before ≡ answer DONE (length (image z)) 0 0 0 = rw good (done-answer (image z) before fits) in
        ap (λ (q : Answer). take q.a after) (promise.0 ∙ says)
        ∙ ap (λ (l : List ℕ). take (length (image z)) l) promise.1
        ∙ rw good (done_front (image z) before fits)

-- Saved and loaded.
pub saved_and_loaded : (z : Store) → good_store z ≡ true → Declared z → SavedAndLoaded z
saved_and_loaded z good declared =
    record {
      loads = saved_loads z good declared;
      of_bytes = image_bytes z (good_rules z good) declared;
      saved = saved_image_lem z good;
      anywhere = λ other. load_own z good declared other ∙ sym (load_own z good declared z);
      serves_same =
          λ other sample.
          subst (λ (y : Store). ServeSame y z sample) (sym (load_own z good declared other))
          (serve_same (idled z) z (idled_good z good) good sample (λ a h. ap shown_of (idled-current z (key_for sample a))));
    }

-- The store of a load of what an accepted save wrote.
pub loaded_store : (z : Store) → good_store z ≡ true → Declared z → (before : List ℕ) (r : Answer) (after : List ℕ) → Saves z before r after
    → r.number ≡ DONE → (load_outcome (take r.a after)).store ≡ store_after (load (image z)) z
loaded_store z good declared before r after promise done =
    ap (λ (o : Outcome). o.store) (ap load_outcome (saved_image_lem z good before r after promise done) ∙ saved_loads z good declared)
    ∙ sym (load_own z good declared z)

-- Bytes kept from a store are served after it is saved and loaded, in place of whatever store, if nothing was entered of the sample in
-- between: whatever else was entered, carried and searched.
pub served-after_load : (z : Store) → good_store z ≡ true → Declared z → (cs : List Call) → DeclaredCalls cs → StoreGoesOn cs z
    → (sample : ℕ) → sample ≤ last_sample → SampleUntouched cs z sample
    → (kept notice : Bor (List ℕ)) → KeptFrom z sample kept.now → (other : Store)
    → PageServed z (store_after (load (image (store_after_all cs z))) other) sample kept notice
served-after_load z good declared cs ds on sample h none-of-it kept notice begun other =
    let l = saved_and_loaded (store_after_all cs z) (calls_keep_good cs z good) (calls_keep_declared cs ds z declared) in
    let w = served_while_untouched z good declared cs ds on sample h kept notice begun none-of-it in
    record {
      hands_back = (l.serves_same other sample).served_same kept notice ∙ w.hands_back;
      length_given = (l.serves_same other sample).length_same kept.now ∙ w.length_given;
    }

-- In the evening and next morning, by the promises alone: page was accepted, calls were made that entered nothing of the sample, save was
-- accepted, what it wrote was loaded, and the store of that load serves what page wrote.
pub evening_and_morning : (z : Store) → Declared z → (sample : ℕ) (before : List ℕ) (r : Answer) (after : List ℕ) → Pages z sample before r after
    → r.number ≡ DONE → (cs : List Call) → DeclaredCalls cs → StoreGoesOn cs z → SampleUntouched cs z sample
    → (room : List ℕ) (s : Answer) (saved : List ℕ) → Saves (store_after_all cs z) room s saved → s.number ≡ DONE
    → (o : Outcome) → Loads (take s.a saved) o
    → (kept notice q : Bor (List ℕ)) → KeptOf r after kept.now → Serves o.store sample kept notice q
    → (q.ref_ptr ≡ kept.ref_ptr) × (q.now ≡ take r.a after)
evening_and_morning z declared sample before r after paged done cs ds on none-of-it room s saved saves saved-done o loads kept notice q begun serves =
    (serves.0 ∙ ap (λ (w : Handed). w.0) hands, serves.1 ∙ ap (λ (w : Handed). w.1) hands ∙ sym d.wrote)
  where
    d : PageDone z sample r after
    d = page_done z sample before r after paged done

    y : Store
    y = store_after_all cs z

    is : o.store ≡ store_after (load (image y)) y
    is =
        ap (λ (w : Outcome). w.store) loads
        ∙ loaded_store y (calls_keep_good cs z d.good) (calls_keep_declared cs ds z declared) room s saved saves saved-done

    hands : served o.store sample kept notice ≡ (kept.ref_ptr, page_now z sample)
    hands =
        ap (λ (w : Store). served w sample kept notice) is
        ∙ (served-after_load z d.good declared cs ds on sample d.sample_known none-of-it kept notice
        (page_is_kept z sample r after d kept.now begun) y
        ).hands_back
