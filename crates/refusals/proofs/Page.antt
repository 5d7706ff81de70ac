-- Page: BADSTORE, SAMPLE, SMALL. Serve: the notice.
use mathlib.Core.Path.{◌≡◌, ap, ◌∙◌}
use mathlib.Core.Bool.{true, false, ◌&&◌}
use mathlib.Core.List.{List, [], ◌∷◌, ◌++◌}
use mathlib.Core.Logic.{◌↔◌, ◌⊎◌, inl, inr}
use Prim.Native.Nat.{ℕ, ◌<◌, ◌≤◌}
use native.Mathlib.Decide.{dec_lt}
use native.Mathlib.Omega.{arith}
use lib.Dec.{leb}
use lib.ListN.{length, length-append}
use denote.Ref.{Bor}
use borrow.Author.Tests.{le-leb, lt-leb, leb-true}
use Rattle.lists.proofs.Truths.{bool?, not_both, and_left, and_right, and_both}
use Rattle.std.proofs.lemmas.Bool.{false_from_ne_true}
use Rattle.number.specs.Number.{form}
use Rattle.number.proofs.Forms.{form_some}
use Rattle.store.specs.declared.Answer.{Answer}
use Rattle.store.specs.declared.Store.{Store}
use Rattle.store.specs.Answers.{DONE, BADSTORE, SMALL, SAMPLE, answer, bare}
use Rattle.store.specs.Copies.{member}
use Rattle.store.specs.Layout.{plan_of, state_of}
use Rattle.store.specs.StoreRules.{good_store}
use Rattle.wire.proofs.Buffers.{small_answer, small_buffer, done-answer}
use Rattle.page_lines.specs.PageLine.{last_sample, page_lines}
use Rattle.page.specs.PageBytes.{page_lines_bytes, page_bytes, begins}
use Rattle.page.specs.Promises.{page_now, page_answer, page_buffer, page_outcome, still_true, served_length, served}
use Rattle.page.proofs.PagesApart.{begins_rest, rest_begins}
use Rattle.page.proofs.Served.{serves_kept, serves_notice}
use Rattle.refusals.specs.Given.{Among, StillTrue}

-- ---- page

module _ (z : Store) (sample : ℕ) (before : List ℕ) where
  -- The bytes needed.
  abbrev needed : ℕ
  needed = length (page_now z sample)

  -- The ways of making a page.
  data Way : Type 0 where
    bad : good_store z ≡ false → (page_outcome z sample before).0 ≡ bare BADSTORE → (page_outcome z sample before).1 ≡ before → Way
    large : good_store z ≡ true → last_sample < sample → (page_outcome z sample before).0 ≡ bare SAMPLE → (page_outcome z sample before).1 ≡ before → Way
    small : good_store z ≡ true → sample ≤ last_sample → length before < needed → (page_outcome z sample before).0 ≡ answer SMALL needed 0 0 0
        → (page_outcome z sample before).1 ≡ before → Way
    done : good_store z ≡ true → sample ≤ last_sample → needed ≤ length before → (page_outcome z sample before).0 ≡ answer DONE needed 0 0 0 → Way

  way : Way
  unfolding page_answer page_buffer
  way = go (bool? (good_store z)) (dec_lt last_sample sample) (dec_lt (length before) needed)
    where
      go : (good_store z ≡ true) ⊎ (good_store z ≡ false) → Dec (last_sample < sample) → Dec (length before < needed) → Way
      go (inr b) d f = bad b (rw b) (rw b)
      go (inl g) (yes l) f = large g l (rw (g, lt-leb sample last_sample l)) (rw (g, lt-leb sample last_sample l))
      go (inl g) (no l) (yes h) =
          let t = le-leb sample last_sample (omega arith) in
          small g (omega arith) h (rw (g, t) (small_answer (page_now z sample) before h)) (rw (g, t) (small_buffer (page_now z sample) before h))
      go (inl g) (no l) (no h) =
          let t = le-leb sample last_sample (omega arith) in
          done g (omega arith) (omega arith) (rw (g, t) (done-answer (page_now z sample) before (omega arith)))

  abbrev number : ℕ
  number = (page_outcome z sample before).0.number

  numbered : {r : Answer} → (page_outcome z sample before).0 ≡ r → number ≡ r.number
  numbered e = ap (λ (r : Answer). r.number) e

  pub page_badstore : ((page_outcome z sample before).0.number ≡ BADSTORE) ↔ (good_store z ≡ false)
  page_badstore = go way
    where
      go : Way → (number ≡ BADSTORE) ↔ (good_store z ≡ false)
      go (bad b e f) = (λ _. b, λ _. numbered e)
      go (large g l e f) = (λ n. absurd (omega (arith, numbered e)), λ b. absurd (not_both g b))
      go (small g l h e f) = (λ n. absurd (omega (arith, numbered e)), λ b. absurd (not_both g b))
      go (done g l h e) = (λ n. absurd (omega (arith, numbered e)), λ b. absurd (not_both g b))

  -- "sample too large"
  pub page_sample : ((page_outcome z sample before).0.number ≡ SAMPLE) ↔ ((good_store z ≡ true) × (last_sample < sample))
  page_sample = go way
    where
      go : Way → (number ≡ SAMPLE) ↔ ((good_store z ≡ true) × (last_sample < sample))
      go (bad b e f) = (λ n. absurd (omega (arith, numbered e)), λ h. absurd (not_both h.0 b))
      go (large g l e f) = (λ _. (g, l), λ _. numbered e)
      go (small g l h e f) = (λ n. absurd (omega (arith, numbered e)), λ k. absurd (omega (arith, k.1)))
      go (done g l h e) = (λ n. absurd (omega (arith, numbered e)), λ k. absurd (omega (arith, k.1)))

  -- "buffer too short"
  pub page_small : ((page_outcome z sample before).0.number ≡ SMALL)
      ↔ ((good_store z ≡ true) × ((sample ≤ last_sample) × (length before < length (page_now z sample))))
  page_small = go way
    where
      go : Way → (number ≡ SMALL) ↔ ((good_store z ≡ true) × ((sample ≤ last_sample) × (length before < needed)))
      go (bad b e f) = (λ n. absurd (omega (arith, numbered e)), λ h. absurd (not_both h.0 b))
      go (large g l e f) = (λ n. absurd (omega (arith, numbered e)), λ h. absurd (omega (arith, h.1.0)))
      go (small g l h e f) = (λ _. (g, (l, h)), λ _. numbered e)
      go (done g l h e) = (λ n. absurd (omega (arith, numbered e)), λ k. absurd (omega (arith, h, k.1.1)))

  -- "bytes needed"
  pub page_needs : (page_outcome z sample before).0.number ≡ SMALL → (page_outcome z sample before).0 ≡ answer SMALL (length (page_now z sample)) 0 0 0
  page_needs = go way
    where
      go : Way → number ≡ SMALL → (page_outcome z sample before).0 ≡ answer SMALL needed 0 0 0
      go (bad b e f) n = absurd (omega (arith, numbered e))
      go (large g l e f) n = absurd (omega (arith, numbered e))
      go (small g l h e f) n = e
      go (done g l h e) n = absurd (omega (arith, numbered e))

  pub page_answers : Among (BADSTORE ∷ SAMPLE ∷ SMALL ∷ DONE ∷ []) (page_outcome z sample before).0
  unfolding member
  page_answers = go way
    where
      go : Way → Among (BADSTORE ∷ SAMPLE ∷ SMALL ∷ DONE ∷ []) (page_outcome z sample before).0
      go (bad b e f) = rw e
      go (large g l e f) = rw e
      go (small g l h e f) = rw e
      go (done g l h e) = rw e

  -- A refusal leaves every byte; the store is lent to be read.
  pub page_refused : 2 ≤ (page_outcome z sample before).0.number → (page_outcome z sample before).1 ≡ before
  page_refused = go way
    where
      go : Way → 2 ≤ number → (page_outcome z sample before).1 ≡ before
      go (bad b e f) h = f
      go (large g l e f) h = f
      go (small g l k e f) h = f
      go (done g l k e) h = absurd (omega (arith, numbered e))

-- ---- serve

module _ (z : Store) (sample : ℕ) where
  pub true_exactly : (kept : List ℕ) → (still_true z sample kept ≡ true) ↔ StillTrue z sample kept
  unfolding still_true
  true_exactly kept = (there, back)
    where
      there : good_store z && leb sample last_sample && begins kept (page_now z sample) ≡ true → StillTrue z sample kept
      there t =
          let a = and_left (good_store z && leb sample last_sample) (begins kept (page_now z sample)) t in
          let w = begins_rest kept (page_now z sample) (and_right (good_store z && leb sample last_sample) (begins kept (page_now z sample)) t) in
          record {
            good = and_left (good_store z) (leb sample last_sample) a;
            small = leb-true sample last_sample (and_right (good_store z) (leb sample last_sample) a);
            rest = w.0;
            begin = w.1;
          }

      back : StillTrue z sample kept → good_store z && leb sample last_sample && begins kept (page_now z sample) ≡ true
      back h =
          and_both (and_both h.good (le-leb sample last_sample h.small))
          (ap (λ (l : List ℕ). begins l (page_now z sample)) h.begin ∙ rest_begins (page_now z sample) h.rest)

  -- "otherwise, and for a bad store or sample"
  pub stale_exactly : (kept : List ℕ) → (still_true z sample kept ≡ false) ↔ (StillTrue z sample kept → ⊥)
  stale_exactly kept = (
    λ f h. not_both ((true_exactly kept).1 h) f,
    λ no. false_from_ne_true (still_true z sample kept) (λ t. no ((true_exactly kept).0 t)),
  )

  -- "exactly that beginning is returned"
  pub serve_kept : (kept notice : Bor (List ℕ)) → StillTrue z sample kept.now → served z sample kept notice ≡ (kept.ref_ptr, page_now z sample)
  serve_kept kept notice h = serves_kept z sample kept notice ((true_exactly kept.now).1 h)

  -- "otherwise .. the whole notice"
  pub serve_notice : (kept notice : Bor (List ℕ)) → (StillTrue z sample kept.now → ⊥) → served z sample kept notice ≡ (notice.ref_ptr, notice.now)
  serve_notice kept notice h = serves_notice z sample kept notice ((stale_exactly kept.now).1 h)

  -- No page is empty,
  some_bytes : 1 ≤ length (page_now z sample)
  unfolding page_bytes
  some_bytes =
      let ls = page_lines (plan_of z) (state_of z) sample in
      omega (arith, form_some sample, length-append (form sample) (form (length ls) ++ page_lines_bytes ls))

  -- so the length 0 says exactly that the notice is due.
  pub serve_length_none : (kept : List ℕ) → (served_length z sample kept ≡ 0) ↔ (StillTrue z sample kept → ⊥)
  unfolding served_length
  serve_length_none kept = go (bool? (still_true z sample kept))
    where
      go : (still_true z sample kept ≡ true) ⊎ (still_true z sample kept ≡ false) → (served_length z sample kept ≡ 0) ↔ (StillTrue z sample kept → ⊥)
      go (inl t) = (
        λ e. absurd (let n : length (page_now z sample) ≡ 0 = rw t at e in omega (arith, some_bytes)),
        λ no. absurd (no ((true_exactly kept).0 t)),
      )
      go (inr f) = (λ e. (stale_exactly kept).0 f, λ no. rw f)
