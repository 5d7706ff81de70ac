-- Save, page and transcribe keep the bytes beyond those written, and the length of the buffer.
use mathlib.Core.Path.{◌≡◌, ap, ◌∙◌}
use mathlib.Core.Bool.{true, false}
use mathlib.Core.List.{List, ◌++◌}
use mathlib.Core.Logic.{◌⊎◌, inl, inr}
use Prim.Native.Nat.{ℕ, ◌<◌, ◌≤◌}
use native.Mathlib.Decide.{dec_lt}
use native.Mathlib.Omega.{arith}
use lib.ListN.{length, drop, length-append, length-drop}
use lib.Seq.{take-append_seam, drop-append_seam}
use borrow.Author.Tests.{le-leb}
use Rattle.lists.proofs.Truths.{bool?}
use Rattle.store.specs.declared.Answer.{Answer}
use Rattle.store.specs.declared.Store.{Store}
use Rattle.store.specs.Answers.{DONE}
use Rattle.store.specs.StoreRules.{good_store}
use Rattle.wire.specs.Writing.{written_answer, written_buffer}
use Rattle.wire.proofs.Buffers.{done-answer, done_buffer}
use Rattle.image_writing.specs.Image.{image}
use Rattle.image.specs.Promises.{save_answer, save_buffer, Saves}
use Rattle.page_lines.specs.PageLine.{last_sample}
use Rattle.page.specs.Promises.{page_now, page_answer, page_buffer, Pages}
use Rattle.transcript.specs.Transcript.{schedule_text}
use Rattle.transcript.specs.Promises.{Transcribes}
use Rattle.transcript.proofs.TextWays.{text_within}
use Rattle.refusals.proofs.Save.{save_badstore, save_small}
use Rattle.refusals.proofs.Page.{page_badstore, page_sample, page_small}
use Rattle.accepted.specs.Writing.{WroteFirst, GaveBytes}

-- Elements and what lay beyond them are what a writer of so many from the beginning on leaves.
pub wrote_first : {A : Type 0} (elements before : List A) {many : ℕ} {after : List A} → length elements ≤ length before → many ≡ length elements
    → after ≡ elements ++ drop (length elements) before → WroteFirst elements before many after
wrote_first elements before fits m e =
    record {
      counted = m;
      first = rw (m, e) (take-append_seam elements (drop (length elements) before));
      beyond = rw (m, e) (drop-append_seam elements (drop (length elements) before));
      long = ap length e ∙ length-append elements (drop (length elements) before) ∙ rw length-drop (omega arith);
    }

-- Bytes that are written and fit.
gave_bytes : (bytes before : List ℕ) {r : Answer} {after : List ℕ} → length bytes ≤ length before → r ≡ written_answer bytes before
    → after ≡ written_buffer bytes before → GaveBytes bytes before r after
gave_bytes bytes before fits a b =
    let d = a ∙ done-answer bytes before fits in
    record { answered = d; wrote = wrote_first bytes before fits (ap (λ (q : Answer). q.a) d) (b ∙ done_buffer bytes before fits) }

-- An accepted save gives the image.
pub save_accepted : (z : Store) (before : List ℕ) {r : Answer} {after : List ℕ} → Saves z before r after → r.number ≡ DONE
    → GaveBytes (image z) before r after
unfolding save_answer save_buffer
save_accepted z before {r} {after} (a, b) done = go (bool? (good_store z)) (dec_lt (length before) (length (image z)))
  where
    number : (save_answer z before).number ≡ DONE
    number = rw a at done

    go : (good_store z ≡ true) ⊎ (good_store z ≡ false) → Dec (length before < length (image z)) → GaveBytes (image z) before r after
    go (inr bad) d = absurd (omega (arith, number, (save_badstore z before).1 bad))
    go (inl good) (yes h) = absurd (omega (arith, number, (save_small z before).1 (good, h)))
    go (inl good) (no h) = gave_bytes (image z) before (omega arith) (rw good at a) (rw good at b)

-- An accepted page gives the sample's page.
pub page_accepted : (z : Store) (sample : ℕ) (before : List ℕ) {r : Answer} {after : List ℕ} → Pages z sample before r after → r.number ≡ DONE
    → GaveBytes (page_now z sample) before r after
unfolding page_answer page_buffer
page_accepted z sample before {r} {after} (a, b) done =
    go (bool? (good_store z)) (dec_lt last_sample sample) (dec_lt (length before) (length (page_now z sample)))
  where
    number : (page_answer z sample before).number ≡ DONE
    number = rw a at done

    go : (good_store z ≡ true) ⊎ (good_store z ≡ false) → Dec (last_sample < sample) → Dec (length before < length (page_now z sample))
        → GaveBytes (page_now z sample) before r after
    go (inr bad) l d = absurd (omega (arith, number, (page_badstore z sample before).1 bad))
    go (inl good) (yes l) d = absurd (omega (arith, number, (page_sample z sample before).1 (good, l)))
    go (inl good) (no l) (yes h) = absurd (omega (arith, number, (page_small z sample before).1 (good, (omega arith, h))))
    go (inl good) (no l) (no h) =
        let t = le-leb sample last_sample (omega arith) in
        gave_bytes (page_now z sample) before (omega arith) (rw (good, t) at a) (rw (good, t) at b)

-- Transcribe gives the text. Its buffer is an array, which keeps its length.
pub transcribe_accepted : (bytes before : List ℕ) {r : ℕ} {after : List ℕ} → length after ≡ length before → Transcribes bytes before r after
    → WroteFirst (schedule_text bytes) before r after
transcribe_accepted bytes before long t = wrote_first (schedule_text bytes) before (omega (arith, t.0, text_within bytes before t)) t.0 t.1
