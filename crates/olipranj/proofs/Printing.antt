-- What was read is the first bytes of the input, and what is written is their text.
use Rattle.std.proofs.Common.{◌≡◌, ℕ, ◌<◌, ◌≤◌, List, [], ◌++◌, ◌⊎◌, inl, inr, Option, None, Some, Result, Ok, Err, is_ok, OnOk, sym, ap, ◌∙◌, subst, arith, length, take, take_all, append-nil}
use Rattle.std.proofs.Math.Nat.{eq-or-lt_of_le}
use Rattle.std.proofs.Math.Seq.{take-append_seam}
use Rattle.std.specs.Io.KnownBytes.{Appends, Consumes, IsAtEnd}
use Rattle.io.specs.Counts.{IsPrefixLen}
use Rattle.transcript.specs.Transcript.{schedule_text}
use Rattle.transcript.specs.Promises.{Transcribes}
use Rattle.olipranj.specs.Printing.{most_read, PrintsFirst}

-- Where the buffer is full or the input at its end, what was read is the first bytes of the input.
first_bytes : (xs ys buffer : List ℕ) (n : ℕ) → length buffer ≡ most_read → IsPrefixLen n buffer → xs ≡ take n buffer ++ ys
    → (n < length buffer → ys ≡ []) → take most_read xs ≡ take n buffer
first_bytes xs ys buffer n long within read whole = go (eq-or-lt_of_le within.0)
  where
    go : (n ≡ length buffer) ⊎ (n < length buffer) → take most_read xs ≡ take n buffer
    go (inl full) =
        let count : most_read ≡ length (take n buffer) = omega (arith, full, within.1, long) in
        ap (λ m. take m xs) count ∙ ap (take (length (take n buffer))) read ∙ take-append_seam (take n buffer) ys
    go (inr less) =
        let all : xs ≡ take n buffer = read ∙ ap (λ l. take n buffer ++ l) (whole less) ∙ append-nil (take n buffer) in
        let few : length xs ≤ most_read = omega (arith, ap length all, within.1, long) in
        take_all most_read xs few ∙ all

-- What stands in the text's buffer is the text.
text_at : (bytes before : List ℕ) {w : ℕ} {text : List ℕ} → Transcribes bytes before w text → take w text ≡ schedule_text bytes
text_at bytes before t = rw (t.0, t.1) (take-append_seam (schedule_text bytes) _)

pub prints_first : (input rest before after : Option (List ℕ)) (buffer room : List ℕ) {text : List ℕ} (n w : ℕ) → length buffer ≡ most_read
    → IsPrefixLen n buffer → Consumes input rest (take n buffer) → (n < length buffer → IsAtEnd rest) → Transcribes (take n buffer) room w text
    → Appends before after (take w text) → PrintsFirst input before after
prints_first None rest before after buffer room n w long within read whole t put = tt
prints_first (Some xs) None before after buffer room n w long within read whole t put = absurd read
prints_first (Some xs) (Some ys) before after buffer room n w long within read whole t put =
    subst
    (Appends before after)
    (text_at (take n buffer) room t ∙ ap schedule_text (sym (first_bytes xs ys buffer n long within read whole)))
    put

-- What holds where a call is done holds where it is done with its fault told otherwise.
pub done_still : {A E D : Type 0} {P Q : Type 0} (q : Result A E) (r : Result A D) → is_ok r ≡ is_ok q → (P → Q) → OnOk q P → OnOk r Q
done_still (Ok x) (Ok y) e f p = f p
done_still (Ok x) (Err y) e f p = tt
done_still (Err x) (Ok y) e f p = cc
done_still (Err x) (Err y) e f p = tt
