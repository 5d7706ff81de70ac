-- The text of a schedule that was decoded, transcribe's two ways out, and what its caller learns.
use mathlib.Core.Path.{◌≡◌, refl, sym, ap₂, ◌∙◌}
use mathlib.Core.List.{List, ◌++◌, append-nil}
use Prim.Native.Nat.{ℕ, ◌+◌, ◌*◌, ◌≤◌}
use native.Mathlib.Omega.{arith}
use lib.ListN.{length, take, length-append}
use borrow.Author.Tests.{ne_eqb}
use Rattle.lists.specs.Stands.{Wrote}
use Rattle.lists.proofs.Standing.{wrote_join}
use Rattle.number.specs.Number.{Bytes}
use Rattle.store.specs.declared.Answer.{Answer}
use Rattle.store.specs.Answers.{DONE, answer}
use Rattle.store.specs.Promises.{fresh_outcome}
use Rattle.wire.specs.Reading.{Got, got, fault}
use Rattle.wire.proofs.Buffers.{done_buffer, done_wrote, wrote_end}
use Rattle.lines.specs.Text.{answer_text, most_text}
use Rattle.lines.specs.Promises.{Prints}
use Rattle.schedule.specs.declared.Step.{Step}
use Rattle.schedule.specs.Schedule.{most_steps, Schedule, schedule_at, schedule_answer, records_of, decode_answer, decode_list}
use Rattle.schedule.specs.Running.{no_steps}
use Rattle.schedule.specs.Promises.{Decodes}
use Rattle.schedule.specs.declared.decoding.Decoded.{Decoded}
use Rattle.schedule.specs.Workers.{laid_down, decoded_into}
use Rattle.schedule.proofs.ScheduleLaws.{schedule_few, schedule_refused}
use Rattle.schedule.proofs.Laid.{laid_got, laid_fault}
use Rattle.transcript.specs.Transcript.{steps_text, decoded_text, schedule_text, most_transcript}
use Rattle.transcript.specs.Promises.{Transcribes}
use Rattle.transcript.proofs.TextWriting.{front_text}

-- ---- an accepted schedule has at most 256 steps

answer_few : (s : List ℕ) → Bytes s → (schedule_answer (schedule_at s)).number ≡ DONE → (schedule_answer (schedule_at s)).a ≤ most_steps
answer_few s bytes = go (schedule_at s) refl (schedule_few s)
  where
    go : (g : Got Schedule) → schedule_at s ≡ g → length (records_of g) ≤ most_steps → (schedule_answer g).number ≡ DONE → (schedule_answer g).a ≤ most_steps
    go (got d end) e few h = few
    go (fault number at) e few h = let k = (schedule_refused s bytes e).refusal in absurd (omega (arith, h))

pub decode_few : (s : List ℕ) → Bytes s → {r : Answer} → r ≡ decode_answer s no_steps → r.number ≡ DONE → r.a ≤ most_steps
unfolding decode_answer
decode_few s bytes {r} e h =
    let q : r ≡ schedule_answer (schedule_at s) = e in
    rw q (answer_few s bytes (rw q at h))

-- ---- the text

module _ (s : List ℕ) where
  decoded_whole : decoded_into s most_steps ≡ schedule_at s
  unfolding decoded_into
  decoded_whole = refl

  -- An accepted schedule: the first line, and one line a step;
  accepted_text : {d : Schedule} {end : ℕ} → schedule_at s ≡ got d end
      → schedule_text s ≡ answer_text 0 (answer DONE (length d.steps) 0 0 0) ++ steps_text d.steps (fresh_outcome d.plan).store 0 (length d.steps)
  unfolding schedule_text decoded_text decode_answer decode_list
  accepted_text {d} e = rw (e, front_text d.steps _ (fresh_outcome d.plan).store 0 (length d.steps) (omega arith))

  -- a refused one: the first line alone.
  refused_text : Bytes s → {number at : ℕ} → schedule_at s ≡ fault number at → schedule_text s ≡ answer_text 0 (answer number at 0 0 0)
  unfolding schedule_text decoded_text decode_answer decode_list
  refused_text bytes {number} {at} e =
      let k = (schedule_refused s bytes e).refusal in
      rw (e, ne_eqb number DONE (λ z. absurd (omega arith)), append-nil)

  -- ---- the ways out

  module _ (before : List ℕ) (room : length before ≡ most_transcript) where
    text_transcribed : {text : List ℕ} {n : ℕ} {after : List ℕ} → schedule_text s ≡ text → Wrote before 0 text n after → n ≤ most_transcript
        → Transcribes s before n after
    text_transcribed {text} {n} {after} t w few =
        let v : Wrote before 0 (schedule_text s) n after = rw t w in
        let fits : length (schedule_text s) ≤ length before = omega (arith, wrote_end v) in
        (wrote_end v, done_wrote (schedule_text s) before fits v ∙ done_buffer (schedule_text s) before fits)

    pub accepted_way : (v : Decoded) {end : ℕ} → got v end ≡ laid_down (decoded_into s most_steps) → {steps : List Step} → steps ≡ take v.count v.steps
        → length steps ≤ most_steps → {x : Answer} → x ≡ answer DONE (length steps) 0 0 0 → {mid : ℕ} {out : List ℕ} → Prints before 0 0 x mid out
        → {n : ℕ} {after : List ℕ}
        → Wrote out mid (steps_text steps (fresh_outcome v.plan).store 0 (length steps)) n after × (n ≤ mid + most_text * length steps)
        → Transcribes s before n after
    accepted_way v e same few x p w =
        let t = accepted_text (sym decoded_whole ∙ sym (laid_got _ e)) in
        text_transcribed (rw (← same) at t) (wrote_join (rw x at p.0) w.0) (omega (arith, p.1, w.1))

    pub refused_way : Bytes s → {number at : ℕ} → fault number at ≡ laid_down (decoded_into s most_steps) → {x : Answer} → x ≡ answer number at 0 0 0
        → {n : ℕ} {after : List ℕ} → Prints before 0 0 x n after → Transcribes s before n after
    refused_way bytes e x p = text_transcribed (refused_text bytes (sym decoded_whole ∙ sym (laid_fault _ e))) (rw x at p.0) (omega (arith, p.1))

-- What decode answers and lays down, written, is the schedule's text.
pub transcribed : (bytes before : List ℕ) {x : Answer} {steps : List Step} {n : ℕ} {after : List ℕ} → length before ≡ most_transcript
    → Decodes bytes no_steps x steps → Wrote before 0 (decoded_text x steps) n after × (n ≤ most_transcript) → Transcribes bytes before n after
unfolding schedule_text
transcribed bytes before {x} {steps} {n} {after} room d w =
    let t : decoded_text x steps ≡ schedule_text bytes = ap₂ decoded_text d.0 d.1 in
    let v : Wrote before 0 (schedule_text bytes) n after = rw t at w.0 in
    let fits : length (schedule_text bytes) ≤ length before = omega (arith, wrote_end v, w.1) in
    (wrote_end v, done_wrote (schedule_text bytes) before fits v ∙ done_buffer (schedule_text bytes) before fits)

-- The text lies within its buffer: for a program that passes it on.
pub text_within : (bytes before : List ℕ) {n : ℕ} {after : List ℕ} → Transcribes bytes before n after → n ≤ length after
text_within bytes before t = rw (t.0, t.1, length-append) (omega arith)
