-- Decode accepts just the bytes of schedules, and gives their plan and the records of their steps.
use mathlib.Core.Path.{◌≡◌, refl, sym, ap, ◌∙◌}
use mathlib.Core.List.{List, [], ◌∷◌}
use Prim.Native.Nat.{ℕ, ◌<◌, ◌≤◌}
use native.Mathlib.Decide.{dec_lt}
use native.Mathlib.Omega.{arith}
use lib.ListN.{length, length-map}
use borrow.Author.Tests.{le-ltb}
use Rattle.number.specs.Number.{Bytes, form, form_in}
use Rattle.store.specs.declared.Answer.{Answer}
use Rattle.store.specs.Answers.{DONE}
use Rattle.wire.specs.Reading.{Got, got, fault}
use Rattle.schedule.specs.declared.Step.{Step}
use Rattle.schedule.specs.Schedule.{most_steps, Schedule, schedule_at, decode_answer, decode_list}
use Rattle.schedule.specs.Promises.{Decodes}
use Rattle.schedule.proofs.ScheduleLaws.{schedule_refused}
use Rattle.refusals.proofs.Decode.{decode_small}
use Rattle.accepted.specs.Schedules.{NamedStep, named_record, named_records, numbers_bytes, steps_bytes, schedule_bytes}
use Rattle.accepted.specs.Schedules.{IsSchedule, DecodedAs, AcceptedAs}
use Rattle.accepted.specs.Schedules.NamedStep.{enter, carry, start, step}
use Rattle.accepted.proofs.Buffers.{wrote_first}
use Rattle.accepted.proofs.ScheduleTrips.{schedule_back}
use Rattle.accepted.proofs.ScheduleReads.{schedule_stands}

-- Bytes that are read as a plan and steps are decoded as these, into any list with room.
decoded_as : (bytes : List ℕ) (plan : ℕ) (steps : List NamedStep) {end : ℕ} (before : List Step) {r : Answer} {after : List Step}
    → length steps ≤ most_steps → most_steps ≤ length before
    → schedule_at bytes ≡ got (record { plan = plan; steps = named_records steps }) end → Decodes bytes before r after
    → DecodedAs plan steps before r after
unfolding decode_answer decode_list
decoded_as bytes plan steps before few room e (a, b) =
    let n : length (named_records steps) ≡ length steps = length-map steps named_record in
    let t = le-ltb (length before) most_steps room in
    let w = rw (t, e, n) at a in
    record { answered = w; wrote = wrote_first (named_records steps) before (omega arith) (ap (λ (q : Answer). q.a) w ∙ sym n) (rw (t, e) at b) }

-- The bytes of a schedule are decoded as its plan and steps.
pub schedule_decodes : (plan : ℕ) (steps : List NamedStep) (before : List Step) {r : Answer} {after : List Step} → IsSchedule plan steps
    → most_steps ≤ length before → Decodes (schedule_bytes plan steps) before r after → DecodedAs plan steps before r after
schedule_decodes plan steps before w room d = decoded_as (schedule_bytes plan steps) plan steps before w.few room (schedule_back plan steps w) d

-- Bytes that decode accepts are those of a schedule.
pub decode_accepted : (bytes : List ℕ) (before : List Step) {r : Answer} {after : List Step} → Bytes bytes → Decodes bytes before r after
    → r.number ≡ DONE → AcceptedAs bytes before r after
unfolding decode_answer
decode_accepted bytes before {r} {after} is (a, b) done = go (dec_lt (length before) most_steps) (schedule_at bytes) refl
  where
    number : (decode_answer bytes before).number ≡ DONE
    number = rw a at done

    go : Dec (length before < most_steps) → (g : Got Schedule) → schedule_at bytes ≡ g → AcceptedAs bytes before r after
    go (yes h) g e = absurd (omega (arith, number, (decode_small bytes before).1 h))
    go (no h) (fault n at) e =
        let k = (schedule_refused bytes is e).refusal in
        let t = le-ltb (length before) most_steps (omega arith) in
        absurd (let m : n ≡ DONE = rw (t, e) at number in omega arith)
    go (no h) (got d end) e =
        let w = (schedule_stands bytes is).each d end e in
        record {
          plan = d.plan;
          steps = w.named;
          is_schedule = w.is_schedule;
          written = w.written;
          decoded =
              decoded_as bytes d.plan w.named before w.is_schedule.few (omega arith)
              (e ∙ ap (λ (xs : List Step). got (record { plan = d.plan; steps = xs }) end) (sym w.is)) (a, b);
        }

-- Document 01's schedule: "01 01 21 B4 01 03 00 00 04 21 05 00 01 21 D2 01 03 00 00 05 00 05 00".
pub input_bytes : schedule_bytes 1
    (enter 33 180 ∷ carry 0 0 ∷ start 33 ∷ step 0 ∷ enter 33 210 ∷ carry 0 0 ∷ step 0 ∷ step 0 ∷ [])
    ≡ 0x01 ∷ 0x01 ∷ 0x21 ∷ 0xB4 ∷ 0x01 ∷ 0x03 ∷ 0x00 ∷ 0x00 ∷ 0x04 ∷ 0x21 ∷ 0x05 ∷ 0x00 ∷ 0x01 ∷ 0x21 ∷ 0xD2 ∷ 0x01 ∷ 0x03 ∷ 0x00
    ∷ 0x00 ∷ 0x05 ∷ 0x00 ∷ 0x05 ∷ 0x00 ∷ []
unfolding schedule_bytes steps_bytes numbers_bytes form form_in
input_bytes = refl
