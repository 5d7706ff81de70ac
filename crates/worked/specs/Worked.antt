-- Document 01, "A schedule in full": P1 to P10 as one table.
use Rattle.std.specs.Prelude.{◌≡◌, List, [], ◌∷◌, ℕ, zero, suc, length, replicate}
use Prim.Native.Char.{code}
use Prim.Native.String as text
use Rattle.store.specs.declared.Answer.{Answer}
use Rattle.store.specs.declared.Outcome.{Outcome}
use Rattle.store.specs.declared.Store.{Store}
use Rattle.store.specs.Answers.{DONE, CLOCK, FULL, SLOT, IDLE, SAMPLE, CUT, answer, bare}
use Rattle.store.specs.State.{slot_count, idle}
use Rattle.store.specs.Layout.{store_of, refused_store}
use Rattle.store.specs.Promises.{fresh_outcome, Freshens}
use Rattle.steps.specs.Promises.{Enters, Withdraws, Carries, Steps, Cancels, Looks}
use Rattle.image.specs.Promises.{Saves, Loads}
use Rattle.page.specs.Promises.{Pages}
use Rattle.schedule.specs.declared.Step.{Step}
use Rattle.schedule.specs.Schedule.{ENTER, step_record}
use Rattle.schedule.specs.Running.{no_steps, run_outcome}
use Rattle.schedule.specs.Promises.{decode_outcome}
use Rattle.transcript.specs.Transcript.{schedule_text}

-- The characters of a text, by their numbers.
unfoldable pub characters : text.String → List ℕ
characters text.[] = []
characters (text.◌∷◌ c s) = code c ∷ characters s

-- The store after the record at a place of a list and so many after it.
unfoldable pub store_after_steps : List Step → Store → ℕ → ℕ → Store
store_after_steps steps z place zero = z
store_after_steps steps z place (suc more) = store_after_steps steps (run_outcome z steps place).store (suc place) more

-- "Input: 01 01 21 B4 01 03 00 00 04 21 05 00 01 21 D2 01 03 00 00 05 00 05 00"
abbrev pub input : List ℕ
input =
    0x01 ∷ 0x01 ∷ 0x21 ∷ 0xB4 ∷ 0x01 ∷ 0x03 ∷ 0x00 ∷ 0x00 ∷ 0x04 ∷ 0x21 ∷ 0x05 ∷ 0x00 ∷ 0x01 ∷ 0x21 ∷ 0xD2 ∷ 0x01 ∷ 0x03 ∷ 0x00
    ∷ 0x00 ∷ 0x05 ∷ 0x00 ∷ 0x05 ∷ 0x00 ∷ []

-- Its nine lines.
abbrev pub printed : text.String
printed = "0 0 8 0 0 0\n1 0 1 0 0 0\n3 0 1 0 0 0\n4 0 0 0 0 0\n5 1 1 1 0 0\n1 0 2 0 0 0\n3 0 1 1 0 0\n5 0 2 210 2 2\n5 10 0 0 0 0\n"

-- The store after its steps. Decode's a is the step count, its b the plan.
unfoldable pub store_after_input : Store
store_after_input =
    let d = decode_outcome input no_steps in
    store_after_steps d.1 (fresh_outcome d.0.b).store 0 d.0.a

-- Entries of eight keys.
abbrev pub eight_keys : List Step
eight_keys =
    step_record ENTER 10 1 ∷ step_record ENTER 80 1 ∷ step_record ENTER 20 1 ∷ step_record ENTER 70 1 ∷ step_record ENTER 30 1
    ∷ step_record ENTER 60 1 ∷ step_record ENTER 40 1 ∷ step_record ENTER 50 1 ∷ []

-- A store after these.
unfoldable pub with_eight : Store → Store
with_eight z = store_after_steps eight_keys z 0 (length eight_keys)

-- A store with nothing held and the clock one below its last value.
abbrev pub late_store : Store
late_store = store_of 1 (record { clock = 4294967294; nodes = replicate 4 []; slots = replicate slot_count idle })

-- DONE with a number.
abbrev pub done : ℕ → Answer
done a = answer DONE a 0 0 0

-- Each outcome that a promise allows has this answer.
abbrev pub Answers : (Outcome → Type 0) → Answer → Type 0
Answers Allowed a = (r : Outcome) → Allowed r → r.answer ≡ a

-- So of a fresh store of a plan, as each outcome that the promise of fresh allows has it.
abbrev pub OfFresh : ℕ → (Store → Type 0) → Type 0
OfFresh plan Holds = (f : Outcome) → Freshens plan f → Holds f.store

-- P1 to P10.
pub record Worked : Type 0 where
  -- "(P1) these lines."
  pub p1 : schedule_text input ≡ characters printed
  -- "(P2) Saved after them: 01 01 03 00 01 21 01 D2 01 02 00 00."
  pub p2 :
      Saves store_after_input (replicate 12 0) (done 12)
      (0x01 ∷ 0x01 ∷ 0x03 ∷ 0x00 ∷ 0x01 ∷ 0x21 ∷ 0x01 ∷ 0xD2 ∷ 0x01 ∷ 0x02 ∷ 0x00 ∷ 0x00 ∷ [])
  -- "(P3) Page of sample 1: 01 01 01 D2 01 02."
  pub p3 : Pages store_after_input 1 (replicate 6 0) (done 6) (0x01 ∷ 0x01 ∷ 0x01 ∷ 0xD2 ∷ 0x01 ∷ 0x02 ∷ [])
  -- "(P4) Empty image: CUT, a 0."
  pub p4 : Loads [] (record { answer = answer CUT 0 0 0 0; store = refused_store })
  -- "(P5) Eight keys in a fresh root, a ninth: FULL; one of the eight again: DONE, stamp 9."
  pub p5 : OfFresh 1 (λ z. Answers (Enters (with_eight z) 90 1) (bare FULL) × Answers (Enters (with_eight z) 30 2) (done 9))
  -- "(P6) Clock 4294967294: entry done; the next: CLOCK."
  pub p6 : (r : Outcome) → Enters late_store 33 180 r → (r.answer ≡ done 4294967294) × Answers (Enters r.store 33 180) (bare CLOCK)
  -- "(P7) Fresh plan 1: enter, carry 0 0, withdraw one line: look gives 1, 0, 2, 1."
  pub p7 :
      OfFresh 1 (λ z. (a b c : Outcome) → Enters z 33 180 a → Carries a.store 0 0 b → Withdraws b.store 33 c
      → Looks c.store 33 (answer DONE 1 0 2 1))
  -- "(P8) Look in a fresh store of plan 2: 0, 0, 0, 2."
  pub p8 : OfFresh 2 (λ z. Looks z 33 (answer DONE 0 0 0 2))
  -- "(P9) Slot 7 idle: IDLE; slot 8: SLOT." Of step, and of cancel.
  pub p9 :
      OfFresh 1 (λ z. Answers (Steps z 7) (bare IDLE) × Answers (Steps z 8) (bare SLOT) × Answers (Cancels z 7) (bare IDLE)
      × Answers (Cancels z 8) (bare SLOT))
  -- "(P10) Sample 134217728: SAMPLE."
  pub p10 : OfFresh 1 (λ z. (buffer : List ℕ) → Pages z 134217728 buffer (bare SAMPLE) buffer)
