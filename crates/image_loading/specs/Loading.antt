-- Loading an image. Document 01, "Bytes": "At the end TRAIL, then RULE with the image's length as offset."
use Rattle.std.specs.Prelude.{◌≡◌, cond, List, [], ◌∷◌, ℕ, ◌+◌, ltb, length, Result, Ok, Err}
use Rattle.store.specs.declared.Answer.{Answer}
use Rattle.store.specs.declared.Outcome.{Outcome}
use Rattle.store.specs.declared.Store.{Store}
use Rattle.store.specs.Answers.{DONE, RULE, TRAIL, answer}
use Rattle.store.specs.Layout.{refused_store}
use Rattle.store.specs.Refusals.{refusal_number}
use Rattle.store.specs.StoreRules.{good_store}
use Rattle.wire.specs.declared.Fault.{Fault}
use Rattle.wire.specs.Reading.{Got, got, fault}
use Rattle.image_reading.specs.ImageReading.{image_at}

-- "A refused fresh or load returns a fresh store of plan 1".
abbrev pub refused_load : ℕ → ℕ → Outcome
refused_load number at = record { answer = answer number at 0 0 0; store = refused_store }

-- The copies held: the sum of the counts.
unfoldable pub copies_held : List ℕ → ℕ
copies_held [] = 0
copies_held (count ∷ counts) = count + copies_held counts

-- "At the end TRAIL, then RULE with the image's length as offset."
unfoldable pub finished : List ℕ → Got Store → Outcome
finished s (fault number at) = refused_load number at
finished s (got z end) =
    cond (ltb end (length s)) (refused_load TRAIL end)
    (cond (good_store z) (record { answer = answer DONE (copies_held z.counts) 0 0 0; store = z }) (refused_load RULE (length s)))

-- What loading a byte string gives.
unfoldable pub load_outcome : List ℕ → Outcome
load_outcome s = finished s (image_at s)

-- What a load tells by what it hands back: the copies held and the store; or the fault, and a fresh store in place of what was read.
abbrev pub load_told : Store → Result ℕ Fault → Outcome
load_told z (Ok held) = record { answer = answer DONE held 0 0 0; store = z }
load_told z (Err f) = refused_load (refusal_number f.why) f.at

-- The outcome of a load into a store, which may have held anything.
abbrev pub LoadsInto : List ℕ → Answer → Store → Type 0
LoadsInto bytes a z = record { answer = a; store = z } ≡ load_outcome bytes
