-- The steps of the C interface that are entries, by their numbers.
use mathlib.Core.Path.{◌≡◌, refl}
use mathlib.Core.Bool.{Bool, true, false, cond}
use mathlib.Core.List.{[], ◌∷◌}
use Prim.Native.Nat.{ℕ}
use lib.Dec.{eqb}
use borrow.Author.Tests.{eqb-true}
use Rattle.store.specs.Copies.{Kind}
use Rattle.store.specs.Copies.Kind.{withdrawn, result}
use Rattle.theory.specs.Events.{Event}
use Rattle.theory.specs.Events.Event.{enters, carries, starts, steps, cancels, asks}
use Rattle.schedule.specs.Schedule.{ENTER, WITHDRAW, CARRY, START, STEP, CANCEL, step_record}
use Rattle.calls.specs.PublicCalls.{Call}
use Rattle.calls.specs.PublicCalls.Call.{fresh, run}
use Rattle.calls.specs.Following.{event_of_record, event_of}
use Rattle.kept.specs.EntriesBehind.{step_number}

-- The public call in the place of a step.
abbrev pub step_run : ℕ → ℕ → ℕ → Call
step_run number x y = run (step_record number x y ∷ []) 0

-- The step of an entry is its entry,
pub entry_event : (kind : Kind) (k v : ℕ) → (w : ℕ) × (event_of (step_run (step_number kind) k v) ≡ enters kind k w)
unfolding event_of event_of_record
entry_event result k v = (v, refl)
entry_event withdrawn k v = (0, refl)

-- and a step that is an entry has its number and its line.
abbrev pub Names : ℕ → ℕ → Event → Type 0
Names number x (enters kind k v) = (number ≡ step_number kind) × (x ≡ k)
Names number x (carries n i) = Unit {0}
Names number x (starts k) = Unit {0}
Names number x (steps i) = Unit {0}
Names number x (cancels i) = Unit {0}
Names number x asks = Unit {0}

pub event_names : (number x y : ℕ) → Names number x (event_of (step_run number x y))
unfolding event_of event_of_record
event_names number x y =
    go (eqb number ENTER) refl (eqb number WITHDRAW) refl (eqb number CARRY) (eqb number START) (eqb number STEP) (eqb number CANCEL)
  where
    go : (a : Bool) → eqb number ENTER ≡ a → (b : Bool) → eqb number WITHDRAW ≡ b → (c d e f : Bool)
        → Names number x
        (cond a (enters result x y)
        (cond b (enters withdrawn x 0)
        (cond c (carries x y) (cond d (starts x) (cond e (steps x) (cond f (cancels x) asks))))))
    go true t b u c d e f = (eqb-true number ENTER t, refl)
    go false t true u c d e f = (eqb-true number WITHDRAW u, refl)
    go false t false u true d e f = tt
    go false t false u false true e f = tt
    go false t false u false false true f = tt
    go false t false u false false false true = tt
    go false t false u false false false false = tt

-- A fresh or load is none.
pub or_fresh_asks : (b : Bool) (c : Call) → event_of c ≡ asks → event_of (cond b c (fresh 1)) ≡ asks
unfolding event_of
or_fresh_asks true c is = is
or_fresh_asks false c is = refl
