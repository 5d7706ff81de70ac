-- What an unknown step does.
use mathlib.Core.Path.{◌≡◌, refl, sym}
use mathlib.Core.Bool.{true, false}
use Prim.Native.Nat.{ℕ}
use Rattle.store.specs.declared.Answer.{Answer}
use Rattle.store.specs.declared.Store.{Store}
use Rattle.store.specs.Answers.{BADSTORE, OP, answer, bare}
use Rattle.store.specs.Layout.{state_of}
use Rattle.store.specs.StoreRules.{good_store}
use Rattle.store.proofs.Lifting.{on_bad, on_way, good_back}
use Rattle.schedule.specs.Running.{unknown_step, unknown_outcome}

-- An unknown step: BADSTORE,
module _ (z : Store) (place : ℕ) where
  pub unknown_bad : good_store z ≡ false → {a : Answer} → a ≡ bare BADSTORE → record { answer = a; store = z } ≡ unknown_outcome z place
  unknown_bad bad e = rw e (sym (on_bad (unknown_step place) z bad))

  -- or OP with the place.
  pub unknown_op : good_store z ≡ true → {a : Answer} → a ≡ answer OP place 0 0 0 → record { answer = a; store = z } ≡ unknown_outcome z place
  unknown_op good e = rw e (on_way (unknown_step place) z good (answer OP place 0 0 0) (state_of z) z refl (sym (good_back z good)))

pub ruleset unknown_laws = (unknown_bad, unknown_op)
