-- Enter and withdraw, an entry by its kind: BADSTORE, CLOCK, FULL.
use mathlib.Core.Path.{◌≡◌, refl}
use mathlib.Core.Bool.{true, false}
use mathlib.Core.List.{◌∷◌}
use mathlib.Core.Logic.{◌↔◌}
use Prim.Native.Nat.{ℕ}
use native.Mathlib.Omega.{arith}
use Rattle.plan.specs.Plan.{Plan}
use Rattle.store.specs.declared.Store.{Store}
use Rattle.store.specs.Answers.{BADSTORE, CLOCK, FULL}
use Rattle.store.specs.Copies.{Kind, kind_number, value_held, member}
use Rattle.store.specs.State.{State, last_clock}
use Rattle.store.specs.Layout.{plan_of, state_of}
use Rattle.store.specs.StoreRules.{good_store}
use Rattle.store.specs.Calls.{Effect}
use Rattle.store.proofs.Lifting.{plan_good, state_good}
use Rattle.steps.specs.Entries.{entry, entry_step}
use Rattle.steps.specs.Promises.{entry_outcome}
use Rattle.steps.proofs.WaysOut.{EntryWay, entry_way}
use Rattle.steps.proofs.WaysOut.EntryWay.{at_last_clock, root_full, enters}
use Rattle.steps.proofs.Refusals.{clock_exactly, full_exactly}
use Rattle.refusals.specs.Given.{Among, StepRefuses, Refuses, RootFull, entry_answers}
use Rattle.refusals.proofs.OnStores.{on_badstore, on_exactly, on_among, on_refuses}

-- An entry on a state, of a kind by its number.
module _ (kind key value : ℕ) (p : Plan) (s : State) where
  step_among : Among entry_answers (entry kind key value p s).answer
  unfolding member
  step_among = go (entry_way kind key value p s)
    where
      go : {e : Effect} → EntryWay kind key value p s e → Among entry_answers e.answer
      go (at_last_clock h) = refl
      go (root_full h f g) = refl
      go (enters h f) = refl

  step_refuses : StepRefuses s (entry kind key value p s)
  step_refuses = go (entry_way kind key value p s)
    where
      go : {e : Effect} → EntryWay kind key value p s e → StepRefuses s e
      go (at_last_clock h) = λ _. refl
      go (root_full h f g) = λ _. refl
      go (enters h f) = λ h. absurd (omega arith)

-- Enter (a result) and withdraw.
module _ (z : Store) (kind : Kind) (key value : ℕ) where
  -- What its copy has as kind and value.
  abbrev number : ℕ
  number = kind_number kind

  abbrev held : ℕ
  held = value_held kind value

  pub entry_badstore : ((entry_outcome kind z key value).answer.number ≡ BADSTORE) ↔ (good_store z ≡ false)
  unfolding member
  entry_badstore = on_badstore (entry_step kind key value) z entry_answers (step_among number key held (plan_of z) (state_of z)) refl

  -- "entry at clock 4294967295"
  pub entry_clock : ((entry_outcome kind z key value).answer.number ≡ CLOCK) ↔ ((good_store z ≡ true) × (z.clock ≡ last_clock))
  unfolding state_of
  entry_clock =
      on_exactly (entry_step kind key value) z CLOCK (λ e. omega arith) λ good.
      clock_exactly (plan_of z) (plan_good z good) (state_of z) (state_good z good) number key held

  pub entry_full : ((entry_outcome kind z key value).answer.number ≡ FULL) ↔ ((good_store z ≡ true) × RootFull z key)
  unfolding state_of
  entry_full =
      on_exactly (entry_step kind key value) z FULL (λ e. omega arith) λ good.
      let f = full_exactly (plan_of z) (plan_good z good) (state_of z) (state_good z good) number key held in (
        λ e. let r = f.0 e in record { clock_left = r.clock_left; lacks_key = r.lacks_key; no_place = r.no_place },
        λ r. f.1 (record { clock_left = r.clock_left; lacks_key = r.lacks_key; no_place = r.no_place }),
      )

  pub entry_answers_lem : Among (BADSTORE ∷ entry_answers) (entry_outcome kind z key value).answer
  entry_answers_lem = on_among (entry_step kind key value) z entry_answers (step_among number key held (plan_of z) (state_of z))

  pub entry-refused : Refuses z (entry_outcome kind z key value)
  entry-refused = on_refuses (entry_step kind key value) z (step_refuses number key held (plan_of z) (state_of z))
