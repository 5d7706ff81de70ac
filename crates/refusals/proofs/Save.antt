-- Save: BADSTORE, SMALL.
use mathlib.Core.Path.{◌≡◌, ap}
use mathlib.Core.Bool.{true, false}
use mathlib.Core.List.{List, [], ◌∷◌}
use mathlib.Core.Logic.{◌↔◌, ◌⊎◌, inl, inr}
use Prim.Native.Nat.{ℕ, ◌<◌, ◌≤◌}
use native.Mathlib.Decide.{dec_lt}
use native.Mathlib.Omega.{arith}
use lib.ListN.{length}
use Rattle.lists.proofs.Truths.{bool?, not_both}
use Rattle.store.specs.declared.Answer.{Answer}
use Rattle.store.specs.declared.Store.{Store}
use Rattle.store.specs.Answers.{DONE, BADSTORE, SMALL, answer, bare}
use Rattle.store.specs.Copies.{member}
use Rattle.store.specs.StoreRules.{good_store}
use Rattle.wire.proofs.Buffers.{small_answer, small_buffer, done-answer}
use Rattle.image_writing.specs.Image.{image}
use Rattle.image.specs.Promises.{save_answer, save_buffer, save_outcome}
use Rattle.refusals.specs.Given.{Among}

module _ (z : Store) (before : List ℕ) where
  -- The ways of saving.
  data Way : Type 0 where
    bad : good_store z ≡ false → (save_outcome z before).0 ≡ bare BADSTORE → (save_outcome z before).1 ≡ before → Way
    small : good_store z ≡ true → length before < length (image z) → (save_outcome z before).0 ≡ answer SMALL (length (image z)) 0 0 0
        → (save_outcome z before).1 ≡ before → Way
    done : good_store z ≡ true → length (image z) ≤ length before → (save_outcome z before).0 ≡ answer DONE (length (image z)) 0 0 0 → Way

  way : Way
  unfolding save_answer save_buffer
  way = go (bool? (good_store z)) (dec_lt (length before) (length (image z)))
    where
      go : (good_store z ≡ true) ⊎ (good_store z ≡ false) → Dec (length before < length (image z)) → Way
      go (inr b) d = bad b (rw b) (rw b)
      go (inl g) (yes h) = small g h (rw g (small_answer (image z) before h)) (rw g (small_buffer (image z) before h))
      go (inl g) (no h) = done g (omega arith) (rw g (done-answer (image z) before (omega arith)))

  abbrev number : ℕ
  number = (save_outcome z before).0.number

  numbered : {r : Answer} → (save_outcome z before).0 ≡ r → number ≡ r.number
  numbered e = ap (λ (r : Answer). r.number) e

  pub save_badstore : ((save_outcome z before).0.number ≡ BADSTORE) ↔ (good_store z ≡ false)
  save_badstore = go way
    where
      go : Way → (number ≡ BADSTORE) ↔ (good_store z ≡ false)
      go (bad b e f) = (λ _. b, λ _. numbered e)
      go (small g h e f) = (λ n. absurd (omega (arith, numbered e)), λ b. absurd (not_both g b))
      go (done g h e) = (λ n. absurd (omega (arith, numbered e)), λ b. absurd (not_both g b))

  -- "buffer too short"
  pub save_small : ((save_outcome z before).0.number ≡ SMALL) ↔ ((good_store z ≡ true) × (length before < length (image z)))
  save_small = go way
    where
      go : Way → (number ≡ SMALL) ↔ ((good_store z ≡ true) × (length before < length (image z)))
      go (bad b e f) = (λ n. absurd (omega (arith, numbered e)), λ h. absurd (not_both h.0 b))
      go (small g h e f) = (λ _. (g, h), λ _. numbered e)
      go (done g h e) = (λ n. absurd (omega (arith, numbered e)), λ l. absurd (omega (arith, l.1)))

  -- "bytes needed"
  pub save_needs : (save_outcome z before).0.number ≡ SMALL → (save_outcome z before).0 ≡ answer SMALL (length (image z)) 0 0 0
  save_needs = go way
    where
      go : Way → number ≡ SMALL → (save_outcome z before).0 ≡ answer SMALL (length (image z)) 0 0 0
      go (bad b e f) n = absurd (omega (arith, numbered e))
      go (small g h e f) n = e
      go (done g h e) n = absurd (omega (arith, numbered e))

  pub save_answers : Among (BADSTORE ∷ SMALL ∷ DONE ∷ []) (save_outcome z before).0
  unfolding member
  save_answers = go way
    where
      go : Way → Among (BADSTORE ∷ SMALL ∷ DONE ∷ []) (save_outcome z before).0
      go (bad b e f) = rw e
      go (small g h e f) = rw e
      go (done g h e) = rw e

  -- A refusal leaves every byte; the store is lent to be read.
  pub save_refused : 2 ≤ (save_outcome z before).0.number → (save_outcome z before).1 ≡ before
  save_refused = go way
    where
      go : Way → 2 ≤ number → (save_outcome z before).1 ≡ before
      go (bad b e f) h = f
      go (small g l e f) h = f
      go (done g l e) h = absurd (omega (arith, numbered e))
