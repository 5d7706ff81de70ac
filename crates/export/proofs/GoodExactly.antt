-- The check alone: DONE exactly when all store rules hold, and else BADSTORE.
use mathlib.Core.Path.{◌≡◌, ap, ◌∙◌}
use mathlib.Core.Bool.{true, false}
use mathlib.Core.Logic.{◌⊎◌, inl, inr, ◌↔◌}
use native.Mathlib.Omega.{arith}
use Rattle.lists.proofs.Truths.{bool?}
use Rattle.store.specs.declared.Answer.{Answer}
use Rattle.store.specs.declared.Store.{Store}
use Rattle.store.specs.Answers.{DONE, BADSTORE, bare}
use Rattle.store.specs.StoreRules.{StoreRules, good_store}
use Rattle.store.proofs.Lifting.{of_good, of_bad}
use Rattle.store.proofs.Ruling.{good_rules, rules_good}
use Rattle.store.specs.Promises.{Checks}

module _ (z : Store) (r : Answer) (does : Checks z r) where
  done_if : good_store z ≡ true → r.number ≡ DONE
  done_if good = ap (λ (a : Answer). a.number) (does ∙ of_good (λ p s. bare DONE) z good)

  refused_if : good_store z ≡ false → r.number ≡ BADSTORE
  refused_if bad = ap (λ (a : Answer). a.number) (does ∙ of_bad (λ p s. bare DONE) z bad)

  pub good_exactly : (r.number ≡ DONE) ↔ StoreRules z
  good_exactly = (go (bool? (good_store z)), λ rules. done_if (rules_good z rules))
    where
      go : (good_store z ≡ true) ⊎ (good_store z ≡ false) → r.number ≡ DONE → StoreRules z
      go (inl good) e = good_rules z good
      go (inr bad) e = absurd (omega (arith, refused_if bad))

  -- There is no third answer.
  pub good_or_bad : (r.number ≡ DONE) ⊎ (r.number ≡ BADSTORE)
  good_or_bad = go (bool? (good_store z))
    where
      go : (good_store z ≡ true) ⊎ (good_store z ≡ false) → (r.number ≡ DONE) ⊎ (r.number ≡ BADSTORE)
      go (inl good) = inl (done_if good)
      go (inr bad) = inr (refused_if bad)
