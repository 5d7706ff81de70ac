-- From the refusals of a step on states to those of its call on stores. BADSTORE comes first: it is given exactly when a store rule is
-- broken, and every other refusal exactly when its step gives it in a good store.
use mathlib.Core.Path.{◌≡◌, sym, ap, ◌∙◌, subst}
use mathlib.Core.Bool.{true, false}
use mathlib.Core.List.{List, ◌∷◌}
use mathlib.Core.Logic.{◌≢◌, ◌↔◌, ◌⊎◌, inl, inr}
use Prim.Native.Nat.{ℕ}
use lib.Dec.{eqb}
use Rattle.lists.proofs.Truths.{bool?, not_both}
use Rattle.std.proofs.lemmas.Bool.{false_from_ne_true, or_right}
use Rattle.plan.specs.Plan.{Plan}
use Rattle.store.specs.declared.Answer.{Answer}
use Rattle.store.specs.declared.Outcome.{Outcome}
use Rattle.store.specs.declared.Store.{Store}
use Rattle.store.specs.Answers.{BADSTORE, bare}
use Rattle.store.specs.Copies.{member}
use Rattle.store.specs.State.{State}
use Rattle.store.specs.Layout.{plan_of, state_of, store_of}
use Rattle.store.specs.StoreRules.{StoreRules, good_store}
use Rattle.store.specs.Calls.{Effect, on_store, of_store}
use Rattle.store.proofs.Ruling.{good_rules, rules_good}
use Rattle.store.proofs.Lifting.{on_bad, on_good, of_bad, of_good, good_back}
use Rattle.refusals.specs.Given.{Among, StepRefuses, Refuses}

-- "a store rule is broken": the test fails exactly when not all rules hold.
pub rule_broken : (z : Store) → (good_store z ≡ false) ↔ (StoreRules z → ⊥)
rule_broken z = (λ bad rules. not_both (rules_good z rules) bad, λ broken. false_from_ne_true (good_store z) (λ good. broken (good_rules z good)))

-- A number that is not among them is not given.
pub not_given : (numbers : List ℕ) (n : ℕ) {m : ℕ} → member n numbers ≡ true → member m numbers ≡ false → n ≢ m
not_given numbers n among lacks e = not_both among (ap (λ (k : ℕ). member k numbers) e ∙ lacks)

-- A call that may alter the store.
module _ (f : Plan → State → Effect) (z : Store) where
  -- What its step does.
  abbrev stepped : Effect
  stepped = f (plan_of z) (state_of z)

  numbered_bad : good_store z ≡ false → (on_store f z).answer.number ≡ BADSTORE
  numbered_bad bad = ap (λ (o : Outcome). o.answer.number) (on_bad f z bad)

  numbered_good : good_store z ≡ true → (on_store f z).answer.number ≡ stepped.answer.number
  numbered_good good = ap (λ (o : Outcome). o.answer.number) (on_good f z good)

  -- BADSTORE is given exactly when a store rule is broken, if the step does not answer it itself.
  pub on_badstore : (numbers : List ℕ) → Among numbers stepped.answer → member BADSTORE numbers ≡ false
      → ((on_store f z).answer.number ≡ BADSTORE) ↔ (good_store z ≡ false)
  on_badstore numbers among lacks =
      let other = not_given numbers stepped.answer.number among lacks in
      (λ e. false_from_ne_true (good_store z) (λ good. other (sym (numbered_good good) ∙ e)), numbered_bad)

  -- Any other number is given exactly when the store is good and the step gives it.
  pub on_exactly : (n : ℕ) {Line : Type 0} → BADSTORE ≢ n → (good_store z ≡ true → (stepped.answer.number ≡ n) ↔ Line)
      → ((on_store f z).answer.number ≡ n) ↔ ((good_store z ≡ true) × Line)
  on_exactly n {Line} other exactly = (λ e. there e (bool? (good_store z)), λ h. numbered_good h.0 ∙ (exactly h.0).1 h.1)
    where
      there : (on_store f z).answer.number ≡ n → (good_store z ≡ true) ⊎ (good_store z ≡ false) → (good_store z ≡ true) × Line
      there e (inl good) = (good, (exactly good).0 (sym (numbered_good good) ∙ e))
      there e (inr bad) = absurd (other (sym (numbered_bad bad) ∙ e))

  -- The numbers that the call answers.
  pub on_among : (numbers : List ℕ) → Among numbers stepped.answer → Among (BADSTORE ∷ numbers) (on_store f z).answer
  unfolding member
  on_among numbers among = go (bool? (good_store z))
    where
      go : (good_store z ≡ true) ⊎ (good_store z ≡ false) → Among (BADSTORE ∷ numbers) (on_store f z).answer
      go (inl good) =
          subst (λ (n : ℕ). member n (BADSTORE ∷ numbers) ≡ true) (sym (numbered_good good))
          (or_right (eqb stepped.answer.number BADSTORE) (member stepped.answer.number numbers) among)
      go (inr bad) = rw (numbered_bad bad)

  -- A refusal leaves the store.
  pub on_refuses : StepRefuses (state_of z) stepped → Refuses z (on_store f z)
  on_refuses refuses = go (bool? (good_store z))
    where
      go : (good_store z ≡ true) ⊎ (good_store z ≡ false) → Refuses z (on_store f z)
      go (inl good) = λ h.
          let n = numbered_good good in
          let e = refuses (rw n at h) in
          on_good f z good
          ∙ ap (λ (w : Effect). record { answer = w.answer; store = store_of z.plan w.after }) e
          ∙ ap (λ (y : Store). record { answer = bare stepped.answer.number; store = y }) (good_back z good)
          ∙ ap (λ (m : ℕ). record { answer = bare m; store = z }) (sym n)
      go (inr bad) = λ h. on_bad f z bad ∙ ap (λ (m : ℕ). record { answer = bare m; store = z }) (sym (numbered_bad bad))

-- A call that only asks.
module _ (f : Plan → State → Answer) (z : Store) where
  asked_bad : good_store z ≡ false → (of_store f z).number ≡ BADSTORE
  asked_bad bad = ap (λ (r : Answer). r.number) (of_bad f z bad)

  asked_good : good_store z ≡ true → (of_store f z).number ≡ (f (plan_of z) (state_of z)).number
  asked_good good = ap (λ (r : Answer). r.number) (of_good f z good)

  pub of_badstore : (f (plan_of z) (state_of z)).number ≢ BADSTORE → ((of_store f z).number ≡ BADSTORE) ↔ (good_store z ≡ false)
  of_badstore other = (λ e. false_from_ne_true (good_store z) (λ good. other (sym (asked_good good) ∙ e)), asked_bad)

  pub of_among : (numbers : List ℕ) → Among numbers (f (plan_of z) (state_of z)) → Among (BADSTORE ∷ numbers) (of_store f z)
  unfolding member
  of_among numbers among = go (bool? (good_store z))
    where
      go : (good_store z ≡ true) ⊎ (good_store z ≡ false) → Among (BADSTORE ∷ numbers) (of_store f z)
      go (inl good) =
          subst (λ (n : ℕ). member n (BADSTORE ∷ numbers) ≡ true) (sym (asked_good good))
          (or_right (eqb (f (plan_of z) (state_of z)).number BADSTORE) (member (f (plan_of z) (state_of z)).number numbers) among)
      go (inr bad) = rw (asked_bad bad)
