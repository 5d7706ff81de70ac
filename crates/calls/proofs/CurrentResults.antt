-- What a public call does to the lines' current results: an accepted entry sets its own line's to its copy and leaves every other; every
-- other call that does not replace the store leaves them all, a carry too; and a refusal leaves the store as it was.
use mathlib.Core.Path.{◌≡◌, refl, sym, ap, ◌∙◌, subst}
use mathlib.Core.Bool.{true, false}
use mathlib.Core.Logic.{◌⊎◌, inl, inr}
use mathlib.Core.Option.{none, some}
use Prim.Native.Nat.{ℕ, ◌≤◌}
use native.Mathlib.Omega.{arith}
use borrow.Author.Tests.{ne_eqb}
use Rattle.lists.proofs.Truths.{bool?}
use Rattle.lists.proofs.Options.{not_none_and_some, one_some}
use Rattle.store.specs.declared.Answer.{Answer}
use Rattle.store.specs.declared.Copy.{Copy}
use Rattle.store.specs.declared.Outcome.{Outcome}
use Rattle.store.specs.declared.Store.{Store}
use Rattle.store.specs.Answers.{DONE}
use Rattle.store.specs.State.{current}
use Rattle.store.specs.Layout.{plan_of, state_of}
use Rattle.store.specs.StoreRules.{good_store}
use Rattle.store.proofs.Lifting.{plan_good, state_good, store_stays}
use Rattle.theory.specs.Events.{Event, effect, after}
use Rattle.theory.specs.Events.Event.{carries, asks}
use Rattle.theory.specs.Paper.{upserted}
use Rattle.theory.proofs.Updates.{entry_upserts, current-stays, refused-stays}
use Rattle.calls.specs.PublicCalls.{Call, replaced, store_after, answer_to}
use Rattle.calls.specs.Following.{event_of, on_event, replacement, entered_by}
use Rattle.calls.specs.Recent.{current_in}
use Rattle.calls.proofs.Follows.{
  by_effect,
  asks_nothing,
  OwnOutcome,
  OnEvent,
  call_way,
  acts_as,
  carry_acts,
  event_on,
  event_keeps_plan,
  event_on_bad,
  event_state,
  event_answer,
}
use Rattle.calls.proofs.Histories.{entered_same}

-- ---- an event

module _ (e : Event) (z : Store) where
  event_refused : 2 ≤ (on_event e z).answer.number → (on_event e z).store ≡ z
  event_refused h = go (bool? (good_store z))
    where
      go : (good_store z ≡ true) ⊎ (good_store z ≡ false) → (on_event e z).store ≡ z
      go (inl good) =
          ap (λ (o : Outcome). o.store) (by_effect e z)
          ∙ store_stays (λ p s. effect p e s) z
          (refused-stays (plan_of z) (plan_good z good) (state_of z) (state_good z good) e
          (rw (event_answer e z good) at h))
      go (inr bad) = event_on_bad e z bad

  module _ (good : good_store z ≡ true) where
    -- The current result after an event is the state's.
    current-after : (k : ℕ) → current_in (on_event e z).store k ≡ current (plan_of z) (after (plan_of z) e (state_of z)) k
    current-after k = rw (event_state e z good, event_keeps_plan e z)

    event_sets : (x : Copy) → entered_by e z ≡ some x → (k : ℕ) → current_in (on_event e z).store k ≡ upserted (current_in z) x k
    event_sets x f k =
        current-after k
        ∙ entry_upserts (plan_of z) (plan_good z good) (state_of z) (state_good z good) e x (sym (entered_same e z good) ∙ f) k

    event_leaves : entered_by e z ≡ none → (k : ℕ) → current_in (on_event e z).store k ≡ current_in z k
    event_leaves f k =
        current-after k
        ∙ current-stays (plan_of z) (plan_good z good) (state_of z) (state_good z good) e (sym (entered_same e z good) ∙ f) k

-- ---- a call

module _ (c : Call) (z : Store) where
  -- A refusal (2 and up) leaves the store unaltered, a bad one too; also of fresh and load, and of a record run.
  pub refused_store_lem : (a : Answer) → answer_to c z ≡ some a → 2 ≤ a.number → store_after c z ≡ z
  refused_store_lem a says h = go (call_way c)
    where
      not_taken : (o : Outcome) → o.answer ≡ a → replaced o z ≡ z
      not_taken o e = rw (ne_eqb o.answer.number DONE (λ (q : o.answer.number ≡ DONE). omega (arith, ap (λ (b : Answer). b.number) e)))

      at : OnEvent c → (answer_to c z ≡ some (on_event (event_of c) z).answer) ⊎ (event_of c ≡ asks) → store_after c z ≡ z
      at w (inl e) =
          w.leaves z ∙ event_refused (event_of c) z (subst (λ (b : Answer). 2 ≤ b.number) (one_some says e) h)
      at w (inr e) = w.leaves z ∙ ap (λ (d : Event). (on_event d z).store) e ∙ asks_nothing z

      go : OnEvent c ⊎ OwnOutcome c → store_after c z ≡ z
      go (inl w) = at w (w.answers z)
      go (inr w) = w.leaves z ∙ not_taken w.outcome (one_some (w.answers z) says)

  module _ (good : good_store z ≡ true) where
    -- An accepted entry changes the current results at its key alone, and to its copy.
    pub entry-sets : (x : Copy) → entered_by (event_of c) z ≡ some x → (k : ℕ) → current_in (store_after c z) k ≡ upserted (current_in z) x k
    unfolding entered_by
    entry-sets x f k = go (call_way c)
      where
        go : OnEvent c ⊎ OwnOutcome c → current_in (store_after c z) k ≡ upserted (current_in z) x k
        go (inl w) = rw (w.leaves z) (event_sets (event_of c) z good x f k)
        go (inr w) =
            absurd (not_none_and_some refl (subst (λ (e : Event). entered_by e z ≡ some x) w.else_nothing f))

    -- Every other call that does not replace the store changes none.
    pub others_leave : replacement c ≡ none → entered_by (event_of c) z ≡ none → (k : ℕ) → current_in (store_after c z) k ≡ current_in z k
    others_leave e f k = rw (event_on c z e) (event_leaves (event_of c) z good f k)

-- Carrying changes no line's current result, by a record run too.
pub carry_leaves : (c : Call) (n i : ℕ) → event_of c ≡ carries n i → (z : Store) → good_store z ≡ true → (k : ℕ)
    → current_in (store_after c z) k ≡ current_in z k
carry_leaves c n i e z good k =
    let a = acts_as c (carries n i) e (carry_acts n i) in
    rw (a.leaves z) (event_leaves (carries n i) z good (unfold entered_by in refl) k)
