-- What an event does to the logical contents, a line's current result: an accepted entry sets its own line's to its copy and leaves every
-- other; every other event, a carry too, leaves them all; and a refusal leaves the state.
use mathlib.Core.Path.{◌≡◌, refl, ap, ◌∙◌}
use mathlib.Core.Logic.{◌≢◌, inl, inr}
use mathlib.Core.Option.{Option, none, some}
use Prim.Native.Nat.{ℕ, ◌≤◌}
use native.Mathlib.Omega.{arith}
use native.Mathlib.Decide.{ℕ_discrete}
use borrow.Author.Tests.{eq-eqb, ne_eqb}
use Rattle.lists.proofs.Options.{not_none_and_some, one_some}
use Rattle.plan.specs.Plan.{Plan}
use Rattle.plan.specs.PlanRules.{PlanRules}
use Rattle.store.specs.declared.Copy.{Copy}
use Rattle.store.specs.Copies.{stamp_of}
use Rattle.store.specs.State.{State, current}
use Rattle.store.specs.StateRules.{StateRules}
use Rattle.theory.specs.Events.{Event, after, answer_of, entry_of, option_list, held}
use Rattle.theory.specs.Events.Event.{carries}
use Rattle.theory.specs.Paper.{CopySet, with_copies, InHistory, Logical, Multicopy, upserted}
use Rattle.theory.proofs.EventSteps.{event_unaltered, entry_stamp}
use Rattle.theory.proofs.Invariants.{logical_one, still_in, option_member, member_option, multicopy_held, multicopy_event}

module _ (p : Plan) (rules : PlanRules p) (s : State) (good : StateRules p s) (e : Event) where
  -- The history of what the state holds, and with the entry added.
  abbrev H : CopySet
  H = InHistory (held s)

  abbrev H' : CopySet
  H' = with_copies H (option_list (entry_of p e s))

  now : Multicopy p s H
  now = multicopy_held p rules s good

  then : Multicopy p (after p e s) H'
  then = multicopy_event p rules s good e H now

  -- The logical contents that follow from the history with the entry added.
  is_logical : (k : ℕ) (o : Option Copy) → Logical H' k o → current p (after p e s) k ≡ o
  is_logical k o = logical_one H' k (current p (after p e s) k) o then.h_unique (then.invariant_1 k)

  -- A line that nothing was entered of keeps its current result.
  other_line : (k : ℕ) → ((x : Copy) → entry_of p e s ≡ some x → x.key ≢ k) → current p (after p e s) k ≡ current p s k
  other_line k none-of-it =
      is_logical k (current p s k)
      (record {
        in_history = still_in H (option_list (entry_of p e s)) k (current p s k) (now.invariant_1 k).in_history;
        greatest = go;
      })
    where
      go : (a : Option Copy) → H' k a → stamp_of a ≤ stamp_of (current p s k)
      go none i = omega arith
      go (some x) (inl i) = (now.invariant_1 k).greatest (some x) i
      go (some x) (inr w) = absurd (none-of-it x (member_option (entry_of p e s) x w.1) w.0)

  own_line : (x : Copy) → entry_of p e s ≡ some x → current p (after p e s) x.key ≡ some x
  own_line x f =
      is_logical x.key (some x)
      (record {
        in_history = inr (refl, option_member (entry_of p e s) x f);
        greatest = go;
      })
    where
      go : (a : Option Copy) → H' x.key a → stamp_of a ≤ x.stamp
      go none i = omega arith
      go (some y) (inl i) = omega (arith, now.h_clock x.key (some y) i, entry_stamp p e s x f)
      go (some y) (inr w) = omega (arith, ap (λ (z : Copy). z.stamp) (one_some (member_option (entry_of p e s) y w.1) f))

  -- (1): an accepted entry changes the logical contents M to M[k ↦ v], at its key alone and to its copy.
  pub entry_upserts : (x : Copy) → entry_of p e s ≡ some x → (k : ℕ) → current p (after p e s) k ≡ upserted (current p s) x k
  entry_upserts x f k = go (ℕ_discrete x.key k)
    where
      go : Dec (x.key ≡ k) → current p (after p e s) k ≡ upserted (current p s) x k
      go (yes q) = rw (eq-eqb x.key k q, ← q) (own_line x f)
      go (no q) =
          rw (ne_eqb x.key k q)
          (other_line k (λ y g r. q (ap (λ (z : Copy). z.key) (one_some f g) ∙ r)))

  -- Every other event leaves every line's current result.
  pub current-stays : entry_of p e s ≡ none → (k : ℕ) → current p (after p e s) k ≡ current p s k
  current-stays f k = other_line k (λ x g. absurd (not_none_and_some f g))

  -- A refused event changes nothing at all.
  pub refused-stays : 2 ≤ (answer_of p e s).number → after p e s ≡ s
  refused-stays = event_unaltered p rules s good e

-- Carrying changes no line's current result.
pub carry_keeps_current : (p : Plan) → PlanRules p → (s : State) → StateRules p s → (n i k : ℕ)
    → current p (after p (carries n i) s) k ≡ current p s k
carry_keeps_current p rules s good n i k = current-stays p rules s good (carries n i) (unfold entry_of in refl) k
