-- (3): an accepted entry is the paper's upsert, to the letter; and every other event keeps MCS(r, t, H).
use mathlib.Core.Path.{◌≡◌, refl, ap, ◌∙◌, subst}
use mathlib.Core.Logic.{◌≢◌}
use mathlib.Core.List.{List, [], ◌∷◌}
use mathlib.Core.Option.{Option, none, some}
use Prim.Native.Nat.{ℕ, ◌+◌, ◌<◌}
use native.Mathlib.Omega.{arith}
use native.Mathlib.Decide.{ℕ_discrete}
use lib.ListN.{length}
use borrow.Author.Tests.{eq-eqb, ne_eqb}
use Rattle.plan.specs.Plan.{Plan}
use Rattle.plan.specs.PlanRules.{PlanRules}
use Rattle.store.specs.declared.Copy.{Copy}
use Rattle.store.specs.Answers.{DONE, answer}
use Rattle.store.specs.Copies.{Kind, kind_number, value_held, copy}
use Rattle.store.specs.State.{State, line}
use Rattle.store.specs.StateRules.{StateRules}
use Rattle.steps.specs.Entries.{entered}
use Rattle.steps.proofs.LineSteps.{entered-line, entered_other_line}
use Rattle.theory.specs.Events.{Event, effect, after, answer_of, state_after_all, entry_of, option_list, entered_copies, held}
use Rattle.theory.specs.Events.Event.{enters, carries}
use Rattle.theory.specs.Paper.{CopySet, with_copies, InHistory, Multicopy, upserted}
use Rattle.theory.proofs.EventSteps.{EntersCopy, enters_copy, event_keeps, events_keep}
use Rattle.theory.proofs.ClockSteps.{event_counts, events_count}
use Rattle.theory.proofs.Invariants.{without_none, multicopy_held, multicopy_event, multicopy_all}
use Rattle.theory.proofs.Updates.{entry_upserts}
use Rattle.paper.specs.Specifications.{MCS, Upsert}
use Rattle.paper.proofs.Graphs.{acyclic, invariant_5, invariant_7}
use Rattle.paper.proofs.Cuts.{invariant_6}

-- A state that meets the rules, with a history, is the paper's structure.
pub to_mcs : (p : Plan) → PlanRules p → (s : State) → StateRules p s → (t : ℕ) → s.clock ≡ t → (H : CopySet) → Multicopy p s H → MCS p s t H
to_mcs p rules s good t c H m =
    record {
      state_rules = good;
      acyclic = acyclic p rules;
      clock = c;
      structure = m;
      invariant_5 = invariant_5 p rules s good;
      invariant_6 = invariant_6 p rules s good;
      invariant_7 = invariant_7 p rules;
    }

-- The root with a copy put into it: C_r[k ↦ (v, t)], and every other node as it was.
module _ (s : State) (some_node : 0 < length s.nodes) (x : Copy) where
  at_root : (j : ℕ) → line (entered x s) j 0 ≡ upserted (λ i. line s i 0) x j
  at_root j = go (ℕ_discrete x.key j)
    where
      go : Dec (x.key ≡ j) → line (entered x s) j 0 ≡ upserted (λ i. line s i 0) x j
      go (yes q) = rw (eq-eqb x.key j q, ← q) (entered-line x s some_node).got
      go (no q) = rw (ne_eqb x.key j q) (entered_other_line x s some_node j q 0)

  elsewhere : (n j : ℕ) → n ≢ 0 → line (entered x s) j n ≡ line s j n
  elsewhere n j q = go (ℕ_discrete x.key j)
    where
      go : Dec (x.key ≡ j) → line (entered x s) j n ≡ line s j n
      go (yes r) = subst (λ (i : ℕ). line (entered x s) i n ≡ line s i n) r ((entered-line x s some_node).other n q)
      go (no r) = entered_other_line x s some_node j r n

module _ (p : Plan) (rules : PlanRules p) (s : State) (t : ℕ) (H : CopySet) (m : MCS p s t H) where
  good : StateRules p s
  good = m.state_rules

  -- (3): an event that enters a copy is an upsert of it.
  pub upserts : (e : Event) (x : Copy) → entry_of p e s ≡ some x → Upsert p s t H e x
  upserts e x f =
      record {
        stamp = a.stamp ∙ m.clock;
        says = a.says ∙ ap (λ (c : ℕ). answer DONE c 0 0 0) m.clock;
        mcs =
            to_mcs p rules (after p e s) (event_keeps p rules e s good) _
            (omega (arith, event_counts p e s, ap (λ (o : Option Copy). length (option_list o)) f, m.clock)) (with_copies H (x ∷ []))
            (subst (λ (o : Option Copy). Multicopy p (after p e s) (with_copies H (option_list o))) f
            (multicopy_event p rules s good e H m.structure));
        root_contents = λ j. ap (λ (z : State). line z j 0) a.puts ∙ at_root s some_node x j;
        other_contents = λ n j q. ap (λ (z : State). line z j n) a.puts ∙ elsewhere s some_node x n j q;
        logical = entry_upserts p rules s good e x f;
      }
    where
      a : EntersCopy s (effect p e s) x
      a = enters_copy p e s x f

      some_node : 0 < length s.nodes
      some_node = omega (arith, good.a_list_for_each_node, rules.nodes_within)

  -- Enter is upsert r k v, and withdraw upsert r k □.
  pub entry_is_upsert : (kind : Kind) (k v : ℕ) → (answer_of p (enters kind k v) s).number ≡ DONE
      → Upsert p s t H (enters kind k v) (copy k (kind_number kind) (value_held kind v) t)
  entry_is_upsert kind k v d =
      subst (λ (c : ℕ). Upsert p s t H (enters kind k v) (copy k (kind_number kind) (value_held kind v) c)) m.clock
      (upserts (enters kind k v) (copy k (kind_number kind) (value_held kind v) s.clock)
      (unfold entry_of in rw (eq-eqb (answer_of p (enters kind k v) s).number DONE d)))

  -- Every other event keeps MCS(r, t, H): so does every carry, "⟨t H. MCS(r, t, H)⟩ compact r ⟨MCS(r, t, H)⟩".
  pub others_keep : (e : Event) → entry_of p e s ≡ none → MCS p (after p e s) t H
  others_keep e f =
      to_mcs p rules (after p e s) (event_keeps p rules e s good) t
      (omega (arith, event_counts p e s, ap (λ (o : Option Copy). length (option_list o)) f, m.clock)) H
      (without_none p (after p e s) H
      (subst (λ (o : Option Copy). Multicopy p (after p e s) (with_copies H (option_list o))) f
      (multicopy_event p rules s good e H m.structure)))

  pub carry_keeps_mcs : (n i : ℕ) → MCS p (after p (carries n i) s) t H
  carry_keeps_mcs n i = others_keep (carries n i) (unfold entry_of in refl)

-- At all times: the clock goes up by one for each copy entered, and the history has all of them.
module _ (p : Plan) (rules : PlanRules p) where
  pub mcs_held : (s : State) → StateRules p s → MCS p s s.clock (InHistory (held s))
  mcs_held s good = to_mcs p rules s good s.clock refl (InHistory (held s)) (multicopy_held p rules s good)

  pub mcs_all : (es : List Event) (s : State) (t : ℕ) (H : CopySet) → MCS p s t H
      → MCS p (state_after_all p es s) (length (entered_copies p es s) + t) (with_copies H (entered_copies p es s))
  mcs_all es s t H m =
      to_mcs p rules (state_after_all p es s) (events_keep p rules es s m.state_rules) (length (entered_copies p es s) + t)
      (omega (arith, events_count p es s, m.clock)) (with_copies H (entered_copies p es s))
      (multicopy_all p rules es s m.state_rules H m.structure)
