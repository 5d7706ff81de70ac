-- What an event does: it keeps all state rules; and for a line it is nothing, one entry, or one carry along an edge.
use mathlib.Core.Path.{◌≡◌, refl, sym, ap, ◌∙◌, subst}
use mathlib.Core.Bool.{Bool, true, false, cond, ◌&&◌}
use mathlib.Core.Logic.{◌⊎◌, inl, inr}
use mathlib.Core.List.{List, [], ◌∷◌, ◌++◌}
use mathlib.Core.Option.{Option, none, some}
use Prim.Native.Nat.{ℕ, ◌<◌, ◌≤◌}
use native.Mathlib.Omega.{arith}
use lib.Dec.{eqb}
use borrow.Author.Tests.{eqb-true}
use Rattle.lists.proofs.Options.{not_none_and_some, one_some}
use Rattle.plan.specs.Plan.{Plan}
use Rattle.plan.specs.PlanRules.{PlanRules}
use Rattle.store.specs.declared.Copy.{Copy}
use Rattle.store.specs.Answers.{DONE, answer}
use Rattle.store.specs.Copies.{kind_number, value_held, copy}
use Rattle.store.specs.State.{State, line}
use Rattle.store.specs.StateRules.{StateRules}
use Rattle.store.specs.Calls.{Effect}
use Rattle.steps.specs.Entries.{entered, entry}
use Rattle.steps.specs.Carries.{bit}
use Rattle.steps.proofs.WaysOut.{EntryWay, entry_way}
use Rattle.steps.proofs.WaysOut.EntryWay.{at_last_clock, root_full, enters as copy-enters}
use Rattle.steps.proofs.LineSteps.{LineThrough, entered-line, entry-line, carry_line, start_line, step_line, cancel_line}
use Rattle.steps.proofs.LineSteps.LineStep.{same}
use Rattle.steps.proofs.LinesKept.{Came, came, clock_grows}
use Rattle.steps.proofs.LinesKept.Came.{stood, moved, entered as came-in}
use Rattle.steps.proofs.Keeping.{kind_keeps, carry_keeps, start_keeps, step_keeps, cancel_keeps}
use Rattle.steps.proofs.Refusals.{Unaltered, entry_unaltered, carry_unaltered, start_unaltered, step_unaltered, cancel_unaltered}
use Rattle.theory.specs.Events.{Event, effect, after, state_after_all, entry_of, of_line, carries_line}
use Rattle.theory.specs.Events.Event.{enters, carries, starts, steps, cancels, asks}

bit_one : (b : Bool) → bit b ≡ 1 → b ≡ true
bit_one true e = refl
bit_one false e = absurd (omega arith)

-- An entry of the line, if one is made.
if_made : (b : Bool) (x : Copy) (k : ℕ) → of_line k (cond b (some x) none) ≡ (b && eqb x.key k)
if_made true x k = refl
if_made false x k = refl

-- An entry of a line is a copy with the line's key.
pub of_line_lem : (k : ℕ) (o : Option Copy) → of_line k o ≡ true → (x : Copy) × (o ≡ some x) × (x.key ≡ k)
of_line_lem k none t = absurd (let z : ◌≡◌ {A = ℕ} 0 1 = ap bit t in omega arith)
of_line_lem k (some x) t = (x, refl, eqb-true x.key k t)

-- What an accepted entry does: its copy has the clock as its stamp, the answer says it, and the copy is put into the root.
pub record EntersCopy (s : State) (o : Effect) (x : Copy) : Type 0 where
  pub stamp : x.stamp ≡ s.clock
  pub says : o.answer ≡ answer DONE s.clock 0 0 0
  pub puts : o.after ≡ entered x s

entry_enters : (kind k v : ℕ) (p : Plan) (s : State) (x : Copy)
    → cond (eqb (entry kind k v p s).answer.number DONE) (some (copy k kind v s.clock)) none ≡ some x
    → EntersCopy s (entry kind k v p s) x
entry_enters kind k v p s x = go (entry_way kind k v p s)
  where
    go : {o : Effect} → EntryWay kind k v p s o → cond (eqb o.answer.number DONE) (some (copy k kind v s.clock)) none ≡ some x
        → EntersCopy s o x
    go (at_last_clock h) e = absurd (not_none_and_some refl e)
    go (root_full h f g) e = absurd (not_none_and_some refl e)
    go (copy-enters h f) e =
        let is : copy k kind v s.clock ≡ x = one_some refl e in
        record { stamp = ap (λ (y : Copy). y.stamp) (sym is); says = refl; puts = ap (λ (y : Copy). entered y s) is }

module _ (p : Plan) where
  -- An accepted entry puts its copy, stamped with the clock, into the root.
  pub enters_copy : (e : Event) (s : State) (x : Copy) → entry_of p e s ≡ some x → EntersCopy s (effect p e s) x
  unfolding effect entry_of
  enters_copy (enters kind k v) s x e = entry_enters (kind_number kind) k (value_held kind v) p s x e
  enters_copy (carries n i) s x e = absurd (not_none_and_some refl e)
  enters_copy (starts k) s x e = absurd (not_none_and_some refl e)
  enters_copy (steps i) s x e = absurd (not_none_and_some refl e)
  enters_copy (cancels i) s x e = absurd (not_none_and_some refl e)
  enters_copy asks s x e = absurd (not_none_and_some refl e)

  pub entry_stamp : (e : Event) (s : State) (x : Copy) → entry_of p e s ≡ some x → x.stamp ≡ s.clock
  entry_stamp e s x q = (enters_copy e s x q).stamp

  pub entry_clock : (e : Event) (s : State) (x : Copy) → entry_of p e s ≡ some x → s.clock < (after p e s).clock
  entry_clock e s x q = rw (enters_copy e s x q).puts (unfold entered in omega arith)

  -- One sequence after another.
  pub after-all-append : (es fs : List Event) (s : State) → state_after_all p (es ++ fs) s ≡ state_after_all p fs (state_after_all p es s)
  unfolding state_after_all
  after-all-append [] fs s = refl
  after-all-append (e ∷ es) fs s = after-all-append es fs (after p e s)

module _ (p : Plan) (rules : PlanRules p) where
  -- Every event keeps all state rules,
  pub event_keeps : (e : Event) (s : State) → StateRules p s → StateRules p (after p e s)
  unfolding effect
  event_keeps (enters kind k v) s good = kind_keeps kind k v p rules s good
  event_keeps (carries n i) s good = carry_keeps n i p rules s good
  event_keeps (starts k) s good = start_keeps k p rules s good
  event_keeps (steps i) s good = step_keeps i p rules s good
  event_keeps (cancels i) s good = cancel_keeps i p rules s good
  event_keeps asks s good = good

  -- and so does every sequence.
  pub events_keep : (es : List Event) (s : State) → StateRules p s → StateRules p (state_after_all p es s)
  unfolding state_after_all
  events_keep [] s good = good
  events_keep (e ∷ es) s good = events_keep es (after p e s) (event_keeps e s good)

  module _ (s : State) (good : StateRules p s) where
    -- A refusal (2 and up) leaves the state unaltered.
    pub event_unaltered : (e : Event) → Unaltered s (effect p e s)
    unfolding effect
    event_unaltered (enters kind k v) = entry_unaltered p rules s good (kind_number kind) k (value_held kind v)
    event_unaltered (carries n i) = carry_unaltered p rules s good n i
    event_unaltered (starts k) = start_unaltered p rules s good k
    event_unaltered (steps i) = step_unaltered p rules s good i
    event_unaltered (cancels i) = cancel_unaltered p rules s good i
    event_unaltered asks = λ e. refl

    entry-of-line : (kind j v k : ℕ)
        → LineThrough p s (entry kind j v p s) k 0
        (bit (of_line k (cond (eqb (entry kind j v p s).answer.number DONE) (some (copy j kind v s.clock)) none)))
    entry-of-line kind j v k =
        rw (if_made (eqb (entry kind j v p s).answer.number DONE) (copy j kind v s.clock) k) (entry-line p rules s good k kind j v)

    -- For each line an event is nothing, one entry of it, or one carry of it.
    pub event_line : (e : Event) (k : ℕ) → LineThrough p s (effect p e s) k (bit (carries_line p k e s)) (bit (of_line k (entry_of p e s)))
    unfolding effect entry_of carries_line
    event_line (enters kind j v) k = entry-of-line (kind_number kind) j (value_held kind v) k
    event_line (carries n i) k = carry_line p rules s good k n i
    event_line (starts j) k = start_line p rules s good k j
    event_line (steps i) k = step_line p rules s good k i
    event_line (cancels i) k = cancel_line p rules s good k i
    event_line asks k = same refl refl (omega arith) (λ m. refl)

    pub event_clock : (e : Event) → s.clock ≤ (after p e s).clock
    event_clock e =
        clock_grows p rules s (after p e s) (λ k. bit (carries_line p k e s)) (λ k. bit (of_line k (entry_of p e s))) (event_line e)

    -- An accepted entry stands in the root.
    pub entry_in_root : (e : Event) (x : Copy) → entry_of p e s ≡ some x → line (after p e s) x.key 0 ≡ some x
    entry_in_root e x q =
        rw (enters_copy p e s x q).puts
        (entered-line x s (omega (arith, good.a_list_for_each_node, rules.nodes_within))).got

    -- A copy that is held after an event was held before it, or is the copy that it entered.
    pub held_or_entered : (e : Event) (k m : ℕ) (y : Copy) → line (after p e s) k m ≡ some y
        → ((n : ℕ) × (line s k n ≡ some y)) ⊎ (entry_of p e s ≡ some y)
    held_or_entered e k m y q = go (came p rules s s' moves entries (event_line e) k m y q)
      where
        s' : State
        s' = after p e s

        moves : ℕ → ℕ
        moves j = bit (carries_line p j e s)

        entries : ℕ → ℕ
        entries j = bit (of_line j (entry_of p e s))

        go : Came p rules s s' moves entries (event_line e) k m y → ((n : ℕ) × (line s k n ≡ some y)) ⊎ (entry_of p e s ≡ some y)
        go (stood f) = inl (m, f)
        go (moved n f h) = inl (n, f)
        go (came-in f h t c) =
            let w = of_line_lem k (entry_of p e s) (bit_one (of_line k (entry_of p e s)) f) in
            let root : line s' k 0 ≡ some w.0 = subst (λ (j : ℕ). line s' j 0 ≡ some w.0) w.2 (entry_in_root e w.0 w.1) in
            inr (w.1 ∙ ap some (one_some root (subst (λ (j : ℕ). line s' k j ≡ some y) h q)))
