-- Public calls since the store was last replaced: what is summed over them is what is summed over their events, on the state of the store
-- that was laid down then, or of the one at the start.
use mathlib.Core.Path.{◌≡◌, refl, sym, ap, ◌∙◌}
use mathlib.Core.Bool.{Bool, true, false, cond, ◌&&◌}
use mathlib.Core.Logic.{◌⊎◌, inl, inr}
use mathlib.Core.List.{List, [], ◌∷◌, ◌++◌}
use mathlib.Core.Option.{none, some}
use Prim.Native.Nat.{ℕ, ◌+◌}
use native.Mathlib.Omega.{arith}
use native.Mathlib.Nat.{zero-add, add-zero}
use Rattle.lists.proofs.Truths.{bool?, not_both}
use Rattle.lists.proofs.Options.{option?}
use Rattle.plan.specs.Plan.{Plan}
use Rattle.plan.specs.PlanRules.{PlanRules}
use Rattle.store.specs.declared.Answer.{Answer}
use Rattle.store.specs.declared.Store.{Store}
use Rattle.store.specs.Answers.{DONE, bare}
use Rattle.store.specs.Copies.{is_some}
use Rattle.store.specs.State.{State, line}
use Rattle.store.specs.StateRules.{StateRules}
use Rattle.store.specs.Layout.{plan_of, state_of}
use Rattle.store.specs.StoreRules.{good_store}
use Rattle.store.proofs.Lifting.{plan_good, state_good}
use Rattle.steps.specs.Carries.{bit}
use Rattle.theory.specs.Events.{Event, after, state_after_all, entry_of, entered_copies, held, carried}
use Rattle.theory.specs.Events.Event.{enters, carries, starts, steps, cancels, asks}
use Rattle.theory.specs.Paper.{History}
use Rattle.paper.specs.Conserved.{summed, into_node, discards_line, replaces_line, carry_answer, replaces_root}
use Rattle.calls.specs.PublicCalls.{Call, store_after, answer_to, store_after_all}
use Rattle.calls.specs.Following.{event_of, events_of, replacement, same_store, entered_by, carried_by, history_with, history, carries_with, carries_since}
use Rattle.calls.proofs.Follows.{
  acts_as,
  carry_acts,
  event_on,
  event_keeps_plan,
  event_state,
  event_answer,
  replaced_by_lem,
  call_keeps_good,
  first_stays,
  rest_stays,
  follows_events,
}
use Rattle.calls.proofs.Histories.{entered_same, carried_same, same_history, same_carries, replaced-history, replaced-carries}
use Rattle.paper_calls.specs.Structure.{copies_so_far}
use Rattle.paper_calls.specs.Sums.{sum_with, summed_since, discarded_by, replaced_by, is_carry, part_said, said_by}

-- The last store that was laid down by a sequence, and the calls since.
record LastReplaced (cs : List Call) (y : Store) (ds : List Call) : Type 0 where
  good : good_store y ≡ true
  stays : same_store ds ≡ true
  here : (z : Store) → store_after_all cs z ≡ store_after_all ds y
  copies : (z : Store) (h : History) → history cs z h ≡ history ds y (held (state_of y))
  sums : (f : Call → Store → ℕ) (z : Store) (n : ℕ) → summed_since f cs z n ≡ summed_since f ds y 0
  carries_are : (k : ℕ) (z : Store) (n : ℕ) → carries_since k cs z n ≡ carries_since k ds y 0

last_replaced : (cs : List Call) → same_store cs ≡ false → (y : Store) × (ds : List Call) × LastReplaced cs y ds
unfolding same_store store_after_all history summed_since carries_since
last_replaced [] t = absurd (not_both refl t)
last_replaced (c ∷ cs) t = go (bool? (same_store cs)) (option? (replacement c)) (last_replaced cs)
  where
    go : (same_store cs ≡ true) ⊎ (same_store cs ≡ false) → (replacement c ≡ none) ⊎ ((y : Store) × (replacement c ≡ some y))
        → (same_store cs ≡ false → (y : Store) × (ds : List Call) × LastReplaced cs y ds)
        → (y : Store) × (ds : List Call) × LastReplaced (c ∷ cs) y ds
    go (inr f) o again =
        let w = again f in (
          w.0,
          w.1,
          record {
            good = w.2.good;
            stays = w.2.stays;
            here = λ z. w.2.here (store_after c z);
            copies = λ z h. w.2.copies (store_after c z) (history_with (replacement c) (entered_by (event_of c) z) h);
            sums = λ f z n. w.2.sums f (store_after c z) (sum_with (replacement c) (f c z) n);
            carries_are = λ k z n. w.2.carries_are k (store_after c z) (carries_with (replacement c) (carried_by k (event_of c) z) n);
          },
        )
    go (inl s) (inl e) again = absurd (not_both (rw (e, s)) t)
    go (inl s) (inr w) again =
        let r = replaced_by_lem c w.0 w.1 in (
          w.0,
          cs,
          record {
            good = r.good;
            stays = s;
            here = λ z. ap (store_after_all cs) (r.leaves z);
            copies = λ z h. replaced-history c cs z w.0 h w.1;
            sums = λ f z n. rw (w.1, r.leaves z);
            carries_are = λ k z n. replaced-carries k c cs z w.0 n w.1;
          },
        )

-- A number of a call on a good store is that of its event on the state.
abbrev pub Agrees : (Call → Store → ℕ) → (Plan → Event → State → ℕ) → Type 0
Agrees F f = (c : Call) (z : Store) → good_store z ≡ true → F c z ≡ f (plan_of z) (event_of c) (state_of z)

-- Where the store is not replaced, what is summed over the calls is what is summed over the events.
same_sums : (F : Call → Store → ℕ) (f : Plan → Event → State → ℕ) → Agrees F f → (cs : List Call) (z : Store) → good_store z ≡ true
    → same_store cs ≡ true → (n : ℕ) → summed_since F cs z n ≡ summed (plan_of z) (f (plan_of z)) (events_of cs) (state_of z) + n
unfolding summed_since summed events_of
same_sums F f a [] z good t n = sym (zero-add n)
same_sums F f a (c ∷ cs) z good t n =
    let e = first_stays c cs t in
    let m : ℕ = f (plan_of z) (event_of c) (state_of z) in
    let s' : State = after (plan_of z) (event_of c) (state_of z) in
    let again : summed_since F cs (store_after c z) (m + n) ≡ summed (plan_of z) (f (plan_of z)) (events_of cs) s' + (m + n) =
    same_sums F f a cs (store_after c z) (call_keeps_good c z good) (rest_stays c cs t) (m + n)
    ∙ ap (λ (y : Store). summed (plan_of y) (f (plan_of y)) (events_of cs) (state_of y) + (m + n)) (event_on c z e)
    ∙ rw (event_state (event_of c) z good, event_keeps_plan (event_of c) z) in
    rw (e, a c z good) (omega (arith, again))

-- A sequence of calls on states: from the state laid down last through the events since.
pub record OnStates (cs : List Call) (z : Store) : Type 0 where
  pub begin : Store
  pub since : List Event
  pub rules : PlanRules (plan_of begin)
  pub good : StateRules (plan_of begin) (state_of begin)
  pub plan : plan_of (store_after_all cs z) ≡ plan_of begin
  pub state : state_of (store_after_all cs z) ≡ state_after_all (plan_of begin) since (state_of begin)
  pub copies : copies_so_far cs z ≡ held (state_of begin) ++ entered_copies (plan_of begin) since (state_of begin)
  pub sums :
      (F : Call → Store → ℕ) (f : Plan → Event → State → ℕ) → Agrees F f
      → summed_since F cs z 0 ≡ summed (plan_of begin) (f (plan_of begin)) since (state_of begin)
  pub carries_are : (k : ℕ) → carries_since k cs z 0 ≡ carried (plan_of begin) k since (state_of begin)

pub on_states : (cs : List Call) (z : Store) → good_store z ≡ true → OnStates cs z
on_states cs z good = go (bool? (same_store cs))
  where
    from : (y : Store) (ds : List Call) → good_store y ≡ true → same_store ds ≡ true → store_after_all cs z ≡ store_after_all ds y
        → copies_so_far cs z ≡ copies_so_far ds y → ((f : Call → Store → ℕ) → summed_since f cs z 0 ≡ summed_since f ds y 0)
        → ((k : ℕ) → carries_since k cs z 0 ≡ carries_since k ds y 0) → OnStates cs z
    from y ds g t here copies sums carries_are =
        let f = follows_events ds y g t in
        record {
          begin = y;
          since = events_of ds;
          rules = plan_good y g;
          good = state_good y g;
          plan = ap (λ (x : Store). plan_of x) here ∙ f.plan;
          state = ap state_of here ∙ f.state;
          copies = copies ∙ same_history ds y g t (held (state_of y));
          sums = λ F f a. sums F ∙ (same_sums F f a ds y g t 0 ∙ add-zero (summed (plan_of y) (f (plan_of y)) (events_of ds) (state_of y)));
          carries_are = λ k. carries_are k ∙ (same_carries k ds y g t 0 ∙ add-zero (carried (plan_of y) k (events_of ds) (state_of y)));
        }

    go : (same_store cs ≡ true) ⊎ (same_store cs ≡ false) → OnStates cs z
    go (inl t) = from z cs good t refl refl (λ f. refl) (λ k. refl)
    go (inr t) =
        let w = last_replaced cs t in
        from w.0 w.1 w.2.good w.2.stays (w.2.here z) (w.2.copies z (held (state_of z))) (λ f. w.2.sums f z 0)
        (λ k. w.2.carries_are k z 0)

-- The numbers of calls that are summed, by their events.
pub discarded_agrees : (k : ℕ) → Agrees (λ c z. bit (discarded_by k (event_of c) z)) (λ p e s. bit (discards_line p k e s))
unfolding discarded_by discards_line
discarded_agrees k c z good =
    ap (λ (b : Bool). bit (b && is_some (line (state_of z) k (into_node (plan_of z) (event_of c))))) (carried_same k (event_of c) z good)

pub replaced_agrees : (k : ℕ) → Agrees (λ c z. bit (replaced_by k (event_of c) z)) (λ p e s. bit (replaces_line p k e s))
unfolding replaced_by replaces_line
replaced_agrees k c z good = rw (entered_same (event_of c) z good)

pub all-replaced_agrees : Agrees (λ c z. bit (replaces_root (entered_by (event_of c) z) (state_of z))) (λ p e s. bit (replaces_root (entry_of p e s) s))
all-replaced_agrees c z good = rw (entered_same (event_of c) z good)

pub said_agrees : (part : Answer → ℕ) → part (bare DONE) ≡ 0 → Agrees (said_by part) (λ p e s. part (carry_answer p e s))
unfolding is_carry said_by carry_answer
said_agrees part nothing c z good = go (event_of c) refl
  where
    go : (e : Event) → event_of c ≡ e → cond (is_carry e) (part_said part (answer_to c z)) 0 ≡ part (carry_answer (plan_of z) e (state_of z))
    go (carries n i) is =
        ap (part_said part) ((acts_as c (carries n i) is (carry_acts n i)).answers z) ∙ ap part (event_answer (carries n i) z good)
    go (enters kind j v) is = sym nothing
    go (starts j) is = sym nothing
    go (steps i) is = sym nothing
    go (cancels i) is = sym nothing
    go asks is = sym nothing
