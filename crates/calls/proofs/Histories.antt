-- The paper's structure over all sequences of public calls, with the copies loaded and entered since the last accepted fresh or load as
-- the history.
use mathlib.Core.Path.{◌≡◌, refl, sym, ap, ◌∙◌}
use mathlib.Core.Bool.{Bool, true, false, not, ◌&&◌}
use mathlib.Core.Logic.{◌⊎◌, inl, inr}
use mathlib.Core.List.{List, [], ◌∷◌, ◌++◌, append-nil, append_assoc}
use mathlib.Core.Option.{none, some}
use Prim.Native.Nat.{ℕ, ◌+◌, ◌≤◌}
use native.Mathlib.Omega.{arith}
use native.Mathlib.Nat.{zero-add}
use Rattle.lists.proofs.Options.{option?}
use Rattle.plan_table.specs.PlanTable.{plan_numbered, plans}
use Rattle.store.specs.declared.Store.{Store}
use Rattle.store.specs.Copies.{is_some}
use Rattle.store.specs.State.{State, line}
use Rattle.store.specs.Layout.{plan_of, state_of, fresh_store}
use Rattle.store.specs.StoreRules.{good_store}
use Rattle.store.proofs.Lifting.{plan_good, state_good, fresh_back}
use Rattle.steps.specs.Carries.{bit}
use Rattle.theory.specs.Events.{Event, after, entry_of, option_list, entered_copies, held, carries_line, carried}
use Rattle.theory.specs.Events.Event.{enters, carries, starts, steps, cancels, asks}
use Rattle.theory.specs.Paper.{History, InHistory, Multicopy}
use Rattle.theory.proofs.Invariants.{held-fresh, multicopy_held, history_event}
use Rattle.calls.specs.PublicCalls.{Call, store_after, store_after_all}
use Rattle.calls.specs.Following.{event_of, events_of, replacement, same_store, entered_by, carried_by, history_with, history, carries_since}
use Rattle.calls.proofs.Follows.{
  event_on,
  event_on_bad,
  event_keeps_plan,
  event_state,
  event_answer,
  replaced_by_lem,
  call_keeps_good,
  first_stays,
  rest_stays,
}

-- On a good store, what an event enters and carries is what it enters and carries of the state;
pub entered_same : (e : Event) (z : Store) → good_store z ≡ true → entered_by e z ≡ entry_of (plan_of z) e (state_of z)
unfolding entered_by entry_of state_of
entered_same (enters kind k v) z good = rw (event_answer (enters kind k v) z good)
entered_same (carries n i) z good = refl
entered_same (starts k) z good = refl
entered_same (steps i) z good = refl
entered_same (cancels i) z good = refl
entered_same asks z good = refl

pub carried_same : (k : ℕ) (e : Event) (z : Store) → good_store z ≡ true → carried_by k e z ≡ carries_line (plan_of z) k e (state_of z)
unfolding carried_by carries_line
carried_same k (carries n i) z good =
    ap (λ (s : State). is_some (line (state_of z) k n) && not (is_some (line s k n))) (event_state (carries n i) z good)
carried_same k (enters kind j v) z good = refl
carried_same k (starts j) z good = refl
carried_same k (steps i) z good = refl
carried_same k (cancels i) z good = refl
carried_same k asks z good = refl

-- on a bad one it does neither.
pub nothing-carried : (k : ℕ) (e : Event) (z : Store) → good_store z ≡ false → carried_by k e z ≡ false
unfolding carried_by
nothing-carried k (carries n i) z bad =
    ap (λ (y : Store). is_some (line (state_of z) k n) && not (is_some (line (state_of y) k n))) (event_on_bad (carries n i) z bad)
    ∙ never (is_some (line (state_of z) k n))
  where
    never : (b : Bool) → (b && not b) ≡ false
    never true = refl
    never false = refl
nothing-carried k (enters kind j v) z bad = refl
nothing-carried k (starts j) z bad = refl
nothing-carried k (steps i) z bad = refl
nothing-carried k (cancels i) z bad = refl
nothing-carried k asks z bad = refl

-- A store whose state has the paper's structure, with a history.
abbrev pub HoldsWith : Store → History → Type 0
HoldsWith z h = Multicopy (plan_of z) (state_of z) (InHistory h)

pub store_held : (z : Store) → good_store z ≡ true → HoldsWith z (held (state_of z))
store_held z good = multicopy_held (plan_of z) (plan_good z good) (state_of z) (state_good z good)

-- Every public call keeps it,
call_holds : (c : Call) (z : Store) → good_store z ≡ true → (h : History) → HoldsWith z h
    → HoldsWith (store_after c z) (history_with (replacement c) (entered_by (event_of c) z) h)
call_holds c z good h m = go (option? (replacement c))
  where
    kept : Multicopy (plan_of z) (after (plan_of z) (event_of c) (state_of z))
        (InHistory (h ++ option_list (entry_of (plan_of z) (event_of c) (state_of z))))
    kept = history_event (plan_of z) (plan_good z good) (state_of z) (state_good z good) (event_of c) h m

    go : (replacement c ≡ none) ⊎ ((y : Store) × (replacement c ≡ some y))
        → HoldsWith (store_after c z) (history_with (replacement c) (entered_by (event_of c) z) h)
    go (inl e) =
        rw (e, event_on c z e, event_state (event_of c) z good, event_keeps_plan (event_of c) z, entered_same (event_of c) z good) kept
    go (inr w) = let r = replaced_by_lem c w.0 w.1 in rw (w.1, r.leaves z) (store_held w.0 r.good)

-- so it holds after every sequence of public calls, from any good store, fresh and load among them.
pub calls_hold : (cs : List Call) (z : Store) → good_store z ≡ true → (h : History) → HoldsWith z h → HoldsWith (store_after_all cs z) (history cs z h)
unfolding store_after_all history
calls_hold [] z good h m = m
calls_hold (c ∷ cs) z good h m =
    calls_hold cs (store_after c z) (call_keeps_good c z good) (history_with (replacement c) (entered_by (event_of c) z) h)
    (call_holds c z good h m)

pub store_story : (cs : List Call) (z : Store) → good_store z ≡ true → HoldsWith (store_after_all cs z) (history cs z (held (state_of z)))
store_story cs z good = calls_hold cs z good (held (state_of z)) (store_held z good)

-- A fresh store's history is empty.
pub fresh-history : (plan : ℕ) → 1 ≤ plan → plan ≤ plans → held (state_of (fresh_store plan)) ≡ []
fresh-history plan low high = ap held (fresh_back plan low high) ∙ held-fresh (plan_numbered plan)

-- Where the store is not replaced, history and carries are those of the events.
pub same_history : (cs : List Call) (z : Store) → good_store z ≡ true → same_store cs ≡ true → (h : History)
    → history cs z h ≡ h ++ entered_copies (plan_of z) (events_of cs) (state_of z)
unfolding history entered_copies events_of
same_history [] z good t h = sym (append-nil h)
same_history (c ∷ cs) z good t h =
    let e = first_stays c cs t in
    let x = entry_of (plan_of z) (event_of c) (state_of z) in
    let s' = after (plan_of z) (event_of c) (state_of z) in
    let again : history cs (store_after c z) (h ++ option_list x) ≡ (h ++ option_list x) ++ entered_copies (plan_of z) (events_of cs) s' =
    same_history cs (store_after c z) (call_keeps_good c z good) (rest_stays c cs t) (h ++ option_list x)
    ∙ ap (λ (y : Store). (h ++ option_list x) ++ entered_copies (plan_of y) (events_of cs) (state_of y)) (event_on c z e)
    ∙ rw (event_state (event_of c) z good, event_keeps_plan (event_of c) z) in
    rw (e, entered_same (event_of c) z good) (again ∙ append_assoc h (option_list x) (entered_copies (plan_of z) (events_of cs) s'))

pub same_carries : (k : ℕ) (cs : List Call) (z : Store) → good_store z ≡ true → same_store cs ≡ true → (n : ℕ)
    → carries_since k cs z n ≡ carried (plan_of z) k (events_of cs) (state_of z) + n
unfolding carries_since carried events_of
same_carries k [] z good t n = sym (zero-add n)
same_carries k (c ∷ cs) z good t n =
    let e = first_stays c cs t in
    let b = bit (carries_line (plan_of z) k (event_of c) (state_of z)) in
    let s' = after (plan_of z) (event_of c) (state_of z) in
    let again : carries_since k cs (store_after c z) (b + n) ≡ carried (plan_of z) k (events_of cs) s' + (b + n) =
    same_carries k cs (store_after c z) (call_keeps_good c z good) (rest_stays c cs t) (b + n)
    ∙ ap (λ (y : Store). carried (plan_of y) k (events_of cs) (state_of y) + (b + n)) (event_on c z e)
    ∙ rw (event_state (event_of c) z good, event_keeps_plan (event_of c) z) in
    rw (e, carried_same k (event_of c) z good) (omega (arith, again))

-- An accepted fresh or load starts both again: with the copies that the new store holds, and with nothing carried.
pub replaced-history : (c : Call) (cs : List Call) (z y : Store) (h : History) → replacement c ≡ some y
    → history (c ∷ cs) z h ≡ history cs y (held (state_of y))
unfolding history
replaced-history c cs z y h e = rw ((replaced_by_lem c y e).leaves z, e)

pub replaced-carries : (k : ℕ) (c : Call) (cs : List Call) (z y : Store) (n : ℕ) → replacement c ≡ some y
    → carries_since k (c ∷ cs) z n ≡ carries_since k cs y 0
unfolding carries_since
replaced-carries k c cs z y n e = rw ((replaced_by_lem c y e).leaves z, e)
