-- Conservation over all sequences of public calls from a good store, fresh and load among them: of a line's copies and of all copies since
-- the store was last replaced; and what the carries' answers add up to.
use mathlib.Core.Path.{◌≡◌, refl, sym, ap, ◌∙◌, subst}
use mathlib.Core.Bool.{true}
use mathlib.Core.List.{List}
use Prim.Native.Nat.{ℕ, ◌+◌}
use native.Mathlib.Omega.{arith}
use lib.ListN.{length, length-append}
use Rattle.plan.specs.Plan.{Plan}
use Rattle.store.specs.declared.Copy.{Copy}
use Rattle.store.specs.declared.Store.{Store}
use Rattle.store.specs.State.{State}
use Rattle.store.specs.Layout.{plan_of, state_of}
use Rattle.store.specs.StoreRules.{good_store}
use Rattle.steps.specs.Carries.{bit}
use Rattle.theory.specs.Events.{Event, entry_of, entered_copies, held, copies_of, held_of}
use Rattle.theory.proofs.Bound.{copies_append, copies_entered}
use Rattle.paper.specs.Conserved.{
  discards_line,
  replaces_line,
  carry_answer,
  replaces_root,
  discarded,
  replaced_at_root,
  all_carried,
  all_discarded,
  all_replaced,
  AllKeys,
  LineSums,
}
use Rattle.paper.proofs.Conservation.{conserved}
use Rattle.paper.proofs.Totals.{all_conserved}
use Rattle.paper.proofs.LineSums.{sum_same, sum_of_copies, line_sums, all_keys}
use Rattle.calls.specs.PublicCalls.{Call}
use Rattle.calls.specs.Following.{event_of, entered_by}
use Rattle.paper_calls.specs.Structure.{copies_so_far}
use Rattle.paper_calls.specs.Sums.{
  discarded_by,
  replaced_by,
  said_by,
  discarded_since,
  replaced_since,
  LineConserved,
  said_carried,
  said_discarded,
  all_replaced_since,
  AllCallsConserved,
  CallLineSums,
}
use Rattle.paper_calls.proofs.SinceReplaced.{OnStates, on_states, discarded_agrees, replaced_agrees, all-replaced_agrees, said_agrees}

module _ (cs : List Call) (z : Store) (good : good_store z ≡ true) where
  w : OnStates cs z
  w = on_states cs z good

  abbrev p : Plan
  p = plan_of w.begin

  abbrev s : State
  s = state_of w.begin

  abbrev es : List Event
  es = w.since

  -- What is summed over the calls, on states.
  carried_said : said_carried cs z ≡ all_carried p es s
  carried_said = w.sums (said_by (λ r. r.a)) (λ q e t. (carry_answer q e t).a) (said_agrees (λ r. r.a) refl)

  discarded_said : said_discarded cs z ≡ all_discarded p es s
  discarded_said = w.sums (said_by (λ r. r.b)) (λ q e t. (carry_answer q e t).b) (said_agrees (λ r. r.b) refl)

  all-replaced_then : all_replaced_since cs z ≡ all_replaced p es s
  all-replaced_then =
      w.sums (λ c y. bit (replaces_root (entered_by (event_of c) y) (state_of y))) (λ q e t. bit (replaces_root (entry_of q e t) t)) all-replaced_agrees

  discarded_then : (k : ℕ) → discarded_since k cs z ≡ discarded p k es s
  discarded_then k = w.sums (λ c y. bit (discarded_by k (event_of c) y)) (λ q e t. bit (discards_line q k e t)) (discarded_agrees k)

  replaced_then : (k : ℕ) → replaced_since k cs z ≡ replaced_at_root p k es s
  replaced_then k = w.sums (λ c y. bit (replaced_by k (event_of c) y)) (λ q e t. bit (replaces_line q k e t)) (replaced_agrees k)

  -- The copies so far: as many as were held and entered.
  number_then : length (copies_so_far cs z) ≡ length (held s) + length (entered_copies p es s)
  number_then = ap length w.copies ∙ length-append (held s) (entered_copies p es s)

  -- Every copy of a line that was entered or loaded is held, discarded or replaced, and no other is.
  pub line_conserved : (k : ℕ) → LineConserved k cs z
  line_conserved k =
      omega (
        arith,
        ap (copies_of k) w.copies,
        copies_append k (held s) (entered_copies p es s),
        copies_entered p k es s,
        ap (λ (t : State). held_of k t) w.state,
        discarded_then k,
        replaced_then k,
        conserved p w.rules k es s w.good,
      )

  -- So it is of all copies; and the carries' answers add up to at most (nodes − 1) times the entries.
  pub all_calls_conserved : AllCallsConserved cs z
  all_calls_conserved =
      let c = all_conserved p w.rules es s w.good in
      record {
        balance =
            omega (arith, number_then, ap (λ (t : State). length (held t)) w.state, discarded_said, all-replaced_then, c.balance);
        most_carried = rw (carried_said, w.plan, number_then) c.most_carried;
      }

  -- The sums of the carries' answers are sums over the lines: what is carried, of demand 3's counts.
  pub call_line_sums : (ks : List ℕ) → AllKeys (copies_so_far cs z) ks → CallLineSums cs z ks
  call_line_sums ks a =
      let l : LineSums p es s ks = line_sums p w.rules es s w.good ks (subst (λ (xs : List Copy). AllKeys xs ks) w.copies a) in
      record {
        of_entered = sum_of_copies (copies_so_far cs z) ks a;
        of_carried = carried_said ∙ (l.of_carried ∙ sum_same ks _ _ (λ k. sym (w.carries_are k)));
        of_discarded = discarded_said ∙ (l.of_discarded ∙ sum_same ks _ _ (λ k. sym (discarded_then k)));
        of_replaced = all-replaced_then ∙ (l.of_replaced ∙ sum_same ks _ _ (λ k. sym (replaced_then k)));
      }

-- There are such keys, for every sequence.
pub call_keys : (cs : List Call) (z : Store) → (ks : List ℕ) × AllKeys (copies_so_far cs z) ks
call_keys cs z = all_keys (copies_so_far cs z)
