-- What events do to the clock: it goes up by one at each accepted entry, and stays at every other event.
use mathlib.Core.Path.{◌≡◌, refl}
use mathlib.Core.Bool.{cond}
use mathlib.Core.List.{List, [], ◌∷◌}
use mathlib.Core.Option.{none, some}
use Prim.Native.Nat.{ℕ, ◌+◌}
use native.Mathlib.Omega.{arith}
use lib.Dec.{eqb}
use lib.ListN.{length, length-append}
use Rattle.plan.specs.Plan.{Plan}
use Rattle.store.specs.Answers.{DONE}
use Rattle.store.specs.Copies.{kind_number, value_held, copy}
use Rattle.store.specs.State.{State}
use Rattle.store.specs.Calls.{Effect}
use Rattle.steps.specs.Entries.{entered}
use Rattle.steps.specs.Carries.{carried_to, carried_out}
use Rattle.steps.proofs.WaysOut.{EntryWay, entry_way, CarryWay, carry_way}
use Rattle.steps.proofs.WaysOut.EntryWay.{at_last_clock, root_full, enters as copy-enters}
use Rattle.steps.proofs.WaysOut.CarryWay.{no_node, no_edge_lem, merges}
use Rattle.steps.proofs.LineSteps.{start_still, step_still, cancel_still}
use Rattle.theory.specs.Events.{Event, effect, after, state_after_all, entry_of, option_list, entered_copies}
use Rattle.theory.specs.Events.Event.{enters, carries, starts, steps, cancels, asks}

module _ (p : Plan) where
  entry_counts : (kind k v : ℕ) (s : State) {o : Effect} → EntryWay kind k v p s o
      → o.after.clock ≡ length (option_list (cond (eqb o.answer.number DONE) (some (copy k kind v s.clock)) none)) + s.clock
  unfolding entered
  entry_counts kind k v s (at_last_clock h) = omega arith
  entry_counts kind k v s (root_full h f g) = omega arith
  entry_counts kind k v s (copy-enters h f) = omega arith

  carry_clock : (n i : ℕ) (s : State) {o : Effect} → CarryWay n i p s o → o.after.clock ≡ s.clock
  unfolding carried_out carried_to
  carry_clock n i s (no_node h) = refl
  carry_clock n i s (no_edge_lem h f) = refl
  carry_clock n i s (merges d) = refl

  -- Through an event,
  pub event_counts : (e : Event) (s : State) → (after p e s).clock ≡ length (option_list (entry_of p e s)) + s.clock
  unfolding effect entry_of
  event_counts (enters kind k v) s = entry_counts (kind_number kind) k (value_held kind v) s (entry_way (kind_number kind) k (value_held kind v) p s)
  event_counts (carries n i) s = omega (arith, carry_clock n i s (carry_way n i p s))
  event_counts (starts k) s = omega (arith, (start_still k p s).clock)
  event_counts (steps i) s = omega (arith, (step_still i p s).clock)
  event_counts (cancels i) s = omega (arith, (cancel_still i p s).clock)
  event_counts asks s = omega arith

  -- and through a sequence.
  pub events_count : (es : List Event) (s : State) → (state_after_all p es s).clock ≡ length (entered_copies p es s) + s.clock
  unfolding state_after_all entered_copies
  events_count [] s = omega arith
  events_count (e ∷ es) s =
      omega (
        arith,
        events_count es (after p e s),
        event_counts e s,
        length-append (option_list (entry_of p e s)) (entered_copies p es (after p e s)),
      )
