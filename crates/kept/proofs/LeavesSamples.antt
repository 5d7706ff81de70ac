-- What leaves a sample alone: entries of other samples, carries, searches, refused calls.
use mathlib.Core.Path.{◌≡◌, ap, ◌∙◌}
use mathlib.Core.Option.{Option, none, some}
use Prim.Native.Nat.{ℕ, ◌<◌}
use native.Mathlib.Omega.{arith}
use Rattle.lists.proofs.Options.{not_none_and_some, one_some}
use Rattle.store.specs.declared.Answer.{Answer}
use Rattle.store.specs.declared.Store.{Store}
use Rattle.theory.specs.Events.{Event}
use Rattle.theory.specs.Events.Event.{enters, carries, starts, steps, cancels, asks}
use Rattle.page_lines.specs.PageLine.{analytes, key_for}
use Rattle.calls.specs.PublicCalls.{Call}
use Rattle.calls.specs.Following.{event_of}
use Rattle.kept.specs.Amended.{LeavesSample, WhatLeavesSample}

-- The line of an entry.
abbrev line_of : Event → Option ℕ
line_of (enters kind k v) = some k
line_of (carries n i) = none
line_of (starts k) = none
line_of (steps i) = none
line_of (cancels i) = none
line_of asks = none

-- Two samples have no line in common.
samples_apart : (other sample a b : ℕ) → a < analytes → b < analytes → key_for other a ≡ key_for sample b → other ≡ sample
samples_apart other sample a b g h e = omega (arith, g, h, e)

pub what_leaves_sample : (sample : ℕ) (c : Call) (z : Store) → WhatLeavesSample sample c z
what_leaves_sample sample c z =
    record {
      other_samples =
          λ kind other a v g differs is b h other-kind w e.
          differs (samples_apart other sample a b g h (one_some (ap line_of is) (ap line_of e.0)));
      carries_leave = λ n i is. no_entry (ap line_of is);
      starts_leave = λ k is. no_entry (ap line_of is);
      steps_leave = λ i is. no_entry (ap line_of is);
      cancels_leave = λ i is. no_entry (ap line_of is);
      no_step = λ is. no_entry (ap line_of is);
      refused_leave = λ r says no a g kind v e. no (ap (λ (q : Answer). q.number) (one_some says e.1.1) ∙ e.1.2);
    }
  where
    no_entry : line_of (event_of c) ≡ none → LeavesSample sample c z
    no_entry is a g kind v e = not_none_and_some is (ap line_of e.0)
