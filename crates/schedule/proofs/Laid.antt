-- A schedule as the code has it says which schedule was read.
use mathlib.Core.Path.{◌≡◌, refl, ap, ◌∙◌}
use Prim.Native.Nat.{ℕ}
use lib.ListN.{length, take, drop}
use Rattle.std.proofs.Math.Seq.{take-append_seam}
use Rattle.wire.specs.Reading.{Got, got, fault}
use Rattle.schedule.specs.declared.decoding.Decoded.{Decoded}
use Rattle.schedule.specs.Schedule.{Schedule}
use Rattle.schedule.specs.Running.{no_steps}
use Rattle.schedule.specs.Workers.{decoded_of, laid_down}

-- Its plan, and its steps without the zeros behind them.
abbrev pub schedule_in : Decoded → Schedule
schedule_in v = record { plan = v.plan; steps = take v.count v.steps }

pub schedule_back : (d : Schedule) → schedule_in (decoded_of d) ≡ d
unfolding decoded_of
schedule_back d = ap (λ xs. record { plan = d.plan; steps = xs }) (take-append_seam d.steps (drop (length d.steps) no_steps))

-- A schedule that was read, from its form in the code, or the fault.
read_from : Got Decoded → Got Schedule
read_from (got v end) = got (schedule_in v) end
read_from (fault number at) = fault number at

read_back : (g : Got Schedule) → read_from (laid_down g) ≡ g
unfolding laid_down read_from
read_back (got d end) = ap (λ x. got x end) (schedule_back d)
read_back (fault number at) = refl

module _ (g : Got Schedule) where
  pub laid_got : {v : Decoded} {end : ℕ} → got v end ≡ laid_down g → got (schedule_in v) end ≡ g
  unfolding read_from
  laid_got e = ap read_from e ∙ read_back g

  pub laid_fault : {number at : ℕ} → fault number at ≡ laid_down g → fault number at ≡ g
  unfolding read_from
  laid_fault e = ap read_from e ∙ read_back g
