-- `image_reading::read_copies` meets its contract.
use mathlib.Core.Path.{◌≡◌}
use Prim.Native.Nat.{◌-◌}
use Rattle.image_reading.proofs.ReadWays.{copies_into}
use Rattle.image_reading.proofs.read_copies.Given as goal

-- What is still to read into the store decides; and the store's plan, clock and slots are as they were.
abbrev pub invariant-loop-i : goal.invariant-loop-i
invariant-loop-i l =
    (copies_into l.bytes (l.end - l.i) l.next l.store l.i ≡ copies_into l.bytes (l.end - l.from) l.at l.fn.store l.from)
    × (l.store.plan ≡ l.fn.store.plan) × (l.store.clock ≡ l.fn.store.clock) × (l.store.slots ≡ l.fn.store.slots)
