-- `store::Store::look_among` meets its contract.
use Prim.Native.Nat.{◌-◌, ◌≤◌, ◌<◌}
use Rattle.store.specs.Workers.{number_in, place_in}
use Rattle.store.proofs.Store.look_among.Given as goal

-- The place of the key lies between low and high, and the key at high is greater.
abbrev pub invariant-loop-high : goal.invariant-loop-high
invariant-loop-high l =
    (l.from ≤ l.low) × (l.high ≤ l.end) × (l.low ≤ place_in l.self.keys l.from l.end l.key) × (place_in l.self.keys l.from l.end l.key ≤ l.high) × (l.high < l.end → l.key < number_in l.self.keys l.high)

abbrev pub decreases-loop-high : goal.decreases-loop-high
decreases-loop-high l = l.high - l.low
