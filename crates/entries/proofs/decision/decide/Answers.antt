-- `entries::decision::decide` meets its contract.
use mathlib.Core.Path.{◌≡◌}
use Prim.Native.Nat.{◌<◌}
use native.Mathlib.Omega.{arith}
use lib.ListN.{get_or}
use Rattle.store.specs.Layout.{count_of}
use Rattle.entries.proofs.Entering.{decides_replaced, decides_added, decides_full}
use Rattle.entries.proofs.decision.decide.Goals as goal
use Rattle.entries.proofs.decision.decide.Goals.{Joined-else-at-end, else-at-end-via-else-at-end, else-at-end-via-then-at-end+else-store-at}

-- Where the branches meet, the root lacks the key.
lacks : (c : Joined-else-at-end) → let a = c.args in
    c.seek-at.result < count_of a.store.now 0 → get_or a.store.now.keys c.seek-at.result 0 ≡ a.key → ⊥
lacks c =
    elim c.else-at-end.branch [ else-at-end-via-then-at-end+else-store-at w ↦ λ h. w.if-store-at.false | else-at-end-via-else-at-end w ↦ λ h e. absurd (omega arith) ]

pub seek-at-requires : goal.seek-at-requires
seek-at-requires c =
    let o = c.requires.0 in
    (omega arith, omega (arith, o.fits), λ i l h. o.rises i (omega arith) (omega arith))

pub bounds-store-at : goal.bounds-store-at
bounds-store-at c = omega (arith, c.requires.0.fits)

pub returns-then-store-at : goal.returns-then-store-at
returns-then-store-at c =
    let s = c.seek-at in
    λ z w. decides_replaced w c.args.key s.result s.ensures c.if-at-end.true c.if-store-at.true

pub returns-then-count-capacity : goal.returns-then-count-capacity
returns-then-count-capacity c =
    let s = c.seek-at in
    λ z w. decides_added w c.args.key s.result s.ensures (lacks (goal.at.returns-then-count-capacity c).Joined-else-at-end) c.if-count-capacity.true

pub returns : goal.returns
returns c =
    let s = c.seek-at in
    λ z w. decides_full w c.args.key s.result s.ensures (lacks (goal.at.returns c).Joined-else-at-end) c.if-count-capacity.false
