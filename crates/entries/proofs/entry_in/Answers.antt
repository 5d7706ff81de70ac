-- `entries::entry_in` meets its contract.
-- (What stands three times here is a word with its own arguments; a lemma would name as many.)
use mathlib.Core.Path.{refl}
use Prim.Native.Nat.{◌<◌, ◌≤◌}
use borrow.Author.Rules.{rules}
use native.Mathlib.Omega.{arith}
use Rattle.store.specs.Answers.{BADSTORE, bare}
use Rattle.store.specs.Layout.{places}
use Rattle.store.proofs.Lifting.{on_broken}
use Rattle.steps.specs.Entries.{entry}
use Rattle.entries.specs.Decisions.{Enterable, DecidesFor}
use Rattle.entries.proofs.Entering.{capacity_few, clock_out, enterable, root_ordered}
use Rattle.entries.proofs.entry_in.Goals as goal
use Rattle.entries.proofs.entry_in.Goals.{After-capacity-capacity, After-decide, In_ok-place}

pub returns-in_err-check-clause-outcome : goal.returns-in_err-check-clause-outcome
returns-in_err-check-clause-outcome c =
    let a = c.args in
    let w = c.in_err-check.ensures in
    let e = on_broken (entry a.kind a.key a.value) a.store.now w.1 (bare BADSTORE) refl in
    search (e, w.0, rules)

pub returns-then-store-ge-LAST_CLOCK-clause-outcome : goal.returns-then-store-ge-LAST_CLOCK-clause-outcome
returns-then-store-ge-LAST_CLOCK-clause-outcome c =
    let a = c.args in
    clock_out a.store.now c.in_ok-check.ensures a.kind a.key a.value (omega arith)

-- Past the checks of the rules and of the clock, an entry can be decided.
ready : (c : After-capacity-capacity) → Enterable c.args.store.now c.capacity-capacity.result c.args.store.now
ready c =
    enterable c.args.store.now c.in_ok-check.ensures (omega arith) c.rows_of.result.now c.rows_of.ensures
    c.capacity-capacity.result c.capacity-capacity.ensures

pub decide-requires : goal.decide-requires
decide-requires c = (root_ordered (ready c), capacity_few (ready c))

decided : (c : After-decide) → DecidesFor c.args.store.now c.args.key c.decide.result
decided c = c.decide.ensures c.args.store.now (ready (goal.at.After-decide c).After-capacity-capacity)

-- The place of an accepted entry is in the root.
inside : (c : In_ok-place) → let d = c.in_ok-place.place in (d.at ≤ d.end) × (d.end < places)
inside c =
    let w = rw c.in_ok-place.ensures.ok_part at (decided (goal.at.In_ok-place c).After-decide) in
    (w.in_root.0, omega (arith, w.in_root.1))

pub open-requires : goal.open-requires
open-requires c = inside (goal.at.open-requires c).In_ok-place

pub open-requires-2 : goal.open-requires-2
open-requires-2 c = inside (goal.at.open-requires-2 c).In_ok-place

pub open-requires-3 : goal.open-requires-3
open-requires-3 c = inside (goal.at.open-requires-3 c).In_ok-place

pub open-requires-4 : goal.open-requires-4
open-requires-4 c = inside (goal.at.open-requires-4 c).In_ok-place

pub returns-in_err-place-clause-outcome : goal.returns-in_err-place-clause-outcome
returns-in_err-place-clause-outcome c =
    let w = rw c.in_err-place.ensures.ok_part at (decided (goal.at.returns-in_err-place-clause-outcome c).After-decide) in
    let a = c.args in
    search (w.outcome a.kind a.value, rules)

pub returns-clause-outcome : goal.returns-clause-outcome
returns-clause-outcome c =
    let w = rw c.in_ok-place.ensures.ok_part at (decided (goal.at.returns-clause-outcome c).After-decide) in
    let a = c.args in
    search (w.outcome a.kind a.value, rules)
