-- `carries::settling::along` meets its contract.
use Rattle.merges.specs.Decisions.{places_merged, Decided}
use Rattle.carries.specs.Settlings.{copies_at}
use Rattle.carries.proofs.Carrying.{source_few, goal_few, fits, ready, counts_move, stay_there, settled_along}
use Rattle.carries.proofs.settling.along.Goals as goal
use Rattle.carries.proofs.settling.along.Goals.{After-decide}

pub copies_at-copies-requires : goal.copies_at-copies-requires
copies_at-copies-requires c = let w = c.requires.2 in (source_few w, fits w c.args.node (source_few w))

pub copies_at-held-requires : goal.copies_at-held-requires
copies_at-held-requires c = let w = c.requires.2 in (goal_few w, fits w c.args.edge.target (goal_few w))

pub decide-requires : goal.decide-requires
decide-requires c = rw (c.copies_at-copies.ensures, c.copies_at-held.ensures) (ready c.requires.2)

-- What is decided, of the places of the two nodes' copies.
decided : (c : After-decide) → let a = c.args in
    Decided (places_merged a.store.now.keys a.capacity a.edge (copies_at a.store.now a.node) (copies_at a.store.now a.edge.target)) c.decide.new.lists
decided c = rw (c.copies_at-copies.ensures, c.copies_at-held.ensures) at c.decide.ensures

pub count_held-left-requires : goal.count_held-left-requires
count_held-left-requires c = rw c.as_slice.ensures.value (stay_there c.requires.2 (decided (goal.at.count_held-left-requires c).After-decide))

pub tally-requires : goal.tally-requires
tally-requires c =
    rw (c.copies_at-copies.ensures, c.copies_at-held.ensures, c.len-kept.ensures.value, c.len-got.ensures.value)
    (counts_move c.requires.2 (decided (goal.at.tally-requires c).After-decide))

pub returns : goal.returns
returns c =
    let k = c.copies_at-copies in
    let h = c.copies_at-held in
    let d = decided (goal.at.returns c).After-decide in
    λ z i known.
    rw (k.ensures, h.ensures)
    (settled_along known d c.tally.result c.count_held-left.result
    (rw (c.len-kept.ensures.value, c.len-got.ensures.value, k.ensures, h.ensures) at c.tally.ensures)
    (rw c.as_slice.ensures.value at c.count_held-left.ensures))
