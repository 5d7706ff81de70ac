-- `image::saved` meets its contract.
use mathlib.Core.Path.{◌≡◌, refl}
use mathlib.Core.Bool.{true}
use borrow.Author.Rules.{rules}
use native.Mathlib.Omega.{arith}
use Rattle.store.specs.StoreRules.{good_store}
use Rattle.store.proofs.GoodNodes.{counts_fit}
use Rattle.image.proofs.SaveWays.{save_bad, good_nodes, save_small, save_done}
use Rattle.image.proofs.saved.Goals as goal
use Rattle.image.proofs.saved.Goals.{After-rows_of}

-- Past the first test the store is good.
good : (c : After-rows_of) → good_store c.args.store.now ≡ true
good c = c.in_ok-check.ensures

pub returns-in_err-check : goal.returns-in_err-check
returns-in_err-check c =
    let w = c.in_err-check.ensures in
    let e = save_bad c.args.store.now c.args.buffer.now w.1 refl in
    search (e, w.0, rules)

pub image_length-needed-requires : goal.image_length-needed-requires
image_length-needed-requires c =
    let z = c.args.store.now in
    let g = good (goal.at.image_length-needed-requires c).After-rows_of in
    (good_nodes z g c.rows_of.ensures, counts_fit z g)

pub returns-then-buffer-needed : goal.returns-then-buffer-needed
returns-then-buffer-needed c =
    save_small c.args.store.now (good (goal.at.returns-then-buffer-needed c).After-rows_of) c.rows_of.ensures c.args.buffer.now
    c.image_length-needed.ensures (omega arith) c.with.ensures

pub write_image-written-requires : goal.write_image-written-requires
write_image-written-requires c =
    let z = c.args.store.now in
    let g = good (goal.at.write_image-written-requires c).After-rows_of in
    (good_nodes z g c.rows_of.ensures, counts_fit z g, omega (arith, c.image_length-needed.ensures))

pub returns : goal.returns
returns c =
    save_done c.args.store.now (good (goal.at.returns c).After-rows_of) c.rows_of.ensures c.args.buffer.now c.image_length-needed.ensures
    (omega arith) c.write_image-written.ensures c.of.ensures
