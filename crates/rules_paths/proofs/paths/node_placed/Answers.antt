-- `rules_paths::paths::node_placed` meets its contract.
-- (What stands three times here is a word with its own arguments; a lemma would name as many.)
use Rattle.std.proofs.Common.{◌≡◌, ◌+◌, ◌-◌, ◌*◌, ◌∙◌, refl, sym, arith}
use Rattle.lists.proofs.Tabulating.{all_stop, all_turn, all_end}
use Rattle.store.specs.Layout.{width, count_of}
use Rattle.rules_paths.specs.Workers.{placed_test, paths_test}
use Rattle.rules_paths.proofs.paths.node_placed.Goals as goal

pub loop-i-init : goal.loop-i-init
unfolding paths_test
loop-i-init c =
    let fits = (c.requires.1.ordered c.args.node c.requires.0).fits in
    let n = c.args.node in
    let z = c.args.store.now in
    let all : width * n + count_of z n - width * n ≡ count_of z n = omega arith in
    (refl, omega arith, λ p rows. rw all)

pub returns-then-not-copy_placed : goal.returns-then-not-copy_placed
returns-then-not-copy_placed c =
    λ p rows.
    sym
    (c.loop-i.invariant.2 p rows
    ∙ all_stop (placed_test p c.args.store.now c.args.node) c.loop-i.i _ (omega arith) (sym (c.copy_placed.ensures p rows) ∙ c.if-not-copy_placed.true))

pub loop-i-preserved : goal.loop-i-preserved
loop-i-preserved c = (
  refl,
  c.loop-i.invariant.1,
  λ p rows.
      c.loop-i.invariant.2 p rows
      ∙ all_turn (placed_test p c.args.store.now c.args.node) c.loop-i.i _ (omega arith)
      (sym (c.copy_placed.ensures p rows) ∙ c.if-not-copy_placed.false),
)

pub returns : goal.returns
returns c = λ p rows. sym (c.loop-i.invariant.2 p rows ∙ all_end (placed_test p c.args.store.now c.args.node) c.loop-i.i _ (omega arith))
