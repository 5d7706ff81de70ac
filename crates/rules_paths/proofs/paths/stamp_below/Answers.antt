-- `rules_paths::paths::stamp_below` meets its contract.
-- (What stands three times here is a word with its own arguments; a lemma would name as many.)
use Rattle.std.proofs.Common.{◌≡◌, ◌+◌, ◌-◌, ◌<◌, sym, ap, ◌∙◌, arith}
use Rattle.plan.specs.Plan.{next}
use Rattle.plan.specs.Sizes.{most_nodes}
use Rattle.plan.proofs.RowsLent.{next_here}
use Rattle.rules_paths.proofs.Reaching.{stamp_on, leads_on, reach_starts, reach_out, reach_ends, reach_held, reach_on}
use Rattle.rules_paths.proofs.paths.stamp_below.Goals as goal

pub loop-init : goal.loop-init
loop-init c =
    let a = c.args in (
      leads_on a.rows.now c.requires.rows a.node a.key c.next-next.result c.next-next.ensures,
      λ p rows.
          reach_starts p a.store.now a.key (a.rows.now.nodes - 0) (next p a.node a.key) (omega (arith, rows.nodes_are))
          ∙ ap (stamp_on p a.store.now a.key (a.rows.now.nodes - 0)) (sym (next_here rows a.node a.key c.next-next.result c.next-next.ensures)),
    )

pub returns-in_default : goal.returns-in_default
returns-in_default c =
    let a = c.args in
    let l = c.loop in
    λ p rows. sym (l.invariant.1 p rows ∙ reach_ends p a.store.now a.key (a.rows.now.nodes - l.counter) _ c.in_default.is)

pub look_in-requires : goal.look_in-requires
look_in-requires c =
    let most = c.requires.rows.rules.nodes_within in
    let all = c.requires.rows.nodes_are in
    let within = c.loop.invariant.0 c.in-Some.at c.in-Some.is in
    let here : c.in-Some.at < most_nodes = omega arith in
    (here, c.requires.ordered c.in-Some.at here)

pub returns-in-Some-look_in : goal.returns-in-Some-look_in
returns-in-Some-look_in c =
    let a = c.args in
    let l = c.loop in
    let within = l.invariant.0 c.in-Some.at c.in-Some.is in
    λ p rows.
    sym
    (l.invariant.1 p rows
    ∙ reach_held p a.store.now a.key (a.rows.now.nodes - l.counter) _ c.in-Some.at (omega arith) c.in-Some.is (omega (arith, rows.nodes_are))
    c.in-Some-look_in.copy (sym c.look_in.ensures ∙ c.in-Some-look_in.is))

pub loop-preserved : goal.loop-preserved
loop-preserved c =
    let a = c.args in
    let l = c.loop in
    let at = c.in-Some.at in
    let within = l.invariant.0 at c.in-Some.is in
    let left : a.rows.now.nodes - l.counter - 1 ≡ a.rows.now.nodes - (l.counter + 1) = omega arith in
    let went = c.next-next-in-loop in (
      leads_on a.rows.now c.requires.rows at a.key went.result went.ensures,
      λ p rows.
          l.invariant.1 p rows
          ∙ reach_on p a.store.now a.key (a.rows.now.nodes - l.counter) _ at (omega arith) c.in-Some.is (omega (arith, rows.nodes_are))
          (sym c.look_in.ensures ∙ c.in_default-look_in.is)
          ∙ rw (sym (next_here rows at a.key went.result went.ensures), left),
    )

pub returns : goal.returns
returns c =
    let a = c.args in
    let l = c.loop in
    λ p rows. sym (l.invariant.1 p rows ∙ reach_out p a.store.now a.key (a.rows.now.nodes - l.counter) _ (omega arith))
