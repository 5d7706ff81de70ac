-- `rules::is_good` meets its contract.
-- (What stands three times here is a word with its own arguments; a lemma would name as many.)
use Rattle.std.proofs.Common.{◌≡◌, length, true, sym, ◌∙◌, rules}
use Rattle.store.specs.State.{slot_count}
use Rattle.store.specs.Layout.{plan_of, Shape}
use Rattle.rules_nodes.specs.Workers.{all_tidy}
use Rattle.rules_paths.specs.Workers.{on_paths_test}
use Rattle.rules.proofs.Judging.{numbers, numbers_fail, capacities_fit, rows_own, tidy_fails, tidy_walkable, paths_fail, slots_counted, stamps_decide}
use Rattle.rules.proofs.is_good.Goals as goal
use Rattle.rules.proofs.is_good.Goals.{Start, Else-not-numbers_good, Then-on_their_paths, then-nodes_tidy, else-nodes_tidy}

shape : (c : Start) → length c.args.store.now.slots ≡ slot_count → Shape c.args.store.now
shape c slots =
    record {
      counts_long = search rules;
      keys_long = search rules;
      kinds_long = search rules;
      values_long = search rules;
      stamps_long = search rules;
      slots_long = slots;
    }

good : (c : Else-not-numbers_good) → numbers c.args.store.now ≡ true
good c = sym c.numbers_good.ensures ∙ c.if-not-numbers_good.false

-- Where the third part is asked, the first two passed.
passed : (c : Then-on_their_paths) → let z = c.args.store.now in (all_tidy c.rows_of-rows.result.now z ≡ true) × (on_paths_test (plan_of z) z ≡ true)
passed c =
    let rows = c.rows_of-rows in
    let own = rows_own c.args.store.now (good (goal.at.Then-on_their_paths c).Else-not-numbers_good) rows.result.now rows.ensures in
    elim c.if-nodes_tidy.branch [
      | then-nodes_tidy w ↦ (
        sym c.nodes_tidy.ensures ∙ w.if-nodes_tidy.true,
        sym (w.on_their_paths.ensures _ own) ∙ sym w.value-is ∙ c.if-on_their_paths.true,
      )
      | else-nodes_tidy w ↦ cc
    ]

pub returns-then-not-numbers_good : goal.returns-then-not-numbers_good
returns-then-not-numbers_good c = sym (numbers_fail c.args.store.now (sym c.numbers_good.ensures ∙ c.if-not-numbers_good.true))

pub nodes_tidy-requires : goal.nodes_tidy-requires
nodes_tidy-requires c =
    let rows = c.rows_of-rows in
    capacities_fit c.args.store.now (good (goal.at.nodes_tidy-requires c).Else-not-numbers_good) rows.result.now rows.ensures

pub on_their_paths-requires : goal.on_their_paths-requires
on_their_paths-requires c =
    let rows = c.rows_of-rows in
    tidy_walkable c.args.store.now (good (goal.at.on_their_paths-requires c).Else-not-numbers_good) rows.result.now rows.ensures
    (sym c.nodes_tidy.ensures ∙ c.if-nodes_tidy.true)

pub stamps_differ-requires : goal.stamps_differ-requires
stamps_differ-requires c =
    let rows = c.rows_of-rows in
    let walkable = tidy_walkable c.args.store.now (good (goal.at.stamps_differ-requires c).Else-not-numbers_good) rows.result.now rows.ensures (passed c).0 in
    λ n h. (walkable.ordered n h).fits

pub returns-then-on_their_paths : goal.returns-then-on_their_paths
returns-then-on_their_paths c =
    let z = c.args.store.now in
    let number = good (goal.at.returns-then-on_their_paths c).Else-not-numbers_good in
    let rows = c.rows_of-rows in
    let both = passed (goal.at.returns-then-on_their_paths c).Then-on_their_paths in
    c.stamps_differ.ensures
    ∙ sym
    (stamps_decide z number rows.result.now rows.ensures
    (shape (goal.at.returns-then-on_their_paths c).Start (slots_counted z number rows.result.now rows.ensures both.1)) both.0 both.1)

pub returns-else-on_their_paths : goal.returns-else-on_their_paths
returns-else-on_their_paths c =
    let z = c.args.store.now in
    let number = good (goal.at.returns-else-on_their_paths c).Else-not-numbers_good in
    let rows = c.rows_of-rows in
    c.if-on_their_paths.false
    ∙ sym
    (elim c.if-nodes_tidy.branch [
      | then-nodes_tidy w ↦
          paths_fail z number rows.result.now rows.ensures
          (sym (w.on_their_paths.ensures _ (rows_own z number rows.result.now rows.ensures)) ∙ sym w.value-is ∙ c.if-on_their_paths.false)
      | else-nodes_tidy w ↦ tidy_fails z number rows.result.now rows.ensures (sym c.nodes_tidy.ensures ∙ w.if-nodes_tidy.false)
    ])
