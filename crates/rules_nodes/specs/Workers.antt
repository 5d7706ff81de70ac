-- The test of a node's own numbers, part by part.
use Rattle.std.specs.Prelude.{Bool, ◌&&◌, ◌||◌, List, ℕ, suc, ◌+◌, ◌*◌, leb, ltb}
use Rattle.lists.specs.Indexed.{all_from, all_below}
use Rattle.plan.specs.Sizes.{most_nodes}
use Rattle.plan.specs.PlanArrays.{at_node}
use Rattle.plan.specs.declared.rows.Rows.{Rows}
use Rattle.store.specs.declared.Copy.{Copy}
use Rattle.store.specs.declared.Store.{Store}
use Rattle.store.specs.Layout.{width, copy_of, count_of}
use Rattle.store.specs.StoreRules.{kind_test, unused_test}
use Rattle.store.specs.Workers.{number_in}

-- The rules of a node come in two parts. This is the first: a copy's kind, value and stamp,
unfoldable pub mark_test : ℕ → Copy → Bool
mark_test clock x = kind_test x && leb 1 x.stamp && ltb x.stamp clock

-- a key below the next one's, if there is one before the end,
abbrev pub key_rises : List ℕ → ℕ → ℕ → Bool
key_rises keys end i = leb end (suc i) || ltb (number_in keys i) (number_in keys (suc i))

-- both at a used place, in a node whose used places go up to the end,
unfoldable pub used_test : Store → ℕ → ℕ → Bool
used_test z end i = key_rises z.keys end i && mark_test z.clock (copy_of z i)

-- the other places,
abbrev pub unused_in : Store → ℕ → ℕ → Bool
unused_in z = unused_test z.keys z.kinds z.values z.stamps

-- and the count, within what the node may hold, the used places and the others of a node.
unfoldable pub tidy_test : Rows → Store → ℕ → Bool
tidy_test r z n =
    let end = width * n + count_of z n in
    leb (count_of z n) (at_node r.capacities n) && all_from (width * n) (count_of z n) (used_test z end)
    && unused_in z end (width * n + width)

-- All nodes pass.
abbrev pub all_tidy : Rows → Store → Bool
all_tidy r z = all_below most_nodes (tidy_test r z)
