-- The test of a node is that of its own numbers and that of the paths of its copies.
use mathlib.Core.Path.{◌≡◌, refl, ap, ◌∙◌}
use mathlib.Core.Bool.{Bool, true, false, and-true, and-false, ◌&&◌}
use Prim.Native.Nat.{ℕ, ◌+◌, ◌*◌}
use lib.Dec.{leb, ltb}
use Rattle.lists.specs.Indexed.{all_from, all_below}
use Rattle.lists.proofs.Tabulating.{same_all, all_and}
use Rattle.plan.specs.Sizes.{most_nodes}
use Rattle.plan.specs.Plan.{Plan, capacity_of, next, path}
use Rattle.plan.specs.PlanRules.{PlanRules}
use Rattle.plan.specs.PlanArrays.{capacities_row}
use Rattle.plan.specs.declared.rows.Rows.{Rows}
use Rattle.plan.proofs.RowsLent.{capacity_of_lem}
use Rattle.store.specs.declared.Store.{Store}
use Rattle.store.specs.Copies.{stamp_of, member}
use Rattle.store.specs.State.{State, in_reach}
use Rattle.store.specs.Layout.{plan_of, width, copy_of, count_of, state_of}
use Rattle.store.specs.StoreRules.{kind_test, copy_test, place_test, node_test}
use Rattle.rules_nodes.specs.Workers.{mark_test, key_rises, used_test, unused_in, tidy_test, all_tidy}
use Rattle.rules_paths.specs.Workers.{placed_test, paths_test}

module _ (z : Store) where
  abbrev p : Plan
  p = plan_of z

  abbrev s : State
  s = state_of z

  abbrev end : ℕ → ℕ
  end n = width * n + count_of z n

  place_parts : (n i : ℕ) → place_test p s z n i ≡ (used_test z (end n) i && placed_test p z n i)
  unfolding place_test copy_test used_test mark_test placed_test state_of
  place_parts n i =
      let x = copy_of z i in
      go (kind_test x && leb 1 x.stamp && ltb x.stamp z.clock) (member n (path p x.key))
      (ltb (stamp_of (in_reach p s x.key (next p n x.key))) x.stamp) (key_rises z.keys (end n) i)
    where
      go : (q m f o : Bool) → (q && m && f && o) ≡ (o && q && (m && f))
      go false m f o = rw (and-false o)
      go true m f true = and-true (m && f)
      go true m f false = and-false (m && f)

  module _ (rules : PlanRules p) (r : Rows) (e : r.capacities ≡ capacities_row p) where
    node_parts : (n : ℕ) → node_test p s z n ≡ (tidy_test r z n && paths_test p z n)
    unfolding node_test tidy_test paths_test
    node_parts n =
        ap (λ (b : Bool). leb (count_of z n) (capacity_of p n) && b && unused_in z (end n) (width * n + width))
        (same_all (place_test p s z n) (λ i. used_test z (end n) i && placed_test p z n i) (width * n) (count_of z n) (place_parts n)
        ∙ all_and (used_test z (end n)) (placed_test p z n) (width * n) (count_of z n))
        ∙ rw (capacity_of_lem p rules r.capacities e n)
        (go (leb (count_of z n) (capacity_of p n)) (all_from (width * n) (count_of z n) (used_test z (end n)))
        (all_from (width * n) (count_of z n) (placed_test p z n)) (unused_in z (end n) (width * n + width)))
      where
        go : (a u q o : Bool) → (a && (u && q) && o) ≡ (a && u && o && q)
        go false u q o = refl
        go true false q o = refl
        go true true q true = and-true q
        go true true q false = and-false q

    -- The nodes pass exactly when their own numbers and the paths of their copies do.
    pub nodes_parts : all_below most_nodes (node_test p s z) ≡ (all_tidy r z && all_below most_nodes (paths_test p z))
    nodes_parts =
        same_all (node_test p s z) (λ n. tidy_test r z n && paths_test p z n) 0 most_nodes node_parts
        ∙ all_and (tidy_test r z) (paths_test p z) 0 most_nodes
