-- The nodes of a good store as the workers on its columns take them: by places, with rising keys.
use mathlib.Core.Path.{◌≡◌, sym, ap}
use mathlib.Core.Bool.{true}
use Prim.Native.Nat.{ℕ, ◌+◌, ◌-◌, ◌*◌, ◌<◌}
use native.Mathlib.Omega.{arith}
use lib.ListN.{length}
use Rattle.lists.specs.Indexed.{tabulate}
use Rattle.plan.specs.Sizes.{most_nodes}
use Rattle.plan.specs.Plan.{size}
use Rattle.store.specs.declared.Copy.{Copy}
use Rattle.store.specs.declared.Store.{Store}
use Rattle.store.specs.Copies.{key_of}
use Rattle.store.specs.State.{node_at}
use Rattle.store.specs.Layout.{plan_of, width, node_in, node_of, count_of, state_of, column, store_of}
use Rattle.store.specs.StoreRules.{good_store}
use Rattle.store.specs.Workers.{below, place_in, RisesIn, WithinPlaces}
use Rattle.store.proofs.Lifting.{plan_good, good_ordered, good_back}
use Rattle.store.proofs.Halving.{place_of-copy}

-- The place of a key among a node's keys is its place among the node's copies, of any store.
pub node_place : (z : Store) (n from end k : ℕ) → from ≡ width * n → end ≡ width * n + count_of z n
    → place_in z.keys from end k ≡ width * n + below key_of (node_of z n) k
unfolding node_in
node_place z n from end k f e =
    let c : end - from ≡ count_of z n = omega arith in
    rw (c, f) (ap (λ (b : ℕ). width * n + b) (place_of-copy z.keys z.kinds z.values z.stamps (width * n) (count_of z n) k))

module _ (z : Store) (good : good_store z ≡ true) where
  -- The root is a node of its plan.
  pub root_there : 0 < size (plan_of z)
  root_there = omega (arith, (plan_good z good).nodes_within)

  -- A node's copies have places,
  pub counts_fit : WithinPlaces z.counts
  counts_fit n h = (good_ordered z good n h).fits

  -- and their keys rise.
  pub node_rises : (n from end : ℕ) → n < most_nodes → from ≡ width * n → end ≡ width * n + count_of z n → RisesIn z.keys from end
  node_rises n from end h f e = rw (f, e) (good_ordered z good n h).rises

  -- Its counts and columns are those of its state.
  pub counts_are : z.counts ≡ tabulate 0 most_nodes (λ n. length (node_at (state_of z) n))
  unfolding store_of
  counts_are = ap (λ (y : Store). y.counts) (sym (good_back z good))

  pub keys_are : z.keys ≡ column (λ (y : Copy). y.key) (state_of z).nodes
  unfolding store_of
  keys_are = ap (λ (y : Store). y.keys) (sym (good_back z good))

  pub kinds_are : z.kinds ≡ column (λ (y : Copy). y.kind) (state_of z).nodes
  unfolding store_of
  kinds_are = ap (λ (y : Store). y.kinds) (sym (good_back z good))

  pub values_are : z.values ≡ column (λ (y : Copy). y.value) (state_of z).nodes
  unfolding store_of
  values_are = ap (λ (y : Store). y.values) (sym (good_back z good))

  pub stamps_are : z.stamps ≡ column (λ (y : Copy). y.stamp) (state_of z).nodes
  unfolding store_of
  stamps_are = ap (λ (y : Store). y.stamps) (sym (good_back z good))
