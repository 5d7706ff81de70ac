-- A good store with an image of 1931 bytes: a full one of plan 1. By computing.
use mathlib.Core.Path.{◌≡◌, refl}
use mathlib.Core.Bool.{true}
use mathlib.Core.List.{List, [], ◌∷◌}
use Prim.Native.Nat.{ℕ, ◌+◌}
use lib.ListN.{length, replicate}
use Rattle.lists.specs.Indexed.{tabulate, all_from}
use Rattle.number.specs.Number.{form_in, form}
use Rattle.plan.specs.Plan.{holds, first_edge, next, walk, path_from}
use Rattle.plan_table.specs.PlanTable.{plan_table, plans, plan_numbered}
use Rattle.store.specs.declared.Copy.{Copy}
use Rattle.store.specs.declared.Store.{Store}
use Rattle.store.specs.Copies.{has_value, RESULT, copy, find, member, different}
use Rattle.store.specs.State.{slot_count, last_clock, idle, first_on, in_reach}
use Rattle.store.specs.Layout.{node_in, plan_of, state_of, column, store_of}
use Rattle.store.specs.StoreRules.{
  shape_test,
  plan_number_test,
  clock_test,
  kind_test,
  copy_test,
  place_test,
  all_zero,
  unused_test,
  node_test,
  stamps_from,
  slot_test,
  good_store,
}
use Rattle.copies.specs.CopyBytes.{last_value, value_bytes, copy_bytes}
use Rattle.image_writing.specs.Image.{copies_bytes, node_bytes, nodes_bytes, image_of, image}
use Rattle.trips.specs.Limits.{most_image_bytes}

-- A full node: results with five-byte keys, values and stamps, from these numbers on.
unfoldable pub longest_node : ℕ → ℕ → List Copy
longest_node from count = tabulate from count (λ i. copy (4294967000 + i) RESULT last_value (4294967100 + i))

-- All four nodes of plan 1 are full.
unfoldable pub longest_store : Store
longest_store =
    store_of 1 (record {
      clock = last_clock;
      nodes = longest_node 0 8 ∷ longest_node 8 16 ∷ longest_node 24 32 ∷ longest_node 56 64 ∷ [];
      slots = replicate slot_count idle;
    })

pub record Longest : Type 0 where
  pub good : good_store longest_store ≡ true
  pub long : length (image longest_store) ≡ most_image_bytes

pub longest : Longest
unfolding tabulate all_from form_in form holds first_edge next walk path_from plan_table plans plan_numbered find member different first_on in_reach node_in plan_of state_of column store_of shape_test plan_number_test clock_test has_value kind_test copy_test place_test all_zero unused_test node_test stamps_from slot_test good_store value_bytes copy_bytes copies_bytes node_bytes nodes_bytes image_of longest_node longest_store
longest = record { good = refl; long = refl }
