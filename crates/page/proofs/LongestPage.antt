-- A good store with a page of 357 bytes: the last sample, 32 results with five-byte values and stamps. By computing.
use mathlib.Core.Path.{◌≡◌, refl}
use mathlib.Core.Bool.{true}
use mathlib.Core.List.{List, [], ◌∷◌}
use Prim.Native.Nat.{◌+◌}
use lib.ListN.{length, replicate}
use Rattle.lists.specs.Indexed.{tabulate, all_from}
use Rattle.number.specs.Number.{form_in, form}
use Rattle.plan.specs.Plan.{holds, first_edge, next, walk, path_from}
use Rattle.plan_table.specs.PlanTable.{plan_table, plans, plan_numbered}
use Rattle.store.specs.declared.Copy.{Copy}
use Rattle.store.specs.declared.Store.{Store}
use Rattle.store.specs.Copies.{has_value, RESULT, copy, find, member, different}
use Rattle.store.specs.State.{slot_count, last_clock, idle, first_on, in_reach}
use Rattle.store.specs.Layout.{node_in, plan_of, state_of, column, store_of}
use Rattle.store.specs.StoreRules.{
  shape_test,
  plan_number_test,
  clock_test,
  kind_test,
  copy_test,
  place_test,
  all_zero,
  unused_test,
  node_test,
  stamps_from,
  slot_test,
  good_store,
}
use Rattle.copies.specs.CopyBytes.{value_bytes}
use Rattle.page_lines.specs.PageLine.{analytes, last_sample, key_for, page_lines_from}
use Rattle.page.specs.PageBytes.{page_line_bytes, page_lines_bytes, page_bytes, most_page_bytes}
use Rattle.page.specs.Promises.{page_now}

-- The copies of the last sample's 32 lines, with the largest values and stamps just below the clock's last value.
unfoldable pub longest_copies : List Copy
longest_copies = tabulate 0 analytes (λ a. copy (key_for last_sample a) RESULT 4294967295 (4294967200 + a))

unfoldable pub longest_store : Store
longest_store =
    store_of 1 (record { clock = last_clock; nodes = [] ∷ [] ∷ longest_copies ∷ [] ∷ []; slots = replicate slot_count idle })

pub record Longest : Type 0 where
  pub good : good_store longest_store ≡ true
  pub long : length (page_now longest_store last_sample) ≡ most_page_bytes

pub longest : Longest
unfolding tabulate all_from form_in form holds first_edge next walk path_from plan_table plans plan_numbered find member different first_on in_reach node_in plan_of state_of column store_of shape_test plan_number_test clock_test has_value kind_test copy_test place_test all_zero unused_test node_test stamps_from slot_test good_store value_bytes page_lines_from page_line_bytes page_lines_bytes page_bytes longest_copies longest_store
longest = record { good = refl; long = refl }
