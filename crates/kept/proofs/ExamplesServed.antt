-- The examples, by computing.
use mathlib.Core.Path.{◌≡◌, refl, sym, subst}
use mathlib.Core.Bool.{Bool, true}
use mathlib.Core.List.Memᴰ
use mathlib.Core.List.{List, [], ◌∷◌, Memᴰ}
use mathlib.Core.Logic.{◌⊎◌, inl, inr}
use mathlib.Core.Option.{some}
use Prim.Native.Nat.{ℕ}
use native.Mathlib.Omega.{arith}
use lib.Dec.{lit≤}
use denote.Ref.{Bor}
use Rattle.lists.specs.Indexed.{tabulate, all_from}
use Rattle.number.specs.Number.{form_in, form, read_last, put_below, read_in, read_at}
use Rattle.plan.specs.Plan.{holds, first_edge, next, walk, path_from}
use Rattle.plan_table.specs.PlanTable.{plan_table, plans, plan_numbered}
use Rattle.plan_table.proofs.TableLaws.{first_plan}
use Rattle.store.specs.declared.Store.{Store}
use Rattle.store.specs.Copies.{has_value, find, member, different}
use Rattle.store.specs.Copies.Kind.{result}
use Rattle.store.specs.State.{fresh, first_on, in_reach}
use Rattle.store.specs.Layout.{node_in, plan_of, state_of, column, store_of, fresh_store}
use Rattle.store.specs.StoreRules.{
  shape_test,
  plan_number_test,
  clock_test,
  kind_test,
  copy_test,
  place_test,
  all_zero,
  unused_test,
  node_test,
  stamps_from,
  stands_at,
  slot_test,
  good_store,
}
use Rattle.store.specs.Calls.{on_store}
use Rattle.store.proofs.Lifting.{fresh_good}
use Rattle.steps.specs.Entries.{put, room, entered, entry}
use Rattle.steps.specs.Carries.{carries, merge, count_held, merge_along, carried_to, carried_out, carry_step}
use Rattle.theory.specs.Events.Event.{enters}
use Rattle.wire.specs.Reading.{bind, numbered, number_at}
use Rattle.copies.specs.CopyBytes.{value_bytes, copy_bytes, read_value, read_copy}
use Rattle.image_writing.specs.Image.{copies_bytes, node_bytes, nodes_bytes, image_of}
use Rattle.image_reading.specs.ImageReading.{read_copies, read_node, read_nodes, nodes_from, clock_from, plan_from, image_at}
use Rattle.image_loading.specs.Loading.{copies_held, finished, load_outcome}
use Rattle.trips.specs.Trips.{Declared}
use Rattle.trips.proofs.RoundTrips.{fresh-idle}
use Rattle.page_lines.specs.PageLine.{page_lines_from}
use Rattle.page.specs.PageBytes.{page_line_bytes, page_lines_bytes, page_bytes, begins}
use Rattle.page.specs.Promises.{still_true, served_length}
use Rattle.calls.specs.PublicCalls.{Call, store_after, answer_to, store_after_all}
use Rattle.calls.specs.PublicCalls.Call.{carry, start}
use Rattle.calls.specs.Following.{event_of, on_event, own_outcome, replacement}
use Rattle.calls.specs.DeclaredNumbers.{DeclaredCall, DeclaredCalls}
use Rattle.calls.proofs.Follows.{acts_as, entry_acts, calls_keep_good}
use Rattle.calls.proofs.KeepsDeclared.{calls_keep_declared}
use Rattle.kept.specs.Shows.{shows}
use Rattle.kept.specs.Kept.{KeptFrom}
use Rattle.kept.specs.Amended.{StoreGoesOn, EntryDone, PageServed, PageNotServed}
use Rattle.kept.specs.Examples.{line_key, entering, entering_other, after_fresh, Examples}
use Rattle.kept.proofs.LeavesSamples.{what_leaves_sample}
use Rattle.kept.proofs.AmendedPages.{served_while_untouched, never_again}

-- Whoever unfolds this unfolds all definitions that the examples are about.
unfoldable pub opened : Bool
unfolding tabulate all_from form_in form read_last put_below read_in read_at holds first_edge next walk path_from plan_table plans plan_numbered has_value find member different fresh first_on in_reach node_in plan_of state_of column store_of fresh_store shape_test plan_number_test clock_test kind_test copy_test place_test all_zero unused_test node_test stamps_from stands_at slot_test good_store on_store put room entered entry carries merge count_held merge_along carried_to carried_out carry_step bind numbered number_at value_bytes copy_bytes read_value read_copy copies_bytes node_bytes nodes_bytes image_of read_copies read_node read_nodes nodes_from clock_from plan_from image_at copies_held finished load_outcome page_lines_from page_line_bytes page_lines_bytes page_bytes begins still_true served_length store_after store_after_all
opened = true

pub examples : Examples
unfolding opened
examples =
    record {
      the_empty_page = refl;
      the_page = refl;
      at_once = refl;
      bytes_after = refl;
      carried = refl;
      another_sample = refl;
      another_plan = refl;
      amended = refl;
      same_value = refl;
      after_withdrawal = refl;
      entered_again = refl;
      once_entered = refl;
      hidden_again = refl;
      the_image = refl;
      older_image = refl;
      own_image = refl;
    }

-- The store after 180 was entered meets all that never_again asks of a store, and the same result once more all that it asks of a call.
abbrev z : Store
z = after_fresh 1 (entering 180 ∷ [])

good : good_store z ≡ true
good = calls_keep_good (entering 180 ∷ []) (fresh_store 1) (fresh_good 1 (lit≤ tt) (omega (arith, first_plan)))

declared : Declared z
unfolding has_value
declared =
    calls_keep_declared (entering 180 ∷ []) (λ c m. subst DeclaredCall (sym (Memᴰ.eq_of_singleton m)) (lit≤ tt, lit≤ tt)) (fresh_store 1)
    (fresh-idle 1).declared

shown : shows z line_key ≡ some (180, 1)
unfolding opened
shown = refl

done_once_more : EntryDone (entering 180) z result line_key 180
unfolding opened event_of on_event
done_once_more = (refl, ((on_event (enters result line_key 180) z).answer, says, refl))
  where
    says : answer_to (entering 180) z ≡ some (on_event (enters result line_key 180) z).answer
    says = (acts_as (entering 180) (enters result line_key 180) refl (entry_acts result line_key 180)).answers z

-- So whatever is called after it, the page of 180 is never served again.
pub same_value_never_again : (later : List Call) → DeclaredCalls (entering 180 ∷ later)
    → StoreGoesOn (entering 180 ∷ later) (after_fresh 1 (entering 180 ∷ [])) → (kept notice : Bor (List ℕ))
    → KeptFrom (after_fresh 1 (entering 180 ∷ [])) 1 kept.now
    → PageNotServed (store_after_all (entering 180 ∷ later) (after_fresh 1 (entering 180 ∷ []))) 1 kept notice
same_value_never_again later ds on kept notice begun =
    never_again z good declared (entering 180 ∷ later) ds on 1 (lit≤ tt) kept notice begun 1 (lit≤ tt) (180, 1) shown result 180
    (record { before = []; call = entering 180; later = later; parts = refl; entry = unfold store_after_all in done_once_more })

-- A carry, an entry of sample 2 and the start of a search leave sample 1 alone, whatever they answer: so the page of 180 is served after them.
pub served-after_others : (kept notice : Bor (List ℕ)) → KeptFrom (after_fresh 1 (entering 180 ∷ [])) 1 kept.now
    → PageServed (after_fresh 1 (entering 180 ∷ [])) (after_fresh 1 (entering 180 ∷ carry 0 0 ∷ entering_other ∷ start line_key ∷ [])) 1 kept notice
unfolding has_value store_after_all event_of replacement own_outcome
served-after_others kept notice begun =
    served_while_untouched z good declared calls typed (inl refl, (inl refl, (inl refl, tt))) 1 (lit≤ tt) kept notice begun (
      (what_leaves_sample 1 (carry 0 0) z).carries_leave 0 0 refl,
      (
        (what_leaves_sample 1 entering_other (store_after (carry 0 0) z)).other_samples result 2 1 7 (lit≤ tt) (λ e. omega (arith, e)) refl,
        ((what_leaves_sample 1 (start line_key) (store_after entering_other (store_after (carry 0 0) z))).starts_leave line_key refl, tt),
      ),
    )
  where
    calls : List Call
    calls = carry 0 0 ∷ entering_other ∷ start line_key ∷ []

    typed : DeclaredCalls calls
    typed c m = go (Memᴰ.cases_cons m)
      where
        last : (c ≡ entering_other) ⊎ Memᴰ c (start line_key ∷ []) → DeclaredCall c
        last (inl e) = subst DeclaredCall (sym e) (lit≤ tt, lit≤ tt)
        last (inr m) = subst DeclaredCall (sym (Memᴰ.eq_of_singleton m)) tt

        go : (c ≡ carry 0 0) ⊎ Memᴰ c (entering_other ∷ start line_key ∷ []) → DeclaredCall c
        go (inl e) = subst DeclaredCall (sym e) tt
        go (inr m) = last (Memᴰ.cases_cons m)
