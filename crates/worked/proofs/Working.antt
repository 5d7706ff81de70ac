-- Document 01's P1 to P10, by computing.
use mathlib.Core.Path.{◌≡◌, refl, sym, ap, ◌∙◌, subst}
use mathlib.Core.Bool.{Bool, true}
use Prim.Native.Nat.{ℕ}
use Rattle.lists.specs.Indexed.{tabulate, all_from}
use Rattle.number.specs.Number.{form_in, form, read_last, put_below, read_in, read_at}
use Rattle.plan.specs.Plan.{Plan, holds, first_edge, next, walk, path_from}
use Rattle.plan_table.specs.PlanTable.{plan_table, plans, plan_numbered}
use Rattle.store.specs.declared.Answer.{Answer}
use Rattle.store.specs.declared.Outcome.{Outcome}
use Rattle.store.specs.declared.Store.{Store}
use Rattle.store.specs.Copies.{has_value, find, member, different}
use Rattle.store.specs.State.{State, fresh, first_on, in_reach}
use Rattle.store.specs.Layout.{node_in, plan_of, state_of, column, store_of, fresh_store}
use Rattle.store.specs.StoreRules.{
  shape_test,
  plan_number_test,
  clock_test,
  kind_test,
  copy_test,
  place_test,
  all_zero,
  unused_test,
  node_test,
  stamps_from,
  stands_at,
  slot_test,
  good_store,
}
use Rattle.store.specs.Calls.{Effect, on_store, of_store}
use Rattle.store.specs.Promises.{fresh_outcome}
use Rattle.steps.specs.Entries.{enter_step, withdraw_step, put, room, entered, entry}
use Rattle.steps.specs.Carries.{carries, merge, count_held, merge_along, carried_to, carried_out, carry_step}
use Rattle.steps.specs.Searches.{lowest_idle, start_step, with_running, step_step, cancel_step, visits_on, look_answer}
use Rattle.steps.specs.Promises.{Looks}
use Rattle.wire.specs.Reading.{bind, numbered, number_at}
use Rattle.wire.specs.Writing.{written_answer, written_buffer}
use Rattle.copies.specs.CopyBytes.{value_bytes, copy_bytes}
use Rattle.image_writing.specs.Image.{copies_bytes, node_bytes, nodes_bytes, image_of}
use Rattle.image_reading.specs.ImageReading.{image_at}
use Rattle.image_loading.specs.Loading.{finished, load_outcome}
use Rattle.image.specs.Promises.{save_answer, save_buffer}
use Rattle.page_lines.specs.PageLine.{page_lines_from}
use Rattle.page.specs.PageBytes.{page_line_bytes, page_lines_bytes, page_bytes}
use Rattle.page.specs.Promises.{page_answer, page_buffer}
use Rattle.schedule.specs.Schedule.{known_step, has_two, second_at, step_at, steps_at, schedule_at, decode_answer, decode_list}
use Rattle.schedule.specs.Running.{record_outcome, run_outcome}
use Rattle.lines.specs.Text.{digits_in, decimal, printed_text}
use Rattle.transcript.specs.Transcript.{steps_text, decoded_text, schedule_text}
use Rattle.worked.specs.Worked.{characters, store_after_steps, store_after_input, with_eight, OfFresh, Worked}

-- Whoever unfolds this unfolds all definitions that the table is about.
opened : Bool
unfolding tabulate all_from form_in form read_last put_below read_in read_at holds first_edge next walk path_from plan_table plans plan_numbered find member different fresh first_on in_reach node_in plan_of state_of column store_of fresh_store shape_test plan_number_test clock_test has_value kind_test copy_test place_test all_zero unused_test node_test stamps_from stands_at slot_test good_store on_store of_store fresh_outcome put room entered entry carries merge count_held merge_along carried_to carried_out carry_step lowest_idle start_step with_running step_step cancel_step visits_on look_answer bind numbered number_at written_answer written_buffer value_bytes copy_bytes copies_bytes node_bytes nodes_bytes image_of image_at finished load_outcome save_answer save_buffer page_lines_from page_line_bytes page_lines_bytes page_bytes page_answer page_buffer known_step has_two second_at step_at steps_at schedule_at decode_answer decode_list record_outcome run_outcome digits_in decimal printed_text steps_text decoded_text schedule_text characters store_after_steps store_after_input with_eight
opened = true

-- The answer of an outcome that is known.
answer_of_lem : {r o : Outcome} {x : Answer} → r ≡ o → o.answer ≡ x → r.answer ≡ x
answer_of_lem e h = ap (λ (q : Outcome). q.answer) e ∙ h

-- A step on the store of an outcome that is known.
step_on : {r o s : Outcome} (step : Plan → State → Effect) → r ≡ o → s ≡ on_store step r.store → s ≡ on_store step o.store
step_on step e f = f ∙ ap (λ (q : Outcome). on_store step q.store) e

-- A look in it.
look_in : {r o : Outcome} {x : Answer} (key : ℕ) → r ≡ o → Looks o.store key x → Looks r.store key x
look_in key e h = h ∙ ap (λ (q : Outcome). of_store (look_answer key) q.store) (sym e)

-- What holds of the fresh store holds of each that the promise allows.
of_fresh : (plan : ℕ) (Holds : Store → Type 0) → Holds (fresh_outcome plan).store → OfFresh plan Holds
of_fresh plan Holds h f e = subst (λ (o : Outcome). Holds o.store) (sym e) h

pub worked : Worked
unfolding opened
worked =
    record {
      p1 = refl;
      p2 = (refl, refl);
      p3 = (refl, refl);
      p4 = refl;
      p5 = of_fresh 1 _ (λ r e. answer_of_lem e refl, λ r e. answer_of_lem e refl);
      p6 = λ r e. (answer_of_lem e refl, λ s f. answer_of_lem (step_on (enter_step 33 180) e f) refl);
      p7 = of_fresh 1 _ (λ a b c d e f. look_in 33 (step_on (withdraw_step 33) (step_on (carry_step 0 0) d e) f) refl);
      p8 = of_fresh 2 _ refl;
      p9 = of_fresh 1 _ (λ r e. answer_of_lem e refl, λ r e. answer_of_lem e refl, λ r e. answer_of_lem e refl, λ r e. answer_of_lem e refl);
      p10 = of_fresh 1 _ (λ buffer. (refl, refl));
    }
