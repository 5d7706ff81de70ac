-- The examples, by computing.
use mathlib.Core.Path.{◌≡◌, refl}
use mathlib.Core.Bool.{Bool, true, false}
use mathlib.Core.List.{[], ◌∷◌, flatten}
use mathlib.Core.Option.{some}
use native.Mathlib.Omega.{arith}
use Rattle.lists.proofs.Truths.{not_both}
use Rattle.plan.specs.Plan.{holds, first_edge, next, walk, path_from, path}
use Rattle.plan.specs.PlanRules.{PlanRules}
use Rattle.plan_table.specs.PlanTable.{plan_table, plans, plan_numbered}
use Rattle.plan_table.proofs.TableLaws.{table_rules}
use Rattle.store.specs.Copies.{RESULT, has_value, copy, find, member}
use Rattle.store.specs.Copies.Kind.{result}
use Rattle.store.specs.State.{fresh, first_on, in_reach}
use Rattle.store.proofs.Lifting.{fresh_rules}
use Rattle.steps.specs.Entries.{put, room, entered, entry}
use Rattle.steps.specs.Carries.{carries, merge, count_held, merge_along, carried_to, carried_out, carry_step}
use Rattle.steps.specs.Searches.{lowest_idle, start_step, with_running, step_step}
use Rattle.theory.specs.Events.{effect, state_after_all, entry_of, entered_copies, held, copies_of, entries, carries_line}
use Rattle.theory.specs.Events.Event.{enters, carries as carries_along}
use Rattle.theory.specs.Paper.{Edgeset, ContentsInReach}
use Rattle.theory.proofs.EventSteps.{events_keep}
use Rattle.paper.specs.Graph.{Inset}
use Rattle.paper.specs.Conserved.{summed, into_node, discards_line, replaces_line, carry_answer}
use Rattle.paper.specs.Examples.{meeting, low_key_carried_down, UncutFails, Shown}
use Rattle.paper.proofs.Cuts.{inset_member}

-- Whoever unfolds this unfolds all definitions that the examples are about.
opened : Bool
unfolding plan_numbered plan_table has_value flatten holds first_edge next walk path_from find member fresh first_on in_reach put room entered entry carries merge count_held merge_along carried_to carried_out carry_step lowest_idle start_step with_running step_step effect state_after_all entry_of entered_copies held copies_of entries carries_line summed into_node discards_line replaces_line carry_answer
opened = true

meeting_rules : PlanRules meeting
meeting_rules = table_rules 3 (omega arith) (unfold plans plan_table in omega arith)

low_key_in_reach : ContentsInReach meeting low_key_carried_down 2 0 ≡ some (copy 0 RESULT 7 1)
unfolding opened
low_key_in_reach = refl

in_edgeset : Edgeset meeting 2 3 0
unfolding opened
in_edgeset = record { edge = 0; is_edge = record { node = omega arith; edge = omega arith }; target = refl; key = refl }

off_path : member 2 (path meeting 0) ≡ false
unfolding opened
off_path = refl

never_reaches : Inset meeting 0 2 → ⊥
never_reaches i = not_both (inset_member meeting meeting_rules 0 2 i) off_path

-- Invariant 6 with the edgesets as they are fails in plan 3.
pub uncut_fails : UncutFails
unfolding opened
uncut_fails =
    record {
      plan_rules = meeting_rules;
      state_rules =
          events_keep meeting meeting_rules (enters result 0 7 ∷ carries_along 0 0 ∷ carries_along 1 0 ∷ []) (fresh meeting) (fresh_rules meeting);
      in_last_node = refl;
      in_edgeset = in_edgeset;
      in_reach = low_key_in_reach;
      not_in_inset = never_reaches;
      fails = λ f. never_reaches (f 2 0 (copy 0 RESULT 7 1) (omega arith) low_key_in_reach);
    }

pub shown : Shown
unfolding opened
shown =
    record {
      lower_key_first = refl;
      counts_three = refl;
      one_held = refl;
      one_discarded = refl;
      one_replaced = refl;
      all-discarded = refl;
      all-replaced = refl;
      bound_reached = refl;
      stands_below = refl;
      root_newer = refl;
      in_reach-below = refl;
      finds_older = refl;
      init_can_fail = λ xs init. init 0;
    }
