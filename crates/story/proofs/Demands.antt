-- The three demands hold: each field is one theorem.
use Rattle.trips.proofs.RoundTrips.{loaded_saves}
use Rattle.refusals.proofs.Fresh.{fresh-refused}
use Rattle.refusals.proofs.Save.{save_refused}
use Rattle.refusals.proofs.Load.{load_refused}
use Rattle.refusals.proofs.Page.{page_refused, serve_kept, serve_notice}
use Rattle.refusals.proofs.Decode.{decode_refused}
use Rattle.calls.proofs.Follows.{call_keeps_good, call_on_bad}
use Rattle.calls.proofs.Histories.{replaced-history, replaced-carries}
use Rattle.calls.proofs.CurrentResults.{refused_store_lem, entry-sets, others_leave, carry_leaves}
use Rattle.calls.proofs.CallLaws.{calls_increase, look_says, look_is_search, carry_counts, carry_moves}
use Rattle.calls.proofs.Recalls.{store_search_ends, fresh_ends_searches, load_ends_searches}
use Rattle.calls.proofs.KeepsDeclared.{reached_loads, reached_buffer_loads}
use Rattle.calls.proofs.CarryBound.{calls_bound, calls_reach}
use Rattle.calls.proofs.ClockCounts.{most_entries_lem}
use Rattle.paper_calls.proofs.Structures.{calls_mcs, other_calls_keep, entry_call_upserts, call_search}
use Rattle.paper_calls.proofs.Running.{running_recency, running_ends_by_call, look_visits}
use Rattle.paper_calls.proofs.EverySearch.{every_search_at_hand}
use Rattle.paper_calls.proofs.Carrying.{rise_within_fall}
use Rattle.paper_calls.proofs.Conserving.{line_conserved, all_calls_conserved, call_line_sums}
use Rattle.behind.proofs.BehindPointers.{calls_behind, call_returns}
use Rattle.kept.proofs.ExactlyServed.{served_exactly, length_exactly}
use Rattle.kept.proofs.AmendedPages.{served-after_calls, served_while_untouched, never_again, page_calls_serve}
use Rattle.kept.proofs.LoadedPages.{saved_and_loaded}
use Rattle.kept.proofs.KeptBehind.{page_calls_length}
use Rattle.story.specs.Demands.{Demand1, Demand2, Demand3}
use Rattle.story.proofs.Refusing.{one_outcome, each_refusal, no_other_answer}

pub demand_1 : Demand1
demand_1 =
    record {
      numbered_answers = each_refusal;
      no_other_answer = no_other_answer;
      page_if_true = serve_kept;
      notice_otherwise = serve_notice;
      one_outcome = one_outcome;
      store_left = refused_store_lem;
      saved_buffer_left = save_refused;
      page_buffer_left = page_refused;
      list_left = decode_refused;
      refused-fresh = fresh-refused;
      load_refusal = load_refused;
      bad_store = call_on_bad;
      good_stays = call_keeps_good;
      returns_behind = call_returns;
      behind_the_pointer = calls_behind;
    }

pub demand_2 : Demand2
demand_2 =
    record {
      structure = calls_mcs;
      entry_upserts = entry_call_upserts;
      others_keep = other_calls_keep;
      reach_increases = calls_increase;
      entry-sets = entry-sets;
      carrying_changes_none = carry_leaves;
      others_change_none = others_leave;
      carry_says = carry_counts;
      carry_moves = carry_moves;
      rise_within_fall = rise_within_fall;
      line_conserved = line_conserved;
      all_conserved = all_calls_conserved;
      search_recent = call_search;
      running_recent = running_recency;
      no_other_search = every_search_at_hand;
      fresh_ends_searches = fresh_ends_searches;
      load_ends_searches = load_ends_searches;
      look_says = look_says;
      look_visits = look_visits;
      look_is_search = look_is_search;
      saved_loads = reached_loads;
      buffer_loads = reached_buffer_loads;
      loaded_saves = loaded_saves;
      served_exactly = served_exactly;
      length_exactly = length_exactly;
      served-after_calls = served-after_calls;
      never_again = never_again;
      served_while_untouched = served_while_untouched;
      saved_and_loaded = saved_and_loaded;
      page_calls_serve = page_calls_serve;
      page_calls_length = page_calls_length;
    }

pub demand_3 : Demand3
demand_3 =
    record {
      carried_at_most = calls_bound;
      reached = calls_reach;
      clock_allows = most_entries_lem;
      answers_add_up = call_line_sums;
      search_ends = store_search_ends;
      running_ends = running_ends_by_call;
      count_starts_again = replaced-carries;
      loaded_copies_count = replaced-history;
    }
