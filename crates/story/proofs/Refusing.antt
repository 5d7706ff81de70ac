-- Each promise allows one outcome, and each refusal is given exactly when its line holds.
use Rattle.refusals.proofs.OnStores.{rule_broken}
use Rattle.refusals.proofs.Fresh.{fresh_plan}
use Rattle.refusals.proofs.Entries.{entry_badstore, entry_clock, entry_full, entry_answers_lem}
use Rattle.refusals.proofs.Carry.{carry_badstore, carry_node, carry_edge, carry_answers_lem}
use Rattle.refusals.proofs.Searches.{
  start_badstore,
  start_slots,
  step_badstore,
  step_slot,
  step_idle,
  cancel_badstore,
  cancel_slot,
  cancel_idle,
  look_badstore,
  start_answers_lem,
  step_answers_lem,
  cancel_answers_lem,
  look_answers,
}
use Rattle.refusals.proofs.Save.{save_badstore, save_small, save_needs, save_answers}
use Rattle.refusals.proofs.Load.{load_cut, load_number, load_format, load_plan, load_trail, load_rule, load_answers}
use Rattle.refusals.proofs.Page.{page_badstore, page_sample, page_small, page_needs, page_answers}
use Rattle.refusals.proofs.Decode.{decode_small, decode_needs, decode_plan, decode_op, decode_many, decode_cut, decode_number}
use Rattle.refusals.proofs.Run.{run_badstore, run_op, run_op_place}
use Rattle.transcript.proofs.Uniqueness.{transcribe_once}
use Rattle.export.proofs.GoodExactly.{good_exactly, good_or_bad}
use Rattle.export.proofs.Uniqueness.{fresh_behind_once, step_behind_once, load_behind_once, good_once, serve_length_once}
use Rattle.calls.proofs.Uniqueness.{
  fresh_once,
  enter_once,
  withdraw_once,
  carry_once,
  start_once,
  step_once,
  cancel_once,
  look_once,
  save_once,
  load_once,
  page_once,
  serve_once,
  decode_once,
  run_once,
}
use Rattle.story.specs.Refusing.{OneOutcome, EachRefusal, NoOtherAnswer}

pub one_outcome : OneOutcome
one_outcome =
    record {
      fresh = fresh_once;
      enter = enter_once;
      withdraw = withdraw_once;
      carry = carry_once;
      start = start_once;
      step = step_once;
      cancel = cancel_once;
      check = good_once;
      look = look_once;
      load = load_once;
      run = run_once;
      save = save_once;
      page = page_once;
      decode = decode_once;
      serve = serve_once;
      transcribe = transcribe_once;
      fresh_behind = fresh_behind_once;
      step_behind = step_behind_once;
      load_behind = load_behind_once;
      length_served = serve_length_once;
    }

pub each_refusal : EachRefusal
each_refusal =
    record {
      rule_broken = rule_broken;
      entry_badstore = entry_badstore;
      carry_badstore = carry_badstore;
      start_badstore = start_badstore;
      step_badstore = step_badstore;
      cancel_badstore = cancel_badstore;
      check_done = good_exactly;
      look_badstore = look_badstore;
      save_badstore = save_badstore;
      page_badstore = page_badstore;
      run_badstore = run_badstore;
      fresh_plan = fresh_plan;
      load_plan = load_plan;
      decode_plan = decode_plan;
      entry_clock = entry_clock;
      entry_full = entry_full;
      carry_node = carry_node;
      carry_edge = carry_edge;
      start_slots = start_slots;
      step_slot = step_slot;
      cancel_slot = cancel_slot;
      step_idle = step_idle;
      cancel_idle = cancel_idle;
      save_small = save_small;
      save_needs = save_needs;
      page_small = page_small;
      page_needs = page_needs;
      decode_small = decode_small;
      decode_needs = decode_needs;
      page_sample = page_sample;
      load_cut = load_cut;
      decode_cut = decode_cut;
      load_number = load_number;
      decode_number = decode_number;
      load_format = load_format;
      load_rule = load_rule;
      load_trail = load_trail;
      decode_op = decode_op;
      run_op = run_op;
      run_op_place = run_op_place;
      decode_many = decode_many;
    }

pub no_other_answer : NoOtherAnswer
no_other_answer =
    record {
      entry = entry_answers_lem;
      carry = carry_answers_lem;
      start = start_answers_lem;
      step = step_answers_lem;
      cancel = cancel_answers_lem;
      check = good_or_bad;
      look = look_answers;
      save = save_answers;
      load = load_answers;
      page = page_answers;
    }
