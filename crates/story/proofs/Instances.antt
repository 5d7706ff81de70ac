-- The instances: computed, and the demands' own fields applied.
use mathlib.Core.Path.{◌≡◌, refl, sym, ap, ◌∙◌, subst}
use mathlib.Core.Bool.{Bool, true}
use mathlib.Core.List.Memᴰ
use mathlib.Core.List.{List, [], ◌∷◌, ◌++◌, flatten, Memᴰ}
use mathlib.Core.Logic.{◌⊎◌, inl, inr}
use mathlib.Core.Option.{Option, none, some}
use Prim.Native.Nat.{ℕ, ◌*◌, ◌≤◌}
use native.Mathlib.Omega.{arith}
use lib.Dec.{lit≤}
use lib.ListN.{length, replicate}
use Rattle.lists.proofs.Options.{one_some}
use Rattle.number.specs.Number.{Bytes}
use Rattle.plan.specs.Plan.{path, edges_on}
use Rattle.plan.specs.PlanRules.{IsEdge}
use Rattle.plan_table.proofs.TableLaws.{first_plan}
use Rattle.store.specs.declared.Answer.{Answer}
use Rattle.store.specs.declared.Copy.{Copy}
use Rattle.store.specs.declared.Outcome.{Outcome}
use Rattle.store.specs.declared.Store.{Store}
use Rattle.store.specs.Answers.{DONE, IDLE, answer, bare}
use Rattle.store.specs.Copies.{has_value}
use Rattle.store.specs.Copies.Kind.{result}
use Rattle.store.specs.State.{State, slot_count, idle}
use Rattle.store.specs.Layout.{plan_of, state_of, store_of, fresh_store}
use Rattle.store.specs.StoreRules.{good_store}
use Rattle.store.proofs.Lifting.{fresh_good}
use Rattle.steps.specs.Searches.{ended, lowest_idle, start_step, with_running, step_step}
use Rattle.theory.specs.Events.{effect, held, copies_of, still_runs_after, still_runs, is_own_step, own_steps, cancels_slot, not_cancelled}
use Rattle.theory.specs.Events.Event.{enters}
use Rattle.theory.specs.Paper.{InHistory}
use Rattle.image_writing.specs.Image.{image}
use Rattle.image_loading.specs.Loading.{load_outcome}
use Rattle.trips.specs.Trips.{Declared, idled, loaded_as_itself}
use Rattle.trips.proofs.RoundTrips.{fresh-idle}
use Rattle.page.specs.Promises.{page_now, served_length}
use Rattle.calls.specs.PublicCalls.{Call, store_after, returned, answer_to, store_after_all}
use Rattle.calls.specs.PublicCalls.Call.{load, carry, start, step}
use Rattle.calls.specs.Following.{
  event_of,
  events_of,
  on_event,
  own_outcome,
  store_if_accepted,
  replacement,
  same_store,
  entered_by,
  carried_by,
  history,
  carries_since,
}
use Rattle.calls.specs.Recent.{current_in, at_end, SearchRuns, EndsByCall}
use Rattle.calls.specs.DeclaredNumbers.{DeclaredCall, DeclaredCalls}
use Rattle.calls.proofs.Follows.{acts_as, entry_acts, call_keeps_good, calls_keep_good}
use Rattle.calls.proofs.KeepsDeclared.{calls_keep_declared}
use Rattle.paper_calls.specs.Structure.{StoreMCS, copies_so_far, CallUpserts, CallSearch}
use Rattle.kept.specs.Shows.{shows}
use Rattle.kept.specs.Amended.{EntryDone}
use Rattle.kept.specs.Examples.{line_key, entering, after_fresh}
use Rattle.kept.proofs.ExamplesServed.{opened as pages_opened}
use Rattle.story.specs.Instances.{
  before_search,
  while_it_runs,
  seven_steps,
  before_entry,
  before_carry,
  last_store,
  older_copy,
  newer_copy,
  saved_bytes,
  page_kept,
  steps_alone,
  Instances,
}
use Rattle.story.proofs.Demands.{demand_1, demand_2, demand_3}

-- Whoever unfolds this unfolds all definitions that the instances are about.
opened : Bool
unfolding pages_opened flatten lowest_idle start_step with_running step_step effect held copies_of still_runs_after still_runs is_own_step own_steps cancels_slot not_cancelled returned answer_to event_of events_of on_event own_outcome replacement same_store entered_by carried_by history carries_since
opened = true

-- The stores of the schedule are good and of the declared type.
fresh_one_good : good_store (fresh_store 1) ≡ true
fresh_one_good = fresh_good 1 (lit≤ tt) (omega (arith, first_plan))

good_after : (cs : List Call) → good_store (after_fresh 1 cs) ≡ true
good_after cs = calls_keep_good cs (fresh_store 1) fresh_one_good

more_declared : (c : Call) (cs : List Call) → DeclaredCall c → DeclaredCalls cs → DeclaredCalls (c ∷ cs)
more_declared c cs d ds b m = go (Memᴰ.cases_cons m)
  where
    go : (b ≡ c) ⊎ Memᴰ b cs → DeclaredCall b
    go (inl e) = subst DeclaredCall (sym e) d
    go (inr n) = ds b n

seven_declared : DeclaredCalls seven_steps
unfolding has_value
seven_declared =
    more_declared _ _ (lit≤ tt, lit≤ tt)
    (more_declared _ _ tt
    (more_declared _ _ tt
    (more_declared _ _ tt
    (more_declared _ _ (lit≤ tt, lit≤ tt) (more_declared _ _ tt (more_declared _ _ tt (λ b m. absurd (Memᴰ.not-nil m))))))))

last_declared : Declared last_store
last_declared = calls_keep_declared seven_steps seven_declared (fresh_store 1) (fresh-idle 1).declared

-- ---- what is computed

-- The store after seven steps, by what it holds: 210 in node 1.
abbrev last_state : State
last_state = record { clock = 3; nodes = [] ∷ (newer_copy ∷ []) ∷ [] ∷ [] ∷ []; slots = replicate slot_count idle }

abbrev held_store : Store
held_store = store_of 1 last_state

last_is : last_store ≡ held_store
unfolding opened
last_is = refl

held_refuses : answer_to (step 0) held_store ≡ some (bare IDLE)
unfolding opened
held_refuses = refl

refused-idle : answer_to (step 0) last_store ≡ some (bare IDLE)
refused-idle = ap (answer_to (step 0)) last_is ∙ held_refuses

last_clock_lem : last_store.clock ≡ 3
last_clock_lem = ap (λ (z : Store). z.clock) last_is ∙ (unfold store_of in refl)

last_copies : copies_so_far seven_steps (fresh_store 1) ≡ older_copy ∷ newer_copy ∷ []
unfolding opened
last_copies = refl

entry_clock : before_entry.clock ≡ 2
unfolding opened
entry_clock = refl

entry_copies : copies_so_far (before_search ++ start line_key ∷ step 0 ∷ []) (fresh_store 1) ≡ older_copy ∷ []
unfolding opened
entry_copies = refl

entry_says : answer_to (entering 210) before_entry ≡ some (answer DONE 2 0 0 0)
unfolding opened
entry_says = refl

carry_answers_lem : answer_to (carry 0 0) before_carry ≡ some (answer DONE 1 1 0 0)
unfolding opened
carry_answers_lem = refl

is_edge : IsEdge (plan_of before_carry) 0 0
unfolding opened
is_edge = record { node = lit≤ tt; edge = lit≤ tt }

runs : SearchRuns (fresh_store 1) before_search (start line_key) while_it_runs line_key 0
unfolding opened
runs = record { is_start = refl; starting = refl; stays = refl; still_running = refl }

start_result : current_in (after_fresh 1 before_search) line_key ≡ some older_copy
unfolding opened
start_result = refl

end_says : answer_to (step 0) (at_end (fresh_store 1) before_search (start line_key) while_it_runs) ≡ some (answer DONE 2 210 2 2)
unfolding opened
end_says = refl

end_copies : copies_so_far (before_search ++ start line_key ∷ while_it_runs) (fresh_store 1) ≡ older_copy ∷ newer_copy ∷ []
unfolding opened
end_copies = refl

held-image : image held_store ≡ saved_bytes
unfolding opened
held-image = refl

its_image : image last_store ≡ saved_bytes
its_image = ap image last_is ∙ held-image

held_page : page_now held_store 1 ≡ page_kept
unfolding opened
held_page = refl

its_page : page_now last_store 1 ≡ page_kept
its_page = ap (λ (z : Store). page_now z 1) last_is ∙ held_page

held-length : served_length held_store 1 page_kept ≡ 6
unfolding opened
held-length = refl

its_length : served_length last_store 1 page_kept ≡ 6
its_length = ap (λ (z : Store). served_length z 1 page_kept) last_is ∙ held-length

held-shows : shows held_store line_key ≡ some (210, 2)
unfolding opened
held-shows = refl

shown : shows last_store line_key ≡ some (210, 2)
shown = ap (λ (z : Store). shows z line_key) last_is ∙ held-shows

held_enters : (on_event (enters result line_key 210) held_store).answer.number ≡ DONE
unfolding opened
held_enters = refl

-- The same result once more is accepted.
done_again : EntryDone (entering 210) last_store result line_key 210
unfolding event_of
done_again = (
  refl,
  (
    (on_event (enters result line_key 210) last_store).answer,
    (acts_as (entering 210) (enters result line_key 210) refl (entry_acts result line_key 210)).answers last_store,
    ap (λ (z : Store). (on_event (enters result line_key 210) z).answer.number) last_is ∙ held_enters,
  ),
)

line-carried : carries_since line_key seven_steps (fresh_store 1) 0 ≡ 2
unfolding opened
line-carried = refl

line-entered : copies_of line_key (copies_so_far seven_steps (fresh_store 1)) ≡ 2
line-entered = ap (copies_of line_key) last_copies ∙ (unfold copies_of in refl)

held_edges : edges_on (plan_of held_store) line_key ≡ 3
unfolding opened
held_edges = refl

line_edges : edges_on (plan_of last_store) line_key ≡ 3
line_edges = ap (λ (z : Store). edges_on (plan_of z) line_key) last_is ∙ held_edges

fresh_edges : edges_on (plan_of (fresh_store 1)) line_key ≡ 3
unfolding opened
fresh_edges = refl

fresh_starts : answer_to (start line_key) (fresh_store 1) ≡ some (answer DONE 0 0 0 0)
unfolding opened
fresh_starts = refl

four_stay : same_store steps_alone ≡ true
unfolding opened
four_stay = refl

four_alive : not_cancelled 0 (events_of steps_alone) ≡ true
unfolding opened
four_alive = refl

four_enough : length (path (plan_of (fresh_store 1)) line_key) ≤ own_steps 0 (events_of steps_alone)
unfolding opened
four_enough = lit≤ tt

-- ---- what the demands say

its_end : EndsByCall (store_after (start line_key) (fresh_store 1)) 0 steps_alone
its_end =
    demand_3.search_ends (fresh_store 1) fresh_one_good (start line_key) line_key 0 (unfold event_of in refl) fresh_starts steps_alone
    four_stay four_alive four_enough

its_structure : StoreMCS last_store 3 (InHistory (older_copy ∷ newer_copy ∷ []))
its_structure =
    subst (λ (t : ℕ). StoreMCS last_store t (InHistory (older_copy ∷ newer_copy ∷ []))) last_clock_lem
    (subst (λ (h : List Copy). StoreMCS last_store last_store.clock (InHistory h)) last_copies
    (demand_2.structure seven_steps (fresh_store 1) fresh_one_good))

entry_structure : StoreMCS before_entry 2 (InHistory (older_copy ∷ []))
entry_structure =
    subst (λ (t : ℕ). StoreMCS before_entry t (InHistory (older_copy ∷ []))) entry_clock
    (subst (λ (h : List Copy). StoreMCS before_entry before_entry.clock (InHistory h)) entry_copies
    (demand_2.structure (before_search ++ start line_key ∷ step 0 ∷ []) (fresh_store 1) fresh_one_good))

its_upsert : CallUpserts (entering 210) before_entry 2 (InHistory (older_copy ∷ [])) newer_copy
unfolding has_value
its_upsert =
    demand_2.entry_upserts (entering 210) before_entry (good_after (before_search ++ start line_key ∷ step 0 ∷ [])) 2 (InHistory (older_copy ∷ []))
    entry_structure result line_key 210 (unfold event_of in refl) (answer DONE 2 0 0 0, entry_says, refl)

good_before_carry : good_store before_carry ≡ true
good_before_carry =
    call_keeps_good (entering 210) before_entry (good_after (before_search ++ start line_key ∷ step 0 ∷ []))

-- What the search found, by its answer and by what was entered.
found_newer : (o : Option Copy) (visits : ℕ) → ended o visits ≡ answer DONE 2 210 2 2 → InHistory (older_copy ∷ newer_copy ∷ []) line_key o
    → o ≡ some newer_copy
found_newer none visits e h = absurd (omega (arith, ap (λ (r : Answer). r.a) e))
found_newer (some x) visits e (inl h) = absurd h
found_newer (some x) visits e (inr w) = go (Memᴰ.cases_cons w.1)
  where
    go : (x ≡ older_copy) ⊎ Memᴰ x (newer_copy ∷ []) → some x ≡ some newer_copy
    go (inl q) = absurd (omega (arith, ap (λ (r : Answer). r.c) e, ap (λ (y : Copy). y.stamp) q))
    go (inr m) = ap some (Memᴰ.eq_of_singleton m)

its_search : CallSearch (fresh_store 1) before_search (start line_key) while_it_runs (step 0) line_key 0
its_search =
    demand_2.search_recent (fresh_store 1) fresh_one_good before_search (start line_key) while_it_runs line_key 0 runs (step 0) (unfold event_of in refl)
    (answer DONE 2 210 2 2, end_says, refl)

its_found : its_search.recency.found ≡ some newer_copy
its_found =
    let r = its_search.recency in
    found_newer r.found _ (one_some r.says end_says)
    (subst (λ (h : List Copy). InHistory h line_key r.found) end_copies r.real)

its_load : load_outcome saved_bytes ≡ loaded_as_itself last_store
its_load =
    subst (λ (bytes : List ℕ). load_outcome bytes ≡ loaded_as_itself last_store) its_image
    (demand_2.saved_loads (fresh_store 1) fresh_one_good (fresh-idle 1).declared seven_steps seven_declared)

loaded_store : replacement (load saved_bytes) ≡ some (idled last_store)
unfolding own_outcome replacement
loaded_store = ap (λ (o : Outcome). store_if_accepted (some o)) its_load

held_copies : history [] (idled held_store) (held (state_of (idled held_store))) ≡ newer_copy ∷ []
unfolding opened idled
held_copies = refl

loaded_copies : history [] (idled last_store) (held (state_of (idled last_store))) ≡ newer_copy ∷ []
loaded_copies = ap (λ (z : Store). history [] (idled z) (held (state_of (idled z)))) last_is ∙ held_copies

pub instances : Instances
instances =
    record {
      refused = refused-idle;
      store_left = demand_1.store_left (step 0) last_store (bare IDLE) refused-idle (lit≤ tt);
      structure = its_structure;
      upserts = its_upsert;
      carry_says = carry_answers_lem;
      carry_counts = demand_2.carry_says (carry 0 0) 0 0 (unfold event_of in refl) before_carry good_before_carry is_edge;
      carry_changes_none = demand_2.carrying_changes_none (carry 0 0) 0 0 (unfold event_of in refl) before_carry good_before_carry;
      search_runs = runs;
      latest_at_start = start_result;
      search = (its_search, its_found);
      saves = its_image;
      loads = its_load;
      saves_again =
          demand_2.loaded_saves saved_bytes
          (subst Bytes its_image (demand_2.saved_and_loaded last_store (good_after seven_steps) last_declared).of_bytes)
          (ap (λ (o : Outcome). o.answer.number) its_load);
      page_is = its_page;
      served = its_length;
      never_again = λ later ds on kept notice begun.
          demand_2.never_again last_store (good_after seven_steps) last_declared (entering 210 ∷ later) ds on 1 (lit≤ tt) kept notice begun 1 (lit≤ tt)
          (210, 2) shown result 210
          (record { before = []; call = entering 210; later = later; parts = refl; entry = unfold store_after_all in done_again });
      entered_twice = line-entered;
      carried_twice = line-carried;
      three_edges = line_edges;
      at_most = demand_3.carried_at_most line_key seven_steps (fresh_store 1);
      six_reached =
          (demand_3.reached 1 (lit≤ tt) (omega (arith, first_plan)) line_key 210 2 (omega arith) last_store).1 ∙ ap (λ (n : ℕ). n * 2) fresh_edges;
      search_ends = its_end;
      counts_again = λ z. demand_3.loaded_copies_count (load saved_bytes) [] z (idled last_store) (held (state_of z)) loaded_store ∙ loaded_copies;
    }
