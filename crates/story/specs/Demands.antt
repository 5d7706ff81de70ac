-- The three demands, each as one record: its fields are the demand's sentences, in their order, with every hypothesis written out. That every
-- call ends and does nothing undefined has no field: the prover has it of every function.
use Rattle.std.specs.Prelude.{◌≡◌, true, false, List, [], ◌∷◌, map, ◌⊎◌, ℕ, suc, ◌*◌, ◌<◌, ◌≤◌, length, get_or, take, replicate}
use Rattle.std.proofs.Math.Option.{none, some}
use Rattle.std.specs.Borrow.{Bor}
use Rattle.number.specs.Number.{Bytes}
use Rattle.plan.specs.Plan.{size, path, path_from, edges_on}
use Rattle.plan.specs.PlanRules.{IsEdge}
use Rattle.plan_table.specs.PlanTable.{plans}
use Rattle.store.specs.declared.Answer.{Answer}
use Rattle.store.specs.declared.Copy.{Copy}
use Rattle.store.specs.declared.Store.{Store}
use Rattle.store.specs.Answers.{DONE, PLAN, answer, bare}
use Rattle.store.specs.Copies.{Kind, kind_number, value_held, copy}
use Rattle.store.specs.State.{idle, line}
use Rattle.store.specs.Layout.{plan_of, state_of, fresh_store}
use Rattle.store.specs.StoreRules.{good_store}
use Rattle.store.specs.Promises.{fresh_outcome}
use Rattle.steps.specs.Searches.{running, ended}
use Rattle.theory.specs.Events.{held, copies_of, own_steps, not_cancelled}
use Rattle.theory.specs.Events.Event.{enters, carries, starts, steps}
use Rattle.theory.specs.Paper.{CopySet, InHistory, upserted}
use Rattle.theory.specs.Looking.{VisitsUntil}
use Rattle.image_writing.specs.Image.{image}
use Rattle.image_loading.specs.Loading.{refused_load, load_outcome}
use Rattle.image.specs.Promises.{save_outcome}
use Rattle.trips.specs.Trips.{Declared, loaded_as_itself, AllIdle}
use Rattle.page_lines.specs.PageLine.{last_sample, analytes, key_for}
use Rattle.page.specs.Promises.{page_now, page_outcome, served, Pages, Serves, ServesLength}
use Rattle.schedule.specs.declared.Step.{Step}
use Rattle.schedule.specs.Promises.{decode_outcome}
use Rattle.refusals.specs.Given.{StillTrue}
use Rattle.calls.specs.PublicCalls.{Call, store_after, answer_to, Done, store_after_all}
use Rattle.calls.specs.PublicCalls.Call.{fresh, load, step, reads}
use Rattle.calls.specs.PublicCalls.ReadOnly.{look}
use Rattle.calls.specs.Following.{event_of, events_of, replacement, same_store, entered_by, history, carries_since, round_calls}
use Rattle.calls.specs.Recent.{current_in, reach_stamp, at_end, SearchRuns, Finished, EndsByCall}
use Rattle.calls.specs.DeclaredNumbers.{DeclaredCalls}
use Rattle.calls.specs.Counts.{CarryCounts, CarryMoves, most_entries}
use Rattle.paper.specs.Conserved.{AllKeys}
use Rattle.paper_calls.specs.Structure.{StoreMCS, copies_so_far, CallUpserts, CallSearch, RunsAtHand, RunningRecency, FinishedAtHand, VisitsSome}
use Rattle.paper_calls.specs.Sums.{RiseWithinFall, LineConserved, AllCallsConserved, CallLineSums}
use Rattle.behind.specs.Behind.{CallBehind, MeetsPromise, AllMeet, public_call, ReturnsAs}
use Rattle.kept.specs.Shows.{shows}
use Rattle.kept.specs.Kept.{KeptFrom, KeptOf, ServedExactly, LengthExactly, ServedIf, LengthIf}
use Rattle.kept.specs.Amended.{
  StoreGoesOn,
  EntersLine,
  SampleUntouched,
  SampleShowsAgain,
  PageServed,
  PageNotServed,
  ServedAfterCalls,
  SavedAndLoaded,
}
use Rattle.story.specs.Refusing.{OneOutcome, EachRefusal, NoOtherAnswer}

-- Demand 1: every call, on every store, number and byte string.
pub record Demand1 : Type 0 where
  -- "Bad input gets its numbered answer": each refusal exactly when its line of the table holds and none earlier does;
  pub numbered_answers : EachRefusal
  -- no call gives any other number;
  pub no_other_answer : NoOtherAnswer
  -- or the notice, where a kept page was offered: the page is handed back if the kept bytes are still true, else the whole notice.
  pub page_if_true :
      (z : Store) (sample : ℕ) (kept notice : Bor (List ℕ)) → StillTrue z sample kept.now
      → served z sample kept notice ≡ (kept.ref_ptr, page_now z sample)
  pub notice_otherwise :
      (z : Store) (sample : ℕ) (kept notice : Bor (List ℕ)) → (StillTrue z sample kept.now → ⊥)
      → served z sample kept notice ≡ (notice.ref_ptr, notice.now)
  -- What a call returns and leaves is fixed: any two outcomes that its promise allows are equal.
  pub one_outcome : OneOutcome
  -- A refusal (2 and up) leaves the store unaltered, a bad one too,
  pub store_left : (c : Call) (z : Store) (a : Answer) → answer_to c z ≡ some a → 2 ≤ a.number → store_after c z ≡ z
  -- and every byte of a lent buffer and every record of a lent list.
  pub saved_buffer_left : (z : Store) (before : List ℕ) → 2 ≤ (save_outcome z before).0.number → (save_outcome z before).1 ≡ before
  pub page_buffer_left :
      (z : Store) (sample : ℕ) (before : List ℕ) → 2 ≤ (page_outcome z sample before).0.number → (page_outcome z sample before).1 ≡ before
  pub list_left :
      (bytes : List ℕ) (before : List Step) → 2 ≤ (decode_outcome bytes before).0.number → (decode_outcome bytes before).1 ≡ before
  -- "A refused fresh or load returns a fresh store of plan 1", with its number, and of a load the offset.
  pub refused-fresh :
      (plan : ℕ) → 2 ≤ (fresh_outcome plan).answer.number → fresh_outcome plan ≡ record { answer = bare PLAN; store = fresh_store 1 }
  pub load_refusal :
      (bytes : List ℕ) → 2 ≤ (load_outcome bytes).answer.number
      → load_outcome bytes ≡ refused_load (load_outcome bytes).answer.number (load_outcome bytes).answer.a
  -- Every call leaves a bad store as it is, or replaces it by a good one; a good store it keeps good.
  pub bad_store : (c : Call) (z : Store) → good_store z ≡ false → (store_after c z ≡ z) ⊎ (good_store (store_after c z) ≡ true)
  pub good_stays : (c : Call) (z : Store) → good_store z ≡ true → good_store (store_after c z) ≡ true
  -- From C: what each call gives is what the public call returns on the store that it found, refused or not;
  pub returns_behind : (c : CallBehind) (z leaves : Store) → MeetsPromise c z leaves → ReturnsAs c z leaves
  -- the store behind the pointer is what the public calls in their places leave: `fresh 1` for a fresh or load at the pointer itself, if refused.
  pub behind_the_pointer :
      (cs : List CallBehind) (z leaves : Store) → AllMeet cs z leaves → leaves ≡ store_after_all (map public_call cs) z

-- Demand 2: a multicopy structure, as the paper defines it, over every sequence of public calls.
pub record Demand2 : Type 1 where
  -- "The store is a multicopy structure": MCS(r, t, H), with the copies entered or loaded so far as its history.
  pub structure :
      (cs : List Call) (z : Store) → good_store z ≡ true
      → StoreMCS (store_after_all cs z) (store_after_all cs z).clock (InHistory (copies_so_far cs z))
  -- An accepted entry is the paper's upsert;
  pub entry_upserts :
      (c : Call) (z : Store) → good_store z ≡ true → (t : ℕ) (H : CopySet) → StoreMCS z t H
      → (kind : Kind) (k v : ℕ) → event_of c ≡ enters kind k v → Done c z
      → CallUpserts c z t H (copy k (kind_number kind) (value_held kind v) t)
  -- every other call that does not replace the store keeps MCS(r, t, H);
  pub others_keep :
      (c : Call) (z : Store) → good_store z ≡ true → replacement c ≡ none → entered_by (event_of c) z ≡ none
      → (t : ℕ) (H : CopySet) → StoreMCS z t H → StoreMCS (store_after c z) t H
  -- and what is in reach of a node only gets newer (the paper's invariant 2).
  pub reach_increases :
      (cs : List Call) (z : Store) → good_store z ≡ true → same_store cs ≡ true → (n k : ℕ) → n < size (plan_of z)
      → reach_stamp z n k ≤ reach_stamp (store_after_all cs z) n k
  -- An accepted entry changes its own line's current result alone, and to its copy;
  pub entry-sets :
      (c : Call) (z : Store) → good_store z ≡ true → (x : Copy) → entered_by (event_of c) z ≡ some x
      → (k : ℕ) → current_in (store_after c z) k ≡ upserted (current_in z) x k
  -- "Carrying changes no line's current result";
  pub carrying_changes_none :
      (c : Call) (n i : ℕ) → event_of c ≡ carries n i → (z : Store) → good_store z ≡ true
      → (k : ℕ) → current_in (store_after c z) k ≡ current_in z k
  -- nor does any other call that does not replace the store.
  pub others_change_none :
      (c : Call) (z : Store) → good_store z ≡ true → replacement c ≡ none → entered_by (event_of c) z ≡ none
      → (k : ℕ) → current_in (store_after c z) k ≡ current_in z k
  -- What a carry says is what its words say of the nodes' counts.
  pub carry_says :
      (c : Call) (n i : ℕ) → event_of c ≡ carries n i → (z : Store) → good_store z ≡ true → IsEdge (plan_of z) n i
      → CarryCounts c n i z
  -- It moves what it says, and what stays had no room;
  pub carry_moves :
      (c : Call) (n i : ℕ) → event_of c ≡ carries n i → (z : Store) → good_store z ≡ true → IsEdge (plan_of z) n i
      → CarryMoves c n i z
  -- the target's count rises by no more than the node's falls.
  pub rise_within_fall :
      (c : Call) (n i : ℕ) → event_of c ≡ carries n i → (z : Store) → good_store z ≡ true → IsEdge (plan_of z) n i
      → RiseWithinFall c n i z
  -- No copy is lost and none invented: of a line, and of all.
  pub line_conserved : (cs : List Call) (z : Store) → good_store z ≡ true → (k : ℕ) → LineConserved k cs z
  pub all_conserved : (cs : List Call) (z : Store) → good_store z ≡ true → AllCallsConserved cs z
  -- "A finished search gives a copy really entered or loaded, or never, and nothing older than the line's latest at the search's start."
  pub search_recent :
      (z : Store) → good_store z ≡ true → (before : List Call) (c : Call) (between : List Call) (k i : ℕ)
      → SearchRuns z before c between k i → (d : Call) → event_of d ≡ steps i → Done d (at_end z before c between)
      → CallSearch z before c between d k i
  -- One that already runs in the store at hand, whoever started it, gives nothing older than what was in reach of its node.
  pub running_recent :
      (z : Store) → good_store z ≡ true → (between : List Call) (k n visits i : ℕ) → RunsAtHand z between k n visits i
      → (d : Call) → event_of d ≡ steps i → Done d (store_after_all between z)
      → RunningRecency z between d k n visits i
  -- There is no other: every step that answers DONE ends one of these.
  pub no_other_search :
      (z : Store) → good_store z ≡ true → (i : ℕ) (cs : List Call) (d : Call) → event_of d ≡ steps i → Done d (store_after_all cs z)
      → Finished z cs d i ⊎ FinishedAtHand z cs d i
  -- "An accepted fresh or load ends all running searches of the store it replaces."
  pub fresh_ends_searches : (plan : ℕ) (y : Store) → replacement (fresh plan) ≡ some y → AllIdle y
  pub load_ends_searches : (bytes : List ℕ) (y : Store) → replacement (load bytes) ≡ some y → AllIdle y
  -- A look says the line's current result, and the visits until it is found;
  pub look_says :
      (z : Store) → good_store z ≡ true → (k : ℕ)
      → (visits : ℕ) × (answer_to (reads (look k)) z ≡ some (ended (current_in z k) visits))
      × VisitsUntil (line (state_of z) k) (path (plan_of z) k) visits
  -- it makes at least one visit;
  pub look_visits : (z : Store) → good_store z ≡ true → (k : ℕ) → VisitsSome z k
  -- it is a search with nothing in between.
  pub look_is_search :
      (z : Store) → good_store z ≡ true → (c : Call) (k i : ℕ) → event_of c ≡ starts k → answer_to c z ≡ some (answer DONE i 0 0 0)
      → (m : ℕ) × (answer_to (step i) (store_after_all (replicate m (step i)) (store_after c z)) ≡ answer_to (reads (look k)) z)
  -- "A saved store loads as itself with no search running", from the buffer it was saved into;
  pub saved_loads :
      (z : Store) → good_store z ≡ true → Declared z → (cs : List Call) → DeclaredCalls cs
      → load_outcome (image (store_after_all cs z)) ≡ loaded_as_itself (store_after_all cs z)
  pub buffer_loads :
      (z : Store) → good_store z ≡ true → Declared z → (cs : List Call) → DeclaredCalls cs
      → (before : List ℕ) → length (image (store_after_all cs z)) ≤ length before
      → load_outcome (take (length (image (store_after_all cs z))) (save_outcome (store_after_all cs z) before).1)
      ≡ loaded_as_itself (store_after_all cs z)
  -- "an accepted image saves as the same bytes".
  pub loaded_saves : (bytes : List ℕ) → Bytes bytes → (load_outcome bytes).answer.number ≡ DONE → image (load_outcome bytes).store ≡ bytes
  -- "A kept page is served only while it is still true": by another store exactly if every line of the sample shows the same in both,
  pub served_exactly :
      (z y : Store) → good_store z ≡ true → Declared z → good_store y ≡ true → Declared y → (sample : ℕ) → sample ≤ last_sample
      → (kept notice : Bor (List ℕ)) → KeptFrom z sample kept.now → ServedExactly z y sample kept notice
  pub length_exactly :
      (z y : Store) → good_store z ≡ true → Declared z → good_store y ≡ true → Declared y → (sample : ℕ) → sample ≤ last_sample
      → (kept : List ℕ) → KeptFrom z sample kept → LengthExactly z y sample kept
  -- after calls on the store exactly if every line of the sample shows again what it showed;
  pub served-after_calls :
      (z : Store) → good_store z ≡ true → Declared z → (cs : List Call) → DeclaredCalls cs → StoreGoesOn cs z
      → (sample : ℕ) → sample ≤ last_sample → (kept notice : Bor (List ℕ)) → KeptFrom z sample kept.now
      → ServedAfterCalls z cs sample kept notice
  -- so never again after an accepted entry of a line that it shows, be it of the same value,
  pub never_again :
      (z : Store) → good_store z ≡ true → Declared z → (cs : List Call) → DeclaredCalls cs → StoreGoesOn cs z
      → (sample : ℕ) → sample ≤ last_sample → (kept notice : Bor (List ℕ)) → KeptFrom z sample kept.now
      → (a : ℕ) → a < analytes → (w : ℕ × ℕ) → shows z (key_for sample a) ≡ some w
      → (kind : Kind) (v : ℕ) → EntersLine cs z kind (key_for sample a) v → PageNotServed (store_after_all cs z) sample kept notice
  -- and always while nothing was entered of the sample's lines, saved and loaded too.
  pub served_while_untouched :
      (z : Store) → good_store z ≡ true → Declared z → (cs : List Call) → DeclaredCalls cs → StoreGoesOn cs z
      → (sample : ℕ) → sample ≤ last_sample → (kept notice : Bor (List ℕ)) → KeptFrom z sample kept.now
      → SampleUntouched cs z sample → PageServed z (store_after_all cs z) sample kept notice
  pub saved_and_loaded : (z : Store) → good_store z ≡ true → Declared z → SavedAndLoaded z
  -- The same by the promises of page and serve alone, and of the length that serve gives to C.
  pub page_calls_serve :
      (z : Store) → Declared z → (sample : ℕ) (before : List ℕ) (r : Answer) (after : List ℕ) → Pages z sample before r after
      → r.number ≡ DONE → (cs : List Call) → DeclaredCalls cs → StoreGoesOn cs z
      → (kept notice q : Bor (List ℕ)) → KeptOf r after kept.now → Serves (store_after_all cs z) sample kept notice q
      → ServedIf (SampleShowsAgain z cs sample) r after kept notice q
  pub page_calls_length :
      (z : Store) → Declared z → (sample : ℕ) (before : List ℕ) (r : Answer) (after : List ℕ) → Pages z sample before r after
      → r.number ≡ DONE → (cs : List CallBehind) (y : Store) → AllMeet cs z y → DeclaredCalls (map public_call cs)
      → StoreGoesOn (map public_call cs) z → (kept : List ℕ) → KeptOf r after kept → (n : ℕ) → ServesLength y sample kept n
      → LengthIf (SampleShowsAgain z (map public_call cs) sample) r n

-- Demand 3: how often copies are carried, and how long a search takes.
pub record Demand3 : Type 0 where
  -- "The copies of a line carried are at most the edges on its path times its accepted entries", since the store was last replaced.
  pub carried_at_most :
      (k : ℕ) (cs : List Call) (z : Store)
      → carries_since k cs z 0 ≤ edges_on (plan_of (store_after_all cs z)) k * copies_of k (copies_so_far cs z)
  -- "Some sequence reaches that for each number of entries that the clock allows": in each plan, for each line and value;
  pub reached :
      (plan : ℕ) → 1 ≤ plan → plan ≤ plans → (k v r : ℕ) → r ≤ most_entries → (z : Store)
      → (copies_of k (copies_so_far (round_calls plan k v r) z) ≡ r)
      × (carries_since k (round_calls plan k v r) z 0 ≡ edges_on (plan_of (fresh_store plan)) k * r)
  -- the clock allows no more.
  pub clock_allows :
      (plan : ℕ) → 1 ≤ plan → plan ≤ plans → (cs : List Call) → same_store cs ≡ true
      → ((store_after_all cs (fresh_store plan)).clock ≡ suc (length (history cs (fresh_store plan) [])))
      × (length (history cs (fresh_store plan) []) ≤ most_entries)
  -- What the carries' answers say to be carried is the sum of these counts over the lines, for any keys with those of all copies.
  pub answers_add_up :
      (cs : List Call) (z : Store) → good_store z ≡ true → (ks : List ℕ) → AllKeys (copies_so_far cs z) ks → CallLineSums cs z ks
  -- "A search ends within as many own steps as its path has nodes", unless it is cancelled or its store replaced;
  pub search_ends :
      (z : Store) → good_store z ≡ true → (c : Call) (k i : ℕ) → event_of c ≡ starts k → answer_to c z ≡ some (answer DONE i 0 0 0)
      → (cs : List Call) → same_store cs ≡ true → not_cancelled i (events_of cs) ≡ true
      → length (path (plan_of z) k) ≤ own_steps i (events_of cs) → EndsByCall (store_after c z) i cs
  -- one that already runs, within as many as nodes remain on the path from its node on.
  pub running_ends :
      (z : Store) → good_store z ≡ true → (k n visits i : ℕ) → get_or z.slots i idle ≡ running k n visits
      → (cs : List Call) → same_store cs ≡ true → not_cancelled i (events_of cs) ≡ true
      → length (path_from (plan_of z) k n) ≤ own_steps i (events_of cs) → EndsByCall z i cs
  -- "A fresh or loaded store starts the count again", of carries,
  pub count_starts_again :
      (k : ℕ) (c : Call) (cs : List Call) (z y : Store) (n : ℕ) → replacement c ≡ some y
      → carries_since k (c ∷ cs) z n ≡ carries_since k cs y 0
  -- and of entries, "each loaded copy as an entry".
  pub loaded_copies_count :
      (c : Call) (cs : List Call) (z y : Store) (h : List Copy) → replacement c ≡ some y
      → history (c ∷ cs) z h ≡ history cs y (held (state_of y))
