-- One worked instance of each main theorem: document 01's schedule (P1), its eight steps as public calls on a fresh store of plan 1.
use Rattle.std.specs.Prelude.{◌≡◌, List, [], ◌∷◌, ◌++◌, ℕ, ◌*◌, ◌≤◌, replicate}
use Rattle.std.proofs.Math.Option.{some}
use Rattle.std.specs.Borrow.{Bor}
use Rattle.plan.specs.Plan.{edges_on}
use Rattle.store.specs.declared.Copy.{Copy}
use Rattle.store.specs.declared.Store.{Store}
use Rattle.store.specs.Answers.{DONE, IDLE, answer, bare}
use Rattle.store.specs.Copies.{RESULT, copy}
use Rattle.store.specs.Layout.{plan_of, fresh_store}
use Rattle.theory.specs.Events.{copies_of}
use Rattle.theory.specs.Paper.{InHistory}
use Rattle.image_writing.specs.Image.{image}
use Rattle.image_loading.specs.Loading.{load_outcome}
use Rattle.trips.specs.Trips.{loaded_as_itself}
use Rattle.page.specs.Promises.{page_now, served_length}
use Rattle.calls.specs.PublicCalls.{Call, store_after, answer_to, store_after_all}
use Rattle.calls.specs.PublicCalls.Call.{load, carry, start, step}
use Rattle.calls.specs.Following.{carries_since, round_calls}
use Rattle.calls.specs.Recent.{current_in, EndsByCall, SearchRuns}
use Rattle.calls.specs.DeclaredNumbers.{DeclaredCalls}
use Rattle.calls.specs.Counts.{CarryCounts}
use Rattle.paper_calls.specs.Structure.{StoreMCS, copies_so_far, CallUpserts, CallSearch}
use Rattle.kept.specs.Kept.{KeptFrom}
use Rattle.kept.specs.Amended.{StoreGoesOn, PageNotServed}
use Rattle.kept.specs.Examples.{line_key, entering, after_fresh}

-- The steps before the search: 180 is entered and carried.
abbrev pub before_search : List Call
before_search = entering 180 ∷ carry 0 0 ∷ []

-- Those while it runs: a step of it, then 210 is entered and carried.
abbrev pub while_it_runs : List Call
while_it_runs = step 0 ∷ entering 210 ∷ carry 0 0 ∷ []

-- The search is started by the third step, and ended by the seventh.
abbrev pub seven_steps : List Call
seven_steps = before_search ++ start line_key ∷ while_it_runs ++ step 0 ∷ []

-- The store before the entry of 210,
abbrev pub before_entry : Store
before_entry = after_fresh 1 (before_search ++ start line_key ∷ step 0 ∷ [])

-- and before the carry after it.
abbrev pub before_carry : Store
before_carry = store_after (entering 210) before_entry

-- The store after seven steps.
abbrev pub last_store : Store
last_store = after_fresh 1 seven_steps

-- The copy entered first,
abbrev pub older_copy : Copy
older_copy = copy line_key RESULT 180 1

-- and the one entered second.
abbrev pub newer_copy : Copy
newer_copy = copy line_key RESULT 210 2

-- P2's bytes.
abbrev pub saved_bytes : List ℕ
saved_bytes = 0x01 ∷ 0x01 ∷ 0x03 ∷ 0x00 ∷ 0x01 ∷ 0x21 ∷ 0x01 ∷ 0xD2 ∷ 0x01 ∷ 0x02 ∷ 0x00 ∷ 0x00 ∷ []

-- P3's bytes.
abbrev pub page_kept : List ℕ
page_kept = 0x01 ∷ 0x01 ∷ 0x01 ∷ 0xD2 ∷ 0x01 ∷ 0x02 ∷ []

-- Four steps of a search with nothing in between.
abbrev pub steps_alone : List Call
steps_alone = replicate 4 (step 0)

-- The instances.
pub record Instances : Type 0 where
  -- Demand 1: the eighth step is refused with IDLE, and leaves the store.
  pub refused : answer_to (step 0) last_store ≡ some (bare IDLE)
  pub store_left : store_after (step 0) last_store ≡ last_store
  -- Demand 2: the paper's structure, at clock 3 with the two copies as its history;
  pub structure : StoreMCS last_store 3 (InHistory (older_copy ∷ newer_copy ∷ []))
  -- the entry of 210 is the paper's upsert, with stamp 2;
  pub upserts : CallUpserts (entering 210) before_entry 2 (InHistory (older_copy ∷ [])) newer_copy
  -- the carry after it carries one copy and discards one, and changes no line's current result.
  pub carry_says : answer_to (carry 0 0) before_carry ≡ some (answer DONE 1 1 0 0)
  pub carry_counts : CarryCounts (carry 0 0) 0 0 before_carry
  pub carry_changes_none : (k : ℕ) → current_in (store_after (carry 0 0) before_carry) k ≡ current_in before_carry k
  -- The search ran from the third step to the seventh. It found the copy of value 210 and stamp 2, where stamp 1 was the latest at its start.
  pub search_runs : SearchRuns (fresh_store 1) before_search (start line_key) while_it_runs line_key 0
  pub latest_at_start : current_in (after_fresh 1 before_search) line_key ≡ some older_copy
  pub search :
      (found : CallSearch (fresh_store 1) before_search (start line_key) while_it_runs (step 0) line_key 0)
      × (found.recency.found ≡ some newer_copy)
  -- Saved, the store gives P2's bytes; they load as it, and are saved again as they are.
  pub saves : image last_store ≡ saved_bytes
  pub loads : load_outcome saved_bytes ≡ loaded_as_itself last_store
  pub saves_again : image (load_outcome saved_bytes).store ≡ saved_bytes
  -- Its page of sample 1 is P3's bytes. They are served as long as it stays,
  pub page_is : page_now last_store 1 ≡ page_kept
  pub served : served_length last_store 1 page_kept ≡ 6
  -- and after another entry of the line never again, be it 210 once more, whatever is called later.
  pub never_again :
      (later : List Call) → DeclaredCalls (entering 210 ∷ later) → StoreGoesOn (entering 210 ∷ later) last_store → (kept notice : Bor (List ℕ))
      → KeptFrom last_store 1 kept.now → PageNotServed (store_after_all (entering 210 ∷ later) last_store) 1 kept notice
  -- Demand 3: the line was entered twice and carried twice along a path of three edges: 2 is at most 3 times 2,
  pub entered_twice : copies_of line_key (copies_so_far seven_steps (fresh_store 1)) ≡ 2
  pub carried_twice : carries_since line_key seven_steps (fresh_store 1) 0 ≡ 2
  pub three_edges : edges_on (plan_of last_store) line_key ≡ 3
  pub at_most :
      carries_since line_key seven_steps (fresh_store 1) 0 ≤ edges_on (plan_of last_store) line_key * copies_of line_key (copies_so_far seven_steps (fresh_store 1))
  -- and two rounds down the whole path reach 6.
  pub six_reached : carries_since line_key (round_calls 1 line_key 210 2) last_store 0 ≡ 6
  -- A search alone ends within four own steps, since the path has four nodes.
  pub search_ends : EndsByCall (store_after (start line_key) (fresh_store 1)) 0 steps_alone
  -- After the load of P2's bytes the count starts again, with the one copy loaded.
  pub counts_again : (z : Store) → copies_so_far (load saved_bytes ∷ []) z ≡ newer_copy ∷ []
