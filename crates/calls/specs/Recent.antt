-- Search recency on the declared store: a search for key k in slot i, started by a call after the calls `before`, that ran on through the
-- calls `between`, in which the store was not replaced, and then ended by a call that is a step of its own.
use Rattle.std.specs.Prelude.{◌≡◌, true, ◌⊎◌, ℕ, suc, ◌≤◌, length}
use mathlib.Core.List.{List, [], ◌∷◌, ◌++◌, Memᴰ}
use Rattle.std.proofs.Math.Option.{Option, some}
use Rattle.plan.specs.Plan.{path}
use Rattle.store.specs.declared.Copy.{Copy}
use Rattle.store.specs.declared.Store.{Store}
use Rattle.store.specs.Answers.{DONE, answer}
use Rattle.store.specs.Copies.{stamp_of}
use Rattle.store.specs.State.{current}
use Rattle.store.specs.Layout.{plan_of, state_of}
use Rattle.steps.specs.Searches.{ended}
use Rattle.theory.specs.Events.{held, still_runs, own_steps}
use Rattle.theory.specs.Events.Event.{starts, steps}
use Rattle.theory.specs.Paper.{InHistory, ContentsInReach}
use Rattle.calls.specs.PublicCalls.{Call, store_after, answer_to, Done, store_after_all}
use Rattle.calls.specs.Following.{event_of, events_of, same_store, history}

-- A line's current result in a store.
abbrev pub current_in : Store → ℕ → Option Copy
current_in z k = current (plan_of z) (state_of z) k

-- The stamp of what is in reach of a node of a store.
abbrev pub reach_stamp : Store → ℕ → ℕ → ℕ
reach_stamp z n k = stamp_of (ContentsInReach (plan_of z) (state_of z) n k)

-- The store at the search's start.
abbrev pub at_start : Store → List Call → Store
at_start z before = store_after_all before z

-- The store after the call that started the search.
abbrev pub started : Store → List Call → Call → Store
started z before c = store_after c (at_start z before)

-- The store at the search's last step.
abbrev pub at_end : Store → List Call → Call → List Call → Store
at_end z before c between = store_after_all between (started z before c)

-- A search that runs: a call started it in its slot, and it still runs after the calls since, in which the store was not replaced.
pub record SearchRuns (z : Store) (before : List Call) (c : Call) (between : List Call) (k i : ℕ) : Type 0 where
  pub is_start : event_of c ≡ starts k
  pub starting : answer_to c (at_start z before) ≡ some (answer DONE i 0 0 0)
  pub stays : same_store between ≡ true
  pub still_running : still_runs (plan_of (at_start z before)) i (events_of between) (state_of (started z before c)) ≡ true

-- What is said of a search whose last step is the call d.
pub record StoreRecency (z : Store) (before : List Call) (c : Call) (between : List Call) (d : Call) (k i : ℕ) : Type 0 where
  -- The answer is of what was found, and its visits are the search's own steps, at most as many as the key's path has nodes.
  pub found : Option Copy
  pub says : answer_to d (at_end z before c between) ≡ some (ended found (suc (own_steps i (events_of between))))
  pub in_time : suc (own_steps i (events_of between)) ≤ length (path (plan_of (at_start z before)) k)
  -- What was found was really entered or loaded, or is never;
  pub real : InHistory (history (before ++ c ∷ between) z (held (state_of z))) k found
  -- it is nothing older than the line's latest at the search's start;
  pub no_older : stamp_of (current_in (at_start z before) k) ≤ stamp_of found
  -- it is the line's current result at the search's start, or a copy that was entered between start and end;
  pub at_start_or_between :
      (found ≡ current_in (at_start z before) k) ⊎ ((x : Copy) × (found ≡ some x) × Memᴰ x (history between (started z before c) []))
  -- and the line's current result at some point while the search ran.
  pub at_some_point :
      (first rest : List Call) × (between ≡ first ++ rest) × (found ≡ current_in (store_after_all first (started z before c)) k)

-- A finished search of a sequence of calls: the call that started it, and what is said of it.
pub record Finished (z : Store) (cs : List Call) (d : Call) (i : ℕ) : Type 0 where
  pub before : List Call
  pub begins : Call
  pub between : List Call
  pub key : ℕ
  pub parts : cs ≡ before ++ begins ∷ between
  pub runs : SearchRuns z before begins between key i
  pub recency : StoreRecency z before begins between d key i

-- The search in slot i of a store ends in a sequence of calls: by one of them that is a step of its own and says DONE, having run until
-- then.
pub record EndsByCall (z : Store) (i : ℕ) (cs : List Call) : Type 0 where
  pub earlier : List Call
  pub call : Call
  pub later : List Call
  pub parts : cs ≡ earlier ++ call ∷ later
  pub is_step : event_of call ≡ steps i
  pub until : still_runs (plan_of z) i (events_of earlier) (state_of z) ≡ true
  pub done : Done call (store_after_all earlier z)
