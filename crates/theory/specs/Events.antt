-- Sequences of steps on a state, over any plan, and what is counted over them.
use Rattle.std.specs.Prelude.{◌≡◌, Bool, true, false, cond, not, ◌&&◌, ◌||◌, ℕ, zero, suc, ◌+◌, eqb, length}
use mathlib.Core.List.{List, [], ◌∷◌, ◌++◌, flatten}
use Rattle.std.proofs.Math.Option.{Option, none, some}
use Rattle.plan.specs.declared.Edge.{Edge}
use Rattle.plan.specs.Plan.{Plan, edges_of, holds, path}
use Rattle.store.specs.declared.Answer.{Answer}
use Rattle.store.specs.declared.Copy.{Copy}
use Rattle.store.specs.Answers.{DONE, GOING, bare}
use Rattle.store.specs.Copies.{Kind, kind_number, value_held, copy, is_some}
use Rattle.store.specs.Copies.Kind.{result}
use Rattle.store.specs.State.{State, line}
use Rattle.store.specs.Calls.{Effect}
use Rattle.steps.specs.Entries.{entry_step}
use Rattle.steps.specs.Carries.{bit, carry_step}
use Rattle.steps.specs.Searches.{start_step, step_step, cancel_step}

-- What a call does to a state: an entry of some kind, a carry, a start, step or cancel of a search, or nothing (a call that only reads, an
-- unknown step).
pub data Event : Type 0 where
  enters : Kind → ℕ → ℕ → Event
  carries : ℕ → ℕ → Event
  starts : ℕ → Event
  steps : ℕ → Event
  cancels : ℕ → Event
  asks : Event

-- What an event does to a state, and what it answers.
unfoldable pub effect : Plan → Event → State → Effect
effect p (enters kind k v) s = entry_step kind k v p s
effect p (carries n i) s = carry_step n i p s
effect p (starts k) s = start_step k p s
effect p (steps i) s = step_step i p s
effect p (cancels i) s = cancel_step i p s
effect p asks s = record { answer = bare DONE; after = s }

-- The state after an event.
abbrev pub after : Plan → Event → State → State
after p e s = (effect p e s).after

-- The answer to an event.
abbrev pub answer_of : Plan → Event → State → Answer
answer_of p e s = (effect p e s).answer

-- The state after a sequence.
unfoldable pub state_after_all : Plan → List Event → State → State
state_after_all p [] s = s
state_after_all p (e ∷ es) s = state_after_all p es (after p e s)

-- The copy that an event enters, if it is an accepted entry.
unfoldable pub entry_of : Plan → Event → State → Option Copy
entry_of p (enters kind k v) s =
    cond (eqb (answer_of p (enters kind k v) s).number DONE) (some (copy k (kind_number kind) (value_held kind v) s.clock)) none
entry_of p (carries n i) s = none
entry_of p (starts k) s = none
entry_of p (steps i) s = none
entry_of p (cancels i) s = none
entry_of p asks s = none

-- A copy as a list of one, or none.
abbrev pub option_list : Option Copy → List Copy
option_list none = []
option_list (some x) = x ∷ []

-- The copies entered by a sequence, in order.
unfoldable pub entered_copies : Plan → List Event → State → List Copy
entered_copies p [] s = []
entered_copies p (e ∷ es) s = option_list (entry_of p e s) ++ entered_copies p es (after p e s)

-- The copies that a state holds. A loaded store counts each of them as an entry, and a fresh one holds none.
unfoldable pub held : State → List Copy
held s = flatten s.nodes

-- It is a copy of the line.
abbrev pub of_line : ℕ → Option Copy → Bool
of_line k none = false
of_line k (some x) = eqb x.key k

-- The accepted entries of a line, withdrawals included.
unfoldable pub entries : Plan → ℕ → List Event → State → ℕ
entries p k [] s = 0
entries p k (e ∷ es) s = bit (of_line k (entry_of p e s)) + entries p k es (after p e s)

-- The copies of a line among some.
unfoldable pub copies_of : ℕ → List Copy → ℕ
copies_of k [] = 0
copies_of k (x ∷ xs) = bit (eqb x.key k) + copies_of k xs

-- The copies of a line that a state holds.
abbrev pub held_of : ℕ → State → ℕ
held_of k s = copies_of k (held s)

-- "A carry carries a line exactly when the node had its copy before and lacks it after."
unfoldable pub carries_line : Plan → ℕ → Event → State → Bool
carries_line p k (carries n i) s = is_some (line s k n) && not (is_some (line (after p (carries n i) s) k n))
carries_line p k (enters kind j v) s = false
carries_line p k (starts j) s = false
carries_line p k (steps i) s = false
carries_line p k (cancels i) s = false
carries_line p k asks s = false

-- The copies of a line carried, summed over a sequence.
unfoldable pub carried : Plan → ℕ → List Event → State → ℕ
carried p k [] s = 0
carried p k (e ∷ es) s = bit (carries_line p k e s) + carried p k es (after p e s)

-- What a line's copies down a path are worth: each the edges left below its node.
unfoldable pub worth_on : (ℕ → Option Copy) → List ℕ → ℕ
worth_on l [] = 0
worth_on l (n ∷ ns) = cond (is_some (l n)) (length ns) 0 + worth_on l ns

-- What a line's copies are worth on its key's path.
abbrev pub worth : Plan → ℕ → State → ℕ
worth p k s = worth_on (line s k) (path p k)

-- The search in a slot still runs after an event: it is not cancelled, and a step of its own does not end it.
unfoldable pub still_runs_after : Plan → ℕ → Event → State → Bool
still_runs_after p i (steps j) s = not (eqb j i) || eqb (answer_of p (steps j) s).number GOING
still_runs_after p i (cancels j) s = not (eqb j i)
still_runs_after p i (enters kind k v) s = true
still_runs_after p i (carries n j) s = true
still_runs_after p i (starts k) s = true
still_runs_after p i asks s = true

-- The search in a slot still runs after each event of a sequence.
unfoldable pub still_runs : Plan → ℕ → List Event → State → Bool
still_runs p i [] s = true
still_runs p i (e ∷ es) s = still_runs_after p i e s && still_runs p i es (after p e s)

-- The event is a step of the search in a slot.
unfoldable pub is_own_step : ℕ → Event → Bool
is_own_step i (steps j) = eqb j i
is_own_step i (enters kind k v) = false
is_own_step i (carries n j) = false
is_own_step i (starts k) = false
is_own_step i (cancels j) = false
is_own_step i asks = false

-- How many steps of a sequence are a search's own.
unfoldable pub own_steps : ℕ → List Event → ℕ
own_steps i [] = 0
own_steps i (e ∷ es) = bit (is_own_step i e) + own_steps i es

-- The event cancels the search in a slot.
unfoldable pub cancels_slot : ℕ → Event → Bool
cancels_slot i (cancels j) = eqb j i
cancels_slot i (steps j) = false
cancels_slot i (enters kind k v) = false
cancels_slot i (carries n j) = false
cancels_slot i (starts k) = false
cancels_slot i asks = false

-- No event of a sequence cancels the search in a slot.
unfoldable pub not_cancelled : ℕ → List Event → Bool
not_cancelled i [] = true
not_cancelled i (e ∷ es) = not (cancels_slot i e) && not_cancelled i es

-- The search in a slot ends in a sequence: by a step of its own that says DONE, having run until then.
pub record EndsIn (p : Plan) (i : ℕ) (es : List Event) (s : State) : Type 0 where
  pub first : List Event
  pub rest : List Event
  pub parts : es ≡ first ++ steps i ∷ rest
  pub until : still_runs p i first s ≡ true
  pub done : (answer_of p (steps i) (state_after_all p first s)).number ≡ DONE

-- The number, among a node's edges, of the first that holds the key.
unfoldable pub edge_for : List Edge → ℕ → ℕ
edge_for [] k = 0
edge_for (e ∷ es) k = cond (holds e k) 0 (suc (edge_for es k))

-- The carries that take a line down from each node of a list to the next.
unfoldable pub carries_down : Plan → ℕ → List ℕ → List Event
carries_down p k [] = []
carries_down p k (n ∷ []) = []
carries_down p k (n ∷ m ∷ ns) = carries n (edge_for (edges_of p n) k) ∷ carries_down p k (m ∷ ns)

-- The sequence that reaches demand 3's bound: enter the line, carry it down its whole path, and again, so many times.
unfoldable pub rounds : Plan → ℕ → ℕ → ℕ → List Event
rounds p k v zero = []
rounds p k v (suc r) = enters result k v ∷ carries_down p k (path p k) ++ rounds p k v r
