-- What a look says of a state.
use Rattle.std.specs.Prelude.{◌≡◌, List, ℕ, suc, ◌<◌, ◌≤◌, length, get_or}
use Rattle.std.proofs.Math.Option.{Option, none}
use Rattle.plan.specs.Plan.{Plan, path}
use Rattle.store.specs.declared.Copy.{Copy}
use Rattle.store.specs.State.{State, line, first_on, current}
use Rattle.steps.specs.Searches.{ended, look_answer}

-- The visits until a copy is found: in every node before the last one visited there is none, and in that one the first copy, or there is
-- none in any.
pub record VisitsUntil (l : ℕ → Option Copy) (ns : List ℕ) (visits : ℕ) : Type 0 where
  pub within : visits ≤ length ns
  pub before : (j : ℕ) → suc j < visits → l (get_or ns j 0) ≡ none
  pub last_visit : (j : ℕ) → suc j ≡ visits → l (get_or ns j 0) ≡ first_on l ns
  pub or_all : first_on l ns ≡ none → visits ≡ length ns

-- A look's answer: the line's current result, and the visits until it is found.
pub record LookAnswer (p : Plan) (s : State) (k : ℕ) : Type 0 where
  pub visits : ℕ
  pub some_visit : 1 ≤ visits
  pub until : VisitsUntil (line s k) (path p k) visits
  pub says : look_answer k p s ≡ ended (current p s k) visits
