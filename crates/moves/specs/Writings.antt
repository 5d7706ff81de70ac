-- What the writing of a carry promises: each column after it, by the two lists of places.
use Rattle.std.specs.Prelude.{List, ◌++◌, map, ℕ, ◌+◌, ◌-◌, ◌<◌, ◌≤◌, length, replicate}
use Rattle.std.proofs.lemmas.List.Edits.{sets}
use Rattle.store.specs.Layout.{places}
use Rattle.store.specs.Workers.{Within, number_in}
use Rattle.moves.specs.declared.Span.{Span}

-- The numbers of a column at the places of a list.
abbrev pub gather : List ℕ → List ℕ → List ℕ
gather column list = map (number_in column) list

-- No place of the list lies beyond its goal: the goals are the places from start on.
abbrev pub Under : ℕ → List ℕ → Type 0
Under start list = (i : ℕ) → i < length list → number_in list i ≤ start + i

-- No place of the list lies before its goal.
abbrev pub Over : ℕ → List ℕ → Type 0
Over start list = (i : ℕ) → i < length list → start + i ≤ number_in list i

-- A list whose numbers can go to the places from start on, from the last to the first.
abbrev pub ToBack : ℕ → List ℕ → Type 0
ToBack start list = (start + length list ≤ places) × Under start list

-- The same from the first to the last.
abbrev pub ToFront : ℕ → List ℕ → Type 0
ToFront start list = (start + length list ≤ places) × Over start list × Within list places

-- Two lists by which a column can be written in place: of a node whose copies have these places, and a target from `start` on.
pub record Movable (stay target : List ℕ) (node : Span) (start : ℕ) : Type 0 where
  pub stays : length stay ≤ node.count
  pub apart : node.from + node.count ≤ start
  pub room : start + length target ≤ places
  pub under : Under start target
  pub over : Over node.from stay
  pub low : Within stay start

-- The column after a carry: the target's numbers at its places, and at the node's those that stay, with zeros behind them.
unfoldable pub carried_column : List ℕ → List ℕ → List ℕ → Span → ℕ → List ℕ
carried_column column stay target node start =
    sets (sets column start (gather column target)) node.from (gather column stay ++ replicate (node.count - length stay) 0)
