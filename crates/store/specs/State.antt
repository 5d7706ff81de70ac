-- The state of a store: each node's copies, the clock and the searches. Document 01, "Lines, copies, plans".
use Rattle.std.specs.Prelude.{List, [], ◌∷◌, ℕ, get_or, replicate}
use Rattle.std.proofs.Math.Option.{Option, none, some}
use Rattle.plan.specs.Plan.{Hop}
use Rattle.std.specs.Prelude.{Some}
use Rattle.plan.specs.Plan.{Plan, size, walk}
use Rattle.store.specs.declared.Copy.{Copy}
use Rattle.store.specs.declared.Slot.{Slot}
use Rattle.store.specs.Copies.{no_copy, key_of, find}

-- The clock's last value.
abbrev pub last_clock : ℕ
last_clock = 4294967295

-- The slot count.
abbrev pub slot_count : ℕ
slot_count = 8

-- The copies of each node by rising key, the clock, and the search slots.
pub record State : Type 0 where
  pub clock : ℕ
  pub nodes : List (List Copy)
  pub slots : List Slot

-- The copies of a node.
abbrev pub node_at : State → ℕ → List Copy
node_at s n = get_or s.nodes n []

-- The copy at place i of node n.
abbrev pub copy_at : State → ℕ → ℕ → Copy
copy_at s n i = get_or (node_at s n) i no_copy

-- A slot's mark: no search runs in it,
abbrev pub idle_mark : ℕ
idle_mark = 0

-- or one runs.
abbrev pub running_mark : ℕ
running_mark = 1

-- An idle slot is all zero.
abbrev pub idle : Slot
idle = record { running = idle_mark; key = 0; node = 0; visits = 0 }

-- A slot by its number.
abbrev pub slot_at : State → ℕ → Slot
slot_at s i = get_or s.slots i idle

-- "Fresh: clock 1, nothing held, all slots idle."
unfoldable pub fresh : Plan → State
fresh p = record { clock = 1; nodes = replicate (size p) []; slots = replicate slot_count idle }

-- One line's view: the node's copy of the key, if it has one.
abbrev pub line : State → ℕ → ℕ → Option Copy
line s k n = find key_of (node_at s n) k

-- The first of two, if there is one.
abbrev pub or_else : Option Copy → Option Copy → Option Copy
or_else none o = o
or_else (some x) o = some x

-- The first copy that a line has in some nodes, taken in order.
unfoldable pub first_on : (ℕ → Option Copy) → List ℕ → Option Copy
first_on l [] = none
first_on l (n ∷ ns) = or_else (l n) (first_on l ns)

-- Contents in reach: the first copy of the key from a next step on, down its path.
unfoldable pub in_reach : Plan → State → ℕ → Hop → Option Copy
in_reach p s k h = first_on (line s k) (walk p k (size p) h)

-- A line's current result: the first copy on its path.
abbrev pub current : Plan → State → ℕ → Option Copy
current p s k = in_reach p s k (Some 0)
