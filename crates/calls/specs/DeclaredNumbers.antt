-- Calls with numbers of their declared types: keys and values have 32 bits, and bytes have 8.
use mathlib.Core.List.{List, Memᴰ}
use Rattle.std.specs.Prelude.{◌≤◌, get_or}
use Rattle.number.specs.Number.{Bytes}
use Rattle.plan.specs.Sizes.{last_key}
use Rattle.store.specs.Copies.{value_held}
use Rattle.copies.specs.CopyBytes.{last_value}
use Rattle.schedule.specs.declared.Step.{Step}
use Rattle.schedule.specs.Running.{no_step}
use Rattle.calls.specs.PublicCalls.{Call}
use Rattle.calls.specs.PublicCalls.Call.{fresh, load, enter, carry, start, step, cancel, reads, run}

-- The two numbers of a schedule's record have 32 bits.
abbrev pub DeclaredStep : Step → Type 0
DeclaredStep r = (r.x ≤ last_key) × (r.y ≤ last_value)

-- The numbers of a call that may get into a copy have their types. (Nothing is asked of the others.)
abbrev pub DeclaredCall : Call → Type 0
DeclaredCall (load bytes) = Bytes bytes
DeclaredCall (enter kind k v) = (k ≤ last_key) × (value_held kind v ≤ last_value)
DeclaredCall (run list place) = DeclaredStep (get_or list place no_step)
DeclaredCall (fresh plan) = Unit {0}
DeclaredCall (carry n i) = Unit {0}
DeclaredCall (start k) = Unit {0}
DeclaredCall (step i) = Unit {0}
DeclaredCall (cancel i) = Unit {0}
DeclaredCall (reads r) = Unit {0}

-- Each call of a sequence has them.
abbrev pub DeclaredCalls : List Call → Type 0
DeclaredCalls cs = (c : Call) → Memᴰ c cs → DeclaredCall c
