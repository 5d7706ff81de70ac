-- Searches (start, step, cancel) and look. Document 01, "What each step does".
use Rattle.std.specs.Prelude.{cond, List, [], ◌∷◌, ℕ, suc, ltb, eqb, length, set}
use Rattle.std.proofs.Math.Option.{Option, none, some}
use Rattle.plan.specs.Plan.{Hop}
use Rattle.std.specs.Prelude.{Some, None}
use Rattle.plan.specs.Plan.{Plan, next, path}
use Rattle.store.specs.declared.Answer.{Answer}
use Rattle.store.specs.declared.Copy.{Copy}
use Rattle.store.specs.declared.Slot.{Slot}
use Rattle.store.specs.Answers.{DONE, GOING, SLOTS, SLOT, IDLE, answer, bare}
use Rattle.store.specs.Copies.{is_some}
use Rattle.store.specs.State.{State, slot_at, idle_mark, running_mark, idle, line, current}
use Rattle.store.specs.Calls.{Effect}
use Rattle.steps.specs.Entries.{refused}

-- A running search: its key, the node that it stands at, and the nodes visited so far.
abbrev pub running : ℕ → ℕ → ℕ → Slot
running k n visits = record { running = running_mark; key = k; node = n; visits = visits }

-- The state with another slot i.
abbrev pub with_slot : ℕ → Slot → State → State
with_slot i q s = record { clock = s.clock; nodes = s.nodes; slots = set s.slots i q }

-- The place of the lowest idle slot, or the number of slots.
unfoldable pub lowest_idle : List Slot → ℕ
lowest_idle [] = 0
lowest_idle (q ∷ qs) = cond (eqb q.running idle_mark) 0 (suc (lowest_idle qs))

-- "The lowest idle slot takes the key, at the root, 0 visits."
unfoldable pub start_step : ℕ → Plan → State → Effect
start_step k p s =
    let i = lowest_idle s.slots in
    cond (ltb i (length s.slots))
    (record { answer = answer DONE i 0 0 0; after = with_slot i (running k 0 0) s })
    (refused SLOTS s)

-- The answer of an ended search or look: "0 never, 1 withdrawn or 2 result, then value, stamp, visits".
abbrev pub ended : Option Copy → ℕ → Answer
ended none visits = answer DONE 0 0 0 visits
ended (some x) visits = answer DONE (suc x.kind) x.value x.stamp visits

-- "Found, a withdrawn copy included, ends the search. Nothing: the search goes to the key's next node, or ends as never entered.
-- Ending makes the slot idle."
abbrev pub visited : Option Copy → Hop → ℕ → Slot → State → Effect
visited (some x) h i q s = record { answer = ended (some x) (suc q.visits); after = with_slot i idle s }
visited none None i q s = record { answer = ended none (suc q.visits); after = with_slot i idle s }
visited none (Some t) i q s =
    record { answer = answer GOING t (suc q.visits) 0 0; after = with_slot i (running q.key t (suc q.visits)) s }

-- What is done with a running slot: SLOT before IDLE.
unfoldable pub with_running : (Slot → Effect) → ℕ → State → Effect
with_running f i s =
    cond (ltb i (length s.slots)) (cond (eqb (slot_at s i).running idle_mark) (refused IDLE s) (f (slot_at s i))) (refused SLOT s)

-- "One node is visited."
unfoldable pub step_step : ℕ → Plan → State → Effect
step_step i p s = with_running (λ q. visited (line s q.key q.node) (next p q.node q.key) i q s) i s

-- "The slot becomes idle."
unfoldable pub cancel_step : ℕ → Plan → State → Effect
cancel_step i p s = with_running (λ q. record { answer = bare DONE; after = with_slot i idle s }) i s

-- The nodes visited until a copy is found, or all of them.
unfoldable pub visits_on : (ℕ → Option Copy) → List ℕ → ℕ
visits_on l [] = 0
visits_on l (n ∷ ns) = suc (cond (is_some (l n)) 0 (visits_on l ns))

-- "A whole search at once, no slot used."
unfoldable pub look_answer : ℕ → Plan → State → Answer
look_answer k p s = ended (current p s k) (visits_on (line s k) (path p k))
