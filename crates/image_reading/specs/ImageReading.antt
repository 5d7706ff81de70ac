-- Reading an image. Document 01, "Bytes": "Load reads from the left, and the first fault wins: for each number CUT, NUMBER, then
-- its own check (FORMAT, PLAN; RULE for clock 0, count above capacity, kind above 1)."
use Rattle.std.specs.Prelude.{List, [], ◌∷◌, ℕ, zero, suc, ltb, eqb, replicate}
use Rattle.number.specs.Number.{narrow}
use Rattle.plan.specs.Plan.{Plan}
use Rattle.plan_table.specs.PlanTable.{plan_numbered}
use Rattle.store.specs.declared.Copy.{Copy}
use Rattle.store.specs.declared.Store.{Store}
use Rattle.store.specs.Answers.{PLAN, FORMAT, RULE}
use Rattle.store.specs.State.{State, slot_count, idle}
use Rattle.store.specs.Layout.{store_of}
use Rattle.store.specs.StoreRules.{plan_number_test}
use Rattle.wire.specs.Reading.{Got, got, bind, number_at, checked}
use Rattle.copies.specs.CopyBytes.{read_copy}
use Rattle.image_writing.specs.Image.{format_number}

-- So many copies one after another.
unfoldable pub read_copies : List ℕ → ℕ → ℕ → Got (List Copy)
read_copies s zero at = got [] at
read_copies s (suc n) at =
    bind (read_copy s at) λ x a.
    bind (read_copies s n a) λ xs b.
    got (x ∷ xs) b

-- A node: its count (RULE above the capacity), then its copies.
unfoldable pub read_node : List ℕ → ℕ → ℕ → Got (List Copy)
read_node s capacity at = bind (number_at narrow s at) λ count a. checked (ltb count (suc capacity)) RULE at (read_copies s count a)

-- The nodes of a plan one after another.
unfoldable pub read_nodes : List ℕ → Plan → ℕ → Got (List (List Copy))
read_nodes s [] at = got [] at
read_nodes s (n ∷ ns) at =
    bind (read_node s n.capacity at) λ xs a.
    bind (read_nodes s ns a) λ xss b.
    got (xs ∷ xss) b

-- A state with no search running.
abbrev pub loaded : ℕ → List (List Copy) → State
loaded clock ns = record { clock = clock; nodes = ns; slots = replicate slot_count idle }

-- After the head the nodes; they make the store.
unfoldable pub nodes_from : List ℕ → ℕ → ℕ → ℕ → Got Store
nodes_from s plan clock at = bind (read_nodes s (plan_numbered plan) at) λ ns end. got (store_of plan (loaded clock ns)) end

-- The clock, RULE for 0, and what follows it.
unfoldable pub clock_from : List ℕ → ℕ → ℕ → Got Store
clock_from s plan at = bind (number_at narrow s at) λ clock a. checked (ltb 0 clock) RULE at (nodes_from s plan clock a)

-- The plan, PLAN for a number that no plan has, and what follows it.
unfoldable pub plan_from : List ℕ → ℕ → Got Store
plan_from s at = bind (number_at narrow s at) λ plan a. checked (plan_number_test plan) PLAN at (clock_from s plan a)

-- The image: its format, FORMAT for another, and what follows it.
unfoldable pub image_at : List ℕ → Got Store
image_at s = bind (number_at narrow s 0) λ format a. checked (eqb format format_number) FORMAT 0 (plan_from s a)
