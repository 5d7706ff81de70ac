-- Enter and withdraw. Document 01, "What each step does": "an entry either way".
use Rattle.std.specs.Prelude.{Bool, cond, ◌||◌, List, [], ◌∷◌, ℕ, suc, ltb, eqb, length, set}
use Rattle.plan.specs.Plan.{Plan, capacity_of}
use Rattle.store.specs.declared.Copy.{Copy}
use Rattle.store.specs.Answers.{DONE, CLOCK, FULL, answer, bare}
use Rattle.store.specs.Copies.{Kind, kind_number, value_held, copy, key_of, find, is_some}
use Rattle.store.specs.Copies.Kind.{withdrawn, result}
use Rattle.store.specs.State.{State, last_clock, node_at}
use Rattle.store.specs.Calls.{Effect}

-- A thing put into a list with rising keys: it replaces the one with its key, or is added before the first larger key.
unfoldable pub put : {A : Type 0} → (A → ℕ) → A → List A → List A
put key x [] = x ∷ []
put key x (y ∷ ys) = cond (ltb (key x) (key y)) (x ∷ y ∷ ys) (cond (eqb (key x) (key y)) (x ∷ ys) (y ∷ put key x ys))

-- The list has the key, or a free place.
unfoldable pub room : {A : Type 0} → (A → ℕ) → ℕ → List A → ℕ → Bool
room key capacity xs k = is_some (find key xs k) || ltb (length xs) capacity

-- A refusal: its number, and the state as it was.
abbrev pub refused : ℕ → State → Effect
refused number s = record { answer = bare number; after = s }

-- "The copy gets the clock as its stamp; the clock goes up by 1."
unfoldable pub entered : Copy → State → State
entered x s = record { clock = suc s.clock; nodes = set s.nodes 0 (put key_of x (node_at s 0)); slots = s.slots }

-- "A root copy of that key is replaced; otherwise one is added if the root has a free place." CLOCK before FULL.
unfoldable pub entry : ℕ → ℕ → ℕ → Plan → State → Effect
entry kind k v p s =
    cond (ltb s.clock last_clock)
    (cond (room key_of (capacity_of p 0) (node_at s 0) k)
    (record { answer = answer DONE s.clock 0 0 0; after = entered (copy k kind v s.clock) s })
    (refused FULL s))
    (refused CLOCK s)

-- An entry by the name of its kind.
abbrev pub entry_step : Kind → ℕ → ℕ → Plan → State → Effect
entry_step kind k v = entry (kind_number kind) k (value_held kind v)

-- Enter: an entry of a result.
abbrev pub enter_step : ℕ → ℕ → Plan → State → Effect
enter_step k v = entry_step result k v

-- Withdraw: an entry without a value.
abbrev pub withdraw_step : ℕ → Plan → State → Effect
withdraw_step k = entry_step withdrawn k 0
