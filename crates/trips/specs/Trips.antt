-- What is said of save and load, there and back.
use Rattle.std.specs.Prelude.{◌≡◌, ℕ, ◌≤◌, get_or, replicate}
use Rattle.plan.specs.Sizes.{last_key}
use Rattle.store.specs.declared.Outcome.{Outcome}
use Rattle.store.specs.declared.Store.{Store}
use Rattle.store.specs.Answers.{DONE, answer}
use Rattle.store.specs.State.{slot_count, idle}
use Rattle.copies.specs.CopyBytes.{last_value}
use Rattle.image_loading.specs.Loading.{copies_held}

-- A store of the declared type: its keys and values have 32 bits. (Its other numbers have them by the store rules.)
pub record Declared (z : Store) : Type 0 where
  pub keys_fit : (i : ℕ) → get_or z.keys i 0 ≤ last_key
  pub values_fit : (i : ℕ) → get_or z.values i 0 ≤ last_value

-- A store as it is, but with all slots idle.
unfoldable pub idled : Store → Store
idled z = record z { slots = replicate slot_count idle }

-- "loading a saved store gives it with all slots idle": DONE with the copies held, and the store.
abbrev pub loaded_as_itself : Store → Outcome
loaded_as_itself z = record { answer = answer DONE (copies_held z.counts) 0 0 0; store = idled z }

-- No search runs in a store.
abbrev pub AllIdle : Store → Type 0
AllIdle z = z.slots ≡ replicate slot_count idle

-- A store of the declared type with all slots idle.
pub record IdleAndDeclared (z : Store) : Type 0 where
  pub all-idle : AllIdle z
  pub declared : Declared z
