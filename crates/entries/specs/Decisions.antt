-- What an entry is decided to be, and its answer.
use Rattle.std.specs.Prelude.{◌≡◌, true, ℕ, ◌+◌, ◌<◌, ◌≤◌, set, Option, Some, None, IfSome, Result, Ok, Err}
use Rattle.plan.specs.Plan.{capacity_of}
use Rattle.store.specs.declared.Answer.{Answer}
use Rattle.store.specs.declared.Outcome.{Outcome}
use Rattle.store.specs.declared.Store.{Store}
use Rattle.store.specs.declared.refusal.Refusal.{Refusal}
use Rattle.store.specs.Answers.{DONE, FULL, answer, bare}
use Rattle.store.specs.Layout.{plan_of, width}
use Rattle.store.specs.Refusals.{refusal_number}
use Rattle.store.specs.State.{last_clock}
use Rattle.store.specs.StoreRules.{good_store}
use Rattle.store.specs.Workers.{opened}
use Rattle.steps.specs.Promises.{entry_numbered}
use Rattle.entries.specs.declared.decision.Place.{Place}

-- A good store that has the counts and the keys of s, a root of this capacity, and a clock that can still go up.
pub record Enterable (s : Store) (capacity : ℕ) (z : Store) : Type 0 where
  pub good : good_store z ≡ true
  pub early : z.clock < last_clock
  pub counts_are : z.counts ≡ s.counts
  pub keys_are : z.keys ≡ s.keys
  pub capacity_is : capacity ≡ capacity_of (plan_of z) 0

-- The outcome of an accepted entry by its place: the stamp is the clock, which goes up by 1.
abbrev pub acceptance : Place → Store → ℕ → ℕ → ℕ → Outcome
acceptance d z kind key value =
    record {
      answer = answer DONE z.clock 0 0 0;
      store = record {
        plan = z.plan;
        clock = z.clock + 1;
        counts = set z.counts 0 d.count;
        keys = opened z.keys d.at d.end key;
        kinds = opened z.kinds d.at d.end kind;
        values = opened z.values d.at d.end value;
        stamps = opened z.stamps d.at d.end z.clock;
        slots = z.slots;
      };
    }

-- The outcome by what is decided: accepted at a place, or FULL, and the store as it was.
abbrev pub decided_outcome : Option Place → Store → ℕ → ℕ → ℕ → Outcome
decided_outcome (Some d) z kind key value = acceptance d z kind key value
decided_outcome None z kind key value = record { answer = bare FULL; store = z }

-- The decision for a key is right for a store: the entry is accepted at places of the root, or FULL, whatever its kind and its value.
pub record DecidesFor (z : Store) (key : ℕ) (o : Option Place) : Type 0 where
  pub in_root : IfSome o (λ d. (d.at ≤ d.end) × (d.end < width))
  pub outcome : (kind value : ℕ) → decided_outcome o z kind key value ≡ entry_numbered kind z key value

-- It is right for every store that has the counts and the keys of s.
abbrev pub Decides : Store → ℕ → ℕ → Option Place → Type 0
Decides s capacity key o = (z : Store) → Enterable s capacity z → DecidesFor z key o

-- The answer of a call that is done or refused.
abbrev pub answered : Result Answer Refusal → Answer
answered (Ok a) = a
answered (Err why) = bare (refusal_number why)
