-- What a call returns and leaves, refused or not: one outcome for each call, and each refusal exactly when its line of document 01's table
-- holds and none earlier does.
use Rattle.std.specs.Prelude.{◌≡◌, true, false, List, [], ◌∷◌, ◌≢◌, ◌↔◌, ◌⊎◌, ℕ, ◌<◌, ◌≤◌, length, get_or}
use Rattle.std.specs.Borrow.{Bor}
use Rattle.number.specs.Number.{narrow, EndsEarly, EndsInZero, EndsAbove}
use Rattle.plan.specs.Plan.{size, edges_of}
use Rattle.store.specs.declared.Answer.{Answer}
use Rattle.store.specs.declared.Outcome.{Outcome}
use Rattle.store.specs.declared.Store.{Store}
use Rattle.store.specs.Answers.{
  DONE,
  BADSTORE,
  PLAN,
  CLOCK,
  FULL,
  NODE,
  EDGE,
  SLOTS,
  SLOT,
  IDLE,
  SMALL,
  SAMPLE,
  CUT,
  NUMBER,
  FORMAT,
  RULE,
  TRAIL,
  OP,
  MANY,
  answer,
}
use Rattle.store.specs.Copies.{Kind}
use Rattle.store.specs.State.{last_clock, slot_count, idle, idle_mark}
use Rattle.store.specs.Layout.{plan_of}
use Rattle.store.specs.StoreRules.{StoreRules, good_store}
use Rattle.store.specs.Promises.{fresh_outcome, Freshens, Checks}
use Rattle.steps.specs.Promises.{
  entry_outcome,
  carry_outcome,
  start_outcome,
  step_outcome,
  cancel_outcome,
  look_outcome,
  Enters,
  Withdraws,
  Carries,
  Starts,
  Steps,
  Cancels,
  Looks,
}
use Rattle.image_writing.specs.Image.{image}
use Rattle.image_loading.specs.Loading.{refused_load, load_outcome}
use Rattle.image.specs.Promises.{save_outcome, Saves, Loads}
use Rattle.page_lines.specs.PageLine.{last_sample}
use Rattle.page.specs.Promises.{page_now, page_outcome, Pages, Serves, ServesLength}
use Rattle.schedule.specs.declared.Step.{Step}
use Rattle.schedule.specs.Schedule.{most_steps}
use Rattle.schedule.specs.Running.{run_outcome}
use Rattle.schedule.specs.Promises.{decode_outcome, Decodes, Runs}
use Rattle.transcript.specs.Promises.{Transcribes}
use Rattle.export.specs.Promises.{FreshensBehind, StepsBehind, LoadsBehind}
use Rattle.refusals.specs.Given.{Among, entry_answers, carry_answers, start_answers, step_answers, cancel_answers, IsPlan, RootFull, Unknown}
use Rattle.refusals.specs.Images.{Own, InImage, BadFormat, BadPlan, RuleAt, Trails, BreaksWhole}
use Rattle.refusals.specs.Schedules.{InSchedule, BadSchedulePlan, FirstUnknown, AfterMost}

-- "Any two outcomes allowed are equal", by the promise of each public call; of serve, whose outcome is lent, the pointer and the bytes.
pub record OneOutcome : Type 0 where
  pub fresh : (plan : ℕ) (r q : Outcome) → Freshens plan r → Freshens plan q → r ≡ q
  pub enter : (store : Store) (key value : ℕ) (r q : Outcome) → Enters store key value r → Enters store key value q → r ≡ q
  pub withdraw : (store : Store) (key : ℕ) (r q : Outcome) → Withdraws store key r → Withdraws store key q → r ≡ q
  pub carry : (store : Store) (node edge : ℕ) (r q : Outcome) → Carries store node edge r → Carries store node edge q → r ≡ q
  pub start : (store : Store) (key : ℕ) (r q : Outcome) → Starts store key r → Starts store key q → r ≡ q
  pub step : (store : Store) (slot : ℕ) (r q : Outcome) → Steps store slot r → Steps store slot q → r ≡ q
  pub cancel : (store : Store) (slot : ℕ) (r q : Outcome) → Cancels store slot r → Cancels store slot q → r ≡ q
  pub check : (store : Store) (r q : Answer) → Checks store r → Checks store q → r ≡ q
  pub look : (store : Store) (key : ℕ) (r q : Answer) → Looks store key r → Looks store key q → r ≡ q
  pub load : (bytes : List ℕ) (r q : Outcome) → Loads bytes r → Loads bytes q → r ≡ q
  pub run : (store : Store) (list : List Step) (place : ℕ) (r q : Outcome) → Runs store list place r → Runs store list place q → r ≡ q
  -- With a buffer or a list: the answer, and the bytes or records at exit.
  pub save :
      (store : Store) (before : List ℕ) (r q : Answer) (after other : List ℕ) → Saves store before r after → Saves store before q other
      → (r ≡ q) × (after ≡ other)
  pub page :
      (store : Store) (sample : ℕ) (before : List ℕ) (r q : Answer) (after other : List ℕ) → Pages store sample before r after
      → Pages store sample before q other → (r ≡ q) × (after ≡ other)
  pub decode :
      (bytes : List ℕ) (before : List Step) (r q : Answer) (after other : List Step) → Decodes bytes before r after
      → Decodes bytes before q other → (r ≡ q) × (after ≡ other)
  pub serve :
      (store : Store) (sample : ℕ) (kept notice r q : Bor (List ℕ)) → Serves store sample kept notice r → Serves store sample kept notice q
      → (r.ref_ptr ≡ q.ref_ptr) × (r.now ≡ q.now)
  -- Of a schedule's text its length and the buffer at exit.
  pub transcribe :
      (bytes before : List ℕ) (r q : ℕ) (after other : List ℕ) → Transcribes bytes before r after → Transcribes bytes before q other
      → (r ≡ q) × (after ≡ other)
  -- From C: the answer or the length, and the store behind the pointer at exit.
  pub fresh_behind :
      (plan : ℕ) (r q : Answer) (after other : Store) → FreshensBehind plan r after → FreshensBehind plan q other → (r ≡ q) × (after ≡ other)
  pub step_behind :
      (before : Store) (number x y : ℕ) (r q : Answer) (after other : Store) → StepsBehind before number x y r after
      → StepsBehind before number x y q other → (r ≡ q) × (after ≡ other)
  pub load_behind :
      (bytes : List ℕ) (r q : Answer) (after other : Store) → LoadsBehind bytes r after → LoadsBehind bytes q other
      → (r ≡ q) × (after ≡ other)
  pub length_served :
      (store : Store) (sample : ℕ) (kept : List ℕ) (r q : ℕ) → ServesLength store sample kept r → ServesLength store sample kept q → r ≡ q

-- "A refusal is given exactly when its line holds and none earlier in the order does."
pub record EachRefusal : Type 0 where
  -- BADSTORE: "a store rule is broken"
  pub rule_broken : (z : Store) → (good_store z ≡ false) ↔ (StoreRules z → ⊥)
  pub entry_badstore :
      (z : Store) (kind : Kind) (key value : ℕ) → ((entry_outcome kind z key value).answer.number ≡ BADSTORE) ↔ (good_store z ≡ false)
  pub carry_badstore : (z : Store) (node edge : ℕ) → ((carry_outcome z node edge).answer.number ≡ BADSTORE) ↔ (good_store z ≡ false)
  pub start_badstore : (z : Store) (key : ℕ) → ((start_outcome z key).answer.number ≡ BADSTORE) ↔ (good_store z ≡ false)
  pub step_badstore : (z : Store) (slot : ℕ) → ((step_outcome z slot).answer.number ≡ BADSTORE) ↔ (good_store z ≡ false)
  pub cancel_badstore : (z : Store) (slot : ℕ) → ((cancel_outcome z slot).answer.number ≡ BADSTORE) ↔ (good_store z ≡ false)
  pub check_done : (z : Store) (r : Answer) → Checks z r → (r.number ≡ DONE) ↔ StoreRules z
  pub look_badstore : (z : Store) (key : ℕ) → ((look_outcome z key).number ≡ BADSTORE) ↔ (good_store z ≡ false)
  pub save_badstore : (z : Store) (before : List ℕ) → ((save_outcome z before).0.number ≡ BADSTORE) ↔ (good_store z ≡ false)
  pub page_badstore :
      (z : Store) (sample : ℕ) (before : List ℕ) → ((page_outcome z sample before).0.number ≡ BADSTORE) ↔ (good_store z ≡ false)
  pub run_badstore :
      (z : Store) (list : List Step) (place : ℕ) → ((run_outcome z list place).answer.number ≡ BADSTORE) ↔ (good_store z ≡ false)
  -- PLAN: "plan not 1 to 3"
  pub fresh_plan : (plan : ℕ) → ((fresh_outcome plan).answer.number ≡ PLAN) ↔ (IsPlan plan → ⊥)
  pub load_plan : (bytes : List ℕ) (at : ℕ) → (load_outcome bytes ≡ refused_load PLAN at) ↔ BadPlan bytes at
  pub decode_plan :
      (bytes : List ℕ) (before : List Step) (at : ℕ)
      → ((decode_outcome bytes before).0 ≡ answer PLAN at 0 0 0) ↔ ((most_steps ≤ length before) × BadSchedulePlan bytes at)
  -- CLOCK: "entry at clock 4294967295"
  pub entry_clock :
      (z : Store) (kind : Kind) (key value : ℕ)
      → ((entry_outcome kind z key value).answer.number ≡ CLOCK) ↔ ((good_store z ≡ true) × (z.clock ≡ last_clock))
  -- FULL: "root full and lacks the key"
  pub entry_full :
      (z : Store) (kind : Kind) (key value : ℕ)
      → ((entry_outcome kind z key value).answer.number ≡ FULL) ↔ ((good_store z ≡ true) × RootFull z key)
  -- NODE: "plan has no such node"
  pub carry_node :
      (z : Store) (node edge : ℕ)
      → ((carry_outcome z node edge).answer.number ≡ NODE) ↔ ((good_store z ≡ true) × (size (plan_of z) ≤ node))
  -- EDGE: "node has no such edge"
  pub carry_edge :
      (z : Store) (node edge : ℕ)
      → ((carry_outcome z node edge).answer.number ≡ EDGE)
      ↔ ((good_store z ≡ true) × ((node < size (plan_of z)) × (length (edges_of (plan_of z) node) ≤ edge)))
  -- SLOTS: "all 8 running"
  pub start_slots :
      (z : Store) (key : ℕ)
      → ((start_outcome z key).answer.number ≡ SLOTS)
      ↔ ((good_store z ≡ true) × ((i : ℕ) → i < slot_count → (get_or z.slots i idle).running ≢ idle_mark))
  -- SLOT: "slot above 7"
  pub step_slot : (z : Store) (slot : ℕ) → ((step_outcome z slot).answer.number ≡ SLOT) ↔ ((good_store z ≡ true) × (slot_count ≤ slot))
  pub cancel_slot : (z : Store) (slot : ℕ) → ((cancel_outcome z slot).answer.number ≡ SLOT) ↔ ((good_store z ≡ true) × (slot_count ≤ slot))
  -- IDLE: "slot not running"
  pub step_idle :
      (z : Store) (slot : ℕ)
      → ((step_outcome z slot).answer.number ≡ IDLE)
      ↔ ((good_store z ≡ true) × ((slot < slot_count) × ((get_or z.slots slot idle).running ≡ idle_mark)))
  pub cancel_idle :
      (z : Store) (slot : ℕ)
      → ((cancel_outcome z slot).answer.number ≡ IDLE)
      ↔ ((good_store z ≡ true) × ((slot < slot_count) × ((get_or z.slots slot idle).running ≡ idle_mark)))
  -- SMALL: "buffer too short"; then a is the bytes or records needed
  pub save_small :
      (z : Store) (before : List ℕ)
      → ((save_outcome z before).0.number ≡ SMALL) ↔ ((good_store z ≡ true) × (length before < length (image z)))
  pub save_needs :
      (z : Store) (before : List ℕ)
      → (save_outcome z before).0.number ≡ SMALL → (save_outcome z before).0 ≡ answer SMALL (length (image z)) 0 0 0
  pub page_small :
      (z : Store) (sample : ℕ) (before : List ℕ)
      → ((page_outcome z sample before).0.number ≡ SMALL)
      ↔ ((good_store z ≡ true) × ((sample ≤ last_sample) × (length before < length (page_now z sample))))
  pub page_needs :
      (z : Store) (sample : ℕ) (before : List ℕ)
      → (page_outcome z sample before).0.number ≡ SMALL → (page_outcome z sample before).0 ≡ answer SMALL (length (page_now z sample)) 0 0 0
  pub decode_small : (bytes : List ℕ) (before : List Step) → ((decode_outcome bytes before).0.number ≡ SMALL) ↔ (length before < most_steps)
  pub decode_needs :
      (bytes : List ℕ) (before : List Step)
      → (decode_outcome bytes before).0.number ≡ SMALL → (decode_outcome bytes before).0 ≡ answer SMALL most_steps 0 0 0
  -- SAMPLE: "sample too large"
  pub page_sample :
      (z : Store) (sample : ℕ) (before : List ℕ)
      → ((page_outcome z sample before).0.number ≡ SAMPLE) ↔ ((good_store z ≡ true) × (last_sample < sample))
  -- CUT: "bytes end inside or before a number"
  pub load_cut :
      (bytes : List ℕ) (at : ℕ)
      → (load_outcome bytes ≡ refused_load CUT at) ↔ ((own : Own) × InImage bytes own at × EndsEarly narrow.more bytes at)
  pub decode_cut :
      (bytes : List ℕ) (before : List Step) (at : ℕ)
      → ((decode_outcome bytes before).0 ≡ answer CUT at 0 0 0)
      ↔ ((most_steps ≤ length before) × (InSchedule bytes at × EndsEarly narrow.more bytes at))
  -- NUMBER: "not shortest, or above 32 bits"
  pub load_number :
      (bytes : List ℕ) (at : ℕ)
      → (load_outcome bytes ≡ refused_load NUMBER at)
      ↔ ((own : Own) × InImage bytes own at × (EndsInZero narrow.more bytes at ⊎ EndsAbove narrow.last narrow.more bytes at))
  pub decode_number :
      (bytes : List ℕ) (before : List Step) (at : ℕ)
      → ((decode_outcome bytes before).0 ≡ answer NUMBER at 0 0 0)
      ↔ ((most_steps ≤ length before)
      × (InSchedule bytes at × (EndsInZero narrow.more bytes at ⊎ EndsAbove narrow.last narrow.more bytes at)))
  -- FORMAT: "format not 1"
  pub load_format : (bytes : List ℕ) (at : ℕ) → (load_outcome bytes ≡ refused_load FORMAT at) ↔ BadFormat bytes at
  -- RULE: "image breaks a store rule", at a number, or at its end
  pub load_rule : (bytes : List ℕ) (at : ℕ) → (load_outcome bytes ≡ refused_load RULE at) ↔ (RuleAt bytes at ⊎ BreaksWhole bytes at)
  -- TRAIL: "bytes after the image"
  pub load_trail : (bytes : List ℕ) (at : ℕ) → (load_outcome bytes ≡ refused_load TRAIL at) ↔ Trails bytes at
  -- OP: "unknown step number, or a place outside the list"
  pub decode_op :
      (bytes : List ℕ) (before : List Step) (at : ℕ)
      → ((decode_outcome bytes before).0 ≡ answer OP at 0 0 0) ↔ ((most_steps ≤ length before) × FirstUnknown bytes at)
  pub run_op :
      (z : Store) (list : List Step) (place : ℕ)
      → ((run_outcome z list place).answer.number ≡ OP) ↔ ((good_store z ≡ true) × Unknown list place)
  pub run_op_place :
      (z : Store) (list : List Step) (place : ℕ)
      → (run_outcome z list place).answer.number ≡ OP → (run_outcome z list place).answer ≡ answer OP place 0 0 0
  -- MANY: "bytes after 256 steps"
  pub decode_many :
      (bytes : List ℕ) (before : List Step) (at : ℕ)
      → ((decode_outcome bytes before).0 ≡ answer MANY at 0 0 0) ↔ ((most_steps ≤ length before) × AfterMost bytes at)

-- A call gives no number but those of its own line of the table.
pub record NoOtherAnswer : Type 0 where
  pub entry : (z : Store) (kind : Kind) (key value : ℕ) → Among (BADSTORE ∷ entry_answers) (entry_outcome kind z key value).answer
  pub carry : (z : Store) (node edge : ℕ) → Among (BADSTORE ∷ carry_answers) (carry_outcome z node edge).answer
  pub start : (z : Store) (key : ℕ) → Among (BADSTORE ∷ start_answers) (start_outcome z key).answer
  pub step : (z : Store) (slot : ℕ) → Among (BADSTORE ∷ step_answers) (step_outcome z slot).answer
  pub cancel : (z : Store) (slot : ℕ) → Among (BADSTORE ∷ cancel_answers) (cancel_outcome z slot).answer
  pub check : (z : Store) (r : Answer) → Checks z r → (r.number ≡ DONE) ⊎ (r.number ≡ BADSTORE)
  pub look : (z : Store) (key : ℕ) → Among (BADSTORE ∷ DONE ∷ []) (look_outcome z key)
  pub save : (z : Store) (before : List ℕ) → Among (BADSTORE ∷ SMALL ∷ DONE ∷ []) (save_outcome z before).0
  pub load : (bytes : List ℕ) → Among (DONE ∷ TRAIL ∷ CUT ∷ NUMBER ∷ FORMAT ∷ PLAN ∷ RULE ∷ []) (load_outcome bytes).answer
  pub page : (z : Store) (sample : ℕ) (before : List ℕ) → Among (BADSTORE ∷ SAMPLE ∷ SMALL ∷ DONE ∷ []) (page_outcome z sample before).0
