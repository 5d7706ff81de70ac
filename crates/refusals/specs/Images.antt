-- Where reading an image stops, from the left. Document 01, "Bytes": "the first fault wins: for each number CUT, NUMBER, then its own check
-- (FORMAT, PLAN; RULE for clock 0, count above capacity, kind above 1). At the end TRAIL, then RULE with the image's length as offset."
use Rattle.std.specs.Prelude.{◌≡◌, Bool, true, false, List, [], ◌∷◌, ◌≢◌, ◌⊎◌, ℕ, zero, suc, ◌<◌, ◌≤◌, ltb, eqb, length}
use Rattle.number.specs.Number.{narrow}
use Rattle.plan.specs.Plan.{Plan}
use Rattle.plan_table.specs.PlanTable.{plan_numbered}
use Rattle.store.specs.declared.Copy.{Copy}
use Rattle.store.specs.declared.Store.{Store}
use Rattle.store.specs.Answers.{PLAN, FORMAT, RULE, TRAIL}
use Rattle.store.specs.Copies.{last_kind, has_value}
use Rattle.store.specs.StoreRules.{plan_number_test, good_store}
use Rattle.wire.specs.Reading.{got, fault, number_at}
use Rattle.image_writing.specs.Image.{format_number}
use Rattle.copies.specs.CopyBytes.{read_value, read_copy}
use Rattle.image_reading.specs.ImageReading.{read_node, image_at}
use Rattle.refusals.specs.Given.{IsPlan}

-- What a number of an image is checked for, once it is read.
pub data Own : Type 0 where
  the_format : Own
  the_plan : Own
  the_clock : Own
  the_count : ℕ → Own
  the_kind : Own
  nothing : Own

-- "its own check (FORMAT, PLAN; RULE for clock 0, count above capacity, kind above 1)"
abbrev pub passes : Own → ℕ → Bool
passes the_format v = eqb v format_number
passes the_plan v = plan_number_test v
passes the_clock v = ltb 0 v
passes (the_count capacity) v = ltb v (suc capacity)
passes the_kind v = ltb v (suc last_kind)
passes nothing v = true

-- Its refusal. (A number checked for nothing is never refused so.)
abbrev pub refusal : Own → ℕ
refusal the_format = FORMAT
refusal the_plan = PLAN
refusal the_clock = RULE
refusal (the_count capacity) = RULE
refusal the_kind = RULE
refusal nothing = RULE

-- A number is read, and passes its check.
pub record Passes (s : List ℕ) (own : Own) (at value next : ℕ) : Type 0 where
  pub read : number_at narrow s at ≡ got value next
  pub passed : passes own value ≡ true

-- A number is read, and fails its check.
pub record Breaks (s : List ℕ) (own : Own) (at number : ℕ) : Type 0 where
  pub value : ℕ
  pub next : ℕ
  pub read : number_at narrow s at ≡ got value next
  pub broken : passes own value ≡ false
  pub is : refusal own ≡ number

-- "For each number CUT, NUMBER, then its own check."
abbrev pub Fails : List ℕ → Own → ℕ → ℕ → Type 0
Fails s own at number = (number_at narrow s at ≡ fault number at) ⊎ Breaks s own at number

-- The numbers of a copy that begins at an offset: each with its check, and those before it read.
pub data InCopy (s : List ℕ) (start : ℕ) : Own → ℕ → Type 0 where
  its_key : InCopy s start nothing start
  its_kind : {key at : ℕ} → number_at narrow s start ≡ got key at → InCopy s start the_kind at
  its_value : {key a kind at : ℕ} → number_at narrow s start ≡ got key a → Passes s the_kind a kind at → has_value kind ≡ true
      → InCopy s start nothing at
  its_stamp : {key a kind b value at : ℕ} → number_at narrow s start ≡ got key a → Passes s the_kind a kind b → read_value s kind b ≡ got value at
      → InCopy s start nothing at

-- The numbers of so many copies that begin at an offset.
abbrev pub InCopies : List ℕ → ℕ → ℕ → Own → ℕ → Type 0
InCopies s zero start own at = ⊥
InCopies s (suc n) start own at =
    InCopy s start own at ⊎ ((x : Copy) × (next : ℕ) × (read_copy s start ≡ got x next) × InCopies s n next own at)

-- The numbers of a node: its count, and those of its copies.
pub data InNode (s : List ℕ) (capacity start : ℕ) : Own → ℕ → Type 0 where
  its_count : InNode s capacity start (the_count capacity) start
  its_copies : {count a at : ℕ} {own : Own} → Passes s (the_count capacity) start count a → InCopies s count a own at → InNode s capacity start own at

-- The numbers of the nodes of a plan, one node after another.
abbrev pub InNodes : List ℕ → Plan → ℕ → Own → ℕ → Type 0
InNodes s [] start own at = ⊥
InNodes s (n ∷ p) start own at =
    InNode s n.capacity start own at
    ⊎ ((xs : List Copy) × (next : ℕ) × (read_node s n.capacity start ≡ got xs next) × InNodes s p next own at)

-- The numbers of an image, each with its check, all those before it read and their checks passed.
pub data InImage (s : List ℕ) : Own → ℕ → Type 0 where
  its_format : InImage s the_format 0
  its_plan : {format at : ℕ} → Passes s the_format 0 format at → InImage s the_plan at
  its_clock : {format a plan at : ℕ} → Passes s the_format 0 format a → Passes s the_plan a plan at → InImage s the_clock at
  its_nodes : {format a plan b clock c at : ℕ} {own : Own} → Passes s the_format 0 format a → Passes s the_plan a plan b → Passes s the_clock b clock c
      → InNodes s (plan_numbered plan) c own at → InImage s own at

-- Reading stops at one of the numbers that Place names: it is not read, or fails its check.
pub record StopsAt (s : List ℕ) (Place : Own → ℕ → Type 0) (number at : ℕ) : Type 0 where
  pub own : Own
  pub place : Place own at
  pub fails : Fails s own at number

-- FORMAT: "format not 1".
pub record BadFormat (s : List ℕ) (at : ℕ) : Type 0 where
  pub first : at ≡ 0
  pub format : ℕ
  pub next : ℕ
  pub read : number_at narrow s 0 ≡ got format next
  pub not_one : format ≢ format_number

-- PLAN: "plan not 1 to 3".
pub record BadPlan (s : List ℕ) (at : ℕ) : Type 0 where
  pub format : number_at narrow s 0 ≡ got format_number at
  pub plan : ℕ
  pub next : ℕ
  pub read : number_at narrow s at ≡ got plan next
  pub no_such_plan : IsPlan plan → ⊥

-- RULE at a number: "RULE for clock 0, count above capacity, kind above 1".
pub data RuleAt (s : List ℕ) (at : ℕ) : Type 0 where
  clock_0 : {next : ℕ} → InImage s the_clock at → number_at narrow s at ≡ got 0 next → RuleAt s at
  count_above : {capacity count next : ℕ} → InImage s (the_count capacity) at → number_at narrow s at ≡ got count next → capacity < count → RuleAt s at
  kind_above : {kind next : ℕ} → InImage s the_kind at → number_at narrow s at ≡ got kind next → last_kind < kind → RuleAt s at

-- TRAIL: "bytes after the image".
pub record Trails (s : List ℕ) (at : ℕ) : Type 0 where
  pub store : Store
  pub read : image_at s ≡ got store at
  pub left : at < length s

-- RULE at the end: all is read, nothing is left, and the store of it breaks a store rule.
pub record BreaksWhole (s : List ℕ) (at : ℕ) : Type 0 where
  pub store : Store
  pub end : ℕ
  pub read : image_at s ≡ got store end
  pub whole : length s ≤ end
  pub broken : good_store store ≡ false
  pub is_length : at ≡ length s

-- The refusals of loading.
pub data LoadStop (s : List ℕ) (number at : ℕ) : Type 0 where
  at_number : StopsAt s (InImage s) number at → LoadStop s number at
  trailing : Trails s at → number ≡ TRAIL → LoadStop s number at
  breaking : BreaksWhole s at → number ≡ RULE → LoadStop s number at
