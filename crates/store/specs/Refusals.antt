-- The refusals by name, and the answer number of each.
use Rattle.std.specs.Prelude.{ℕ}
use Rattle.store.specs.declared.refusal.Refusal.{Refusal}
use Rattle.store.specs.declared.refusal.Refusal.TheVariants.{BadStore, Plan, Clock, Full, Node, Edge, Slots, Slot, Idle, Small, Sample, Cut, Number, Format, Rule, Trail, Op, Many}
use Rattle.store.specs.Answers.{BADSTORE, PLAN, CLOCK, FULL, NODE, EDGE, SLOTS, SLOT, IDLE, SMALL, SAMPLE, CUT, NUMBER, FORMAT, RULE, TRAIL, OP, MANY}

-- The answer number of a refusal.
abbrev pub refusal_number : Refusal → ℕ
refusal_number BadStore = BADSTORE
refusal_number Plan = PLAN
refusal_number Clock = CLOCK
refusal_number Full = FULL
refusal_number Node = NODE
refusal_number Edge = EDGE
refusal_number Slots = SLOTS
refusal_number Slot = SLOT
refusal_number Idle = IDLE
refusal_number Small = SMALL
refusal_number Sample = SAMPLE
refusal_number Cut = CUT
refusal_number Number = NUMBER
refusal_number Format = FORMAT
refusal_number Rule = RULE
refusal_number Trail = TRAIL
refusal_number Op = OP
refusal_number Many = MANY
