-- Computed examples: why invariant 6 needs cut edgesets, the counts of conservation, a bound that is reached, why a search that already runs
-- is held to its own node, that HInit can fail, and in which order a carry takes the copies.
use Rattle.std.specs.Prelude.{◌≡◌, List, [], ◌∷◌, ◌-◌, ◌*◌, length, replicate}
use Rattle.std.proofs.Math.Option.{some}
use Rattle.plan.specs.Plan.{Plan, size}
use Rattle.plan.specs.PlanRules.{PlanRules}
use Rattle.plan_table.specs.PlanTable.{all_keys_to, node, plan_numbered}
use Rattle.store.specs.declared.Copy.{Copy}
use Rattle.store.specs.Copies.{RESULT, copy}
use Rattle.store.specs.Copies.Kind.{result}
use Rattle.store.specs.State.{State, slot_count, slot_at, idle, fresh}
use Rattle.store.specs.StateRules.{StateRules}
use Rattle.steps.specs.Searches.{running, ended}
use Rattle.theory.specs.Events.{Event, after, answer_of, state_after_all, entered_copies, held_of, entries}
use Rattle.theory.specs.Events.Event.{enters, carries, starts, steps}
use Rattle.theory.specs.Paper.{Contents, Edgeset, ContentsInReach, CopySet, with_copies, HInit}
use Rattle.paper.specs.Graph.{Inset, UncutInReachInInset}
use Rattle.paper.specs.Conserved.{discarded, replaced_at_root, all_carried, all_discarded, all_replaced}

-- Plan 3: two ways down, which meet again.
abbrev pub meeting : Plan
meeting = plan_numbered 3

-- Key 0 is entered in plan 3, and carried down its path 0, 1, 3.
abbrev pub low_key_carried_down : State
low_key_carried_down = state_after_all meeting (enters result 0 7 ∷ carries 0 0 ∷ carries 1 0 ∷ []) (fresh meeting)

-- Invariant 6 with the edgesets as they are fails there.
pub record UncutFails : Type 0 where
  pub plan_rules : PlanRules meeting
  pub state_rules : StateRules meeting low_key_carried_down
  -- The copy is in node 3 and so in reach of node 2, whose edge to 3 holds all keys;
  pub in_last_node : Contents low_key_carried_down 3 0 ≡ some (copy 0 RESULT 7 1)
  pub in_edgeset : Edgeset meeting 2 3 0
  pub in_reach : ContentsInReach meeting low_key_carried_down 2 0 ≡ some (copy 0 RESULT 7 1)
  -- but the key never reaches node 2.
  pub not_in_inset : Inset meeting 0 2 → ⊥
  pub fails : UncutInReachInInset meeting low_key_carried_down → ⊥

-- Plan 1: one way down.
abbrev pub chain : Plan
chain = plan_numbered 1

-- Key 5 is entered three times: the second entry replaces the first at the root, and the third copy, carried, discards the second.
abbrev pub three_entries : List Event
three_entries = enters result 5 1 ∷ enters result 5 2 ∷ carries 0 0 ∷ enters result 5 3 ∷ carries 0 0 ∷ []

-- Key 5 is entered once, and carried down all of plan 1.
abbrev pub all_the_way : List Event
all_the_way = enters result 5 1 ∷ carries 0 0 ∷ carries 1 0 ∷ carries 2 0 ∷ []

-- A search for key 5 has passed the root, and then a newer copy is entered there.
abbrev pub overtaken : State
overtaken = state_after_all chain (enters result 5 1 ∷ carries 0 0 ∷ starts 5 ∷ steps 0 ∷ enters result 5 2 ∷ []) (fresh chain)

-- A node with two copies, of keys 1 and 2, above one with a single free place.
abbrev pub one_place : Plan
one_place = node 2 (all_keys_to 1 ∷ []) ∷ node 1 [] ∷ []

abbrev pub two_new : State
two_new = record { clock = 3; nodes = (copy 1 RESULT 7 1 ∷ copy 2 RESULT 7 2 ∷ []) ∷ [] ∷ []; slots = replicate slot_count idle }

-- A set with no copy and no never in it.
abbrev pub EmptySet : CopySet
EmptySet k a = ⊥

pub record Shown : Type 0 where
  -- "taken in rising key order": of two new lines for one free place the lower key is carried.
  pub lower_key_first : (after one_place (carries 0 0) two_new).nodes ≡ (copy 2 RESULT 7 2 ∷ []) ∷ (copy 1 RESULT 7 1 ∷ []) ∷ []
  -- 0 held + 3 entries = 1 held + 1 discarded + 1 replaced
  pub counts_three : entries chain 5 three_entries (fresh chain) ≡ 3
  pub one_held : held_of 5 (state_after_all chain three_entries (fresh chain)) ≡ 1
  pub one_discarded : discarded chain 5 three_entries (fresh chain) ≡ 1
  pub one_replaced : replaced_at_root chain 5 three_entries (fresh chain) ≡ 1
  pub all-discarded : all_discarded chain three_entries (fresh chain) ≡ 1
  pub all-replaced : all_replaced chain three_entries (fresh chain) ≡ 1
  -- (nodes − 1) × (copies held + accepted entries) is reached: 3 = 3 × (0 + 1)
  pub bound_reached : all_carried chain all_the_way (fresh chain) ≡ (size chain - 1) * length (entered_copies chain all_the_way (fresh chain))
  -- The running search stands at node 1 and finds stamp 1, older than the root's copy of stamp 2 that its line has already;
  pub stands_below : slot_at overtaken 0 ≡ running 5 1 1
  pub root_newer : ContentsInReach chain overtaken 0 5 ≡ some (copy 5 RESULT 2 2)
  -- but no older than what is in reach of its node.
  pub in_reach-below : ContentsInReach chain overtaken 1 5 ≡ some (copy 5 RESULT 1 1)
  pub finds_older : answer_of chain (steps 0) overtaken ≡ ended (some (copy 5 RESULT 1 1)) 2
  -- A history of entered copies alone, without never, has no HInit.
  pub init_can_fail : (xs : List Copy) → HInit (with_copies EmptySet xs) → ⊥
