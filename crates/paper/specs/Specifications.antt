-- The paper's template-level specifications (section 3.3): the structure MCS(r, t, H), (3) of upsert and (4) of search;
-- and what is said of a search that already runs.
use Rattle.std.specs.Prelude.{◌≡◌, ◌≢◌, ◌⊎◌, ℕ, suc, ◌+◌, ◌<◌, ◌≤◌, length}
use mathlib.Core.List.{List, [], ◌∷◌, ◌++◌, Memᴰ}
use Rattle.std.proofs.Math.Option.{Option, some}
use Rattle.plan.specs.Plan.{Plan, path_from}
use Rattle.store.specs.declared.Copy.{Copy}
use Rattle.store.specs.Answers.{DONE, answer}
use Rattle.store.specs.Copies.{stamp_of}
use Rattle.store.specs.State.{State}
use Rattle.store.specs.StateRules.{StateRules}
use Rattle.steps.specs.Searches.{ended}
use Rattle.theory.specs.Events.{Event, after, answer_of, state_after_all, entered_copies, held, own_steps}
use Rattle.theory.specs.Events.Event.{starts, steps}
use Rattle.theory.specs.Paper.{Contents, ContentsInReach, CopySet, with_copies, InHistory, Multicopy, upserted}
use Rattle.paper.specs.Graph.{Acyclic, OlderBelow, InReachInInset, PredecessorsApart}

-- MCS(r, t, H): the state is a multicopy structure with the clock at t and the upsert history H.
pub record MCS (p : Plan) (s : State) (t : ℕ) (H : CopySet) : Type 0 where
  pub state_rules : StateRules p s
  pub acyclic : Acyclic p
  pub clock : s.clock ≡ t
  -- HInit, HUnique, HClock (invariant 4), invariants 1 and 3, and disjoint edgesets
  pub structure : Multicopy p s H
  pub invariant_5 : OlderBelow p s
  pub invariant_6 : InReachInInset p s
  pub invariant_7 : PredecessorsApart p

-- (3): "⟨t H. MCS(r, t, H)⟩ upsert r k v ⟨MCS(r, t + 1, H ∪ (k, (v, t)))⟩", of an event that enters the copy x = (k, (v, t)).
pub record Upsert (p : Plan) (s : State) (t : ℕ) (H : CopySet) (e : Event) (x : Copy) : Type 0 where
  pub stamp : x.stamp ≡ t
  pub says : answer_of p e s ≡ answer DONE t 0 0 0
  pub mcs : MCS p (after p e s) (suc t) (with_copies H (x ∷ []))
  -- "addContents changes the contents of the root node from C_r to C_r[k ↦ (v, t)]",
  pub root_contents : (j : ℕ) → Contents (after p e s) 0 j ≡ upserted (Contents s 0) x j
  -- every other node's contents are as they were,
  pub other_contents : (n j : ℕ) → n ≢ 0 → Contents (after p e s) n j ≡ Contents s n j
  -- and (1): the logical contents M become M[k ↦ v].
  pub logical : (j : ℕ) → ContentsInReach p (after p e s) 0 j ≡ upserted (ContentsInReach p s 0) x j

-- The copies entered while a search for k ran, from its start in the state s through the events `between`.
abbrev pub entered_since : Plan → State → List Event → ℕ → List Copy
entered_since p s between k = entered_copies p between (after p (starts k) s)

-- The state at its last step.
abbrev pub at_last : Plan → State → List Event → ℕ → State
at_last p s between k = state_after_all p between (after p (starts k) s)

-- (4): "∀v'₀ t'₀. SR(k, v'₀, t'₀) −∗ ⟨t H. MCS(r, t, H)⟩ search r k ⟨v. ∃t'. MCS(r, t, H) ∗ t'₀ ≤ t' ∗ (k, (v, t')) ∈ H⟩", of a search for k
-- started in the state s with the clock t₀ and the history H₀, that went on through the events `between` in slot i, and then ended by a step
-- of its own.
pub record Search (p : Plan) (s : State) (t₀ : ℕ) (H₀ : CopySet) (between : List Event) (k i : ℕ) : Type 0 where
  -- (v, t'), and the answer that says it
  pub found : Option Copy
  pub says : answer_of p (steps i) (at_last p s between k) ≡ ended found (suc (own_steps i between))
  -- MCS(r, t, H) at its end: the search adds nothing to the history, and the others what they entered
  pub mcs :
      MCS p (after p (steps i) (at_last p s between k)) (length (entered_since p s between k) + t₀) (with_copies H₀ (entered_since p s between k))
  -- "for all t'₀ and v' such that (k, (v', t'₀)) ∈ H₀, the returned timestamp t' satisfies t'₀ ≤ t'"
  pub recent : (a : Option Copy) → H₀ k a → stamp_of a ≤ stamp_of found
  -- "(k, (v, t')) ∈ H"
  pub in_history : with_copies H₀ (entered_since p s between k) k found
  -- "either v is the logical value of k at that point (i.e. v = v₀) or t' is the timestamp of an upsert for k that happened after the search
  -- started, i.e., t₀ < t'"
  pub logical_or_later :
      (found ≡ ContentsInReach p s 0 k)
      ⊎ ((stamp_of (ContentsInReach p s 0 k) < stamp_of found)
      × ((x : Copy) × (found ≡ some x) × Memᴰ x (entered_since p s between k)))

-- A search that already runs, whoever started it: in the state s the search for k in slot i stands at node n after so many visits. It went
-- on through the events `between`, and then ended by a step of its own.
pub record RunningSearch (p : Plan) (s : State) (between : List Event) (k n visits i : ℕ) : Type 0 where
  pub found : Option Copy
  pub says : answer_of p (steps i) (state_after_all p between s) ≡ ended found (suc (own_steps i between + visits))
  -- What was found was held at the beginning or entered since, or is never;
  pub real : InHistory (held s ++ entered_copies p between s) k found
  -- it is no older than what was in reach of the search's node at the beginning;
  pub no_older : stamp_of (ContentsInReach p s n k) ≤ stamp_of found
  -- and the search took at most as many own steps as nodes remained on the key's path from n on.
  pub in_time : suc (own_steps i between) ≤ length (path_from p k n)
