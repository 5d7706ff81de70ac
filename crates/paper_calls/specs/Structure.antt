-- The paper's structure and specifications for the declared store and public calls: MCS(r, t, H), (3) of an entry, (4)
-- of a search; and what is said of a search that already runs in a store at hand.
use Rattle.std.specs.Prelude.{◌≡◌, true, ◌≢◌, List, [], ◌∷◌, ◌++◌, ℕ, suc, ◌+◌, ◌≤◌, length, get_or}
use Rattle.std.proofs.Math.Option.{Option, some}
use Rattle.plan.specs.Plan.{path_from}
use Rattle.store.specs.declared.Answer.{Answer}
use Rattle.store.specs.declared.Copy.{Copy}
use Rattle.store.specs.declared.Store.{Store}
use Rattle.store.specs.Answers.{DONE, answer}
use Rattle.store.specs.Copies.{stamp_of}
use Rattle.store.specs.State.{idle}
use Rattle.store.specs.Layout.{plan_of, state_of}
use Rattle.steps.specs.Searches.{running, ended}
use Rattle.theory.specs.Events.{held, still_runs, own_steps}
use Rattle.theory.specs.Paper.{Contents, CopySet, with_copies, InHistory, upserted}
use Rattle.paper.specs.Specifications.{MCS}
use Rattle.calls.specs.PublicCalls.{Call, store_after, answer_to, store_after_all}
use Rattle.calls.specs.PublicCalls.Call.{reads}
use Rattle.calls.specs.PublicCalls.ReadOnly.{look}
use Rattle.calls.specs.Following.{events_of, same_store, history}
use Rattle.calls.specs.Recent.{current_in, reach_stamp, at_end, StoreRecency}

-- MCS(r, t, H) of a store: its state is such a structure.
abbrev pub StoreMCS : Store → ℕ → CopySet → Type 0
StoreMCS z t H = MCS (plan_of z) (state_of z) t H

-- The copies that a store's history has after some calls: those entered since it was last replaced, and those that it held then or held at
-- the start.
abbrev pub copies_so_far : List Call → Store → List Copy
copies_so_far cs z = history cs z (held (state_of z))

-- (3), of a call that enters the copy x = (k, (v, t)).
pub record CallUpserts (c : Call) (z : Store) (t : ℕ) (H : CopySet) (x : Copy) : Type 0 where
  pub stamp : x.stamp ≡ t
  pub says : answer_to c z ≡ some (answer DONE t 0 0 0)
  -- MCS(r, t + 1, H ∪ (k, (v, t)));
  pub mcs : StoreMCS (store_after c z) (suc t) (with_copies H (x ∷ []))
  -- the root's contents become C_r[k ↦ (v, t)], every other node's are as they were,
  pub root_contents : (j : ℕ) → Contents (state_of (store_after c z)) 0 j ≡ upserted (Contents (state_of z) 0) x j
  pub other_contents : (n j : ℕ) → n ≢ 0 → Contents (state_of (store_after c z)) n j ≡ Contents (state_of z) n j
  -- and the logical contents M[k ↦ v].
  pub logical : (j : ℕ) → current_in (store_after c z) j ≡ upserted (current_in z) x j

-- (4), of a search that the call c started after the calls `before`, and that the call d ended.
pub record CallSearch (z : Store) (before : List Call) (c : Call) (between : List Call) (d : Call) (k i : ℕ) : Type 0 where
  pub recency : StoreRecency z before c between d k i
  -- For every copy of the key in the history at the search's start, its stamp is at most the answer's;
  pub recent : (a : Option Copy) → InHistory (copies_so_far before z) k a → stamp_of a ≤ stamp_of recency.found
  -- and MCS(r, t, H) holds at its end, the search itself having added nothing.
  pub mcs :
      StoreMCS (store_after d (at_end z before c between)) (at_end z before c between).clock (InHistory (copies_so_far (before ++ c ∷ between) z))

-- A search that already runs in a store at hand: it stands at node n after so many visits, and still runs after some calls, in which the
-- store was not replaced.
pub record RunsAtHand (z : Store) (between : List Call) (k n visits i : ℕ) : Type 0 where
  pub in_slot : get_or z.slots i idle ≡ running k n visits
  pub stays : same_store between ≡ true
  pub still_running : still_runs (plan_of z) i (events_of between) (state_of z) ≡ true

-- What is said of it when the call d ends it.
pub record RunningRecency (z : Store) (between : List Call) (d : Call) (k n visits i : ℕ) : Type 0 where
  pub found : Option Copy
  pub says : answer_to d (store_after_all between z) ≡ some (ended found (suc (own_steps i (events_of between) + visits)))
  -- What was found was held at the beginning or entered since, or is never;
  pub real : InHistory (copies_so_far between z) k found
  -- it is no older than what was in reach of the search's node at the beginning;
  pub no_older : reach_stamp z n k ≤ stamp_of found
  -- and the search took at most as many own steps as nodes remained on the key's path from n on.
  pub in_time : suc (own_steps i (events_of between)) ≤ length (path_from (plan_of z) k n)

-- A finished search that already ran in the store at hand, and what is said of it.
pub record FinishedAtHand (z : Store) (cs : List Call) (d : Call) (i : ℕ) : Type 0 where
  pub key : ℕ
  pub node : ℕ
  pub visits : ℕ
  pub runs : RunsAtHand z cs key node visits i
  pub recency : RunningRecency z cs d key node visits i

-- A look makes at least one visit: d of its answer.
abbrev pub VisitsSome : Store → ℕ → Type 0
VisitsSome z k = (r : Answer) → answer_to (reads (look k)) z ≡ some r → 1 ≤ r.d
