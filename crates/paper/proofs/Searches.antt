-- (4): search recency to the letter, from a search's start; and what a search that already runs finds.
use mathlib.Core.Path.{◌≡◌, refl, ap, subst}
use mathlib.Core.Bool.{true}
use mathlib.Core.Logic.{◌≢◌, ◌⊎◌, inl, inr}
use mathlib.Core.List.Memᴰ
use mathlib.Core.List.{List, [], ◌∷◌, ◌++◌, Memᴰ}
use mathlib.Core.Option.{Option, some}
use Prim.Native.Nat.{ℕ, suc, ◌+◌, ◌<◌, ◌≤◌}
use native.Mathlib.Omega.{arith}
use lib.ListN.{length, drop, length-drop}
use Rattle.std.specs.Prelude.{Some}
use Rattle.plan.specs.Plan.{Plan, next, path, path_from, IsPath}
use Rattle.plan.specs.PlanRules.{PlanRules}
use Rattle.plan.proofs.NextLaws.{root_in_plan}
use Rattle.plan.proofs.PathLaws.{one_path, path_rest, path_is}
use Rattle.store.specs.declared.Copy.{Copy}
use Rattle.store.specs.Answers.{DONE, GOING, answer}
use Rattle.store.specs.Copies.{stamp_of}
use Rattle.store.specs.State.{State, line, in_reach, current, slot_at, slot_count, idle_mark, running_mark}
use Rattle.store.specs.StateRules.{OnPath, StateRules}
use Rattle.steps.specs.Searches.{running}
use Rattle.steps.proofs.OnPaths.{on_path_in_plan}
use Rattle.theory.specs.Events.{Event, after, answer_of, state_after_all, entry_of, entered_copies, held, still_runs, own_steps, not_cancelled, EndsIn}
use Rattle.theory.specs.Events.Event.{starts, steps}
use Rattle.theory.specs.Paper.{CopySet, with_copies, SearchRecency}
use Rattle.theory.proofs.EventSteps.{event_keeps, event_clock, events_keep}
use Rattle.theory.proofs.InReach.{in_reach-held}
use Rattle.theory.proofs.Invariants.{in_set, history_in, in_history, held_in_line, entered_late, multicopy}
use Rattle.theory.proofs.Searching.{slot_there, Searches, Finishes, stands, in_time, own_step, goes_through_all, ends_in}
use Rattle.theory.proofs.Recency.{search_recency}
use Rattle.paper.specs.Specifications.{MCS, Search, RunningSearch}
use Rattle.paper.proofs.Upserts.{others_keep, mcs_all}

-- (4), from a search's start with any history that the structure has there.
module _ (p : Plan) (rules : PlanRules p) (s : State) (t₀ : ℕ) (H₀ : CopySet) (m : MCS p s t₀ H₀) (k i : ℕ)
    (started : answer_of p (starts k) s ≡ answer DONE i 0 0 0) (between : List Event)
    (still_running : still_runs p i between (after p (starts k) s) ≡ true)
    (done : (answer_of p (steps i) (state_after_all p between (after p (starts k) s))).number ≡ DONE) where
  good : StateRules p s
  good = m.state_rules

  abbrev s₁ : State
  s₁ = after p (starts k) s

  abbrev s₂ : State
  s₂ = state_after_all p between s₁

  abbrev since : List Copy
  since = entered_copies p between s₁

  recency : SearchRecency p s [] between k i
  recency =
      search_recency p rules s good [] between k i (unfold state_after_all in started) (unfold state_after_all in still_running)
      (unfold state_after_all in done)

  -- The structure at its last step.
  ends_mcs : MCS p s₂ (length since + t₀) (with_copies H₀ since)
  ends_mcs = mcs_all p rules between s₁ t₀ H₀ (others_keep p rules s t₀ H₀ m (starts k) (unfold entry_of in refl))

  -- What the state held at the search's start is in the history.
  held_past : (x : Copy) → x.key ≡ k → Memᴰ x (held s) → H₀ k (some x)
  held_past x q a =
      let w = held_in_line p rules s good x a in
      let on_k : line s k w.0 ≡ some x = subst (λ (j : ℕ). line s j w.0 ≡ some x) q w.1 in
      subst (λ (o : Option Copy). H₀ k o) on_k (m.structure.invariant_3 w.0 k)

  past : (x : Copy) → x.key ≡ k → Memᴰ x (held s) ⊎ Memᴰ x since → with_copies H₀ since k (some x)
  past x q (inl a) = inl (held_past x q a)
  past x q (inr a) = inr (q, a)

  -- A copy entered since is newer than all before.
  later : (x : Copy) → Memᴰ x since → stamp_of (current p s k) < x.stamp
  later x a =
      omega (
        arith,
        entered_late p rules between s₁ (event_keeps p rules (starts k) s good) x a,
        event_clock p rules s good (starts k),
        m.structure.h_clock k (current p s k) (m.structure.invariant_1 k).in_history,
      )

  then_or_later : (o : Option Copy) → (o ≡ current p s k) ⊎ ((x : Copy) × (o ≡ some x) × Memᴰ x since)
      → (o ≡ current p s k) ⊎ ((stamp_of (current p s k) < stamp_of o) × ((x : Copy) × (o ≡ some x) × Memᴰ x since))
  then_or_later o (inl e) = inl e
  then_or_later o (inr w) = inr (omega (arith, later w.0 w.2, ap stamp_of w.1), w)

  pub search_letter : Search p s t₀ H₀ between k i
  search_letter =
      let no_older : stamp_of (current p s k) ≤ stamp_of recency.found = unfold state_after_all in recency.no_older in
      let whole : entered_copies p ([] ++ starts k ∷ between) s ≡ since = unfold entered_copies entry_of in refl in
      record {
        found = recency.found;
        says = unfold state_after_all in recency.says;
        mcs = others_keep p rules s₂ (length since + t₀) (with_copies H₀ since) ends_mcs (steps i) (unfold entry_of in refl);
        recent = λ a q. omega (arith, (m.structure.invariant_1 k).greatest a q, no_older);
        in_history =
            in_set (with_copies H₀ since) k recency.found (m.structure.h_init k)
            (λ x e.
            let w = history_in (held s ++ entered_copies p ([] ++ starts k ∷ between) s) k recency.found x recency.real e in
            past x w.0 (Memᴰ.append_cases (held s) (rw whole at w.1)));
        logical_or_later = then_or_later recency.found (unfold state_after_all in recency.at_start_or_between);
      }

-- Of a state that meets the rules every slot that runs is a search for its key at its node, after its visits.
pub running_slot : (p : Plan) (s : State) → StateRules p s → (i : ℕ) → (slot_at s i).running ≢ idle_mark
    → slot_at s i ≡ running (slot_at s i).key (slot_at s i).node (slot_at s i).visits
running_slot p s good i r =
    let there : i < slot_count = omega (arith, slot_there s i r, good.slots_long) in
    let one : (slot_at s i).running ≡ running_mark = (good.running_searches_on_their_paths i there r).0 in
    λ j. record { running = one j; key = (slot_at s i).key; node = (slot_at s i).node; visits = (slot_at s i).visits }

-- A search that already runs.
module _ (p : Plan) (rules : PlanRules p) (s : State) (good : StateRules p s) (k n visits i : ℕ) (at : slot_at s i ≡ running k n visits) where
  abbrev t₀ : ℕ
  t₀ = stamp_of (in_reach p s k (Some n))

  now : Searches p k t₀ i visits s
  now = record { node = n; at = at; recent = omega arith }

  on_path : OnPath p k n visits
  unfolding now
  on_path = stands p rules k t₀ i s good visits now

  -- So many nodes remain on the path from its node on.
  remain : length (path_from p k n) + visits ≡ length (path p k)
  remain =
      let rest : IsPath (λ j. next p j k) n (drop visits (path p k)) =
      subst (λ (m : ℕ). IsPath (λ j. next p j k) m (drop visits (path p k))) on_path.here
      (path_rest (λ j. next p j k) (path_is p rules k 0 (root_in_plan p rules)) visits on_path.inside) in
      let same : path_from p k n ≡ drop visits (path p k) =
      one_path (λ j. next p j k) (path_is p rules k n (on_path_in_plan p rules k n visits on_path)) rest in
      omega (arith, ap length same, length-drop visits (path p k), on_path.inside)

  module _ (between : List Event) (still_running : still_runs p i between s ≡ true) where
    abbrev s' : State
    s' = state_after_all p between s

    good_then : StateRules p s'
    good_then = events_keep p rules between s good

    still : Searches p k t₀ i (own_steps i between + visits) s'
    still = goes_through_all p rules k t₀ i between s good visits now still_running

    -- It has taken fewer own steps than nodes remained,
    pub running_in_time : suc (own_steps i between) ≤ length (path_from p k n)
    running_in_time = omega (arith, in_time p rules k t₀ i s' good_then (own_steps i between + visits) still, remain)

    -- and when it ends, this is what it found.
    pub running_search : (answer_of p (steps i) s').number ≡ DONE → RunningSearch p s between k n visits i
    running_search done = go (own_step p rules k t₀ i s' good_then (own_steps i between + visits) still)
      where
        go : Finishes p k t₀ i (own_steps i between + visits) s'
            ⊎ (Searches p k t₀ i (suc (own_steps i between + visits)) (after p (steps i) s') × ((answer_of p (steps i) s').number ≡ GOING))
            → RunningSearch p s between k n visits i
        go (inl f) =
            record {
              found = in_reach p s' k (Some f.node);
              says = f.says;
              real =
                  in_history (held s ++ entered_copies p between s) k (in_reach p s' k (Some f.node))
                  (λ x e.
                  let w = in_reach-held p rules s' k f.node x f.inside e in
                  history_in (held s ++ entered_copies p between s) k (line s' k w.0) x
                  ((multicopy p rules between s good).invariant_3 w.0 k) w.2);
              no_older = omega (arith, f.recent);
              in_time = running_in_time;
            }
        go (inr w) = absurd (omega (arith, w.1))

  -- Not cancelled, it ends within as many own steps as nodes remain on the path from its node on, whatever happens between.
  pub running_ends : (es : List Event) → not_cancelled i es ≡ true → length (path_from p k n) ≤ own_steps i es → EndsIn p i es s
  running_ends es c h = ends_in p rules k t₀ i es s good visits now c (omega (arith, remain))
