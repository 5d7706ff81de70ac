-- Conservation of a line's copies over every sequence.
use mathlib.Core.Path.{◌≡◌, refl, ap}
use mathlib.Core.Bool.{Bool, true, false, cond, not, ◌&&◌}
use mathlib.Core.List.{List, [], ◌∷◌, flatten}
use mathlib.Core.Option.{none, some}
use Prim.Native.Nat.{ℕ, zero, suc, ◌+◌, ◌<◌}
use native.Mathlib.Omega.{arith}
use native.Mathlib.Nat.{le_of_suc-le-suc, not-suc-le-zero}
use native.Mathlib.Decide.{ℕ_discrete}
use lib.Dec.{eqb}
use lib.ListN.{length, get_or, set, length-set}
use lib.Seq.{get_or-set_other}
use borrow.Author.Tests.{eq-eqb, ne_eqb}
use Rattle.lists.proofs.RisingKeys.{Rising}
use Rattle.lists.proofs.RisingKeys.Rising.{end, above}
use Rattle.plan.specs.Plan.{Plan, size, edge_of}
use Rattle.plan.specs.PlanRules.{IsEdge, PlanRules}
use Rattle.store.specs.declared.Copy.{Copy}
use Rattle.store.specs.Answers.{DONE}
use Rattle.store.specs.Copies.{kind_number, value_held, copy, key_of, find, is_some}
use Rattle.store.specs.State.{State, node_at, line}
use Rattle.store.specs.StateRules.{StateRules}
use Rattle.store.specs.Calls.{Effect}
use Rattle.steps.specs.Entries.{put, entered as entered_into, entry}
use Rattle.steps.specs.Carries.{bit, merge_along, carried_out, carried_to, carry_step}
use Rattle.steps.proofs.NodeLists.{find_same, find_other, find_low, find_empty, put_same, put_other}
use Rattle.steps.proofs.Merges.{KeyMerged}
use Rattle.steps.proofs.Merges.KeyMerged.{untouched, carried}
use Rattle.steps.proofs.RulesOnLines.{rising_nodes}
use Rattle.steps.proofs.WaysOut.{EntryWay, entry_way, CarryWay, carry_way}
use Rattle.steps.proofs.WaysOut.EntryWay.{at_last_clock, root_full, enters as copy-enters}
use Rattle.steps.proofs.WaysOut.CarryWay.{no_node, no_edge_lem, merges}
use Rattle.steps.proofs.LineSteps.{after_carry, carried_key, carried_from_lem, start_still, step_still, cancel_still}
use Rattle.theory.specs.Events.{Event, effect, after, state_after_all, entry_of, held, of_line, copies_of, held_of, entries, carries_line}
use Rattle.theory.specs.Events.Event.{enters, carries, starts, steps, cancels, asks}
use Rattle.theory.proofs.EventSteps.{event_keeps}
use Rattle.theory.proofs.Bound.{copies_append}
use Rattle.paper.specs.Conserved.{summed, into_node, discards_line, replaces_line, Conserved}

-- 1 for each node that has the line.
line_count : ℕ → List (List Copy) → ℕ
line_count k [] = 0
line_count k (xs ∷ xss) = bit (is_some (find key_of xs k)) + line_count k xss

-- A list with rising keys has a key's copy once or not at all.
copies_once : (k : ℕ) {b : ℕ} {xs : List Copy} → Rising key_of b xs → copies_of k xs ≡ bit (is_some (find key_of xs k))
unfolding copies_of
copies_once k end = rw (find_empty key_of k)
copies_once k (above {x = x} {xs = xs} h r) = go (ℕ_discrete x.key k) (copies_once k r)
  where
    go : Dec (x.key ≡ k) → copies_of k xs ≡ bit (is_some (find key_of xs k))
        → bit (eqb x.key k) + copies_of k xs ≡ bit (is_some (find key_of (x ∷ xs) k))
    go (yes q) again =
        let low : find key_of xs k ≡ none = find_low key_of r k (omega arith) in
        let zero_left : bit (is_some (find key_of xs k)) ≡ 0 = rw low in
        rw (find_same key_of x xs k q, eq-eqb x.key k q) (omega arith)
    go (no q) again = rw (find_other key_of x xs k q, ne_eqb x.key k q) (omega arith)

copies_lines : (k : ℕ) (xss : List (List Copy)) → ((n : ℕ) → Rising key_of 0 (get_or xss n [])) → copies_of k (flatten xss) ≡ line_count k xss
unfolding line_count flatten copies_of
copies_lines k [] r = refl
copies_lines k (xs ∷ xss) r =
    omega (arith, copies_append k xs (flatten xss), copies_once k (r 0), copies_lines k xss (λ n. r (suc n)))

-- One node's list set to another.
count_set : (k : ℕ) (xss : List (List Copy)) (n : ℕ) (ys : List Copy) → n < length xss
    → line_count k (set xss n ys) + bit (is_some (find key_of (get_or xss n []) k)) ≡ line_count k xss + bit (is_some (find key_of ys k))
unfolding line_count
count_set k [] n ys h = absurd (not-suc-le-zero h)
count_set k (xs ∷ xss) zero ys h = omega arith
count_set k (xs ∷ xss) (suc n) ys h = omega (arith, count_set k xss n ys (le_of_suc-le-suc h))

-- What is lacked after and before is not lost.
no_loss : (a b : Bool) → bit ((a && not a) && b) ≡ 0
no_loss true b = refl
no_loss false b = refl

module _ (p : Plan) (rules : PlanRules p) (k : ℕ) where
  held_lines : (s : State) → StateRules p s → held_of k s ≡ line_count k s.nodes
  unfolding held
  held_lines s good = copies_lines k s.nodes (rising_nodes p s good)

  held_still : (s s' : State) → s'.nodes ≡ s.nodes → held_of k s' ≡ held_of k s
  unfolding held
  held_still s s' e = ap (λ (xss : List (List Copy)). copies_of k (flatten xss)) e

  module _ (s : State) (good : StateRules p s) where
    root : 0 < length s.nodes
    root = omega (arith, good.a_list_for_each_node, rules.nodes_within)

    -- An entry of the line adds a copy, or replaces the root's.
    put_count : (x : Copy)
        → line_count k s.nodes + bit (eqb x.key k)
        ≡ line_count k (entered_into x s).nodes + bit (eqb x.key k && is_some (line s k 0))
    unfolding entered_into
    put_count x = go (ℕ_discrete x.key k) (count_set k s.nodes 0 (put key_of x (node_at s 0)) root)
      where
        go : Dec (x.key ≡ k)
            → line_count k (set s.nodes 0 (put key_of x (node_at s 0))) + bit (is_some (line s k 0))
            ≡ line_count k s.nodes + bit (is_some (find key_of (put key_of x (node_at s 0)) k))
            → line_count k s.nodes + bit (eqb x.key k)
            ≡ line_count k (set s.nodes 0 (put key_of x (node_at s 0))) + bit (eqb x.key k && is_some (line s k 0))
        go (yes q) e =
            let one : bit (is_some (find key_of (put key_of x (node_at s 0)) k)) ≡ 1 = rw (put_same key_of x (node_at s 0) k q) in
            rw (eq-eqb x.key k q) (omega arith)
        go (no q) e =
            let unchanged : bit (is_some (find key_of (put key_of x (node_at s 0)) k)) ≡ bit (is_some (line s k 0)) =
            rw (put_other key_of x (node_at s 0) k q) in
            rw (ne_eqb x.key k q) (omega arith)

    entry_conserves : (kind j v : ℕ) → StateRules p (entry kind j v p s).after
        → held_of k s + bit (of_line k (cond (eqb (entry kind j v p s).answer.number DONE) (some (copy j kind v s.clock)) none))
        ≡ held_of k (entry kind j v p s).after + 0
        + bit (of_line k (cond (eqb (entry kind j v p s).answer.number DONE) (some (copy j kind v s.clock)) none) && is_some (line s k 0))
    entry_conserves kind j v = go (entry_way kind j v p s)
      where
        go : {o : Effect} → EntryWay kind j v p s o → StateRules p o.after
            → held_of k s + bit (of_line k (cond (eqb o.answer.number DONE) (some (copy j kind v s.clock)) none))
            ≡ held_of k o.after + 0
            + bit (of_line k (cond (eqb o.answer.number DONE) (some (copy j kind v s.clock)) none) && is_some (line s k 0))
        go (at_last_clock h) g = omega arith
        go (root_full h f e) g = omega arith
        go (copy-enters h f) g =
            rw (held_lines s good, held_lines (entered_into (copy j kind v s.clock) s) g)
            (omega (arith, put_count (copy j kind v s.clock)))

    -- A carry of the line moves its copy, and discards the target's.
    module _ (n i : ℕ) (d : IsEdge p n i) where
      down : (n < (edge_of p n i).target) × ((edge_of p n i).target < size p)
      down = rules.target_greater_and_exists n i d

      there : (edge_of p n i).target < length s.nodes
      there = omega (arith, down.1, good.a_list_for_each_node)

      both_sets : line_count k (after_carry p n i s).nodes + bit (is_some (line s k n)) + bit (is_some (line s k (edge_of p n i).target))
          ≡ line_count k s.nodes + bit (is_some (find key_of (merge_along p n (edge_of p n i) s).stay k))
          + bit (is_some (find key_of (merge_along p n (edge_of p n i) s).target k))
      unfolding carried_to
      both_sets =
          let first = count_set k s.nodes n (merge_along p n (edge_of p n i) s).stay (omega (arith, there, down)) in
          let second =
          count_set k (set s.nodes n (merge_along p n (edge_of p n i) s).stay) (edge_of p n i).target
          (merge_along p n (edge_of p n i) s).target (rw length-set there) in
          let same : get_or (set s.nodes n (merge_along p n (edge_of p n i) s).stay) (edge_of p n i).target [] ≡ node_at s (edge_of p n i).target =
          get_or-set_other s.nodes n (edge_of p n i).target (merge_along p n (edge_of p n i) s).stay []
          (λ (q : (edge_of p n i).target ≡ n). omega (arith, down)) in
          omega (arith, first, rw same at second)

      at_n : line (after_carry p n i s) k n ≡ find key_of (merge_along p n (edge_of p n i) s).stay k
      at_n =
          ap (λ (xs : List Copy). find key_of xs k)
          (carried_from_lem n (edge_of p n i).target (merge_along p n (edge_of p n i) s) s (omega (arith, there, down))
          (λ (q : n ≡ (edge_of p n i).target). omega (arith, down)))

      moved_count : line_count k s.nodes
          ≡ line_count k (after_carry p n i s).nodes
          + bit ((is_some (line s k n) && not (is_some (line (after_carry p n i s) k n))) && is_some (line s k (edge_of p n i).target))
      moved_count = rw at_n (go (carried_key p rules s good k n (edge_of p n i)) both_sets)
        where
          go : {stay target : List Copy} → KeyMerged key_of (edge_of p n i) (node_at s n) (node_at s (edge_of p n i).target) stay target k
              → line_count k (after_carry p n i s).nodes + bit (is_some (line s k n)) + bit (is_some (line s k (edge_of p n i).target))
              ≡ line_count k s.nodes + bit (is_some (find key_of stay k)) + bit (is_some (find key_of target k))
              → line_count k s.nodes
              ≡ line_count k (after_carry p n i s).nodes
              + bit ((is_some (line s k n) && not (is_some (find key_of stay k))) && is_some (line s k (edge_of p n i).target))
          go (untouched f g) e =
              let none-lost : bit ((is_some (line s k n) && not (is_some (line s k n))) && is_some (line s k (edge_of p n i).target)) ≡ 0 =
              no_loss (is_some (line s k n)) (is_some (line s k (edge_of p n i).target)) in
              let a = rw (f, g) at e in
              rw f (omega arith)
          go (carried x f h g c) e =
              let a = rw (f, g, c) at e in
              rw (f, g) (omega arith)

    carry_conserves : (n i : ℕ) → StateRules p (carry_step n i p s).after
        → held_of k s
        ≡ held_of k (carry_step n i p s).after
        + bit ((is_some (line s k n) && not (is_some (line (carry_step n i p s).after k n))) && is_some (line s k (edge_of p n i).target))
    carry_conserves n i = go (carry_way n i p s)
      where
        go : {o : Effect} → CarryWay n i p s o → StateRules p o.after
            → held_of k s
            ≡ held_of k o.after
            + bit ((is_some (line s k n) && not (is_some (line o.after k n))) && is_some (line s k (edge_of p n i).target))
        go (no_node h) g = omega (arith, no_loss (is_some (line s k n)) (is_some (line s k (edge_of p n i).target)))
        go (no_edge_lem h f) g = omega (arith, no_loss (is_some (line s k n)) (is_some (line s k (edge_of p n i).target)))
        go (merges d) g = merge_conserves d (unfold carried_out in g)
          where
            merge_conserves : IsEdge p n i → StateRules p (after_carry p n i s)
                → held_of k s
                ≡ held_of k (carried_out n (edge_of p n i) (merge_along p n (edge_of p n i) s) s).after
                + bit
                ((is_some (line s k n) && not (is_some (line (carried_out n (edge_of p n i) (merge_along p n (edge_of p n i) s) s).after k n)))
                && is_some (line s k (edge_of p n i).target))
            merge_conserves d g =
                unfold carried_out in
                (rw (held_lines s good, held_lines (after_carry p n i s) g) (moved_count n i d))

    -- Through an event a line's copies are conserved,
    pub event_conserves : (e : Event)
        → held_of k s + bit (of_line k (entry_of p e s))
        ≡ held_of k (after p e s) + bit (discards_line p k e s) + bit (replaces_line p k e s)
    unfolding effect entry_of into_node discards_line replaces_line carries_line
    event_conserves (enters kind j v) = entry_conserves (kind_number kind) j (value_held kind v) (event_keeps p rules (enters kind j v) s good)
    event_conserves (carries n i) = omega (arith, carry_conserves n i (event_keeps p rules (carries n i) s good))
    event_conserves (starts j) = omega (arith, held_still s (after p (starts j) s) (start_still j p s).nodes)
    event_conserves (steps i) = omega (arith, held_still s (after p (steps i) s) (step_still i p s).nodes)
    event_conserves (cancels i) = omega (arith, held_still s (after p (cancels i) s) (cancel_still i p s).nodes)
    event_conserves asks = omega arith

  -- and through every sequence.
  pub conserved : (es : List Event) (s : State) → StateRules p s → Conserved p k es s
  unfolding state_after_all entries summed
  conserved [] s good = omega arith
  conserved (e ∷ es) s good =
      omega (arith, event_conserves s good e, conserved es (after p e s) (event_keeps p rules e s good))
