-- All copies over every sequence: conservation, and the bound on what the carries' answers add up to.
use mathlib.Core.Path.{◌≡◌, refl}
use mathlib.Core.Bool.{cond, ◌&&◌}
use mathlib.Core.Logic.{◌⊎◌, inl, inr}
use mathlib.Core.List.{List, [], ◌∷◌, flatten}
use mathlib.Core.Option.{none, some}
use Prim.Native.Nat.{ℕ, zero, suc, ◌+◌, ◌-◌, ◌*◌, ◌<◌, ◌≤◌}
use native.Mathlib.Omega.{arith}
use native.Mathlib.Nat.{add-zero, mul-zero, mul-add, mul-le-mul_left, mul-le-mul_right, le_of_suc-le-suc, not-suc-le-zero}
use lib.Dec.{eqb}
use lib.ListN.{length, get_or, set, length-set, length-append}
use lib.Seq.{get_or-set_other}
use Rattle.lists.proofs.Options.{option?}
use Rattle.plan.specs.Plan.{Plan, size, capacity_of, edge_of}
use Rattle.plan.specs.PlanRules.{IsEdge, PlanRules}
use Rattle.store.specs.declared.Copy.{Copy}
use Rattle.store.specs.Answers.{DONE}
use Rattle.store.specs.Copies.{kind_number, value_held, copy, key_of, is_some}
use Rattle.store.specs.State.{State, node_at, line}
use Rattle.store.specs.StateRules.{StateRules}
use Rattle.store.specs.Calls.{Effect}
use Rattle.steps.specs.Entries.{put, entered as entered_into, entry}
use Rattle.steps.specs.Carries.{Merged, bit, merge_along, carried_out, carried_to, carry_step}
use Rattle.steps.proofs.NodeLists.{put_most, put_adds, put_replaces}
use Rattle.steps.proofs.RulesOnLines.{rising_nodes}
use Rattle.steps.proofs.WaysOut.{EntryWay, entry_way, CarryWay, carry_way}
use Rattle.steps.proofs.WaysOut.EntryWay.{at_last_clock, root_full, enters as copy-enters}
use Rattle.steps.proofs.WaysOut.CarryWay.{no_node, no_edge_lem, merges}
use Rattle.steps.proofs.Merges.{has, lacks, count, target_long, carried_count, rise_count}
use Rattle.steps.proofs.LineSteps.{merging_along, after_carry, carried_from_lem, carried_into, start_still, step_still, cancel_still}
use Rattle.theory.specs.Events.{Event, effect, after, state_after_all, entry_of, option_list, entered_copies, held}
use Rattle.theory.specs.Events.Event.{enters, carries, starts, steps, cancels, asks}
use Rattle.theory.proofs.EventSteps.{event_keeps}
use Rattle.paper.specs.Conserved.{summed, carry_answer, all_carried, all_discarded, replaces_root, all_replaced, AllConserved}

-- A carry along an edge: what the node has fallen by, and what the target has risen by.
module _ (p : Plan) (rules : PlanRules p) (s : State) (good : StateRules p s) (n i : ℕ) where
  abbrev target : ℕ
  target = (edge_of p n i).target

  abbrev merged : Merged Copy
  merged = merge_along p n (edge_of p n i) s

  merge_falls : length merged.stay + count (lacks key_of merged.stay) (node_at s n) ≡ length (node_at s n)
  merge_falls = carried_count key_of (capacity_of p target) (edge_of p n i) (merging_along p n (edge_of p n i) s) (rising_nodes p s good n)

  merge_rises : length merged.target + count (λ x. lacks key_of merged.stay x && has key_of (node_at s target) x) (node_at s n)
      ≡ length (node_at s target) + count (lacks key_of merged.stay) (node_at s n)
  merge_rises =
      rise_count key_of (capacity_of p target) (edge_of p n i) (merging_along p n (edge_of p n i) s) (rising_nodes p s good n)
      (rising_nodes p s good target)

  merge_long : length (node_at s target) ≤ length merged.target
  merge_long = target_long key_of (capacity_of p target) (edge_of p n i) (merging_along p n (edge_of p n i) s)

  -- The target rises by at most what the node falls by.
  pub rise_in_fall : IsEdge p n i → (s' : State) → s' ≡ after_carry p n i s
      → length (node_at s' target) - length (node_at s target) ≤ length (node_at s n) - length (node_at s' n)
  rise_in_fall d s' is =
      let down : (n < target) × (target < size p) = rules.target_greater_and_exists n i d in
      let there : target < length s.nodes = omega (arith, down.1, good.a_list_for_each_node) in
      let into : node_at s' target ≡ merged.target = rw is (carried_into n target merged s there) in
      let from : node_at s' n ≡ merged.stay =
      rw is (carried_from_lem n target merged s (omega (arith, there, down)) (λ (q : n ≡ target). omega (arith, down))) in
      rw (into, from) (omega (arith, merge_falls, merge_rises))

-- The copies of some lists, each list worth one less than the one before it.
worth : ℕ → List (List Copy) → ℕ
worth d [] = 0
worth d (xs ∷ xss) = d * length xs + worth (d - 1) xss

-- One list set to another: what all are worth, and how many all are.
worth-set : (d : ℕ) (xss : List (List Copy)) (n : ℕ) (ys : List Copy) → n < length xss
    → worth d (set xss n ys) + (d - n) * length (get_or xss n []) ≡ worth d xss + (d - n) * length ys
unfolding worth
worth-set d [] n ys h = absurd (not-suc-le-zero h)
worth-set d (xs ∷ xss) zero ys h = let z : d - 0 ≡ d = omega arith in rw z (omega arith)
worth-set d (xs ∷ xss) (suc n) ys h =
    let z : d - suc n ≡ (d - 1) - n = omega arith in
    rw z (omega (arith, worth-set (d - 1) xss n ys (le_of_suc-le-suc h)))

copies_set : (xss : List (List Copy)) (n : ℕ) (ys : List Copy) → n < length xss
    → length (flatten (set xss n ys)) + length (get_or xss n []) ≡ length (flatten xss) + length ys
unfolding flatten
copies_set [] n ys h = absurd (not-suc-le-zero h)
copies_set (xs ∷ xss) zero ys h = omega (arith, length-append xs (flatten xss), length-append ys (flatten xss))
copies_set (xs ∷ xss) (suc n) ys h =
    omega (
      arith,
      length-append xs (flatten xss),
      length-append xs (flatten (set xss n ys)),
      copies_set xss n ys (le_of_suc-le-suc h),
    )

-- All are worth at most the first's worth each.
worth_most : (d : ℕ) (xss : List (List Copy)) → worth d xss ≤ d * length (flatten xss)
unfolding worth flatten
worth_most d [] = rw mul-zero (omega arith)
worth_most d (xs ∷ xss) =
    let less : (d - 1) * length (flatten xss) ≤ d * length (flatten xss) = mul-le-mul_right (length (flatten xss)) (omega arith) in
    rw (length-append xs (flatten xss), mul-add d (length xs) (length (flatten xss)))
    (omega (arith, worth_most (d - 1) xss))

-- What a carry of `a` copies costs: they fall from worth f to worth g, less by one at least.
carry_cost : (f g a w w' n n' t t' : ℕ) → suc g ≤ f → n ≡ n' + a → t' ≤ t + a
    → w' + f * n + g * t ≡ w + f * n' + g * t' → a + w' ≤ w
carry_cost f g a w w' n n' t t' h e l q =
    let one : f * n ≡ f * n' + f * a = rw (e, mul-add f n' a) in
    let two : g * t' ≤ g * t + g * a = rw (← (mul-add g t a)) (mul-le-mul_left g l) in
    let three : suc g * a ≤ f * a = mul-le-mul_right a h in
    omega (arith, one, two, three)

module _ (p : Plan) (rules : PlanRules p) where
  module _ (s : State) (good : StateRules p s) where
    -- What an event's outcome does to the number of copies, and to what they are worth.
    record Total (made : List Copy) (carried discarded replaced : ℕ) (s' : State) : Type 0 where
      copies : length (held s) + length made ≡ length (held s') + discarded + replaced
      worths : carried + worth (size p - 1) s'.nodes ≤ worth (size p - 1) s.nodes + (size p - 1) * length made

    still : (s' : State) → s'.nodes ≡ s.nodes → Total [] 0 0 0 s'
    unfolding held
    still s' e =
        record {
          copies = rw e (omega arith);
          worths = rw (e, mul-zero) (omega arith);
        }

    -- An entry.
    entered_total : (x : Copy) → Total (x ∷ []) 0 0 (bit (is_some (line s x.key 0))) (entered_into x s)
    unfolding held entered_into
    entered_total x =
        record {
          copies = go (option? (line s x.key 0)) (copies_set s.nodes 0 (put key_of x (node_at s 0)) root);
          worths = added;
        }
      where
        root : 0 < length s.nodes
        root = omega (arith, good.a_list_for_each_node, rules.nodes_within)

        go : (line s x.key 0 ≡ none) ⊎ ((y : Copy) × (line s x.key 0 ≡ some y))
            → length (flatten (set s.nodes 0 (put key_of x (node_at s 0)))) + length (node_at s 0)
            ≡ length (flatten s.nodes) + length (put key_of x (node_at s 0))
            → length (flatten s.nodes) + 1
            ≡ length (flatten (set s.nodes 0 (put key_of x (node_at s 0)))) + 0 + bit (is_some (line s x.key 0))
        go (inl e) q = rw e (omega (arith, put_adds key_of x (node_at s 0) e))
        go (inr w) q = rw w.1 (omega (arith, put_replaces key_of x w.0 (rising_nodes p s good 0) w.1))

        added : 0 + worth (size p - 1) (set s.nodes 0 (put key_of x (node_at s 0))) ≤ worth (size p - 1) s.nodes + (size p - 1) * 1
        added =
            let more : (size p - 1) * length (put key_of x (node_at s 0)) ≤ (size p - 1) * (length (node_at s 0) + 1) =
            mul-le-mul_left (size p - 1) (omega (arith, put_most key_of x (node_at s 0))) in
            let z : (size p - 1) - 0 ≡ size p - 1 = omega arith in
            let q = rw z at (worth-set (size p - 1) s.nodes 0 (put key_of x (node_at s 0)) root) in
            omega (arith, more, q, mul-add (size p - 1) (length (node_at s 0)) 1)

    -- A carry along an edge.
    edge_total : (n i : ℕ) → IsEdge p n i → (o : Effect) → o ≡ carried_out n (edge_of p n i) (merge_along p n (edge_of p n i) s) s
        → Total [] o.answer.a o.answer.b 0 o.after
    unfolding held carried_out carried_to
    edge_total n i d o is =
        rw is (record {
          copies = omega (arith, first, rw same at second, falls, merge_rises p rules s good n i, merge_long p rules s good n i);
          worths =
              rw (mul-zero, add-zero)
              (carry_cost (size p - 1 - n) (size p - 1 - t) (length (node_at s n) - length m.stay) (worth (size p - 1) s.nodes)
              (worth (size p - 1) (set (set s.nodes n m.stay) t m.target)) (length (node_at s n)) (length m.stay)
              (length (node_at s t)) (length m.target) (omega (arith, down)) (omega (arith, falls))
              (omega (arith, falls, merge_rises p rules s good n i))
              (omega (arith, wfirst, rw same at wsecond)));
        })
      where
        t : ℕ
        t = (edge_of p n i).target

        m : Merged Copy
        m = merge_along p n (edge_of p n i) s

        down : (n < t) × (t < size p)
        down = rules.target_greater_and_exists n i d

        there : t < length s.nodes
        there = omega (arith, down.1, good.a_list_for_each_node)

        falls : length m.stay + count (lacks key_of m.stay) (node_at s n) ≡ length (node_at s n)
        falls = merge_falls p rules s good n i

        same : get_or (set s.nodes n m.stay) t [] ≡ node_at s t
        same = get_or-set_other s.nodes n t m.stay [] (λ (q : t ≡ n). omega (arith, down))

        first : length (flatten (set s.nodes n m.stay)) + length (node_at s n) ≡ length (flatten s.nodes) + length m.stay
        first = copies_set s.nodes n m.stay (omega (arith, down, there))

        second : length (flatten (set (set s.nodes n m.stay) t m.target)) + length (get_or (set s.nodes n m.stay) t [])
            ≡ length (flatten (set s.nodes n m.stay)) + length m.target
        second = copies_set (set s.nodes n m.stay) t m.target (rw length-set there)

        wfirst : worth (size p - 1) (set s.nodes n m.stay) + (size p - 1 - n) * length (node_at s n)
            ≡ worth (size p - 1) s.nodes + (size p - 1 - n) * length m.stay
        wfirst = worth-set (size p - 1) s.nodes n m.stay (omega (arith, down, there))

        wsecond : worth (size p - 1) (set (set s.nodes n m.stay) t m.target)
            + (size p - 1 - t) * length (get_or (set s.nodes n m.stay) t [])
            ≡ worth (size p - 1) (set s.nodes n m.stay) + (size p - 1 - t) * length m.target
        wsecond = worth-set (size p - 1) (set s.nodes n m.stay) t m.target (rw length-set there)

    entry_total : (kind k v : ℕ) (o : Effect) → EntryWay kind k v p s o
        → Total (option_list (cond (eqb o.answer.number DONE) (some (copy k kind v s.clock)) none)) 0 0
        (bit (replaces_root (cond (eqb o.answer.number DONE) (some (copy k kind v s.clock)) none) s)) o.after
    entry_total kind k v o (at_last_clock h) = still s refl
    entry_total kind k v o (root_full h f g) = still s refl
    entry_total kind k v o (copy-enters h f) = entered_total (copy k kind v s.clock)

    carry_total : (n i : ℕ) (o : Effect) → CarryWay n i p s o → Total [] o.answer.a o.answer.b 0 o.after
    carry_total n i o (no_node h) = still s refl
    carry_total n i o (no_edge_lem h f) = still s refl
    carry_total n i o (merges d) = edge_total n i d o refl

    event_total : (e : Event)
        → Total (option_list (entry_of p e s)) (carry_answer p e s).a (carry_answer p e s).b (bit (replaces_root (entry_of p e s) s)) (after p e s)
    unfolding effect entry_of carry_answer
    event_total (enters kind k v) =
        let held-value = value_held kind v in
        entry_total (kind_number kind) k held-value (entry (kind_number kind) k held-value p s) (entry_way (kind_number kind) k held-value p s)
    event_total (carries n i) = carry_total n i (carry_step n i p s) (carry_way n i p s)
    event_total (starts j) = still (after p (starts j) s) (start_still j p s).nodes
    event_total (steps i) = still (after p (steps i) s) (step_still i p s).nodes
    event_total (cancels i) = still (after p (cancels i) s) (cancel_still i p s).nodes
    event_total asks = still s refl

  -- Through a sequence all copies are conserved,
  balance : (es : List Event) (s : State) → StateRules p s
      → length (held s) + length (entered_copies p es s) ≡ length (held (state_after_all p es s)) + all_discarded p es s + all_replaced p es s
  unfolding state_after_all entered_copies summed
  balance [] s good = omega arith
  balance (e ∷ es) s good =
      omega (
        arith,
        length-append (option_list (entry_of p e s)) (entered_copies p es (after p e s)),
        (event_total s good e).copies,
        balance es (after p e s) (event_keeps p rules e s good),
      )

  -- and the carries are paid by what they are worth at the start, and by the entries.
  account : (es : List Event) (s : State) → StateRules p s
      → all_carried p es s + worth (size p - 1) (state_after_all p es s).nodes
      ≤ worth (size p - 1) s.nodes + (size p - 1) * length (entered_copies p es s)
  unfolding state_after_all entered_copies summed
  account [] s good = rw mul-zero (omega arith)
  account (e ∷ es) s good =
      rw (length-append (option_list (entry_of p e s)) (entered_copies p es (after p e s)), mul-add)
      (omega (arith, (event_total s good e).worths, account es (after p e s) (event_keeps p rules e s good)))

  pub all_conserved : (es : List Event) (s : State) → StateRules p s → AllConserved p es s
  unfolding held
  all_conserved es s good =
      record {
        balance = balance es s good;
        most_carried = rw mul-add (omega (arith, account es s good, worth_most (size p - 1) s.nodes));
      }
