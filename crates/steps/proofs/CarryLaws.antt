-- What a carry does, in document 01's words: what it carries and what it leaves, what its three numbers count, that it moves each copy
-- to the target and nowhere else, and that the same carry again moves nothing.
use mathlib.Core.Path.{◌≡◌, refl, sym, ap, ◌∙◌}
use mathlib.Core.Bool.{true, false, ◌&&◌}
use mathlib.Core.List.{List, []}
use mathlib.Core.Option.{none, some}
use Prim.Native.Nat.{ℕ, ◌+◌, ◌-◌, ◌<◌, ◌≤◌}
use native.Mathlib.Omega.{arith}
use lib.ListN.{length, set}
use lib.Seq.{set-get_or}
use borrow.Author.Tests.{lt-ltb}
use Rattle.lists.proofs.Truths.{not_both}
use Rattle.lists.proofs.Options.{not_none_and_some, one_some}
use Rattle.lists.proofs.Orders.{Order, order?}
use Rattle.lists.proofs.Orders.Order.{less, equal, more}
use Rattle.plan.specs.declared.Edge.{Edge}
use Rattle.plan.specs.Plan.{Plan, size, capacity_of, edges_of, edge_of, holds}
use Rattle.plan.specs.PlanRules.{IsEdge, PlanRules}
use Rattle.store.specs.declared.Answer.{Answer}
use Rattle.store.specs.declared.Copy.{Copy}
use Rattle.store.specs.Answers.{DONE, answer}
use Rattle.store.specs.Copies.{key_of, find}
use Rattle.store.specs.State.{State, node_at, line}
use Rattle.store.specs.StateRules.{StateRules}
use Rattle.store.specs.Calls.{Effect}
use Rattle.steps.specs.Carries.{Merged, count_held, merge_along, carried_to, carried_out, carry_step}
use Rattle.steps.proofs.Merges.{
  Merging,
  KeyMerged,
  has,
  lacks,
  count,
  stay_short,
  target_long,
  left_full,
  held_counts,
  carried_count,
  rise_count,
  none_carried,
  merge_twice,
}
use Rattle.steps.proofs.Merges.KeyMerged.{untouched, carried}
use Rattle.steps.proofs.RulesOnLines.{rising_nodes, line_rules}
use Rattle.steps.proofs.LineSteps.{after_carry, merging_along, carried_key, carried_from_lem, carried_into, every_node-carried}
use Rattle.steps.proofs.Keeping.{carried_keeps}

module _ (p : Plan) (rules : PlanRules p) (s : State) (good : StateRules p s) (n i : ℕ) (d : IsEdge p n i) where
  abbrev e : Edge
  e = edge_of p n i

  abbrev t : ℕ
  t = (edge_of p n i).target

  abbrev merged : Merged Copy
  merged = merge_along p n (edge_of p n i) s

  abbrev s' : State
  s' = after_carry p n i s

  down : (n < t) × (t < size p)
  down = rules.target_greater_and_exists n i d

  exists : t < length s.nodes
  exists = omega (arith, down.1, good.a_list_for_each_node)

  along : Merging key_of (capacity_of p t) e (node_at s n) (node_at s t) merged.stay merged.target
  along = merging_along p n e s

  at_n : node_at s' n ≡ merged.stay
  at_n = carried_from_lem n t merged s (omega (arith, exists, down)) (λ (q : n ≡ t). omega (arith, down))

  at_t : node_at s' t ≡ merged.target
  at_t = carried_into n t merged s exists

  -- A carry along an edge of the plan is done.
  pub carry_done : carry_step n i p s ≡ carried_out n (edge_of p n i) (merge_along p n (edge_of p n i) s) s
  unfolding carry_step
  carry_done = rw (lt-ltb n (size p) d.node, lt-ltb i (length (edges_of p n)) d.edge)

  pub carry_after : (carry_step n i p s).after ≡ after_carry p n i s
  carry_after = ap (λ (o : Effect). o.after) carry_done ∙ (unfold carried_out in refl)

  line_n : (k : ℕ) → line s' k n ≡ find key_of merged.stay k
  line_n k = ap (λ (xs : List Copy). find key_of xs k) at_n

  line_t : (k : ℕ) → line s' k t ≡ find key_of merged.target k
  line_t k = ap (λ (xs : List Copy). find key_of xs k) at_t

  -- "A carry carries a line exactly when the node had its copy before and lacks it after."
  pub record LineCarried (k : ℕ) (x : Copy) : Type 0 where
    pub had : line s k n ≡ some x
    pub gone : line s' k n ≡ none

  -- A carried line's key is in the edge's range; the carried copy stands in the target, and nowhere else.
  pub carried_in_range : (k : ℕ) (x : Copy) → LineCarried k x → holds e k ≡ true
  carried_in_range k x c = go (carried_key p rules s good k n e)
    where
      go : KeyMerged key_of e (node_at s n) (node_at s t) merged.stay merged.target k → holds e k ≡ true
      go (untouched f g) = absurd (not_none_and_some (sym (line_n k ∙ f) ∙ c.gone) c.had)
      go (carried y f h g j) = h

  pub carried_stands : (k : ℕ) (x : Copy) → LineCarried k x → line s' k t ≡ some x
  carried_stands k x c = go (carried_key p rules s good k n e)
    where
      go : KeyMerged key_of e (node_at s n) (node_at s t) merged.stay merged.target k → line s' k t ≡ some x
      go (untouched f g) = absurd (not_none_and_some (sym (line_n k ∙ f) ∙ c.gone) c.had)
      go (carried y f h g j) = line_t k ∙ (j ∙ ap some (one_some f c.had))

  pub carried_once : (k : ℕ) (x : Copy) → LineCarried k x → (m : ℕ) → line s' k m ≡ some x → m ≡ t
  carried_once k x c m f = go (order? m t)
    where
      fall : (a b : ℕ) → line s' k a ≡ some x → line s' k b ≡ some x → a < b → x.stamp < x.stamp
      fall a b = (line_rules p s' (carried_keeps p rules s good n i d)).fall k a b x x

      go : Order m t → m ≡ t
      go (less h) = absurd (omega (arith, fall m t f (carried_stands k x c) h))
      go (equal h) = h
      go (more h) = absurd (omega (arith, fall t m (carried_stands k x c) f h))

  -- A line that is not carried is as it was, in every node;
  pub not_carried : (k : ℕ) → ((x : Copy) → LineCarried k x → ⊥) → (m : ℕ) → line s' k m ≡ line s k m
  not_carried k c = go (carried_key p rules s good k n e)
    where
      go : KeyMerged key_of e (node_at s n) (node_at s t) merged.stay merged.target k → (m : ℕ) → line s' k m ≡ line s k m
      go (untouched f g) = every_node-carried n t merged s down.0 exists (λ j xs. find key_of xs k ≡ line s k j) f g (λ j. refl)
      go (carried x f h g j) = absurd (c x (record { had = f; gone = line_n k ∙ g }))

  -- so is one outside the edge's range.
  pub outside_untouched : (k : ℕ) → holds e k ≡ false → (m : ℕ) → line s' k m ≡ line s k m
  outside_untouched k h = not_carried k (λ x c. not_both (carried_in_range k x c) h)

  -- A copy in the range that stays had no room: the target lacked its key, lacks it, and is full.
  pub left_no_room : (k : ℕ) (x : Copy) → line s' k n ≡ some x → holds e k ≡ true
      → (line s k t ≡ none) × (line s' k t ≡ none) × (length (node_at s' t) ≡ capacity_of p t)
  left_no_room k x f h =
      let w = left_full key_of (capacity_of p t) e along (rising_nodes p s good n) k x (sym (line_n k) ∙ f) h in
      let lacks : line s' k t ≡ none = line_t k ∙ w.0 in
      let within = (carried_keeps p rules s good n i d).counts_within_capacity t down.1 in (
        sym (not_carried k (λ y c. not_none_and_some c.gone f) t) ∙ lacks,
        lacks,
        omega (arith, within, w.1, ap length at_t),
      )

  -- The carry's answer, from its state before and after: DONE; the fall in the node's count; that less the rise in the target's; and the
  -- copies in the edge's range still in the node.
  pub carry_answer_lem : (carry_step n i p s).answer
      ≡ answer DONE (length (node_at s n) - length (node_at s' n))
      ((length (node_at s n) - length (node_at s' n)) - (length (node_at s' t) - length (node_at s t))) (count_held key_of e (node_at s' n)) 0
  carry_answer_lem = rw (at_n, at_t) (ap (λ (o : Effect). o.answer) carry_done ∙ (unfold carried_out in refl))

  -- None of its differences is cut off at 0: the node's count does not rise, and the target's rises by no more than was carried.
  pub node_falls : length (node_at s' n) ≤ length (node_at s n)
  node_falls = rw at_n (stay_short key_of (capacity_of p t) e along)

  pub target_rises : length (node_at s t) ≤ length (node_at s' t)
  target_rises = rw at_t (target_long key_of (capacity_of p t) e along)

  -- Carried is the number of the node's copies that it then lacks,
  pub carried_counts : (carry_step n i p s).answer.a ≡ count (lacks key_of (node_at s' n)) (node_at s n)
  carried_counts =
      rw (carry_answer_lem, at_n) (omega (arith, carried_count key_of (capacity_of p t) e along (rising_nodes p s good n)))

  -- discarded the number of those whose keys the target had,
  pub discarded_counts : (carry_step n i p s).answer.b
      ≡ count (λ x. lacks key_of (node_at s' n) x && has key_of (node_at s t) x) (node_at s n)
  discarded_counts =
      rw (carry_answer_lem, at_n, at_t)
      (omega (
        arith,
        carried_count key_of (capacity_of p t) e along (rising_nodes p s good n),
        rise_count key_of (capacity_of p t) e along (rising_nodes p s good n) (rising_nodes p s good t),
        target_long key_of (capacity_of p t) e along,
      ))

  -- and carried and left together the number of the node's copies in the range.
  pub carried_and_left : (carry_step n i p s).answer.a + (carry_step n i p s).answer.c ≡ count_held key_of e (node_at s n)
  carried_and_left =
      rw (carry_answer_lem, at_n)
      (omega (arith, held_counts key_of (capacity_of p t) e along, stay_short key_of (capacity_of p t) e along))

  -- A state is as it was where what stays is what was there and the target has what it had.
  as_it_was : merged.stay ≡ node_at s n → merged.target ≡ node_at s t → s' ≡ s
  unfolding carried_to
  as_it_was f g =
      ap (λ (ns : List (List Copy)). record { clock = s.clock; nodes = ns; slots = s.slots })
      (ap (λ (xs : List Copy). set (set s.nodes n xs) t merged.target) f
      ∙ (ap (λ (ns : List (List Copy)). set ns t merged.target) (set-get_or s.nodes n [])
      ∙ (ap (λ (xs : List Copy). set s.nodes t xs) g ∙ set-get_or s.nodes t [])))

  as_it_was_done : s' ≡ s → carry_step n i p s ≡ record { answer = answer DONE 0 0 (count_held key_of e (node_at s n)) 0; after = s }
  as_it_was_done f =
      let same : (carry_step n i p s).answer ≡ answer DONE 0 0 (count_held key_of e (node_at s n)) 0 =
      carry_answer_lem
      ∙ (ap
      (λ (z : State).
      answer DONE (length (node_at s n) - length (node_at z n))
      ((length (node_at s n) - length (node_at z n)) - (length (node_at z t) - length (node_at s t))) (count_held key_of e (node_at z n)) 0)
      f
      ∙ rw (none_fall, none_rise)) in
      let after : (carry_step n i p s).after ≡ s = carry_after ∙ f in
      λ j. record { answer = same j; after = after j }
    where
      none_fall : length (node_at s n) - length (node_at s n) ≡ 0
      none_fall = omega arith

      none_rise : 0 - (length (node_at s t) - length (node_at s t)) ≡ 0
      none_rise = omega arith

  -- "A carry that moves nothing is DONE", and leaves the state as it was.
  pub nothing_moved : (carry_step n i p s).answer.a ≡ 0
      → carry_step n i p s ≡ record { answer = answer DONE 0 0 (count_held key_of e (node_at s n)) 0; after = s }
  nothing_moved z =
      let fall : length (node_at s n) - length (node_at s' n) ≡ 0 = sym (ap (λ (o : Answer). o.a) carry_answer_lem) ∙ z in
      let w =
      none_carried key_of (capacity_of p t) e along (omega (arith, stay_short key_of (capacity_of p t) e along, ap length at_n)) in
      as_it_was_done (as_it_was w.0 w.1)

  -- The same merge again gives what is there.
  again : ((merge_along p n e s').stay ≡ node_at s' n) × ((merge_along p n e s').target ≡ node_at s' t)
  again =
      let w =
      merge_twice key_of (capacity_of p t) e along (rising_nodes p s good n) (rw (at_n, at_t) at (merging_along p n e s')) in
      (w.0 ∙ sym at_n, w.1 ∙ sym at_t)

-- Carrying twice: the second carry moves nothing, and leaves what the first left.
pub carry_twice : (p : Plan) → PlanRules p → (s : State) → StateRules p s → (n i : ℕ) → IsEdge p n i
    → carry_step n i p (carry_step n i p s).after
    ≡ record {
      answer = answer DONE 0 0 (carry_step n i p s).answer.c 0;
      after = (carry_step n i p s).after;
    }
carry_twice p rules s good n i d =
    let good' = carried_keeps p rules s good n i d in
    let w = again p rules s good n i d in
    rw (carry_after p rules s good n i d, carry_answer_lem p rules s good n i d)
    (as_it_was_done p rules (after_carry p n i s) good' n i d (as_it_was p rules (after_carry p n i s) good' n i d w.0 w.1))
