-- Demand 3: the bound is reached, for every plan that meets the plan rules, every line, every value, and every number of entries that the
-- clock allows.
use mathlib.Core.Path.{◌≡◌, refl, sym, ap, ◌∙◌, subst}
use mathlib.Core.Bool.{true, false, cond}
use mathlib.Core.Logic.{◌⊎◌, inl, inr}
use mathlib.Core.List.{List, [], ◌∷◌, ◌++◌}
use mathlib.Core.Option.{none, some}
use Prim.Native.Nat.{ℕ, zero, suc, ◌+◌, ◌-◌, ◌*◌, ◌<◌, ◌≤◌}
use native.Mathlib.Omega.{arith}
use native.Mathlib.Nat.{mul-zero, mul-suc}
use lib.Dec.{eqb}
use lib.ListN.{length, get_or}
use borrow.Author.Tests.{lt-ltb, eq-eqb}
use Rattle.lists.proofs.Truths.{bool?, and_both}
use Rattle.plan.specs.declared.Edge.{Edge}
use Rattle.std.specs.Prelude.{Some}
use Rattle.plan.specs.Plan.{Plan, no_edge, size, capacity_of, edges_of, edge_of, holds, first_edge, next, path, edges_on, IsPath}
use Rattle.plan.specs.Plan.IsPath.{last, more}
use Rattle.plan.specs.PlanRules.{IsEdge, PlanRules}
use Rattle.plan.proofs.NextLaws.{not_both_hops, one_target, next_in_plan, root_in_plan}
use Rattle.plan.proofs.PathLaws.{path_is}
use Rattle.store.specs.declared.Copy.{Copy}
use Rattle.store.specs.Answers.{DONE, answer}
use Rattle.store.specs.Copies.{RESULT, value_held, copy, key_of, find}
use Rattle.store.specs.Copies.Kind.{result}
use Rattle.store.specs.State.{State, last_clock, node_at, line, fresh}
use Rattle.store.specs.StateRules.{StateRules}
use Rattle.store.specs.Calls.{Effect}
use Rattle.store.proofs.Lifting.{fresh-node, fresh_rules}
use Rattle.steps.specs.Entries.{put, room, entered, entry}
use Rattle.steps.specs.Carries.{Merged, bit, carries as carries_copy, merge, merge_along, carried_to}
use Rattle.steps.proofs.NodeLists.{find_same, find_empty, put_over, room_has, room_free}
use Rattle.steps.proofs.Merges.{merge_carry}
use Rattle.steps.proofs.LineSteps.{every_node-entered, every_node-carried, entered_root, carried_from_lem, carried_into, after_carry}
use Rattle.steps.proofs.CarryLaws.{carry_after}
use Rattle.theory.specs.Events.{
  Event,
  effect,
  after,
  state_after_all,
  entry_of,
  of_line,
  entries,
  carries_line,
  carried,
  edge_for,
  carries_down,
  rounds,
}
use Rattle.theory.specs.Events.Event.{enters, carries}
use Rattle.theory.proofs.EventSteps.{event_keeps, after-all-append}

-- A node that holds at most the line's copy.
data Alone (k : ℕ) : List Copy → Type 0 where
  nothing : Alone k []
  single : (x : Copy) → x.key ≡ k → Alone k (x ∷ [])

-- There is room in it for the line's copy, and a copy put into it stands alone.
alone_room : (k capacity : ℕ) {ys : List Copy} → Alone k ys → 1 ≤ capacity → room key_of capacity ys k ≡ true
alone_room k capacity nothing h = room_free key_of capacity [] k h
alone_room k capacity (single y e) h = room_has key_of capacity (y ∷ []) k y (find_same key_of y [] k e)

put_alone : (x : Copy) {ys : List Copy} → Alone x.key ys → put key_of x ys ≡ x ∷ []
put_alone x nothing = unfold put in refl
put_alone x (single y e) = put_over key_of x y [] (sym e)

-- Such a copy is carried.
merge_alone : (capacity : ℕ) (e : Edge) (x : Copy) (ys : List Copy) → Alone x.key ys → holds e x.key ≡ true → 1 ≤ capacity
    → merge key_of capacity e (x ∷ []) ys ≡ record { stay = []; target = x ∷ [] }
merge_alone capacity e x ys o h c =
    let t : carries_copy key_of capacity e x ys ≡ true = unfold carries_copy in and_both h (alone_room x.key capacity o c) in
    let end : merge key_of capacity e [] (put key_of x ys) ≡ record { stay = []; target = put key_of x ys } = unfold merge in refl in
    merge_carry key_of capacity e x [] ys t
    ∙ (end ∙ ap (λ (l : List Copy). record { stay = []; target = l }) (put_alone x o))

-- The edge number for a key is that of the edge which takes it on.
record EdgeFor (es : List Edge) (k t : ℕ) : Type 0 where
  within : edge_for es k < length es
  held : holds (get_or es (edge_for es k) no_edge) k ≡ true
  goes : (get_or es (edge_for es k) no_edge).target ≡ t

edge_for_lem : (es : List Edge) (k t : ℕ) → first_edge es k ≡ Some t → EdgeFor es k t
unfolding first_edge edge_for
edge_for_lem [] k t e = absurd (not_both_hops refl e)
edge_for_lem (d ∷ es) k t e = go (bool? (holds d k)) (edge_for_lem es k t)
  where
    go : (holds d k ≡ true) ⊎ (holds d k ≡ false) → (first_edge es k ≡ Some t → EdgeFor es k t) → EdgeFor (d ∷ es) k t
    go (inl h) again =
        let q : Some d.target ≡ Some t = rw h at e in
        record { within = rw h (omega arith); held = rw h h; goes = rw h (one_target refl q) }
    go (inr h) again =
        let w = again (rw h at e) in
        record { within = rw h (omega (arith, w.within)); held = rw h w.held; goes = rw h w.goes }

-- One sequence after another.
module _ (p : Plan) (k : ℕ) where
  pub carried-append : (es fs : List Event) (s : State) → carried p k (es ++ fs) s ≡ carried p k es s + carried p k fs (state_after_all p es s)
  unfolding state_after_all carried
  carried-append [] fs s = omega arith
  carried-append (e ∷ es) fs s = omega (arith, carried-append es fs (after p e s))

  pub entries-append : (es fs : List Event) (s : State) → entries p k (es ++ fs) s ≡ entries p k es s + entries p k fs (state_after_all p es s)
  unfolding state_after_all entries
  entries-append [] fs s = omega arith
  entries-append (e ∷ es) fs s = omega (arith, entries-append es fs (after p e s))

module _ (p : Plan) (rules : PlanRules p) (k : ℕ) where
  -- A state that meets the rules, in which every node holds at most the line's copy.
  record Ready (s : State) : Type 0 where
    good : StateRules p s
    alone : (n : ℕ) → Alone k (node_at s n)

  -- What an event leads to: a ready state with the line's copy in one node; and what was counted.
  record Leads (n : ℕ) (x : Copy) (s : State) (e : Event) (moves joins ticks : ℕ) : Type 0 where
    ready : Ready (after p e s)
    stands : node_at (after p e s) n ≡ x ∷ []
    counts_moves : bit (carries_line p k e s) ≡ moves
    counts_entered : bit (of_line k (entry_of p e s)) ≡ joins
    clock : (after p e s).clock ≡ ticks + s.clock

  -- The copy of an entered result.
  abbrev result_of : ℕ → State → Copy
  result_of v s = copy k RESULT (value_held result v) s.clock

  enters_alone : (s : State) → Ready s → (v : ℕ) → s.clock < last_clock → Leads 0 (result_of v s) s (enters result k v) 0 1 1
  unfolding effect entry_of carries_line
  enters_alone s r v h =
      record {
        ready =
            record {
              good = event_keeps p rules (enters result k v) s r.good;
              alone =
                  rw went
                  (every_node-entered x s root (λ j xs. Alone k xs)
                  (subst (λ (xs : List Copy). Alone k xs) (sym (put_alone x (r.alone 0))) (single x refl)) r.alone);
            };
        stands = rw went (entered_root x s root ∙ put_alone x (r.alone 0));
        counts_moves = refl;
        counts_entered =
            ap (λ (o : Effect). bit (of_line k (cond (eqb o.answer.number DONE) (some x) none))) was ∙ ap bit (eq-eqb k k refl);
        clock = rw went (unfold entered in omega arith);
      }
    where
      x : Copy
      x = result_of v s

      root : 0 < length s.nodes
      root = omega (arith, r.good.a_list_for_each_node, rules.nodes_within)

      was : entry RESULT k (value_held result v) p s ≡ record { answer = answer DONE s.clock 0 0 0; after = entered x s }
      was =
          unfold entry in
          rw (
            lt-ltb s.clock last_clock h,
            alone_room k (capacity_of p 0) (r.alone 0) (rules.capacity_within 0 (root_in_plan p rules)).0,
          )

      went : after p (enters result k v) s ≡ entered x s
      went = ap (λ (o : Effect). o.after) was

  -- The carry that takes the line on from a node.
  abbrev onward : ℕ → Event
  onward n = carries n (edge_for (edges_of p n) k)

  carries_alone : (s : State) → Ready s → (n t : ℕ) → next p n k ≡ Some t → (x : Copy) → x.key ≡ k → node_at s n ≡ x ∷ []
      → Leads t x s (onward n) 1 0 0
  unfolding effect entry_of carries_line next
  carries_alone s r n t e x q at =
      record {
        ready =
            record {
              good = event_keeps p rules (onward n) s r.good;
              alone =
                  rw went
                  (every_node-carried n u m s down.0 exists (λ j xs. Alone k xs) (subst (λ (xs : List Copy). Alone k xs) (sym (ap (λ (f : Merged Copy). f.stay) is)) nothing)
                  (subst (λ (xs : List Copy). Alone k xs) (sym (ap (λ (f : Merged Copy). f.target) is)) (single x q)) r.alone);
            };
        stands = rw (went, ← w.goes) (carried_into n u m s exists ∙ ap (λ (f : Merged Copy). f.target) is);
        counts_moves = rw (had, lacks);
        counts_entered = refl;
        clock = rw went (unfold carried_to in omega arith);
      }
    where
      i : ℕ
      i = edge_for (edges_of p n) k

      w : EdgeFor (edges_of p n) k t
      w = edge_for_lem (edges_of p n) k t e

      d : IsEdge p n i
      d = record { node = next_in_plan p n k t e; edge = w.within }

      u : ℕ
      u = (edge_of p n i).target

      m : Merged Copy
      m = merge_along p n (edge_of p n i) s

      down : (n < u) × (u < size p)
      down = rules.target_greater_and_exists n i d

      exists : u < length s.nodes
      exists = omega (arith, down.1, r.good.a_list_for_each_node)

      went : after p (onward n) s ≡ after_carry p n i s
      went = carry_after p rules s r.good n i d

      is : m ≡ record { stay = []; target = x ∷ [] }
      is =
          unfold merge_along in
          rw at
          (merge_alone (capacity_of p u) (edge_of p n i) x (node_at s u) (subst (λ (j : ℕ). Alone j (node_at s u)) (sym q) (r.alone u))
          (subst (λ (j : ℕ). holds (edge_of p n i) j ≡ true) (sym q) w.held) (rules.capacity_within u down.1).0)

      had : line s k n ≡ some x
      had = ap (λ (xs : List Copy). find key_of xs k) at ∙ find_same key_of x [] k q

      lacks : line (after p (onward n) s) k n ≡ none
      lacks =
          rw went
          (ap (λ (xs : List Copy). find key_of xs k)
          (carried_from_lem n u m s (omega (arith, down, exists)) (λ (z : n ≡ u). omega (arith, down)) ∙ ap (λ (f : Merged Copy). f.stay) is)
          ∙ find_empty key_of k)

  -- What a sequence leads to.
  record LeadsOn (s : State) (es : List Event) (moves joins : ℕ) : Type 0 where
    ready : Ready (state_after_all p es s)
    counts_moves : carried p k es s ≡ moves
    counts_entered : entries p k es s ≡ joins
    clock : (state_after_all p es s).clock ≡ joins + s.clock

  -- Down the whole path, the copy is carried along every edge of it.
  carries_down_lem : {n : ℕ} {ns : List ℕ} → IsPath (λ m. next p m k) n ns → (s : State) → Ready s → (x : Copy) → x.key ≡ k
      → node_at s n ≡ x ∷ [] → LeadsOn s (carries_down p k ns) (length ns - 1) 0
  unfolding carries_down state_after_all carried entries
  carries_down_lem (last e) s r x q at = record { ready = r; counts_moves = refl; counts_entered = refl; clock = omega arith }
  carries_down_lem (more {n = n} {t = t} e (last f)) s r x q at =
      let c = carries_alone s r n t e x q at in
      record {
        ready = c.ready;
        counts_moves = omega (arith, c.counts_moves);
        counts_entered = omega (arith, c.counts_entered);
        clock = omega (arith, c.clock);
      }
  carries_down_lem (more {n = n} {t = t} e (more f g)) s r x q at =
      let c = carries_alone s r n t e x q at in
      let d = carries_down_lem (more f g) (after p (onward n) s) c.ready x q c.stands in
      record {
        ready = d.ready;
        counts_moves = omega (arith, c.counts_moves, d.counts_moves);
        counts_entered = omega (arith, c.counts_entered, d.counts_entered);
        clock = omega (arith, c.clock, d.clock);
      }

  -- And again, so many times.
  all-rounds : (v r : ℕ) (s : State) → Ready s → r + s.clock ≤ last_clock → LeadsOn s (rounds p k v r) (edges_on p k * r) r
  unfolding rounds state_after_all carried entries
  all-rounds v zero s y h = record { ready = y; counts_moves = sym (mul-zero (edges_on p k)); counts_entered = refl; clock = omega arith }
  all-rounds v (suc r) s y h =
      let b = enters_alone s y v (omega arith) in
      let s₁ : State = after p (enters result k v) s in
      let downward : List Event = carries_down p k (path p k) in
      let d = carries_down_lem (path_is p rules k 0 (root_in_plan p rules)) s₁ b.ready (result_of v s) refl b.stands in
      let f = all-rounds v r (state_after_all p downward s₁) d.ready (omega (arith, b.clock, d.clock)) in
      record {
        ready = subst Ready (sym (after-all-append p downward (rounds p k v r) s₁)) f.ready;
        counts_moves =
            rw mul-suc
            (omega (arith, carried-append p k downward (rounds p k v r) s₁, b.counts_moves, d.counts_moves, f.counts_moves));
        counts_entered =
            omega (arith, entries-append p k downward (rounds p k v r) s₁, b.counts_entered, d.counts_entered, f.counts_entered);
        clock =
            omega (
              arith,
              ap (λ (z : State). z.clock) (after-all-append p downward (rounds p k v r) s₁),
              b.clock,
              d.clock,
              f.clock,
            );
      }

  fresh_ready : Ready (fresh p)
  fresh_ready =
      record { good = fresh_rules p; alone = λ n. subst (λ (xs : List Copy). Alone k xs) (sym (fresh-node p n)) nothing }

  -- The bound is reached: from a fresh state, so many entries and as many carries as the bound allows.
  pub reached : (v r : ℕ) → r < last_clock
      → (entries p k (rounds p k v r) (fresh p) ≡ r) × (carried p k (rounds p k v r) (fresh p) ≡ edges_on p k * r)
  reached v r h =
      let d = all-rounds v r (fresh p) fresh_ready (unfold fresh in omega arith) in
      (d.counts_entered, d.counts_moves)
