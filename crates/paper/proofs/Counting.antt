-- A carry's answer counts lines: a is the number of keys whose line it carries, b of those whose copy in the target it discards.
use mathlib.Core.Path.{◌≡◌, refl, sym, ap, ◌∙◌, subst}
use mathlib.Core.Bool.{Bool, true, false, cond, not, ◌&&◌}
use mathlib.Core.Logic.{◌⊎◌, inl, inr}
use mathlib.Core.List.{List, [], ◌∷◌, Memᴰ}
use mathlib.Core.Option.{Option, none, some}
use Prim.Native.Nat.{ℕ}
use native.Mathlib.Omega.{arith}
use lib.Dec.{eqb}
use borrow.Author.Tests.{eqb-true, eq-eqb}
use Rattle.lists.proofs.Truths.{bool?, not_both, and_left, and_right, and_both}
use Rattle.std.proofs.lemmas.Bool.{false_from_ne_true}
use Rattle.lists.proofs.Options.{option?}
use Rattle.lists.proofs.Members.{place_member}
use Rattle.lists.proofs.RisingKeys.{Rising, rising_later}
use Rattle.plan.specs.Plan.{Plan, edge_of}
use Rattle.plan.specs.PlanRules.{IsEdge, PlanRules}
use Rattle.store.specs.declared.Copy.{Copy}
use Rattle.store.specs.Copies.{no_copy, key_of, find, is_some}
use Rattle.store.specs.State.{State, node_at, line}
use Rattle.store.specs.StateRules.{StateRules}
use Rattle.store.specs.Calls.{Effect}
use Rattle.steps.specs.Carries.{bit, carry_step}
use Rattle.steps.proofs.NodeLists.{find_same, find_key, find_place}
use Rattle.steps.proofs.Merges.{has, lacks, count}
use Rattle.steps.proofs.RulesOnLines.{rising_nodes}
use Rattle.steps.proofs.WaysOut.{CarryWay, carry_way}
use Rattle.steps.proofs.WaysOut.CarryWay.{no_node, no_edge_lem, merges}
use Rattle.steps.proofs.LineSteps.{after_carry}
use Rattle.steps.proofs.CarryLaws.{carry_after, carried_counts, discarded_counts}
use Rattle.theory.specs.Events.{Event, effect, entry_of, of_line, carries_line}
use Rattle.theory.specs.Events.Event.{enters, carries, starts, steps, cancels, asks}
use Rattle.paper.specs.Conserved.{into_node, discards_line, replaces_line, KeysWith, CountsLines, carry_answer, replaces_root}
use Rattle.paper.proofs.Passing.{passing, passing_rises, passing_only, passing_all, passing_count}

-- What stands in a list is found there.
member_found : (x : Copy) (xs : List Copy) → Memᴰ x xs → is_some (find key_of xs x.key) ≡ true
unfolding find
member_found x [] m = absurd (mathlib.Core.List.Memᴰ.not-nil m)
member_found x (y ∷ xs) (mathlib.Core.List.Memᴰ.head e) = ap is_some (find_same key_of y xs x.key (ap key_of (sym e)))
member_found x (y ∷ xs) (mathlib.Core.List.Memᴰ.tail m) = go (eqb y.key x.key) (member_found x xs m)
  where
    go : (b : Bool) → is_some (find key_of xs x.key) ≡ true → is_some (cond b (some y) (find key_of xs x.key)) ≡ true
    go true again = refl
    go false again = again

-- A test that only keys of the list pass, counted.
keys_with : (f : ℕ → Bool) (g : Copy → Bool) (xs : List Copy) (number : ℕ) → Rising key_of 0 xs
    → ((x : Copy) → Memᴰ x xs → f x.key ≡ g x) → ((k : ℕ) → f k ≡ true → is_some (find key_of xs k) ≡ true) → number ≡ count g xs
    → KeysWith f number
keys_with f g xs number r same there c =
    record {
      keys = passing key_of f xs;
      each_once = rising_later (λ (k : ℕ). k) (passing_rises key_of f r) 0;
      only = passing_only key_of f xs;
      all = λ k t. at k t (option? (find key_of xs k));
      counted = c ∙ passing_count key_of f g xs same;
    }
  where
    at : (k : ℕ) → f k ≡ true → (find key_of xs k ≡ none) ⊎ ((y : Copy) × (find key_of xs k ≡ some y)) → Memᴰ k (passing key_of f xs)
    at k t (inl e) = absurd (not_both (there k t) (ap is_some e))
    at k t (inr w) =
        let its : w.0.key ≡ k = find_key key_of xs k w.0 w.1 in
        let v = find_place key_of xs k w.0 no_copy w.1 in
        let stands : Memᴰ w.0 xs = subst (λ (y : Copy). Memᴰ y xs) v.2 (place_member xs no_copy v.0 v.1) in
        subst (λ (j : ℕ). Memᴰ j (passing key_of f xs)) its
        (passing_all key_of f w.0 xs stands (subst (λ (j : ℕ). f j ≡ true) (sym its) t))

-- A test that no key passes.
pub keys_none : (f : ℕ → Bool) (number : ℕ) → ((k : ℕ) → f k ≡ false) → number ≡ 0 → KeysWith f number
keys_none f number h e =
    record {
      keys = [];
      each_once = λ i j a b. absurd (omega arith);
      only = λ k m. absurd (mathlib.Core.List.Memᴰ.not-nil m);
      all = λ k t. absurd (not_both t (h k));
      counted = e;
    }

-- A test that one key passes.
pub one_key : (f : ℕ → Bool) (j number : ℕ) → f j ≡ true → ((k : ℕ) → f k ≡ true → j ≡ k) → number ≡ 1 → KeysWith f number
one_key f j number t u e =
    record {
      keys = j ∷ [];
      each_once = λ a b h g. absurd (omega arith);
      only = λ k m. subst (λ (i : ℕ). f i ≡ true) (sym (mathlib.Core.List.Memᴰ.eq_of_singleton m)) t;
      all = λ k v. mathlib.Core.List.Memᴰ.head (sym (u k v));
      counted = e;
    }

never_lost : (b : Bool) → b && not b ≡ false
never_lost true = refl
never_lost false = refl

module _ (p : Plan) (rules : PlanRules p) (s : State) (good : StateRules p s) (n i : ℕ) where
  -- What the counts say of a carry's outcome.
  record Counts (o : Effect) : Type 0 where
    carried_keys : KeysWith (λ k. is_some (line s k n) && not (is_some (line o.after k n))) o.answer.a
    discarded_keys :
        KeysWith (λ k. (is_some (line s k n) && not (is_some (line o.after k n))) && is_some (line s k (edge_of p n i).target))
        o.answer.b

  refused_counts : (o : Effect) → o.after ≡ s → o.answer.a ≡ 0 → o.answer.b ≡ 0 → Counts o
  refused_counts o e a b =
      record {
        carried_keys = keys_none _ o.answer.a lost a;
        discarded_keys =
            keys_none _ o.answer.b (λ k. ap (λ (c : Bool). c && is_some (line s k (edge_of p n i).target)) (lost k)) b;
      }
    where
      lost : (k : ℕ) → (is_some (line s k n) && not (is_some (line o.after k n))) ≡ false
      lost k = rw e (never_lost (is_some (line s k n)))

  edge_counts : IsEdge p n i → Counts (carry_step n i p s)
  edge_counts d =
      record {
        carried_keys =
            keys_with _ (lacks key_of (node_at (after_carry p n i s) n)) (node_at s n) (carry_step n i p s).answer.a (rising_nodes p s good n) agrees
            (λ k t. and_left (is_some (line s k n)) (not (is_some (line (carry_step n i p s).after k n))) t)
            (carried_counts p rules s good n i d);
        discarded_keys =
            keys_with _ (λ x. lacks key_of (node_at (after_carry p n i s) n) x && has key_of (node_at s (edge_of p n i).target) x) (node_at s n)
            (carry_step n i p s).answer.b (rising_nodes p s good n)
            (λ x m. ap (λ (b : Bool). b && is_some (line s x.key (edge_of p n i).target)) (agrees x m))
            (λ k t.
            and_left (is_some (line s k n)) (not (is_some (line (carry_step n i p s).after k n)))
            (and_left (is_some (line s k n) && not (is_some (line (carry_step n i p s).after k n))) (is_some (line s k (edge_of p n i).target)) t))
            (discarded_counts p rules s good n i d);
      }
    where
      agrees : (x : Copy) → Memᴰ x (node_at s n)
          → (is_some (line s x.key n) && not (is_some (line (carry_step n i p s).after x.key n)))
          ≡ lacks key_of (node_at (after_carry p n i s) n) x
      agrees x m = rw (member_found x (node_at s n) m, carry_after p rules s good n i d)

  all_counts : Counts (carry_step n i p s)
  all_counts = go (carry_way n i p s) refl
    where
      go : {o : Effect} → CarryWay n i p s o → o ≡ carry_step n i p s → Counts o
      go (no_node h) e = refused_counts _ refl refl refl
      go (no_edge_lem h f) e = refused_counts _ refl refl refl
      go (merges d) e = subst (λ (o : Effect). Counts o) (sym e) (edge_counts d)

-- The lines that an event carries or discards, or whose root copy it replaces, counted.
module _ (p : Plan) (rules : PlanRules p) (s : State) (good : StateRules p s) where
  no_line : KeysWith (λ k. false) 0
  no_line = keys_none (λ k. false) 0 (λ k. refl) refl

  -- A carry's answer, whatever node and edge it names: a lines carried, of them b with a copy discarded.
  pub counts_lines : (e : Event) → CountsLines p e s
  unfolding effect carries_line into_node discards_line carry_answer
  counts_lines (carries n i) =
      let c = all_counts p rules s good n i in
      record { lines_carried = c.carried_keys; lines_discarded = c.discarded_keys }
  counts_lines (enters kind j v) = record { lines_carried = no_line; lines_discarded = no_line }
  counts_lines (starts j) = record { lines_carried = no_line; lines_discarded = no_line }
  counts_lines (steps i) = record { lines_carried = no_line; lines_discarded = no_line }
  counts_lines (cancels i) = record { lines_carried = no_line; lines_discarded = no_line }
  counts_lines asks = record { lines_carried = no_line; lines_discarded = no_line }

  pub event_replaces : (e : Event) → KeysWith (λ k. replaces_line p k e s) (bit (replaces_root (entry_of p e s) s))
  unfolding replaces_line
  event_replaces e = go (entry_of p e s)
    where
      go : (o : Option Copy) → KeysWith (λ k. of_line k o && is_some (line s k 0)) (bit (replaces_root o s))
      go none = no_line
      go (some x) = at (bool? (is_some (line s x.key 0)))
        where
          at : (is_some (line s x.key 0) ≡ true) ⊎ (is_some (line s x.key 0) ≡ false)
              → KeysWith (λ k. eqb x.key k && is_some (line s k 0)) (bit (is_some (line s x.key 0)))
          at (inl t) =
              one_key (λ k. eqb x.key k && is_some (line s k 0)) x.key (bit (is_some (line s x.key 0)))
              (and_both (eq-eqb x.key x.key refl) t) (λ k u. eqb-true x.key k (and_left (eqb x.key k) (is_some (line s k 0)) u))
              (ap bit t)
          at (inr f) =
              keys_none (λ k. eqb x.key k && is_some (line s k 0)) (bit (is_some (line s x.key 0)))
              (λ k.
              false_from_ne_true (eqb x.key k && is_some (line s k 0))
              (λ u.
              not_both
              (subst (λ (j : ℕ). is_some (line s j 0) ≡ true) (sym (eqb-true x.key k (and_left (eqb x.key k) (is_some (line s k 0)) u)))
              (and_right (eqb x.key k) (is_some (line s k 0)) u))
              f))
              (ap bit f)
