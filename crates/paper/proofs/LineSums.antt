-- What is counted over all copies is the sum, over the lines, of what is counted by line.
use mathlib.Core.Path.{◌≡◌, refl, sym, ap, ◌∙◌, subst}
use mathlib.Core.Bool.{Bool, true, not}
use mathlib.Core.Logic.{◌⊎◌, inl, inr}
use mathlib.Core.List.Memᴰ
use mathlib.Core.List.{
  List,
  [],
  ◌∷◌,
  ◌++◌,
  Memᴰ,
}
use mathlib.Core.Option.{none, some}
use Prim.Native.Nat.{ℕ, suc, ◌+◌, ◌*◌, ◌≤◌}
use native.Mathlib.Omega.{arith}
use native.Mathlib.Decide.{ℕ_discrete}
use lib.Dec.{eqb}
use lib.ListN.{length, get_or}
use borrow.Author.Tests.{eqb-true, eq-eqb}
use Rattle.lists.proofs.Truths.{not_both, and_left, and_right}
use Rattle.lists.proofs.Options.{option?}
use Rattle.lists.proofs.Members.{place_member}
use Rattle.lists.proofs.RisingKeys.{rising_later, neighbours_rising}
use Rattle.lists.proofs.RisingKeys.Rising.{end}
use Rattle.plan.specs.Plan.{Plan, edges_on}
use Rattle.plan.specs.PlanRules.{PlanRules}
use Rattle.store.specs.declared.Copy.{Copy}
use Rattle.store.specs.Copies.{key_of, find, is_some}
use Rattle.store.specs.State.{State, line}
use Rattle.store.specs.StateRules.{StateRules}
use Rattle.steps.specs.Entries.{put}
use Rattle.steps.specs.Carries.{bit}
use Rattle.steps.proofs.Merges.{count}
use Rattle.steps.proofs.NodeLists.{find_key, find_place, put_same, put_other, put_rising}
use Rattle.steps.proofs.RulesOnLines.{line_key_lem}
use Rattle.theory.specs.Events.{
  Event,
  after,
  entry_of,
  option_list,
  entered_copies,
  held,
  of_line,
  copies_of,
  held_of,
  entries,
  carries_line,
  carried,
}
use Rattle.theory.specs.Events.Event.{enters, carries, starts, steps, cancels, asks}
use Rattle.theory.proofs.EventSteps.{event_keeps, held_or_entered}
use Rattle.theory.proofs.Invariants.{line_in_held, held_in_line, option_member}
use Rattle.theory.proofs.Bound.{copies_entered, bound}
use Rattle.paper.specs.Conserved.{
  summed,
  into_node,
  discards_line,
  replaces_line,
  KeysWith,
  carry_answer,
  all_carried,
  replaces_root,
  sum_over,
  AllKeys,
  LineSums,
}
use Rattle.paper.proofs.Passing.{Rises, passing_rises, passing_only, passing_all, passing_count, same_length}
use Rattle.paper.proofs.Counting.{one_key, counts_lines, event_replaces}

-- Sums.
sum-add : (ks : List ℕ) (f g : ℕ → ℕ) → sum_over ks (λ k. f k + g k) ≡ sum_over ks f + sum_over ks g
unfolding sum_over
sum-add [] f g = refl
sum-add (k ∷ ks) f g = omega (arith, sum-add ks f g)

sum-zero : (ks : List ℕ) → sum_over ks (λ k. 0) ≡ 0
unfolding sum_over
sum-zero [] = refl
sum-zero (k ∷ ks) = omega (arith, sum-zero ks)

sum-le : (ks : List ℕ) (f g : ℕ → ℕ) → ((k : ℕ) → f k ≤ g k) → sum_over ks f ≤ sum_over ks g
unfolding sum_over
sum-le [] f g h = omega arith
sum-le (k ∷ ks) f g h = omega (arith, h k, sum-le ks f g h)

pub sum_same : (ks : List ℕ) (f g : ℕ → ℕ) → ((k : ℕ) → f k ≡ g k) → sum_over ks f ≡ sum_over ks g
unfolding sum_over
sum_same [] f g h = refl
sum_same (k ∷ ks) f g h = omega (arith, h k, sum_same ks f g h)

-- The number of keys that pass a test is the sum of 1 for each, over any keys with all of them.
sum_count : (f : ℕ → Bool) (ks : List ℕ) → sum_over ks (λ k. bit (f k)) ≡ count f ks
unfolding sum_over count
sum_count f [] = refl
sum_count f (k ∷ ks) = omega (arith, sum_count f ks)

sum_keys : (f : ℕ → Bool) (number : ℕ) (ks : List ℕ) → KeysWith f number → Rises 0 ks → ((k : ℕ) → f k ≡ true → Memᴰ k ks)
    → number ≡ sum_over ks (λ k. bit (f k))
sum_keys f number ks w r h =
    let rises : Rises 0 w.keys =
    neighbours_rising (λ (k : ℕ). k) 0 w.keys 0 (λ g. omega arith) (λ i g. w.each_once i (suc i) (omega arith) g) in
    w.counted
    ∙ (same_length rises (passing_rises (λ (k : ℕ). k) f r)
    (λ k m. let t = w.only k m in passing_all (λ (j : ℕ). j) f k ks (h k t) t)
    (λ k m. w.all k (passing_only (λ (j : ℕ). j) f ks k m))
    ∙ sym (sum_count f ks ∙ passing_count (λ (k : ℕ). k) f f ks (λ k m. refl)))

-- A list's copies are the sum of its copies of each key.
sum_copies : (ks : List ℕ) → Rises 0 ks → (xs : List Copy) → ((x : Copy) → Memᴰ x xs → Memᴰ x.key ks)
    → length xs ≡ sum_over ks (λ k. copies_of k xs)
unfolding copies_of
sum_copies ks r [] h = sym (sum-zero ks)
sum_copies ks r (x ∷ xs) h =
    let one : 1 ≡ sum_over ks (λ k. bit (eqb x.key k)) =
    sum_keys (λ k. eqb x.key k) 1 ks
    (one_key (λ k. eqb x.key k) x.key 1 (eq-eqb x.key x.key refl) (λ k t. eqb-true x.key k t) refl) r
    (λ k t. subst (λ (j : ℕ). Memᴰ j ks) (eqb-true x.key k t) (h x (Memᴰ.head refl))) in
    omega (
      arith,
      one,
      sum_copies ks r xs (λ y m. h y (Memᴰ.tail m)),
      sum-add ks (λ k. bit (eqb x.key k)) (λ k. copies_of k xs),
    )

keys_rise : (xs : List Copy) (ks : List ℕ) → AllKeys xs ks → Rises 0 ks
keys_rise xs ks a = neighbours_rising (λ (k : ℕ). k) 0 ks 0 (λ g. omega arith) (λ i g. a.each_once i (suc i) (omega arith) g)

-- So it is over any keys with those of all copies.
pub sum_of_copies : (xs : List Copy) (ks : List ℕ) → AllKeys xs ks → length xs ≡ sum_over ks (λ k. copies_of k xs)
sum_of_copies xs ks a = sum_copies ks (keys_rise xs ks a) xs a.every_key

module _ (p : Plan) (rules : PlanRules p) (ks : List ℕ) (rises : Rises 0 ks) where
  -- The key of every copy of a list is among the keys.
  abbrev Keys : List Copy → Type 0
  Keys xs = (x : Copy) → Memᴰ x xs → Memᴰ x.key ks

  module _ (s : State) (good : StateRules p s) where
    -- After an event the copies held are of those held before it, or entered by it.
    keys_on : (e : Event) (es : List Event) → Keys (held s ++ entered_copies p (e ∷ es) s)
        → Keys (held (after p e s) ++ entered_copies p es (after p e s))
    unfolding entered_copies
    keys_on e es h x m = go (Memᴰ.append_cases (held (after p e s)) m)
      where
        at : ((n : ℕ) × (line s x.key n ≡ some x)) ⊎ (entry_of p e s ≡ some x) → Memᴰ x.key ks
        at (inl w) =
            h x
            (Memᴰ.append_left (option_list (entry_of p e s) ++ entered_copies p es (after p e s)) (line_in_held p rules s good x.key w.0 x w.1))
        at (inr q) =
            h x
            (Memᴰ.append_right (held s) (Memᴰ.append_left (entered_copies p es (after p e s)) (option_member (entry_of p e s) x q)))

        go : Memᴰ x (held (after p e s)) ⊎ Memᴰ x (entered_copies p es (after p e s)) → Memᴰ x.key ks
        go (inl a) =
            let w = held_in_line p rules (after p e s) (event_keeps p rules e s good) x a in
            at (held_or_entered p rules s good e x.key w.0 x w.1)
        go (inr a) = h x (Memᴰ.append_right (held s) (Memᴰ.append_right (option_list (entry_of p e s)) a))

    -- A line that stands in some node is among them.
    line_key_in : Keys (held s) → (k n : ℕ) → is_some (line s k n) ≡ true → Memᴰ k ks
    line_key_in h k n t = go (option? (line s k n))
      where
        go : (line s k n ≡ none) ⊎ ((x : Copy) × (line s k n ≡ some x)) → Memᴰ k ks
        go (inl f) = absurd (not_both t (ap is_some f))
        go (inr w) =
            subst (λ (j : ℕ). Memᴰ j ks) (line_key_lem p s k n w.0 w.1) (h w.0 (line_in_held p rules s good k n w.0 w.1))

  module _ (s : State) (good : StateRules p s) (h : Keys (held s)) where
    -- So are those that an event carries or discards, or whose root copy it replaces.
    carries_in : (e : Event) (k : ℕ) → carries_line p k e s ≡ true → Memᴰ k ks
    unfolding carries_line
    carries_in (carries n i) k t =
        line_key_in s good h k n (and_left (is_some (line s k n)) (not (is_some (line (after p (carries n i) s) k n))) t)
    carries_in (enters kind j v) k t = absurd (not_both t refl)
    carries_in (starts j) k t = absurd (not_both t refl)
    carries_in (steps i) k t = absurd (not_both t refl)
    carries_in (cancels i) k t = absurd (not_both t refl)
    carries_in asks k t = absurd (not_both t refl)

    discards_in : (e : Event) (k : ℕ) → discards_line p k e s ≡ true → Memᴰ k ks
    unfolding discards_line
    discards_in e k t = carries_in e k (and_left (carries_line p k e s) (is_some (line s k (into_node p e))) t)

    replaces_in : (e : Event) (k : ℕ) → replaces_line p k e s ≡ true → Memᴰ k ks
    unfolding replaces_line
    replaces_in e k t = line_key_in s good h k 0 (and_right (of_line k (entry_of p e s)) (is_some (line s k 0)) t)

  keys_held : (es : List Event) (s : State) → Keys (held s ++ entered_copies p es s) → Keys (held s)
  keys_held es s h x m = h x (Memᴰ.append_left (entered_copies p es s) m)

  keys_entered : (es : List Event) (s : State) → Keys (held s ++ entered_copies p es s) → Keys (entered_copies p es s)
  keys_entered es s h x m = h x (Memᴰ.append_right (held s) m)

  -- A number of each event that counts the lines which pass a test, summed over a sequence, is the sum over the lines.
  module _ (f : Event → State → ℕ) (test : ℕ → Event → State → Bool)
      (counts : (s : State) → StateRules p s → (e : Event) → KeysWith (λ k. test k e s) (f e s))
      (within : (s : State) → StateRules p s → Keys (held s) → (e : Event) (k : ℕ) → test k e s ≡ true → Memᴰ k ks) where
    sum_by_line : (es : List Event) (s : State) → StateRules p s → Keys (held s ++ entered_copies p es s)
        → summed p f es s ≡ sum_over ks (λ k. summed p (λ e t. bit (test k e t)) es s)
    unfolding summed
    sum_by_line [] s good h = sym (sum-zero ks)
    sum_by_line (e ∷ es) s good h =
        omega (
          arith,
          sum_keys (λ k. test k e s) (f e s) ks (counts s good e) rises (within s good (keys_held (e ∷ es) s h) e),
          sum_by_line es (after p e s) (event_keeps p rules e s good) (keys_on s good e es h),
          sum-add ks (λ k. bit (test k e s)) (λ k. summed p (λ d t. bit (test k d t)) es (after p e s)),
        )

-- Demand 3's count is such a sum.
carried-summed : (p : Plan) (k : ℕ) (es : List Event) (s : State) → summed p (λ e t. bit (carries_line p k e t)) es s ≡ carried p k es s
unfolding summed carried
carried-summed p k [] s = refl
carried-summed p k (e ∷ es) s = omega (arith, carried-summed p k es (after p e s))

-- Over every sequence, for any keys with those of all its copies.
pub line_sums : (p : Plan) → PlanRules p → (es : List Event) (s : State) → StateRules p s → (ks : List ℕ)
    → AllKeys (held s ++ entered_copies p es s) ks → LineSums p es s ks
line_sums p rules es s good ks a =
    record {
      of_held = sum_copies ks rises (held s) (keys_held p rules ks rises es s a.every_key);
      of_entered =
          sum_copies ks rises (entered_copies p es s) (keys_entered p rules ks rises es s a.every_key)
          ∙ sum_same ks (λ k. copies_of k (entered_copies p es s)) (λ k. entries p k es s) (λ k. copies_entered p k es s);
      of_carried = by_line;
      of_discarded =
          sum_by_line p rules ks rises (λ e t. (carry_answer p e t).b) (λ k. discards_line p k) (λ t g e. (counts_lines p rules t g e).lines_discarded)
          (discards_in p rules ks rises) es s good a.every_key;
      of_replaced =
          sum_by_line p rules ks rises (λ e t. bit (replaces_root (entry_of p e t) t)) (λ k. replaces_line p k) (event_replaces p rules)
          (replaces_in p rules ks rises) es s good a.every_key;
      most_carried_by-line =
          omega (
            arith,
            by_line,
            sum-le ks (λ k. carried p k es s) (λ k. edges_on p k * (held_of k s + entries p k es s)) (λ k. bound p rules k es s good),
          );
    }
  where
    rises : Rises 0 ks
    rises = keys_rise (held s ++ entered_copies p es s) ks a

    by_line : all_carried p es s ≡ sum_over ks (λ k. carried p k es s)
    by_line =
        sum_by_line p rules ks rises (λ e t. (carry_answer p e t).a) (λ k. carries_line p k) (λ t g e. (counts_lines p rules t g e).lines_carried)
        (carries_in p rules ks rises) es s good a.every_key
        ∙ sum_same ks (λ k. summed p (λ e t. bit (carries_line p k e t)) es s) (λ k. carried p k es s) (λ k. carried-summed p k es s)

-- The keys of some copies, each once.
keys_of : List Copy → List ℕ
keys_of [] = []
keys_of (x ∷ xs) = put (λ (k : ℕ). k) x.key (keys_of xs)

listed_rise : (xs : List Copy) → Rises 0 (keys_of xs)
unfolding keys_of
listed_rise [] = end
listed_rise (x ∷ xs) = put_rising (λ (k : ℕ). k) x.key (omega arith) (listed_rise xs)

key_found : (y : Copy) (xs : List Copy) → Memᴰ y xs → (j : ℕ) × (find (λ (k : ℕ). k) (keys_of xs) y.key ≡ some j)
unfolding keys_of
key_found y [] m = absurd (Memᴰ.not-nil m)
key_found y (x ∷ xs) (Memᴰ.head e) =
    (x.key, put_same (λ (k : ℕ). k) x.key (keys_of xs) y.key (ap key_of (sym e)))
key_found y (x ∷ xs) (Memᴰ.tail m) = go (ℕ_discrete x.key y.key) (key_found y xs m)
  where
    go : Dec (x.key ≡ y.key) → (j : ℕ) × (find (λ (k : ℕ). k) (keys_of xs) y.key ≡ some j)
        → (j : ℕ) × (find (λ (k : ℕ). k) (put (λ (k : ℕ). k) x.key (keys_of xs)) y.key ≡ some j)
    go (yes q) w = (x.key, put_same (λ (k : ℕ). k) x.key (keys_of xs) y.key q)
    go (no q) w = (w.0, put_other (λ (k : ℕ). k) x.key (keys_of xs) y.key q ∙ w.1)

key_listed : (y : Copy) (xs : List Copy) → Memᴰ y xs → Memᴰ y.key (keys_of xs)
key_listed y xs m =
    let w = key_found y xs m in
    let v = find_place (λ (k : ℕ). k) (keys_of xs) y.key w.0 0 w.1 in
    let its : get_or (keys_of xs) v.0 0 ≡ y.key = v.2 ∙ find_key (λ (k : ℕ). k) (keys_of xs) y.key w.0 w.1 in
    subst (λ (j : ℕ). Memᴰ j (keys_of xs)) its (place_member (keys_of xs) 0 v.0 v.1)

-- There are such keys, of every list of copies.
pub all_keys : (xs : List Copy) → (ks : List ℕ) × AllKeys xs ks
all_keys xs = (
  keys_of xs,
  record { each_once = rising_later (λ (k : ℕ). k) (listed_rise xs) 0; every_key = λ x. key_listed x xs },
)
