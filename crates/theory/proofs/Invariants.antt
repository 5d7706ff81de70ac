-- The paper's structure, kept by every event and so by every sequence: its invariants 1 to 4, from any state that meets the state rules,
-- with the copies that it holds as the history.
use mathlib.Core.Path.{◌≡◌, refl, sym, ap, ◌∙◌, subst}
use mathlib.Core.Logic.{◌⊎◌, inl, inr}
use mathlib.Core.List.Memᴰ
use mathlib.Core.List.{
  List,
  [],
  ◌∷◌,
  ◌++◌,
  flatten,
  append_assoc,
  Memᴰ,
}
use mathlib.Core.Option.{Option, none, some}
use Prim.Native.Nat.{ℕ, zero, suc, ◌<◌, ◌≤◌}
use native.Mathlib.Omega.{arith}
use native.Mathlib.Decide.{ℕ_discrete}
use lib.ListN.{replicate}
use Rattle.lists.proofs.Options.{option?, not_none_and_some, one_some}
use Rattle.lists.proofs.Orders.{Order, order?}
use Rattle.lists.proofs.Orders.Order.{less, equal, more}
use Rattle.lists.proofs.Members.{member_place, place_member, member_flatten, flatten_member}
use Rattle.std.specs.Prelude.{Some}
use Rattle.plan.specs.Plan.{Plan, size, next, Reach}
use Rattle.plan.specs.Plan.Reach.{here, there}
use Rattle.plan.specs.PlanRules.{PlanRules}
use Rattle.plan.proofs.NextLaws.{next_down, root_in_plan}
use Rattle.plan.proofs.PathLaws.{reach_on, path_on}
use Rattle.store.specs.declared.Copy.{Copy}
use Rattle.store.specs.Copies.{no_copy, stamp_of}
use Rattle.store.specs.State.{State, node_at, line, in_reach, current, fresh}
use Rattle.store.specs.StateRules.{StateRules}
use Rattle.store.proofs.Lifting.{fresh_rules}
use Rattle.steps.specs.Carries.{bit}
use Rattle.steps.proofs.RulesOnLines.{line_rules, line_key_lem, line-held, held-line}
use Rattle.steps.proofs.LineSteps.{LineThrough}
use Rattle.steps.proofs.LineSteps.LineStep.{same, enters, carries}
use Rattle.theory.specs.Events.{Event, effect, after, state_after_all, entry_of, option_list, entered_copies, held, of_line, carries_line}
use Rattle.theory.specs.Paper.{ContentsInReach, CopySet, Nevers, with_copies, History, InHistory, HUnique, Logical, Multicopy}
use Rattle.theory.proofs.EventSteps.{
  event_keeps,
  event_line,
  event_clock,
  entry_stamp,
  entry_clock,
  entry_in_root,
  held_or_entered,
}
use Rattle.theory.proofs.InReach.{edgesets_apart, in_reach-held, in_reach_newest}

-- What is found is in a set if never is, and if any copy found is.
pub in_set : (H : CopySet) (k : ℕ) (o : Option Copy) → H k none → ((x : Copy) → o ≡ some x → H k (some x)) → H k o
in_set H k none i f = i
in_set H k (some x) i f = f x refl

-- What is found is in the history exactly when it has the key and is a member.
pub in_history : (h : History) (k : ℕ) (o : Option Copy) → ((x : Copy) → o ≡ some x → (x.key ≡ k) × Memᴰ x h) → InHistory h k o
in_history h k o f = in_set (InHistory h) k o tt (λ x e. inr (f x e))

pub history_in : (h : History) (k : ℕ) (o : Option Copy) (x : Copy) → InHistory h k o → o ≡ some x → (x.key ≡ k) × Memᴰ x h
history_in h k none x i e = absurd (not_none_and_some refl e)
history_in h k (some y) x (inl i) e = absurd i
history_in h k (some y) x (inr i) e = subst (λ (z : Copy). (z.key ≡ k) × Memᴰ z h) (one_some refl e) i

-- There is one logical contents of a history.
pub logical_one : (H : CopySet) (k : ℕ) (o q : Option Copy) → HUnique H → Logical H k o → Logical H k q → o ≡ q
logical_one H k o q u a b =
    u.one k o q a.in_history b.in_history (omega (arith, a.greatest q b.in_history, b.greatest o a.in_history))

-- Copies added to a set: what was in it stays; and no copies, or some after others.
pub still_in : (H : CopySet) (xs : List Copy) (k : ℕ) (o : Option Copy) → H k o → with_copies H xs k o
still_in H xs k none i = i
still_in H xs k (some x) i = inl i

none_added : (H : CopySet) (k : ℕ) (o : Option Copy) → with_copies H [] k o → H k o
none_added H k none i = i
none_added H k (some x) (inl i) = i
none_added H k (some x) (inr w) = absurd (Memᴰ.not-nil w.1)

added_both : (H : CopySet) (xs ys : List Copy) (k : ℕ) (o : Option Copy) → with_copies (with_copies H xs) ys k o → with_copies H (xs ++ ys) k o
added_both H xs ys k none i = i
added_both H xs ys k (some x) (inl (inl i)) = inl i
added_both H xs ys k (some x) (inl (inr w)) = inr (w.0, Memᴰ.append_left ys w.1)
added_both H xs ys k (some x) (inr w) = inr (w.0, Memᴰ.append_right xs w.1)

both_added : (H : CopySet) (xs ys : List Copy) (k : ℕ) (o : Option Copy) → with_copies H (xs ++ ys) k o → with_copies (with_copies H xs) ys k o
both_added H xs ys k none i = i
both_added H xs ys k (some x) (inl i) = inl (inl i)
both_added H xs ys k (some x) (inr w) = go (Memᴰ.append_cases xs w.1)
  where
    go : Memᴰ x xs ⊎ Memᴰ x ys → with_copies (with_copies H xs) ys k (some x)
    go (inl m) = inl (inr (w.0, m))
    go (inr m) = inr (w.0, m)

-- The structure depends on what is in the history alone.
module _ (p : Plan) (s : State) where
  same_set : (H K : CopySet) → ((k : ℕ) (o : Option Copy) → H k o → K k o) → ((k : ℕ) (o : Option Copy) → K k o → H k o)
      → Multicopy p s H → Multicopy p s K
  same_set H K to back c =
      record {
        edgesets_disjoint = c.edgesets_disjoint;
        h_init = λ k. to k none (c.h_init k);
        h_unique =
            record {
              one = λ k a b i j. c.h_unique.one k a b (back k a i) (back k b j);
              one_key = λ j k x y i l. c.h_unique.one_key j k x y (back j (some x) i) (back k (some y) l);
            };
        h_clock = λ k a i. c.h_clock k a (back k a i);
        invariant_1 =
            λ k.
            record {
              in_history = to k (ContentsInReach p s 0 k) (c.invariant_1 k).in_history;
              greatest = λ a i. (c.invariant_1 k).greatest a (back k a i);
            };
        invariant_3 = λ n k. to k (line s k n) (c.invariant_3 n k);
      }

  pub with_none : (H : CopySet) → Multicopy p s H → Multicopy p s (with_copies H [])
  with_none H = same_set H (with_copies H []) (still_in H []) (none_added H)

  pub without_none : (H : CopySet) → Multicopy p s (with_copies H []) → Multicopy p s H
  without_none H = same_set (with_copies H []) H (none_added H) (still_in H [])

  pub with_both : (H : CopySet) (xs ys : List Copy) → Multicopy p s (with_copies (with_copies H xs) ys) → Multicopy p s (with_copies H (xs ++ ys))
  with_both H xs ys = same_set (with_copies (with_copies H xs) ys) (with_copies H (xs ++ ys)) (added_both H xs ys) (both_added H xs ys)

-- The entry of an event is a member of what it entered, and the only one.
pub option_member : (o : Option Copy) (x : Copy) → o ≡ some x → Memᴰ x (option_list o)
option_member none x e = absurd (not_none_and_some refl e)
option_member (some y) x e = Memᴰ.head (one_some e refl)

pub member_option : (o : Option Copy) (x : Copy) → Memᴰ x (option_list o) → o ≡ some x
member_option none x m = absurd (Memᴰ.not-nil m)
member_option (some y) x m = ap some (sym (Memᴰ.eq_of_singleton m))

-- The copies of a fresh state: none.
flatten_empty : (n : ℕ) → flatten {A = Copy} (replicate n []) ≡ []
unfolding flatten
flatten_empty zero = refl
flatten_empty (suc n) = flatten_empty n

pub held-fresh : (p : Plan) → held (fresh p) ≡ []
unfolding held fresh
held-fresh p = flatten_empty (size p)

module _ (p : Plan) (rules : PlanRules p) where
  -- The history after one sequence and another.
  pub entered-append : (es fs : List Event) (s : State) → entered_copies p (es ++ fs) s ≡ entered_copies p es s ++ entered_copies p fs (state_after_all p es s)
  unfolding entered_copies state_after_all
  entered-append [] fs s = refl
  entered-append (e ∷ es) fs s =
      ap (λ (xs : List Copy). option_list (entry_of p e s) ++ xs) (entered-append es fs (after p e s))
      ∙ sym (append_assoc (option_list (entry_of p e s)) (entered_copies p es (after p e s)) (entered_copies p fs (state_after_all p es (after p e s))))

  module _ (s : State) (good : StateRules p s) where
    -- The copies that a state holds are those of its lines,
    pub line_in_held : (k n : ℕ) (x : Copy) → line s k n ≡ some x → Memᴰ x (held s)
    unfolding held
    line_in_held k n x e =
        let w = line-held p s k n x e in
        member_flatten s.nodes n (subst (λ (y : Copy). Memᴰ y (node_at s n)) w.2 (place_member (node_at s n) no_copy w.0 w.1))

    pub held_in_line : (x : Copy) → Memᴰ x (held s) → (n : ℕ) × (line s x.key n ≡ some x)
    unfolding held
    held_in_line x m =
        let w = flatten_member s.nodes m in
        let v = member_place w.1 no_copy in
        (w.0, subst (λ (y : Copy). line s y.key w.0 ≡ some y) v.2 (held-line p s good w.0 v.0 v.1))

    -- each on its path,
    pub line_led_to : (k n : ℕ) (x : Copy) → line s k n ≡ some x → Reach (λ j. next p j k) 0 n
    line_led_to k n x e =
        let w = (line_rules p s good).paths k n x e in
        subst (λ (m : ℕ). Reach (λ j. next p j k) 0 m) w.1.here (path_on p rules k w.0 w.1.inside)

    -- and of one stamp there is one.
    one_stamp : (j k m n : ℕ) (x y : Copy) → line s j m ≡ some x → line s k n ≡ some y → x.stamp ≡ y.stamp → x ≡ y
    one_stamp j k m n x y e f t = go (order? m n)
      where
        its : j ≡ k
        its = (line_rules p s good).apart j k m n x y e f t

        on_k : line s k m ≡ some x
        on_k = subst (λ (i : ℕ). line s i m ≡ some x) its e

        go : Order m n → x ≡ y
        go (less h) = absurd (omega (arith, (line_rules p s good).fall k m n x y on_k f h))
        go (equal h) = one_some on_k (subst (λ (i : ℕ). line s k i ≡ some y) (sym h) f)
        go (more h) = absurd (omega (arith, (line_rules p s good).fall k n m y x f on_k h))

    -- What a state holds is a history of it.
    pub multicopy_held : Multicopy p s (InHistory (held s))
    multicopy_held =
        record {
          edgesets_disjoint = edgesets_apart p rules;
          h_init = λ k. tt;
          h_unique =
              record {
                one = one_held;
                one_key =
                    λ j k x y a b.
                    let v = of_held j x a in
                    let w = of_held k y b in
                    (line_rules p s good).apart j k v.0 w.0 x y v.1 w.1;
              };
          h_clock = before_clock;
          invariant_1 =
              λ k.
              record {
                in_history =
                    in_history (held s) k (current p s k)
                    (λ x e. let w = in_reach-held p rules s k 0 x (root_in_plan p rules) e in its k w.0 x w.2);
                greatest = λ a i. omega (arith, newest k a i);
              };
          invariant_3 = λ n k. in_history (held s) k (line s k n) (its k n);
        }
      where
        its : (k n : ℕ) (x : Copy) → line s k n ≡ some x → (x.key ≡ k) × Memᴰ x (held s)
        its k n x e = (line_key_lem p s k n x e, line_in_held k n x e)

        of_held : (k : ℕ) (x : Copy) → InHistory (held s) k (some x) → (n : ℕ) × (line s k n ≡ some x)
        of_held k x i =
            let w = history_in (held s) k (some x) x i refl in
            let v = held_in_line x w.1 in
            (v.0, subst (λ (j : ℕ). line s j v.0 ≡ some x) w.0 v.1)

        stamped : (k : ℕ) (x : Copy) → InHistory (held s) k (some x) → (1 ≤ x.stamp) × (x.stamp < s.clock)
        stamped k x i = let v = of_held k x i in (line_rules p s good).stamps k v.0 x v.1

        one_held : (k : ℕ) (a b : Option Copy) → InHistory (held s) k a → InHistory (held s) k b → stamp_of a ≡ stamp_of b → a ≡ b
        one_held k none none i j t = refl
        one_held k none (some y) i j t = absurd (omega (arith, stamped k y j))
        one_held k (some x) none i j t = absurd (omega (arith, stamped k x i))
        one_held k (some x) (some y) i j t =
            let v = of_held k x i in
            let w = of_held k y j in
            ap some (one_stamp k k v.0 w.0 x y v.1 w.1 t)

        before_clock : (k : ℕ) (a : Option Copy) → InHistory (held s) k a → stamp_of a < s.clock
        before_clock k none i = omega (arith, good.clock_within)
        before_clock k (some x) i = (stamped k x i).1

        newest : (k : ℕ) (a : Option Copy) → InHistory (held s) k a → stamp_of a ≤ stamp_of (current p s k)
        newest k none i = omega arith
        newest k (some x) i =
            let v = of_held k x i in
            in_reach_newest p rules s k good (line_led_to k v.0 x v.1) (root_in_plan p rules) x v.1

    module _ (e : Event) where
      abbrev s' : State
      s' = after p e s

      good' : StateRules p s'
      good' = event_keeps p rules e s good

      -- A copy lasts, or a newer one of its line stands in a node that its own leads to.
      record Lasts (k m : ℕ) (y : Copy) : Type 0 where
        at : ℕ
        led : Reach (λ j. next p j k) m at
        newer : Copy
        stands : line s' k at ≡ some newer
        no_older : y.stamp ≤ newer.stamp

      stays : (k m : ℕ) (y : Copy) → line s' k m ≡ some y → Lasts k m y
      stays k m y f = record { at = m; led = here; newer = y; stands = f; no_older = omega arith }

      lasts : (k m : ℕ) (y : Copy) → line s k m ≡ some y → Lasts k m y
      lasts k m y f = go (event_line p rules s good e k)
        where
          go : LineThrough p s (effect p e s) k (bit (carries_line p k e s)) (bit (of_line k (entry_of p e s))) → Lasts k m y
          go (same a b h g) = stays k m y (g m ∙ f)
          go (enters a b x t h g) = at (ℕ_discrete m 0)
            where
              at : Dec (m ≡ 0) → Lasts k m y
              at (yes q) =
                  record {
                    at = m;
                    led = here;
                    newer = x;
                    stands = subst (λ (j : ℕ). line s' k j ≡ some x) (sym q) g.got;
                    no_older = omega (arith, (line_rules p s good).stamps k m y f);
                  }
              at (no q) = stays k m y (g.other m q ∙ f)
          go (carries a b n t x h g) = at (ℕ_discrete m n) (ℕ_discrete m t)
            where
              at : Dec (m ≡ n) → Dec (m ≡ t) → Lasts k m y
              at (yes q) d =
                  let is : x ≡ y = one_some g.had (subst (λ (j : ℕ). line s k j ≡ some y) q f) in
                  record {
                    at = t;
                    led = there (subst (λ (j : ℕ). next p j k ≡ Some t) (sym q) g.via) here;
                    newer = y;
                    stands = g.got ∙ ap some is;
                    no_older = omega arith;
                  }
              at (no q) (yes d) =
                  record {
                    at = m;
                    led = here;
                    newer = x;
                    stands = subst (λ (j : ℕ). line s' k j ≡ some x) (sym d) g.got;
                    no_older =
                        omega (
                          arith,
                          (line_rules p s good).fall k n m x y g.had f (omega (arith, next_down p rules n k t g.via)),
                        );
                  }
              at (no q) (no d) = stays k m y (g.other m q d ∙ f)

      -- Invariant 2: "The contents-in-reach of every node only increases."
      pub reach_increases : (n k : ℕ) → n < size p → stamp_of (ContentsInReach p s n k) ≤ stamp_of (ContentsInReach p s' n k)
      reach_increases n k h = go (option? (in_reach p s k (Some n)))
        where
          go : (in_reach p s k (Some n) ≡ none) ⊎ ((y : Copy) × (in_reach p s k (Some n) ≡ some y))
              → stamp_of (in_reach p s k (Some n)) ≤ stamp_of (in_reach p s' k (Some n))
          go (inl q) = omega (arith, ap stamp_of q)
          go (inr w) =
              let v = in_reach-held p rules s k n w.0 h w.1 in
              let l = lasts k v.0 w.0 v.2 in
              let r = in_reach_newest p rules s' k good' (reach_on (λ j. next p j k) v.1 l.led) h l.newer l.stands in
              omega (arith, ap stamp_of w.1, l.no_older)

      -- The structure is kept, and an accepted entry is added to the history.
      module _ (H : CopySet) (c : Multicopy p s H) where
        abbrev H' : CopySet
        H' = with_copies H (option_list (entry_of p e s))

        -- A copy of it was in the history before, or is the entry.
        abbrev OldOrNew : ℕ → Copy → Type 0
        OldOrNew k x = H k (some x) ⊎ ((x.key ≡ k) × (entry_of p e s ≡ some x))

        old_or_new : (k : ℕ) (x : Copy) → H' k (some x) → OldOrNew k x
        old_or_new k x (inl i) = inl i
        old_or_new k x (inr w) = inr (w.0, member_option (entry_of p e s) x w.1)

        -- The entry has the clock as its stamp, later than every other copy's.
        still_one : (j k : ℕ) (x y : Copy) → (H j (some x) → H k (some y) → x ≡ y) → x.stamp ≡ y.stamp → OldOrNew j x → OldOrNew k y → x ≡ y
        still_one j k x y both t (inl a) (inl b) = both a b
        still_one j k x y both t (inl a) (inr b) = absurd (omega (arith, c.h_clock j (some x) a, entry_stamp p e s y b.1))
        still_one j k x y both t (inr a) (inl b) = absurd (omega (arith, c.h_clock k (some y) b, entry_stamp p e s x a.1))
        still_one j k x y both t (inr a) (inr b) = one_some a.1 b.1

        never_apart : (k : ℕ) (x : Copy) → H k none → stamp_of none ≡ x.stamp → OldOrNew k x → ⊥
        never_apart k x i t (inl a) = not_none_and_some refl (c.h_unique.one k none (some x) i a t)
        never_apart k x i t (inr a) = omega (arith, entry_stamp p e s x a.1, good.clock_within)

        one_then : (k : ℕ) (a b : Option Copy) → H' k a → H' k b → stamp_of a ≡ stamp_of b → a ≡ b
        one_then k none none i j t = refl
        one_then k none (some y) i j t = absurd (never_apart k y i t (old_or_new k y j))
        one_then k (some x) none i j t = absurd (never_apart k x j (sym t) (old_or_new k x i))
        one_then k (some x) (some y) i j t =
            ap some
            (still_one k k x y (λ a b. one_some refl (c.h_unique.one k (some x) (some y) a b t)) t (old_or_new k x i)
            (old_or_new k y j))

        one_key_then : (j k : ℕ) (x y : Copy) → x.stamp ≡ y.stamp → OldOrNew j x → OldOrNew k y → j ≡ k
        one_key_then j k x y t (inl a) (inl b) = c.h_unique.one_key j k x y a b t
        one_key_then j k x y t (inl a) (inr b) = absurd (omega (arith, c.h_clock j (some x) a, entry_stamp p e s y b.1))
        one_key_then j k x y t (inr a) (inl b) = absurd (omega (arith, c.h_clock k (some y) b, entry_stamp p e s x a.1))
        one_key_then j k x y t (inr a) (inr b) = sym a.0 ∙ (ap (λ (z : Copy). z.key) (one_some a.1 b.1) ∙ b.0)

        before_clock : (k : ℕ) (a : Option Copy) → H' k a → stamp_of a < s'.clock
        before_clock k none i = omega (arith, c.h_clock k none i, event_clock p rules s good e)
        before_clock k (some x) i = go (old_or_new k x i)
          where
            go : OldOrNew k x → x.stamp < s'.clock
            go (inl a) = omega (arith, c.h_clock k (some x) a, event_clock p rules s good e)
            go (inr a) = omega (arith, entry_stamp p e s x a.1, entry_clock p e s x a.1)

        held_is_past : (k n : ℕ) (x : Copy) → line s' k n ≡ some x → H' k (some x)
        held_is_past k n x q = go (held_or_entered p rules s good e k n x q)
          where
            go : ((m : ℕ) × (line s k m ≡ some x)) ⊎ (entry_of p e s ≡ some x) → H' k (some x)
            go (inl w) = inl (subst (λ (o : Option Copy). H k o) w.1 (c.invariant_3 w.0 k))
            go (inr w) = inr (line_key_lem p s' k n x q, option_member (entry_of p e s) x w)

        still_greatest : (k : ℕ) (a : Option Copy) → H' k a → stamp_of a ≤ stamp_of (current p s' k)
        still_greatest k none i = omega arith
        still_greatest k (some x) i = go (old_or_new k x i)
          where
            go : OldOrNew k x → x.stamp ≤ stamp_of (current p s' k)
            go (inl a) = omega (arith, (c.invariant_1 k).greatest (some x) a, reach_increases 0 k (root_in_plan p rules))
            go (inr a) =
                in_reach_newest p rules s' k good' here (root_in_plan p rules) x
                (subst (λ (j : ℕ). line s' j 0 ≡ some x) a.0 (entry_in_root p rules s good e x a.1))

        pub multicopy_event : Multicopy p s' H'
        multicopy_event =
            record {
              edgesets_disjoint = c.edgesets_disjoint;
              h_init = c.h_init;
              h_unique = record { one = one_then; one_key = λ j k x y a b t. one_key_then j k x y t (old_or_new j x a) (old_or_new k y b) };
              h_clock = before_clock;
              invariant_1 =
                  λ k.
                  record {
                    in_history =
                        in_set H' k (current p s' k) (c.h_init k)
                        (λ x q. let w = in_reach-held p rules s' k 0 x (root_in_plan p rules) q in held_is_past k w.0 x w.2);
                    greatest = still_greatest k;
                  };
              invariant_3 = λ n k. in_set H' k (line s' k n) (c.h_init k) (held_is_past k n);
            }

      -- So it is with the copies entered or loaded so far as the history.
      pub history_event : (h : History) → Multicopy p s (InHistory h) → Multicopy p s' (InHistory (h ++ option_list (entry_of p e s)))
      history_event h c = with_both p s' Nevers h (option_list (entry_of p e s)) (multicopy_event (InHistory h) c)

  -- What is entered has the clock's stamp or a later one.
  pub entered_late : (es : List Event) (s : State) → StateRules p s → (x : Copy) → Memᴰ x (entered_copies p es s) → s.clock ≤ x.stamp
  unfolding entered_copies
  entered_late [] s good x m = absurd (Memᴰ.not-nil m)
  entered_late (e ∷ es) s good x m =
      go (Memᴰ.append_cases (option_list (entry_of p e s)) m) (entered_late es (after p e s) (event_keeps p rules e s good) x)
    where
      go : Memᴰ x (option_list (entry_of p e s)) ⊎ Memᴰ x (entered_copies p es (after p e s))
          → (Memᴰ x (entered_copies p es (after p e s)) → (after p e s).clock ≤ x.stamp) → s.clock ≤ x.stamp
      go (inl a) again = omega (arith, entry_stamp p e s x (member_option (entry_of p e s) x a))
      go (inr a) again = omega (arith, again a, event_clock p rules s good e)

  -- Over every sequence, from any history: the copies entered are added to it.
  pub multicopy_all : (es : List Event) (s : State) → StateRules p s → (H : CopySet) → Multicopy p s H
      → Multicopy p (state_after_all p es s) (with_copies H (entered_copies p es s))
  unfolding state_after_all entered_copies
  multicopy_all [] s good H c = with_none p s H c
  multicopy_all (e ∷ es) s good H c =
      with_both p (state_after_all p es (after p e s)) H (option_list (entry_of p e s)) (entered_copies p es (after p e s))
      (multicopy_all es (after p e s) (event_keeps p rules e s good) (with_copies H (option_list (entry_of p e s))) (multicopy_event s good e H c))

  -- From any state that meets the rules, with each copy that it holds as an entry: the paper's structure holds at all times.
  pub multicopy : (es : List Event) (s : State) → StateRules p s → Multicopy p (state_after_all p es s) (InHistory (held s ++ entered_copies p es s))
  multicopy es s good =
      with_both p (state_after_all p es s) Nevers (held s) (entered_copies p es s)
      (multicopy_all es s good (InHistory (held s)) (multicopy_held s good))

  -- From a fresh state the history is what was entered.
  pub multicopy_fresh : (es : List Event) → Multicopy p (state_after_all p es (fresh p)) (InHistory (entered_copies p es (fresh p)))
  multicopy_fresh es =
      subst (λ (h : History). Multicopy p (state_after_all p es (fresh p)) (InHistory (h ++ entered_copies p es (fresh p)))) (held-fresh p)
      (multicopy es (fresh p) (fresh_rules p))

  pub reach_increases_all : (es : List Event) (s : State) → StateRules p s → (n k : ℕ) → n < size p
      → stamp_of (ContentsInReach p s n k) ≤ stamp_of (ContentsInReach p (state_after_all p es s) n k)
  unfolding state_after_all
  reach_increases_all [] s good n k h = omega arith
  reach_increases_all (e ∷ es) s good n k h =
      omega (
        arith,
        reach_increases s good e n k h,
        reach_increases_all es (after p e s) (event_keeps p rules e s good) n k h,
      )
