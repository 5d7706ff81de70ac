-- The state rules on copies, said of lines instead of places: the two say the same where keys rise.
use mathlib.Core.Path.{◌≡◌, sym, ap, ◌∙◌, subst}
use mathlib.Core.List.{List}
use mathlib.Core.Option.{some}
use Prim.Native.Nat.{ℕ, ◌<◌, ◌≤◌}
use native.Mathlib.Omega.{arith}
use lib.ListN.{length, get_or}
use Rattle.lists.proofs.Orders.{Order, order?}
use Rattle.lists.proofs.Orders.Order.{less, equal, more}
use Rattle.lists.proofs.RisingKeys.{Rising, neighbours_rising, rising_neighbours, rising_once}
use Rattle.plan.specs.Plan.{Plan, size, capacity_of}
use Rattle.store.specs.declared.Copy.{Copy}
use Rattle.store.specs.declared.Slot.{Slot}
use Rattle.store.specs.Copies.{no_copy, key_of}
use Rattle.store.specs.State.{State, node_at, copy_at, idle, line, last_clock, slot_count, idle_mark, running_mark}
use Rattle.store.specs.StateRules.{HeldAt, KindAndValue, OnPath, StateRules}
use Rattle.steps.proofs.NodeLists.{find_key, find_place, find_at}

-- The rules on copies, by line.
pub record LineRules (p : Plan) (s : State) : Type 0 where
  pub kinds : (k n : ℕ) (x : Copy) → line s k n ≡ some x → KindAndValue x
  pub paths : (k n : ℕ) (x : Copy) → line s k n ≡ some x → (above : ℕ) × OnPath p k n above
  pub stamps : (k n : ℕ) (x : Copy) → line s k n ≡ some x → (1 ≤ x.stamp) × (x.stamp < s.clock)
  -- Stamps of two lines differ;
  pub apart : (j k m n : ℕ) (x y : Copy) → line s j m ≡ some x → line s k n ≡ some y → x.stamp ≡ y.stamp → j ≡ k
  -- those of one line fall.
  pub fall : (k n m : ℕ) (x y : Copy) → line s k n ≡ some x → line s k m ≡ some y → n < m → y.stamp < x.stamp

-- The rules on slots.
pub record SlotRules (p : Plan) (qs : List Slot) : Type 0 where
  pub slots_long : length qs ≡ slot_count
  pub idle-zero : (i : ℕ) → i < slot_count → (get_or qs i idle).running ≡ idle_mark → get_or qs i idle ≡ idle
  pub on_paths :
      (i : ℕ) → i < slot_count → ((get_or qs i idle).running ≡ idle_mark → ⊥)
      → ((get_or qs i idle).running ≡ running_mark) × OnPath p (get_or qs i idle).key (get_or qs i idle).node (get_or qs i idle).visits

module _ (p : Plan) (s : State) where
  -- The keys of each node rise.
  pub rising_nodes : StateRules p s → (n : ℕ) → Rising key_of 0 (node_at s n)
  rising_nodes good n = neighbours_rising key_of 0 (node_at s n) no_copy (λ h. omega arith) (good.keys_strictly_rise n)

  -- A copy at a place is its line's copy,
  pub held-line : StateRules p s → (n i : ℕ) → HeldAt s n i → line s (copy_at s n i).key n ≡ some (copy_at s n i)
  held-line good n i h = find_at key_of (rising_nodes good n) no_copy i h

  -- and a line's copy stands at a place.
  pub line-held : (k n : ℕ) (x : Copy) → line s k n ≡ some x → (i : ℕ) × HeldAt s n i × (copy_at s n i ≡ x)
  line-held k n x e = find_place key_of (node_at s n) k x no_copy e

  pub line_key_lem : (k n : ℕ) (x : Copy) → line s k n ≡ some x → x.key ≡ k
  line_key_lem k n x e = find_key key_of (node_at s n) k x e

  pub line_rules : StateRules p s → LineRules p s
  line_rules good =
      record {
        kinds = λ k n x e. let w = line-held k n x e in subst KindAndValue w.2 (good.kinds_and_values n w.0 w.1);
        paths =
            λ k n x e.
            let w = line-held k n x e in
            subst (λ (z : ℕ). (above : ℕ) × OnPath p z n above) (ap key_of w.2 ∙ line_key_lem k n x e)
            (good.copies_on_their_paths n w.0 w.1);
        stamps =
            λ k n x e.
            let w = line-held k n x e in
            subst (λ (z : Copy). (1 ≤ z.stamp) × (z.stamp < s.clock)) w.2 (good.stamps_below_the_clock n w.0 w.1);
        apart = apart;
        fall = fall;
      }
    where
      stamp_of_lem : (n i : ℕ) (x : Copy) → copy_at s n i ≡ x → (copy_at s n i).stamp ≡ x.stamp
      stamp_of_lem n i x e = ap (λ (z : Copy). z.stamp) e

      apart : (j k m n : ℕ) (x y : Copy) → line s j m ≡ some x → line s k n ≡ some y → x.stamp ≡ y.stamp → j ≡ k
      apart j k m n x y e f t =
          let w = line-held j m x e in
          let v = line-held k n y f in
          let q =
          good.stamps_all-different m w.0 n v.0 w.1 v.1
          (stamp_of_lem m w.0 x w.2 ∙ (t ∙ sym (stamp_of_lem n v.0 y v.2))) in
          let a : x ≡ y = sym w.2 ∙ (at m n w.0 v.0 q.0 q.1 ∙ v.2) in
          sym (line_key_lem j m x e) ∙ (ap key_of a ∙ line_key_lem k n y f)
        where
          at : (m n i j : ℕ) → m ≡ n → i ≡ j → copy_at s m i ≡ copy_at s n j
          at m n i j a b = rw (a, b)

      fall : (k n m : ℕ) (x y : Copy) → line s k n ≡ some x → line s k m ≡ some y → n < m → y.stamp < x.stamp
      fall k n m x y e f h =
          let w = line-held k n x e in
          let v = line-held k m y f in
          let q =
          good.stamps_fall_down_a_path n w.0 m v.0 w.1 v.1
          (ap key_of w.2 ∙ (line_key_lem k n x e ∙ sym (ap key_of v.2 ∙ line_key_lem k m y f))) h in
          omega (arith, q, stamp_of_lem n w.0 x w.2, stamp_of_lem m v.0 y v.2)

  pub slot_rules : StateRules p s → SlotRules p s.slots
  slot_rules good =
      record { slots_long = good.slots_long; idle-zero = good.idle_slots_all-zero; on_paths = good.running_searches_on_their_paths }

  -- The rules by line, with those on nodes and slots, give the state rules.
  pub from_lines : length s.nodes ≡ size p → (1 ≤ s.clock) × (s.clock ≤ last_clock)
      → ((n : ℕ) → n < size p → length (node_at s n) ≤ capacity_of p n) → ((n : ℕ) → Rising key_of 0 (node_at s n)) → LineRules p s
      → SlotRules p s.slots → StateRules p s
  from_lines lists clock fits rise l q =
      record {
        a_list_for_each_node = lists;
        clock_within = clock;
        counts_within_capacity = fits;
        keys_strictly_rise = λ n i h. rising_neighbours key_of (rise n) no_copy i h;
        kinds_and_values = λ n i h. l.kinds (copy_at s n i).key n (copy_at s n i) (at n i h);
        copies_on_their_paths = λ n i h. l.paths (copy_at s n i).key n (copy_at s n i) (at n i h);
        stamps_below_the_clock = λ n i h. l.stamps (copy_at s n i).key n (copy_at s n i) (at n i h);
        stamps_all-different = different;
        stamps_fall_down_a_path = fall;
        slots_long = q.slots_long;
        idle_slots_all-zero = q.idle-zero;
        running_searches_on_their_paths = q.on_paths;
      }
    where
      at : (n i : ℕ) → HeldAt s n i → line s (copy_at s n i).key n ≡ some (copy_at s n i)
      at n i h = find_at key_of (rise n) no_copy i h

      fall : (n i m j : ℕ) → HeldAt s n i → HeldAt s m j → (copy_at s n i).key ≡ (copy_at s m j).key → n < m
          → (copy_at s m j).stamp < (copy_at s n i).stamp
      fall n i m j h g e =
          l.fall (copy_at s n i).key n m (copy_at s n i) (copy_at s m j) (at n i h)
          (subst (λ (z : ℕ). line s z m ≡ some (copy_at s m j)) (sym e) (at m j g))

      different : (n i m j : ℕ) → HeldAt s n i → HeldAt s m j → (copy_at s n i).stamp ≡ (copy_at s m j).stamp → (n ≡ m) × (i ≡ j)
      different n i m j h g t =
          let k = l.apart (copy_at s n i).key (copy_at s m j).key n m (copy_at s n i) (copy_at s m j) (at n i h) (at m j g) t in
          go k (order? n m)
        where
          go : (copy_at s n i).key ≡ (copy_at s m j).key → Order n m → (n ≡ m) × (i ≡ j)
          go k (less f) = absurd (omega (arith, fall n i m j h g k f))
          go k (more f) = absurd (omega (arith, fall m j n i g h (sym k) f))
          go k (equal f) = (
            f,
            rising_once key_of (rise n) no_copy i j h (rw f g) (subst (λ (z : ℕ). (copy_at s n i).key ≡ (copy_at s z j).key) (sym f) k),
          )
