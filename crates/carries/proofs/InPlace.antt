-- The two lists of a merge of places: a column can be written by them in place.
use mathlib.Core.List.{List, [], ◌∷◌}
use Prim.Native.Nat.{ℕ, zero, suc, ◌+◌, ◌≤◌}
use native.Mathlib.Omega.{arith}
use native.Mathlib.Nat.{le_refl, le_step, le_of_suc-le-suc, not-suc-le-zero}
use lib.ListN.{length}
use Rattle.lists.specs.Indexed.{tabulate}
use Rattle.lists.proofs.Tabulating.{get_d_tabulate}
use Rattle.lists.proofs.Orders.{Order, order?}
use Rattle.lists.proofs.Orders.Order.{less, equal, more}
use Rattle.lists.proofs.RisingKeys.{Rising, rising_from}
use Rattle.lists.proofs.RisingKeys.Rising.{end, above}
use Rattle.plan.specs.declared.Edge.{Edge}
use Rattle.store.specs.Layout.{places}
use Rattle.store.specs.Workers.{Within, itself}
use Rattle.steps.specs.Entries.{put}
use Rattle.steps.specs.Carries.{merge}
use Rattle.steps.proofs.NodeLists.{put_before, put_over, put_behind, put_most}
use Rattle.steps.proofs.Merges.{Merging, merging, stay_short}
use Rattle.steps.proofs.Merges.Merging.{through, carry, keep}
use Rattle.moves.specs.declared.Span.{Span}
use Rattle.merges.specs.Decisions.{span, places_in}
use Rattle.merges.proofs.Passing.{span-length}
use Rattle.moves.specs.Writings.{Under, Over, Movable}

-- Each number of a list is at most its own place, counted from s on.
data Climbing : ℕ → List ℕ → Type 0 where
  done : {s : ℕ} → Climbing s []
  next : {s x : ℕ} {xs : List ℕ} → x ≤ s → Climbing (suc s) xs → Climbing s (x ∷ xs)

climbing_later : {s : ℕ} {xs : List ℕ} → Climbing s xs → Climbing (suc s) xs
climbing_later done = done
climbing_later (next h c) = next (le_step h) (climbing_later c)

climbing_under : {s : ℕ} {xs : List ℕ} → Climbing s xs → Under s xs
climbing_under done i h = absurd (not-suc-le-zero h)
climbing_under (next g c) zero h = omega arith
climbing_under (next g c) (suc i) h = omega (arith, climbing_under c i (le_of_suc-le-suc h))

-- Numbers that rise from b on are each at least their own place.
rising_over : {b : ℕ} {xs : List ℕ} → Rising itself b xs → Over b xs
rising_over end i h = absurd (not-suc-le-zero h)
rising_over (above g r) zero h = omega arith
rising_over (above g r) (suc i) h = omega (arith, rising_over r i (le_of_suc-le-suc h))

-- Places in a row do both.
run_climbs : (s n : ℕ) → Climbing s (tabulate s n itself)
unfolding tabulate
run_climbs s zero = done
run_climbs s (suc n) = next (le_refl s) (run_climbs (suc s) n)

tabulated_rises : (s n : ℕ) → Rising itself s (tabulate s n itself)
unfolding tabulate
tabulated_rises s zero = end
tabulated_rises s (suc n) = above (le_refl s) (tabulated_rises (suc s) n)

span_within : (a n b : ℕ) → a + n ≤ b → Within (span a n) b
span_within a n b h i g =
    let l = span-length a n in
    rw (get_d_tabulate itself a n i 0 (omega arith)) (omega arith)

module _ (key : ℕ → ℕ) (capacity : ℕ) (e : Edge) where
  put_climbs : (x : ℕ) {s : ℕ} {ys : List ℕ} → x ≤ s → Climbing s ys → Climbing s (put key x ys)
  unfolding put
  put_climbs x h done = next h done
  put_climbs x {s = s} h (next {x = y} {xs = ys} g c) = go (order? (key x) (key y)) (put_climbs x (omega arith) c)
    where
      go : Order (key x) (key y) → Climbing (suc s) (put key x ys) → Climbing s (put key x (y ∷ ys))
      go (less q) again = rw (put_before key x y ys q) (next h (climbing_later (next g c)))
      go (equal q) again = rw (put_over key x y ys q) (next h c)
      go (more q) again = rw (put_behind key x y ys q) (next g again)

  -- The target gets places below its own, in the order of their keys,
  target_climbs : {xs ys stay target : List ℕ} → Merging key capacity e xs ys stay target → {s : ℕ} → Within xs s → Climbing s ys → Climbing s target
  target_climbs through w c = c
  target_climbs (carry {x = x} t m) w c = target_climbs m (λ i h. w (suc i) (omega arith)) (put_climbs x (omega (arith, w 0 (omega arith))) c)
  target_climbs (keep t m) w c = target_climbs m (λ i h. w (suc i) (omega arith)) c

  -- and what stays is some of what was there, in its order.
  stay_rises : {b : ℕ} {xs ys stay target : List ℕ} → Merging key capacity e xs ys stay target → Rising itself b xs → Rising itself b stay
  stay_rises through end = end
  stay_rises {b = b} (carry {x = x} t m) (above h r) = rising_from itself (omega arith) (stay_rises {b = suc x} m r)
  stay_rises {b = b} (keep {x = x} t m) (above h r) = above h (stay_rises {b = suc x} m r)

  stay_within : {xs ys stay target : List ℕ} → Merging key capacity e xs ys stay target → {b : ℕ} → Within xs b → Within stay b
  stay_within through w i h = w i h
  stay_within (carry t m) w i h = stay_within m (λ j g. w (suc j) (omega arith)) i h
  stay_within (keep t m) w zero h = w 0 (omega arith)
  stay_within (keep t m) w (suc i) h = stay_within m (λ j g. w (suc j) (omega arith)) i (le_of_suc-le-suc h)

  -- The two lists together are no longer than they were.
  pub together : {xs ys stay target : List ℕ} → Merging key capacity e xs ys stay target → length stay + length target ≤ length xs + length ys
  together through = omega arith
  together (carry {x = x} {ys = ys} t m) = omega (arith, together m, put_most key x ys)
  together (keep t m) = omega (arith, together m)

  pub movable : (node target : Span) → node.from + node.count ≤ target.from
      → let m = merge key capacity e (places_in node) (places_in target) in
      target.from + length m.target ≤ places → Movable m.stay m.target node target.from
  movable node target apart room =
      let m = merging key capacity e (places_in node) (places_in target) in
      let w = span_within node.from node.count target.from apart in
      record {
        stays = omega (arith, stay_short key capacity e m, span-length node.from node.count);
        apart = apart;
        room = room;
        under = climbing_under (target_climbs m w (run_climbs target.from target.count));
        over = rising_over (stay_rises m (tabulated_rises node.from node.count));
        low = stay_within m w;
      }
