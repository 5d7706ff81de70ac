-- The test of the paths of copies, way out by way out; it reads neither clock nor kinds nor values.
use mathlib.Core.Path.{◌≡◌, refl, sym, ap, ◌∙◌}
use mathlib.Core.Bool.{true, false}
use mathlib.Core.List.{List, [], ◌∷◌, map}
use mathlib.Core.Option
use mathlib.Core.Option.{Option, none, some}
use Prim.Native.Nat.{ℕ, ◌*◌, ◌<◌}
use native.Mathlib.Omega.{arith}
use native.Mathlib.Decide.{dec_lt}
use lib.Dec.{ltb}
use Rattle.lists.specs.Indexed.{all_from, all_below}
use Rattle.lists.proofs.Tabulating.{map-tabulate, same_all}
use Rattle.plan.specs.Sizes.{most_nodes}
use Rattle.plan.specs.Plan.{Hop}
use Rattle.plan.specs.Plan.{Plan, size, next, walk, path}
use Rattle.store.specs.declared.Copy.{Copy}
use Rattle.store.specs.declared.Slot.{Slot}
use Rattle.store.specs.declared.Store.{Store}
use Rattle.store.specs.Copies.{copy, key_of, find, stamp_of, member}
use Rattle.store.specs.State.{State, line, or_else, first_on, in_reach}
use Rattle.store.specs.Layout.{width, copy_in, count_of, node_in, state_in}
use Rattle.store.specs.Workers.{number_in}
use Rattle.store.proofs.Laying.{parts_node, parts_past}
use Rattle.store.proofs.Seeking.{find-map}
use Rattle.rules_paths.specs.Workers.{keyed, stamp_below, placed_test, paths_test}

-- One copy.
module _ (p : Plan) (z : Store) (n i : ℕ) where
  pub placed_off : member n (path p (number_in z.keys i)) ≡ false → placed_test p z n i ≡ false
  unfolding placed_test
  placed_off h = rw h

  pub placed_falls : member n (path p (number_in z.keys i)) ≡ true → (t : ℕ) → t ≡ stamp_below p z n (number_in z.keys i)
      → placed_test p z n i ≡ ltb t (number_in z.stamps i)
  unfolding placed_test
  placed_falls h t e = rw (h, e)

-- A copy with nothing but its key and its stamp.
abbrev keyed_copy : Copy → Copy
keyed_copy x = copy x.key 0 0 x.stamp

first_keyed : (l m : ℕ → Option Copy) → ((n : ℕ) → m n ≡ Option.map keyed_copy (l n)) → (ns : List ℕ)
    → first_on m ns ≡ Option.map keyed_copy (first_on l ns)
unfolding first_on
first_keyed l m e [] = refl
first_keyed l m e (n ∷ ns) = rw (e n, first_keyed l m e ns) (go (l n) (first_on l ns))
  where
    go : (o q : Option Copy) → or_else (Option.map keyed_copy o) (Option.map keyed_copy q) ≡ Option.map keyed_copy (or_else o q)
    go none q = refl
    go (some x) q = refl

stamp_keyed : (o : Option Copy) → stamp_of (Option.map keyed_copy o) ≡ stamp_of o
stamp_keyed none = refl
stamp_keyed (some x) = refl

-- A state of these columns, and what it is with their keys and stamps alone.
module _ (nodes clock : ℕ) (counts keys kinds values stamps : List ℕ) (slots : List Slot) where
  abbrev whole : State
  whole = state_in nodes clock counts keys kinds values stamps slots

  abbrev bare : State
  bare = keyed nodes counts keys stamps

  node-keyed : (n : ℕ) → node_in counts keys [] [] stamps n ≡ map keyed_copy (node_in counts keys kinds values stamps n)
  unfolding node_in
  node-keyed n = sym (map-tabulate keyed_copy (copy_in keys kinds values stamps) (width * n) (number_in counts n))

  line-keyed : (k n : ℕ) → line bare k n ≡ Option.map keyed_copy (line whole k n)
  line-keyed k n = go (dec_lt n nodes)
    where
      found : (xs : List Copy) → find key_of (map keyed_copy xs) k ≡ Option.map keyed_copy (find key_of xs k)
      found xs = find-map key_of keyed_copy xs k

      go : Dec (n < nodes) → line bare k n ≡ Option.map keyed_copy (line whole k n)
      go (yes h) =
          rw (parts_node nodes 0 counts keys [] [] stamps [] n h, parts_node nodes clock counts keys kinds values stamps slots n h, node-keyed n)
          (found (node_in counts keys kinds values stamps n))
      go (no h) =
          rw (
            parts_past nodes 0 counts keys [] [] stamps [] n (omega arith),
            parts_past nodes clock counts keys kinds values stamps slots n (omega arith),
          )
          (found [])

  reach_keyed : (p : Plan) (k : ℕ) (h : Hop) → stamp_of (in_reach p bare k h) ≡ stamp_of (in_reach p whole k h)
  unfolding in_reach
  reach_keyed p k h =
      let ns = walk p k (size p) h in
      ap stamp_of (first_keyed (line whole k) (line bare k) (line-keyed k) ns) ∙ stamp_keyed (first_on (line whole k) ns)

-- The stamp below a node needs nothing but keys and stamps.
pub below_keyed : (p : Plan) (z : Store) (n k : ℕ)
    → stamp_of (in_reach p (keyed (size p) z.counts z.keys z.stamps) k (next p n k)) ≡ stamp_below p z n k
below_keyed p z n k = reach_keyed (size p) z.clock z.counts z.keys z.kinds z.values z.stamps z.slots p k (next p n k)

-- Two stores with the same counts, keys and stamps,
module _ (p : Plan) (y z : Store) (counts : y.counts ≡ z.counts) (keys : y.keys ≡ z.keys) (stamps : y.stamps ≡ z.stamps) where
  below_same : (n k : ℕ) → stamp_below p y n k ≡ stamp_below p z n k
  below_same n k = sym (below_keyed p y n k) ∙ rw (counts, keys, stamps) (below_keyed p z n k)

  placed_same : (n i : ℕ) → placed_test p y n i ≡ placed_test p z n i
  unfolding placed_test
  placed_same n i = rw (below_same n (number_in y.keys i), keys, stamps)

  -- pass the test of a node's paths alike,
  pub node_paths_same : (n : ℕ) → paths_test p y n ≡ paths_test p z n
  unfolding paths_test
  node_paths_same n =
      same_all (placed_test p y n) (placed_test p z n) (width * n) (count_of y n) (placed_same n)
      ∙ ap (λ (c : List ℕ). all_from (width * n) (number_in c n) (placed_test p z n)) counts

  -- and of all nodes': the test of paths needs nothing but keys and stamps.
  pub paths_keyed : all_below most_nodes (paths_test p y) ≡ all_below most_nodes (paths_test p z)
  paths_keyed = same_all (paths_test p y) (paths_test p z) 0 most_nodes node_paths_same
