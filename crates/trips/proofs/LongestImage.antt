-- An image is at most 1931 bytes long, of whichever good store.
use mathlib.Core.Path.{◌≡◌, refl}
use mathlib.Core.Bool.{true}
use mathlib.Core.List.{List, [], ◌∷◌}
use Prim.Native.Nat.{ℕ, zero, suc, ◌+◌, ◌*◌, ◌<◌, ◌≤◌}
use native.Mathlib.Omega.{arith}
use native.Mathlib.Nat.{not-suc-le-zero}
use lib.Dec.{leb, lit≤, lit<}
use lib.ListN.{length, get_or, length-append}
use borrow.Author.Tests.{leb-true}
use Rattle.lists.specs.Indexed.{all_from, all_below}
use Rattle.lists.proofs.Tabulating.{all-below}
use Rattle.number.specs.Number.{form}
use Rattle.number.proofs.Forms.{form-length, form-width}
use Rattle.plan.specs.Sizes.{most_capacity}
use Rattle.plan.specs.Plan.{Node, Plan, size, capacity_of}
use Rattle.plan_table.specs.PlanTable.{plan_table, plans, plan_numbered}
use Rattle.plan_table.proofs.TableLaws.{plans_few}
use Rattle.store.specs.declared.Copy.{Copy}
use Rattle.store.specs.declared.Store.{Store}
use Rattle.store.specs.Copies.{last_kind, no_copy}
use Rattle.store.specs.Layout.{plan_of, state_of}
use Rattle.store.specs.StoreRules.{good_store}
use Rattle.store.proofs.Lifting.{plan_good, state_good}
use Rattle.store.proofs.Ruling.{good_rules}
use Rattle.store.proofs.WhichPlan.{plan_numbered_lem}
use Rattle.copies.specs.CopyBytes.{copy_bytes}
use Rattle.copies.proofs.CopyLengths.{value_short, copy-length}
use Rattle.image_writing.specs.Image.{format_number, copies_bytes, node_bytes, nodes_bytes, image}
use Rattle.image_writing.proofs.ImageLengths.{no_copies, more_copies, node-length, no_nodes, more_nodes, image-length}
use Rattle.trips.specs.Limits.{most_image_bytes}

one_byte : (v : ℕ) → v < 128 → length (form v) ≤ 1
one_byte v h = (form-width v 1 (omega arith) (omega arith)).1 h

-- A copy takes at most 16 bytes, and so each of some copies.
copy_most : (x : Copy) → x.kind ≤ last_kind → length (copy_bytes x) ≤ 16
copy_most x h =
    omega (
      arith,
      copy-length x,
      form-length x.key,
      one_byte x.kind (omega arith),
      value_short x.kind x.value,
      form-length x.stamp,
    )

copies_most : (xs : List Copy) → ((i : ℕ) → i < length xs → (get_or xs i no_copy).kind ≤ last_kind) → length (copies_bytes xs) ≤ 16 * length xs
copies_most [] h = rw no_copies (lit≤ tt)
copies_most (x ∷ xs) h =
    rw (more_copies x xs)
    (omega (
      arith,
      length-append (copy_bytes x) (copies_bytes xs),
      copy_most x (h 0 (omega arith)),
      copies_most xs (λ i g. h (suc i) (omega arith)),
    ))

-- The most bytes of a plan's nodes: for each 1 for its count, and 16 for each copy that it has room for.
most_of : Plan → ℕ
most_of [] = 0
most_of (n ∷ p) = 1 + 16 * n.capacity + most_of p

-- A list for each node of the plan, within its capacity, and copies of kinds that there are.
record Fitting (p : Plan) (ns : List (List Copy)) : Type 0 where
  lists : length ns ≡ size p
  room : (n : ℕ) → n < size p → (length (get_or ns n []) ≤ capacity_of p n) × (capacity_of p n ≤ most_capacity)
  kinds : (n i : ℕ) → i < length (get_or ns n []) → (get_or (get_or ns n []) i no_copy).kind ≤ last_kind

rest_fitting : {n : Node} {p : Plan} {xs : List Copy} {ns : List (List Copy)} → Fitting (n ∷ p) (xs ∷ ns) → Fitting p ns
rest_fitting w =
    record { lists = omega (arith, w.lists); room = λ m g. w.room (suc m) (omega arith); kinds = λ m i g. w.kinds (suc m) i g }

nodes_most : (p : Plan) (ns : List (List Copy)) → Fitting p ns → length (nodes_bytes ns) ≤ most_of p
unfolding most_of
nodes_most [] [] w = rw no_nodes (lit≤ tt)
nodes_most [] (xs ∷ ns) w = absurd (omega (arith, w.lists))
nodes_most (n ∷ p) [] w = absurd (omega (arith, w.lists))
nodes_most (n ∷ p) (xs ∷ ns) w =
    let r = w.room 0 (omega arith) in
    rw (more_nodes xs ns)
    (omega (
      arith,
      length-append (node_bytes xs) (nodes_bytes ns),
      node-length xs,
      one_byte (length xs) (omega (arith, r.0, r.1)),
      copies_most xs (λ i g. w.kinds 0 i g),
      r.0,
      nodes_most p ns (rest_fitting w),
    ))

-- No plan of the table has more, by computing.
table_most : all_below plans (λ i. leb (most_of (get_or plan_table i [])) 1924) ≡ true
unfolding all_from plans plan_table most_of
table_most = refl

numbered_most : (p : ℕ) → 1 ≤ p → p ≤ plans → most_of (plan_numbered p) ≤ 1924
unfolding plan_numbered
numbered_most zero h g = absurd (not-suc-le-zero h)
numbered_most (suc p) h g = leb-true _ _ (all-below (λ i. leb (most_of (get_or plan_table i [])) 1924) plans table_most p g)

pub longest_image : (z : Store) → good_store z ≡ true → length (image z) ≤ most_image_bytes
longest_image z good =
    let known = (good_rules z good).plan_known in
    let rules = state_good z good in
    let most : most_of (plan_of z) ≤ 1924 = rw (plan_numbered_lem z) (numbered_most z.plan known.0 known.1) in
    omega (
      arith,
      image-length z.plan (state_of z),
      one_byte format_number (lit< tt),
      one_byte z.plan (omega (arith, plans_few, known.1)),
      form-length (state_of z).clock,
      nodes_most (plan_of z) (state_of z).nodes (record {
        lists = rules.a_list_for_each_node;
        room = λ n g. (rules.counts_within_capacity n g, ((plan_good z good).capacity_within n g).1);
        kinds = λ n i g. (rules.kinds_and_values n i g).0;
      }),
      most,
    )
