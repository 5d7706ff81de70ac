-- How many bytes the parts of an image take, and that they are not too many for a machine's number.
use mathlib.Core.Path.{◌≡◌, refl, sym, ap}
use mathlib.Core.List.{List, [], ◌∷◌, ◌++◌}
use Prim.Native.Nat.{ℕ, zero, suc, ◌+◌, ◌-◌, ◌*◌, ◌<◌, ◌≤◌}
use native.Mathlib.Omega.{arith}
use native.Mathlib.Numerals.{add-one}
use lib.Dec.{lit≤}
use lib.ListN.{length, get_or, length-append}
use Rattle.std.specs.List.{sum_by, range_with_len}
use Rattle.std.proofs.lemmas.List.Sums.{sum_by-cons}
use Rattle.lists.specs.Indexed.{tabulate}
use Rattle.lists.proofs.Tabulating.{length-tabulate, get_d_from_start}
use Rattle.number.specs.Number.{form}
use Rattle.number.proofs.Forms.{form-length}
use Rattle.plan.specs.Sizes.{most_nodes}
use Rattle.store.specs.declared.Copy.{Copy}
use Rattle.store.specs.declared.Store.{Store}
use Rattle.store.specs.Layout.{width, node_in, copy_of, count_of, node_of, state_in}
use Rattle.store.specs.State.{State}
use Rattle.store.specs.Workers.{HasPlaces, WithinPlaces}
use Rattle.store.proofs.Laying.{length-node}
use Rattle.wire.proofs.Parts.{count_on, count_off}
use Rattle.copies.specs.CopyBytes.{copy_bytes}
use Rattle.copies.proofs.CopyLengths.{longest_copy, copy_short}
use Rattle.image_writing.specs.Image.{format_number, copies_bytes, node_bytes, nodes_bytes, image_of, nodes_in, image_by}

-- ---- copies

pub no_copies : copies_bytes [] ≡ []
unfolding copies_bytes
no_copies = refl

pub more_copies : (x : Copy) (xs : List Copy) → copies_bytes (x ∷ xs) ≡ copy_bytes x ++ copies_bytes xs
unfolding copies_bytes
more_copies x xs = refl

pub copies_short : (xs : List Copy) → length (copies_bytes xs) ≤ longest_copy * length xs
copies_short [] = rw no_copies (lit≤ tt)
copies_short (x ∷ xs) =
    rw (more_copies x xs) (omega (arith, length-append (copy_bytes x) (copies_bytes xs), copy_short x, copies_short xs))

-- ---- a node, nodes

pub node-length : (xs : List Copy) → length (node_bytes xs) ≡ length (form (length xs)) + length (copies_bytes xs)
unfolding node_bytes
node-length xs = length-append (form (length xs)) (copies_bytes xs)

-- A node takes no more bytes than a number and as many copies as it has places.
abbrev pub longest_node : ℕ
longest_node = 5 + longest_copy * width

pub node_short : (xs : List Copy) → length xs ≤ width → length (node_bytes xs) ≤ longest_node
node_short xs h = omega (arith, node-length xs, form-length (length xs), copies_short xs)

-- The copies of a node of a store: those of its places, from its first one up to the end of those used.
pub node_copies : (z : Store) (n : ℕ) → tabulate (width * n) (width * n + count_of z n - width * n) (copy_of z) ≡ node_of z n
unfolding node_in
node_copies z n = let m : width * n + count_of z n - width * n ≡ count_of z n = omega arith in rw m

-- A node of a store: its count's bytes and its copies'.
module _ (z : Store) (n : ℕ) {a b : ℕ} (p : a ≡ length (form (count_of z n)))
    (q : b ≡ length (copies_bytes (tabulate (width * n) (width * n + count_of z n - width * n) (copy_of z)))) where
  pub node_adds : a + b ≡ length (node_bytes (node_of z n))
  node_adds =
      let r = rw (node_copies z n) at q in
      omega (arith, node-length (node_of z n), ap (λ (k : ℕ). length (form k)) (length-node z n))

  pub node_adds_few : HasPlaces z.counts n → a + b ≤ longest_node
  node_adds_few h = let e = node_adds in omega (arith, node_short (node_of z n) (omega (arith, length-node z n)))

pub no_nodes : nodes_bytes [] ≡ []
unfolding nodes_bytes
no_nodes = refl

pub more_nodes : (xs : List Copy) (ns : List (List Copy)) → nodes_bytes (xs ∷ ns) ≡ node_bytes xs ++ nodes_bytes ns
unfolding nodes_bytes
more_nodes xs ns = refl

pub nodes_short : (ns : List (List Copy)) → ((n : ℕ) → n < length ns → length (get_or ns n []) ≤ width) → length (nodes_bytes ns) ≤ longest_node * length ns
nodes_short [] h = rw no_nodes (lit≤ tt)
nodes_short (xs ∷ ns) h =
    rw (more_nodes xs ns)
    (omega (arith, length-append (node_bytes xs) (nodes_bytes ns), node_short xs (h 0 (omega arith)), nodes_short ns (λ n g. h (suc n) (omega arith))))

pub nodes_in_short : (z : Store) (nodes : ℕ) → nodes ≤ most_nodes → WithinPlaces z.counts → length (nodes_bytes (nodes_in z nodes)) ≤ longest_node * nodes
nodes_in_short z nodes there within =
    let long : length (nodes_in z nodes) ≡ nodes = length-tabulate (node_of z) 0 nodes in
    omega (arith, nodes_short (nodes_in z nodes) (λ n h. rw (get_d_from_start (node_of z) nodes n [] (omega arith)) (few n (omega arith))))
  where
    few : (n : ℕ) → n < most_nodes → length (node_of z n) ≤ width
    few n h = rw (length-node z n) (within n h)

-- ---- an image

pub image-length : (plan : ℕ) (s : State)
    → length (image_of plan s) ≡ length (form format_number) + length (form plan) + length (form s.clock) + length (nodes_bytes s.nodes)
unfolding image_of
image-length plan s =
    let format = form format_number in
    let number = form plan in
    let clock = form s.clock in
    let nodes = nodes_bytes s.nodes in
    omega (arith, length-append format (number ++ (clock ++ nodes)), length-append number (clock ++ nodes), length-append clock nodes)

-- The bytes of a store's head and of its nodes.
module _ (z : Store) (nodes : ℕ) {a b c d : ℕ} (f : a ≡ length (form format_number)) (p : b ≡ length (form z.plan)) (k : c ≡ length (form z.clock))
    (r : d ≡ length (nodes_bytes (nodes_in z nodes))) where
  pub image_adds : a + b + c + d ≡ length (image_by nodes z)
  image_adds = omega (arith, image-length z.plan (state_in nodes z.clock z.counts z.keys z.kinds z.values z.stamps z.slots))

  -- They are few.
  pub image_adds_few : nodes ≤ most_nodes → WithinPlaces z.counts → a + b + c + d ≤ 3 * 5 + longest_node * most_nodes
  image_adds_few few within =
      omega (arith, form-length format_number, form-length z.plan, form-length z.clock, nodes_in_short z nodes few within)

-- ---- the bytes of copies, and those of nodes, as a sum over the places or the nodes

module _ {A : Type 0} (bytes : A → List ℕ) (all : List A → List ℕ) (none : all [] ≡ []) (more : (x : A) (xs : List A) → all (x ∷ xs) ≡ bytes x ++ all xs) (f : ℕ → A) where
  sums : (i n : ℕ) → sum_by (λ (k : ℕ). length (bytes (f k))) (range_with_len i n) ≡ length (all (tabulate i n f))
  unfolding tabulate
  sums i zero = sym (ap length none)
  sums i (suc n) =
      rw (add-one, more (f i) (tabulate (suc i) n f))
      (omega (arith, sum_by-cons (λ (k : ℕ). length (bytes (f k))) i (range_with_len (suc i) n), sums (suc i) n, length-append (bytes (f i)) (all (tabulate (suc i) n f))))

pub copies_sum : (f : ℕ → Copy) (i n : ℕ) → sum_by (λ (k : ℕ). length (copy_bytes (f k))) (range_with_len i n) ≡ length (copies_bytes (tabulate i n f))
copies_sum = sums copy_bytes copies_bytes no_copies more_copies

pub nodes_sum : (f : ℕ → List Copy) (i n : ℕ) → sum_by (λ (k : ℕ). length (node_bytes (f k))) (range_with_len i n) ≡ length (nodes_bytes (tabulate i n f))
nodes_sum = sums node_bytes nodes_bytes no_nodes more_nodes

-- ---- a loop that counts the bytes of copies, and one of nodes

module _ (f : ℕ → Copy) (end sum i : ℕ) {total : ℕ} (e : sum + length (copies_bytes (tabulate i (end - i) f)) ≡ total) where
  pub copies_count : {r : ℕ} → i < end → r ≡ length (copy_bytes (f i)) → sum + r + length (copies_bytes (tabulate (i + 1) (end - (i + 1)) f)) ≡ total
  copies_count h k = rw k (count_on copy_bytes copies_bytes no_copies more_copies f end sum i h e)

  pub copies_counted_all : end ≤ i → sum ≡ total
  copies_counted_all h = count_off copy_bytes copies_bytes no_copies more_copies f end sum i h e

module _ (f : ℕ → List Copy) (end sum i : ℕ) {total : ℕ} (e : sum + length (nodes_bytes (tabulate i (end - i) f)) ≡ total) where
  pub nodes_count : {r : ℕ} → i < end → r ≡ length (node_bytes (f i)) → sum + r + length (nodes_bytes (tabulate (i + 1) (end - (i + 1)) f)) ≡ total
  nodes_count h k = rw k (count_on node_bytes nodes_bytes no_nodes more_nodes f end sum i h e)

  pub nodes_counted_all : end ≤ i → sum ≡ total
  nodes_counted_all h = count_off node_bytes nodes_bytes no_nodes more_nodes f end sum i h e
