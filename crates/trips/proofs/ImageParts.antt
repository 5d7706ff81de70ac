-- The parts of an image: each is read back where it stands, and where one is read, its bytes stand.
use mathlib.Core.Path.{◌≡◌, refl, ap, ◌∙◌}
use mathlib.Core.List.{List, [], ◌∷◌}
use Prim.Native.Nat.{ℕ, zero, suc, ◌+◌, ◌<◌, ◌≤◌}
use native.Mathlib.Omega.{arith}
use lib.Dec.{ltb}
use lib.ListN.{length, get_or}
use borrow.Author.Tests.{lt-ltb, ltb-true}
use Rattle.lists.specs.Stands.{Stands}
use Rattle.lists.proofs.Standing.{stands_nil, stands_join, stands_left, stands_right}
use Rattle.number.specs.Number.{Bytes, form}
use Rattle.plan.specs.Sizes.{most_capacity}
use Rattle.plan.specs.Plan.{Node, Plan, size, capacity_of}
use Rattle.store.specs.declared.Copy.{Copy}
use Rattle.store.specs.Answers.{RULE}
use Rattle.store.specs.Copies.{no_copy}
use Rattle.wire.specs.Reading.{got}
use Rattle.wire.proofs.Chains.{bind_got, check_holds, Gives, gives_got, gives_check, gives_bind, number_back, number_gives}
use Rattle.copies.specs.CopyBytes.{copy_bytes}
use Rattle.copies.proofs.CopyTrips.{nothing_stands, Writable, copy_back, Small, small_none, copy_gives}
use Rattle.image_writing.specs.Image.{copies_bytes, node_bytes, nodes_bytes}
use Rattle.image_reading.specs.ImageReading.{read_copies, read_node, read_nodes}
use Rattle.image_reading.proofs.NodeWays.{copies_counted}

-- ---- what is saved is read back

module _ {s : List ℕ} where
  pub copies_back : {at : ℕ} (xs : List Copy) {next : ℕ} → ((i : ℕ) → i < length xs → Writable (get_or xs i no_copy)) → Stands s at (copies_bytes xs) next
      → read_copies s (length xs) at ≡ got xs next
  unfolding read_copies copies_bytes
  copies_back [] w h = nothing_stands [] h
  copies_back {at = at} (x ∷ xs) w h =
      bind_got _ _ (copy_back x (w 0 (omega arith)) (stands_left (copy_bytes x) (copies_bytes xs) h))
      ∙ bind_got _ _ (copies_back {at = at + length (copy_bytes x)} xs (λ i l. w (suc i) (omega arith)) (stands_right (copy_bytes x) (copies_bytes xs) h))

  pub node_back : {at : ℕ} (capacity : ℕ) (xs : List Copy) {next : ℕ} → length xs ≤ capacity → capacity ≤ most_capacity
      → ((i : ℕ) → i < length xs → Writable (get_or xs i no_copy)) → Stands s at (node_bytes xs) next → read_node s capacity at ≡ got xs next
  unfolding read_node node_bytes
  node_back capacity xs room few w h =
      bind_got _ _ (number_back (omega arith) (stands_left (form (length xs)) (copies_bytes xs) h))
      ∙ check_holds (ltb (length xs) (suc capacity)) RULE _ _ (lt-ltb (length xs) (suc capacity) (omega arith))
      ∙ copies_back xs w (stands_right (form (length xs)) (copies_bytes xs) h)

-- Nodes of a plan that can be written: a list for each node, within its capacity, and copies that can be written.
pub record WritableNodes (p : Plan) (ns : List (List Copy)) : Type 0 where
  pub lists : length ns ≡ size p
  pub room : (n : ℕ) → n < size p → (length (get_or ns n []) ≤ capacity_of p n) × (capacity_of p n ≤ most_capacity)
  pub copies : (n i : ℕ) → n < size p → i < length (get_or ns n []) → Writable (get_or (get_or ns n []) i no_copy)

-- So can the nodes after the first.
pub rest_writable : {n : Node} {p : Plan} {xs : List Copy} {ns : List (List Copy)} → WritableNodes (n ∷ p) (xs ∷ ns) → WritableNodes p ns
rest_writable w =
    record {
      lists = omega (arith, w.lists);
      room = λ m g. w.room (suc m) (omega arith);
      copies = λ m i g j. w.copies (suc m) i (omega arith) j;
    }

pub nodes_back : {s : List ℕ} {at : ℕ} (p : Plan) (ns : List (List Copy)) {next : ℕ} → WritableNodes p ns → Stands s at (nodes_bytes ns) next
    → read_nodes s p at ≡ got ns next
unfolding read_nodes nodes_bytes
nodes_back [] [] w h = nothing_stands [] h
nodes_back [] (xs ∷ ns) w h = absurd (omega (arith, w.lists))
nodes_back (n ∷ p) [] w h = absurd (omega (arith, w.lists))
nodes_back {at = at} (n ∷ p) (xs ∷ ns) w h =
    let r = w.room 0 (omega arith) in
    bind_got _ _ (node_back n.capacity xs r.0 r.1 (λ i g. w.copies 0 i (omega arith) g) (stands_left (node_bytes xs) (nodes_bytes ns) h))
    ∙ bind_got _ _ (nodes_back {at = at + length (node_bytes xs)} p ns (rest_writable w) (stands_right (node_bytes xs) (nodes_bytes ns) h))

-- ---- what is read stands there

-- What holds of the first and of all others holds of all.
each_cons : {A : Type 0} (P : A → Type 0) (d x : A) (xs : List A) → P x → ((i : ℕ) → P (get_or xs i d)) → (i : ℕ) → P (get_or (x ∷ xs) i d)
each_cons P d x xs h k zero = h
each_cons P d x xs h k (suc i) = k i

-- Copies, a node and the nodes of a plan, as they are read: their bytes stand, and their numbers are small.
record CopiesStand (s : List ℕ) (at : ℕ) (xs : List Copy) (next : ℕ) : Type 0 where
  stands : Stands s at (copies_bytes xs) next
  small : (i : ℕ) → Small (get_or xs i no_copy)

record NodeStands (s : List ℕ) (capacity at : ℕ) (xs : List Copy) (next : ℕ) : Type 0 where
  stands : Stands s at (node_bytes xs) next
  room : length xs ≤ capacity
  small : (i : ℕ) → Small (get_or xs i no_copy)

-- The nodes of a plan, as they are read: a list for each node, within its capacity.
pub record NodesStand (s : List ℕ) (p : Plan) (at : ℕ) (ns : List (List Copy)) (next : ℕ) : Type 0 where
  pub stands : Stands s at (nodes_bytes ns) next
  pub lists : length ns ≡ size p
  pub room : (n : ℕ) → length (get_or ns n []) ≤ capacity_of p n
  pub small : (n i : ℕ) → Small (get_or (get_or ns n []) i no_copy)

room_cons : (n : Node) (p : Plan) (xs : List Copy) (ns : List (List Copy)) → length xs ≤ n.capacity
    → ((m : ℕ) → length (get_or ns m []) ≤ capacity_of p m) → (m : ℕ) → length (get_or (xs ∷ ns) m []) ≤ capacity_of (n ∷ p) m
room_cons n p xs ns h k zero = h
room_cons n p xs ns h k (suc m) = k m

module _ (s : List ℕ) (bytes : Bytes s) where
  copies_gives : (n at : ℕ) → Gives (CopiesStand s at) (read_copies s n at)
  unfolding read_copies copies_bytes
  copies_gives zero at = gives_got (record { stands = stands_nil s at; small = λ i. small_none })
  copies_gives (suc n) at =
      gives_bind _ _ (copy_gives s bytes at) λ x a h.
      gives_bind _ _ (copies_gives n a) λ xs b k.
      gives_got (record {
        stands = stands_join h.stands k.stands;
        small = each_cons Small no_copy x xs h.small k.small;
      })

  node_gives : (capacity at : ℕ) → Gives (NodeStands s capacity at) (read_node s capacity at)
  unfolding read_node node_bytes
  node_gives capacity at =
      gives_bind _ _ (number_gives s bytes at) λ count a n.
      gives_check (ltb count (suc capacity)) RULE at _ λ few.
      record {
        each = λ xs next e.
            let k = (copies_gives count a).each xs next e in
            let long = (copies_counted s count a).each xs next e in
            let m = ltb-true count (suc capacity) few in
            let c : Stands s at (form (length xs)) a = rw long n.stands in
            record {
              stands = stands_join c k.stands;
              room = omega arith;
              small = k.small;
            };
      }

  pub nodes_gives : (p : Plan) (at : ℕ) → Gives (NodesStand s p at) (read_nodes s p at)
  unfolding read_nodes nodes_bytes
  nodes_gives [] at =
      gives_got (record { stands = stands_nil s at; lists = refl; room = λ n. omega arith; small = λ n i. small_none })
  nodes_gives (n ∷ p) at =
      gives_bind _ _ (node_gives n.capacity at) λ xs a h.
      gives_bind _ _ (nodes_gives p a) λ ns b k.
      gives_got (record {
        stands = stands_join h.stands k.stands;
        lists = ap suc k.lists;
        room = room_cons n p xs ns h.room k.room;
        small = each_cons (λ (ys : List Copy). (i : ℕ) → Small (get_or ys i no_copy)) [] xs ns h.small k.small;
      })
