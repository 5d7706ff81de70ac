-- The layout of a store: what a node's places hold, what a column is, and that a store and its state give each other back.
use mathlib.Core.Path.{◌≡◌, refl, sym, ap, ◌∙◌, subst}
use mathlib.Core.List.{List, [], ◌∷◌, ◌++◌, map, append-nil}
use Prim.Native.Nat.{ℕ, ◌+◌, ◌-◌, ◌*◌, ◌/◌, ◌%◌, ◌<◌, ◌≤◌}
use native.Mathlib.Omega.{arith}
use native.Mathlib.Nat.{zero-add}
use native.Mathlib.Decide.{dec_lt, ℕ_discrete}
use lib.ListN.{length, get_or, set, replicate, length-set, length-map, length-append, length-replicate, get_or-replicate, get_or-append, get_or-eq_default}
use lib.Seq.{ext_get_or, sets, length-sets, get_or-append_seam, get_or-append-add, get_or-set_same, get_or-set_other}
use Rattle.lists.specs.Indexed.{tabulate}
use Rattle.lists.proofs.Tabulating.{length-tabulate, get_d_tabulate, get_d_from_start, get_d_tabulate_past, as_tabulate}
use Rattle.lists.proofs.Storing.{sets_below, sets_past, sets_inside, set_tabulated, get_d_same, get_d_map}
use Rattle.plan.specs.Sizes.{most_nodes}
use Rattle.plan.specs.Plan.{Plan, size}
use Rattle.plan.specs.PlanRules.{PlanRules}
use Rattle.plan_table.specs.PlanTable.{plan_numbered, plans}
use Rattle.plan_table.proofs.TableLaws.{table_rules}
use Rattle.store.specs.declared.Copy.{Copy}
use Rattle.store.specs.declared.Slot.{Slot}
use Rattle.store.specs.declared.Store.{Store}
use Rattle.store.specs.Copies.{no_copy, key_of, find, found_of}
use Rattle.store.specs.State.{State, node_at, copy_at, slot_count}
use Rattle.store.specs.Layout.{plan_of, width, places, copy_in, node_in, copy_of, count_of, node_of, state_in, state_of, place_of, column, store_of, Shape}
use Rattle.store.specs.StateRules.{StateRules}
use Rattle.store.specs.StoreRules.{StoreRules}
use Rattle.store.proofs.WhichPlan.{plan_back}

-- A node of bare columns: as long as its count, and the copies of its places.
module _ (counts keys kinds values stamps : List ℕ) (n : ℕ) where
  pub length-node_in : length (node_in counts keys kinds values stamps n) ≡ get_or counts n 0
  unfolding node_in
  length-node_in = length-tabulate (copy_in keys kinds values stamps) (width * n) (get_or counts n 0)

  pub node_in-copy : (i : ℕ) → i < get_or counts n 0
      → get_or (node_in counts keys kinds values stamps n) i no_copy ≡ copy_in keys kinds values stamps (width * n + i)
  unfolding node_in
  node_in-copy i h = get_d_tabulate (copy_in keys kinds values stamps) (width * n) (get_or counts n 0) i no_copy h

  -- A look among its places is a look in it.
  pub node_looked : (k : ℕ)
      → found_of (find key_of (tabulate (width * n) (width * n + get_or counts n 0 - width * n) (copy_in keys kinds values stamps)) k)
      ≡ found_of (find key_of (node_in counts keys kinds values stamps n) k)
  unfolding node_in
  node_looked k =
      let e : width * n + get_or counts n 0 - width * n ≡ get_or counts n 0 = omega arith in
      rw e

-- The nodes of a state that parts hold: those of its columns, and nothing past them.
module _ (nodes clock : ℕ) (counts keys kinds values stamps : List ℕ) (slots : List Slot) (n : ℕ) where
  pub parts_node : n < nodes → node_at (state_in nodes clock counts keys kinds values stamps slots) n ≡ node_in counts keys kinds values stamps n
  parts_node h = get_d_from_start (node_in counts keys kinds values stamps) nodes n [] h

  pub parts_past : nodes ≤ n → node_at (state_in nodes clock counts keys kinds values stamps slots) n ≡ []
  parts_past h = get_d_tabulate_past (node_in counts keys kinds values stamps) 0 nodes n [] h

-- The nodes of a store, and of its state.
module _ (z : Store) where
  pub length-node : (n : ℕ) → length (node_of z n) ≡ count_of z n
  length-node n = length-node_in z.counts z.keys z.kinds z.values z.stamps n

  pub node-copy : (n i : ℕ) → i < count_of z n → get_or (node_of z n) i no_copy ≡ copy_of z (width * n + i)
  node-copy n i h = node_in-copy z.counts z.keys z.kinds z.values z.stamps n i h

  pub length_nodes : length (state_of z).nodes ≡ size (plan_of z)
  unfolding state_of
  length_nodes = length-tabulate (node_of z) 0 (size (plan_of z))

  pub state_node : (n : ℕ) → n < size (plan_of z) → node_at (state_of z) n ≡ node_of z n
  unfolding state_of
  state_node n = parts_node (size (plan_of z)) z.clock z.counts z.keys z.kinds z.values z.stamps z.slots n

  pub state_past : (n : ℕ) → size (plan_of z) ≤ n → node_at (state_of z) n ≡ []
  unfolding state_of
  state_past n = parts_past (size (plan_of z)) z.clock z.counts z.keys z.kinds z.values z.stamps z.slots n

  pub state_clock : (state_of z).clock ≡ z.clock
  unfolding state_of
  state_clock = refl

  pub state_slots : (state_of z).slots ≡ z.slots
  unfolding state_of
  state_slots = refl

  pub state_count : (n : ℕ) → n < size (plan_of z) → length (node_at (state_of z) n) ≡ count_of z n
  state_count n h = ap length (state_node n h) ∙ length-node n

  pub state_copy : (n i : ℕ) → n < size (plan_of z) → i < count_of z n → copy_at (state_of z) n i ≡ copy_of z (width * n + i)
  state_copy n i h g = ap (λ (xs : List Copy). get_or xs i no_copy) (state_node n h) ∙ node-copy n i g

-- A column: its length, its places, and when a list is one.
pub length-column : (part : Copy → ℕ) (ns : List (List Copy)) → length (column part ns) ≡ places
unfolding column
length-column part ns = length-tabulate (λ i. part (place_of ns i)) 0 places

pub place_at : (part : Copy → ℕ) (ns : List (List Copy)) (n i : ℕ) → n < most_nodes → i < width
    → get_or (column part ns) (width * n + i) 0 ≡ part (get_or (get_or ns n []) i no_copy)
unfolding column
place_at part ns n i h g =
    let node : (width * n + i) / width ≡ n = omega arith in
    let place : (width * n + i) % width ≡ i = omega arith in
    get_d_from_start (λ j. part (place_of ns j)) places (width * n + i) 0 (omega arith) ∙ rw (node, place)

-- A list of as many places that at each place of each node holds that copy's number is the column.
pub column_is : (part : Copy → ℕ) (ns : List (List Copy)) (c : List ℕ) → length c ≡ places
    → ((m i : ℕ) → m < most_nodes → i < width → get_or c (width * m + i) 0 ≡ part (get_or (get_or ns m []) i no_copy)) → c ≡ column part ns
unfolding column
column_is part ns c long at = as_tabulate (λ j. part (place_of ns j)) c 0 places 0 long (λ j h. rw zero-add (by_node j h))
  where
    by_node : (j : ℕ) → j < places → get_or c j 0 ≡ part (place_of ns j)
    by_node j h =
        let e : width * (j / width) + j % width ≡ j = omega arith in
        rw e at (at (j / width) (j % width) (omega arith) (omega arith))

-- Two lists of nodes that differ in node n alone, which in the second holds the copies ys.
pub record OneNode (n : ℕ) (ys : List Copy) (ns ms : List (List Copy)) : Type 0 where
  pub here : get_or ms n [] ≡ ys
  pub others : (m : ℕ) → (m ≡ n → ⊥) → get_or ms m [] ≡ get_or ns m []

-- A node is replaced.
pub set_one : (ns : List (List Copy)) (n : ℕ) (ys : List Copy) → n < length ns → OneNode n ys ns (set ns n ys)
set_one ns n ys h = record { here = get_or-set_same ns n ys [] h; others = λ m e. get_or-set_other ns n m ys [] e }

-- A node is added after the last.
pub append_one : (ns : List (List Copy)) (xs : List Copy) → OneNode (length ns) xs ns (ns ++ xs ∷ [])
append_one ns xs = record { here = get_or-append_seam ns xs [] []; others = λ m e. go m e (dec_lt m (length ns)) }
  where
    go : (m : ℕ) → (m ≡ length ns → ⊥) → Dec (m < length ns) → get_or (ns ++ xs ∷ []) m [] ≡ get_or ns m []
    go m e (yes h) = get_or-append ns (xs ∷ []) [] m h
    go m e (no h) =
        get_or-eq_default (ns ++ xs ∷ []) [] (rw length-append (omega arith)) ∙ sym (get_or-eq_default ns [] (omega arith))

-- What holds at each place below node n and at each place past it holds at each place of the other nodes.
pub other_places : (P : ℕ → Type 0) (n : ℕ) → ((j : ℕ) → j < width * n → P j) → ((j : ℕ) → width * n + width ≤ j → P j)
    → (m i : ℕ) → i < width → (m ≡ n → ⊥) → P (width * m + i)
other_places P n below past m i h e = go (dec_lt m n)
  where
    go : Dec (m < n) → P (width * m + i)
    go (yes l) = below (width * m + i) (omega arith)
    go (no l) = past (width * m + i) (omega arith)

-- Columns and counts where one node is written.
module _ {n : ℕ} {ys : List Copy} {ns ms : List (List Copy)} (one : OneNode n ys ns ms) where
  -- A column whose places of node n are those of ys, and whose other places are as they were.
  pub node_written : (part : Copy → ℕ) (c : List ℕ) → length c ≡ places
      → ((i : ℕ) → i < width → get_or c (width * n + i) 0 ≡ part (get_or ys i no_copy))
      → ((m i : ℕ) → i < width → (m ≡ n → ⊥) → get_or c (width * m + i) 0 ≡ get_or (column part ns) (width * m + i) 0) → c ≡ column part ms
  node_written part c long here others = column_is part ms c long (λ m i h g. go m i h g (ℕ_discrete m n))
    where
      go : (m i : ℕ) → m < most_nodes → i < width → Dec (m ≡ n) → get_or c (width * m + i) 0 ≡ part (get_or (get_or ms m []) i no_copy)
      go m i h g (yes e) = rw (e, one.here) (here i g)
      go m i h g (no e) = rw (one.others m e) (others m i g e ∙ place_at part ns m i h g)

  -- The copies laid into a column from the node's first place on, and empty copies over what stood there past them.
  pub node-laid : (part : Copy → ℕ) (k : ℕ) → n < most_nodes → length (get_or ns n []) ≤ length ys + k → length ys + k ≤ width
      → sets (column part ns) (width * n) (map part ys ++ replicate k (part no_copy)) ≡ column part ms
  node-laid part k few over fits =
      node_written part (sets c (width * n) vs) (length-sets c (width * n) vs ∙ length-column part ns) here
      (other_places (λ j. get_or (sets c (width * n) vs) j 0 ≡ get_or c j 0) n (λ j h. sets_below vs c (width * n) j 0 h)
      (λ j h. sets_past vs c (width * n) j 0 (omega (arith, long))))
    where
      c : List ℕ
      c = column part ns

      vs : List ℕ
      vs = map part ys ++ replicate k (part no_copy)

      long : length vs ≡ length ys + k
      long = simp (length-append, length-map, length-replicate)

      new : (i : ℕ) → i < length ys + k → Dec (i < length ys) → get_or vs i 0 ≡ part (get_or ys i no_copy)
      new i h (yes g) = get_or-append (map part ys) (replicate k (part no_copy)) 0 i (rw length-map g) ∙ get_d_map part ys i no_copy 0 g
      new i h (no g) =
          let e : length (map part ys) + (i - length ys) ≡ i = omega (arith, length-map ys part) in
          (rw e at (get_or-append-add (map part ys) (replicate k (part no_copy)) (i - length ys) 0))
          ∙ get_or-replicate k (i - length ys) (part no_copy) 0 (omega arith) ∙ ap part (sym (get_or-eq_default ys no_copy (omega arith)))

      old : (i : ℕ) → i < width → Dec (i < length ys + k) → get_or (sets c (width * n) vs) (width * n + i) 0 ≡ part (get_or ys i no_copy)
      old i h (yes g) = sets_inside vs c (width * n) i 0 (omega (arith, long, length-column part ns)) (omega (arith, long)) ∙ new i g (dec_lt i (length ys))
      old i h (no g) =
          sets_past vs c (width * n) (width * n + i) 0 (omega (arith, long)) ∙ place_at part ns n i few h
          ∙ ap part (get_or-eq_default (get_or ns n []) no_copy (omega arith) ∙ sym (get_or-eq_default ys no_copy (omega arith)))

      here : (i : ℕ) → i < width → get_or (sets c (width * n) vs) (width * n + i) 0 ≡ part (get_or ys i no_copy)
      here i h = old i h (dec_lt i (length ys + k))

  -- The same where nothing is left past them: a node that does not shrink, and one that is new.
  pub node_grown : (part : Copy → ℕ) → n < most_nodes → length (get_or ns n []) ≤ length ys → length ys ≤ width
      → sets (column part ns) (width * n) (map part ys) ≡ column part ms
  node_grown part few over fits =
      ap (λ (vs : List ℕ). sets (column part ns) (width * n) vs) (sym (append-nil (map part ys))) ∙ node-laid part 0 few (omega arith) (omega arith)

  pub counts_written : tabulate 0 most_nodes (λ m. length (get_or ms m [])) ≡ set (tabulate 0 most_nodes (λ m. length (get_or ns m []))) n (length ys)
  counts_written =
      sym
      (set_tabulated (λ m. length (get_or ns m [])) (λ m. length (get_or ms m [])) most_nodes n (length ys) (ap length one.here)
      (λ m e. ap length (one.others m e)))

-- A column where one copy of a node is replaced.
pub copy_written : (part : Copy → ℕ) (ns : List (List Copy)) (n i : ℕ) (x : Copy) → n < length ns → n < most_nodes → i < length (get_or ns n [])
    → i < width → set (column part ns) (width * n + i) (part x) ≡ column part (set ns n (set (get_or ns n []) i x))
copy_written part ns n i x in_List few held fits =
    node_written (set_one ns n (set xs i x) in_List) part (set c (width * n + i) (part x))
    (length-set c (width * n + i) (part x) ∙ length-column part ns) (λ j h. here j h (ℕ_discrete j i))
    (λ m j h e. get_or-set_other c (width * n + i) (width * m + j) (part x) 0 (λ same. e (omega arith)))
  where
    c : List ℕ
    c = column part ns

    xs : List Copy
    xs = get_or ns n []

    here : (j : ℕ) → j < width → Dec (j ≡ i) → get_or (set c (width * n + i) (part x)) (width * n + j) 0 ≡ part (get_or (set xs i x) j no_copy)
    here j h (yes e) =
        rw e
        (get_or-set_same c (width * n + i) (part x) 0 (omega (arith, length-column part ns)) ∙ ap part (sym (get_or-set_same xs i x no_copy held)))
    here j h (no e) =
        get_or-set_other c (width * n + i) (width * n + j) (part x) 0 (λ same. e (omega arith)) ∙ place_at part ns n j few h
        ∙ ap part (sym (get_or-set_other xs i j x no_copy e))

-- A store is the store of a state by its plan's number, clock, counts, columns and slots.
pub store_is : (plan : ℕ) (s : State) (z : Store) → z.plan ≡ plan → z.clock ≡ s.clock
    → z.counts ≡ tabulate 0 most_nodes (λ n. length (node_at s n)) → z.keys ≡ column (λ (x : Copy). x.key) s.nodes
    → z.kinds ≡ column (λ (x : Copy). x.kind) s.nodes → z.values ≡ column (λ (x : Copy). x.value) s.nodes
    → z.stamps ≡ column (λ (x : Copy). x.stamp) s.nodes → z.slots ≡ s.slots → z ≡ store_of plan s
unfolding store_of
store_is plan s z p c n k d v t q =
    λ i. record { plan = p i; clock = c i; counts = n i; keys = k i; kinds = d i; values = v i; stamps = t i; slots = q i }

-- A store in which no node holds anything: zeros over all places and counts.
module _ (ns : List (List Copy)) (empty : (n : ℕ) → get_or ns n [] ≡ []) where
  pub blank_column : (part : Copy → ℕ) → replicate places (part no_copy) ≡ column part ns
  blank_column part =
      column_is part ns (replicate places (part no_copy)) (length-replicate places (part no_copy))
      (λ m i h g. get_or-replicate places (width * m + i) (part no_copy) 0 (omega arith) ∙ ap (λ (xs : List Copy). part (get_or xs i no_copy)) (sym (empty m)))

  pub blank_counts : replicate most_nodes 0 ≡ tabulate 0 most_nodes (λ n. length (get_or ns n []))
  blank_counts =
      as_tabulate (λ n. length (get_or ns n [])) (replicate most_nodes 0) 0 most_nodes 0 (length-replicate {A = ℕ} most_nodes 0)
      (λ n h. rw zero-add (get_d_same most_nodes n 0 ∙ ap length (sym (empty n))))

pub blank_store : (plan : ℕ) (s : State) → ((n : ℕ) → node_at s n ≡ [])
    → record {
      plan = plan;
      clock = s.clock;
      counts = replicate most_nodes 0;
      keys = replicate places 0;
      kinds = replicate places 0;
      values = replicate places 0;
      stamps = replicate places 0;
      slots = s.slots;
    } ≡ store_of plan s
blank_store plan s empty =
    store_is plan s _ refl refl (blank_counts s.nodes empty) (blank_column s.nodes empty (λ (x : Copy). x.key))
    (blank_column s.nodes empty (λ (x : Copy). x.kind)) (blank_column s.nodes empty (λ (x : Copy). x.value))
    (blank_column s.nodes empty (λ (x : Copy). x.stamp)) refl

-- The store of a state, and its state again.
module _ (plan : ℕ) (s : State) where
  pub stored_count : (n : ℕ) → n < most_nodes → count_of (store_of plan s) n ≡ length (node_at s n)
  unfolding store_of
  stored_count n h = get_d_from_start (λ m. length (node_at s m)) most_nodes n 0 h

  pub stored_copy : (n i : ℕ) → n < most_nodes → i < width → copy_of (store_of plan s) (width * n + i) ≡ copy_at s n i
  unfolding store_of
  stored_copy n i h g =
      λ t. record {
        key = place_at (λ (x : Copy). x.key) s.nodes n i h g t;
        kind = place_at (λ (x : Copy). x.kind) s.nodes n i h g t;
        value = place_at (λ (x : Copy). x.value) s.nodes n i h g t;
        stamp = place_at (λ (x : Copy). x.stamp) s.nodes n i h g t;
      }

  pub stored_node : (n : ℕ) → n < most_nodes → length (node_at s n) ≤ width → node_of (store_of plan s) n ≡ node_at s n
  stored_node n h fits =
      ext_get_or no_copy (node_of z n) (node_at s n) long
      (λ i g. node-copy z n i (omega (arith, length-node z n)) ∙ stored_copy n i h (omega (arith, long)))
    where
      z : Store
      z = store_of plan s

      long : length (node_of z n) ≡ length (node_at s n)
      long = length-node z n ∙ stored_count n h

  pub stored_shape : length s.slots ≡ slot_count → Shape (store_of plan s)
  unfolding store_of
  stored_shape slots =
      record {
        counts_long = length-tabulate (λ n. length (node_at s n)) 0 most_nodes;
        keys_long = length-column (λ (x : Copy). x.key) s.nodes;
        kinds_long = length-column (λ (x : Copy). x.kind) s.nodes;
        values_long = length-column (λ (x : Copy). x.value) s.nodes;
        stamps_long = length-column (λ (x : Copy). x.stamp) s.nodes;
        slots_long = slots;
      }

  -- A state with a list for each node of the plan, none longer than a node's places, comes back.
  pub state_back : length s.nodes ≡ size (plan_numbered plan) → size (plan_numbered plan) ≤ most_nodes → ((n : ℕ) → length (node_at s n) ≤ width)
      → state_of (store_of plan s) ≡ s
  unfolding state_of store_of
  state_back long few fits = λ t. record { clock = s.clock; nodes = nodes t; slots = s.slots }
    where
      many : size (plan_of (store_of plan s)) ≡ size (plan_numbered plan)
      many = ap size (plan_back plan s)

      nodes : tabulate 0 (size (plan_of (store_of plan s))) (node_of (store_of plan s)) ≡ s.nodes
      nodes =
          sym
          (as_tabulate (node_of (store_of plan s)) s.nodes 0 (size (plan_of (store_of plan s))) [] (long ∙ sym many)
          (λ n h. rw zero-add (sym (stored_node n (omega (arith, many)) (fits n)))))

-- A store that keeps the rules is the store of its state.
module _ (z : Store) (rules : StoreRules z) where
  -- Each node's list in the state is as long as its count, also where the plan has no node.
  pub every_count : (n : ℕ) → n < most_nodes → length (node_at (state_of z) n) ≡ count_of z n
  every_count n h = go (dec_lt n (size (plan_of z)))
    where
      go : Dec (n < size (plan_of z)) → length (node_at (state_of z) n) ≡ count_of z n
      go (yes l) = state_count z n l
      go (no l) = ap length (state_past z n (omega arith)) ∙ sym (rules.unused_counts_zero n (omega arith) h)

  -- Each place of each node is its place in the node's list, unused places too.
  pub every_copy : (n i : ℕ) → n < most_nodes → i < width → copy_at (state_of z) n i ≡ copy_of z (width * n + i)
  every_copy n i h g = go (dec_lt i (count_of z n)) (dec_lt n (size (plan_of z)))
    where
      go : Dec (i < count_of z n) → Dec (n < size (plan_of z)) → copy_at (state_of z) n i ≡ copy_of z (width * n + i)
      go (yes u) (yes l) = state_copy z n i l u
      go (yes u) (no l) = absurd (omega (arith, rules.unused_counts_zero n (omega arith) h))
      go (no u) l =
          get_or-eq_default (node_at (state_of z) n) no_copy (omega (arith, every_count n h))
          ∙ sym (rules.unused_places-all-zero n i h (omega arith) g)

  pub store_back : store_of z.plan (state_of z) ≡ z
  store_back =
      sym
      (store_is z.plan (state_of z) z refl (sym (state_clock z)) counts
      (back (λ (x : Copy). x.key) z.keys rules.shape.keys_long (λ j. refl))
      (back (λ (x : Copy). x.kind) z.kinds rules.shape.kinds_long (λ j. refl))
      (back (λ (x : Copy). x.value) z.values rules.shape.values_long (λ j. refl))
      (back (λ (x : Copy). x.stamp) z.stamps rules.shape.stamps_long (λ j. refl))
      (sym (state_slots z)))
    where
      counts : z.counts ≡ tabulate 0 most_nodes (λ n. length (node_at (state_of z) n))
      counts =
          as_tabulate (λ n. length (node_at (state_of z) n)) z.counts 0 most_nodes 0 rules.shape.counts_long (λ n h. rw zero-add (sym (every_count n h)))

      back : (part : Copy → ℕ) (c : List ℕ) → length c ≡ places → ((j : ℕ) → get_or c j 0 ≡ part (copy_of z j)) → c ≡ column part (state_of z).nodes
      back part c long of =
          column_is part (state_of z).nodes c long (λ m i h g. of (width * m + i) ∙ ap part (sym (every_copy m i h g)))

-- A state that keeps the rules holds nothing past the plan's nodes, and in no node more than its places.
pub nothing_past : {p : Plan} {s : State} → StateRules p s → (n : ℕ) → size p ≤ n → node_at s n ≡ []
nothing_past {s = s} rules n h = get_or-eq_default s.nodes [] (omega (arith, rules.a_list_for_each_node))

pub node_fits : {p : Plan} → PlanRules p → {s : State} → StateRules p s → (n : ℕ) → length (node_at s n) ≤ width
node_fits {p} plan {s} rules n = go (dec_lt n (size p))
  where
    go : Dec (n < size p) → length (node_at s n) ≤ width
    go (yes h) = omega (arith, rules.counts_within_capacity n h, (plan.capacity_within n h).1)
    go (no h) = rw (nothing_past rules n (omega arith)) (omega arith)

-- A state that keeps the rules comes back, and its store keeps them.
module _ (plan : ℕ) (low : 1 ≤ plan) (high : plan ≤ plans) {s : State} (rules : StateRules (plan_numbered plan) s) where
  pub rules_back : state_of (store_of plan s) ≡ s
  rules_back =
      let p = table_rules plan low high in
      state_back plan s rules.a_list_for_each_node p.nodes_within.1 (node_fits p rules)

  kept : StateRules (plan_of (store_of plan s)) s
  kept = subst (λ (p : Plan). StateRules p s) (sym (plan_back plan s)) rules

  pub rules_store : StoreRules (store_of plan s)
  unfolding store_of
  rules_store =
      record {
        shape = stored_shape plan s rules.slots_long;
        plan_known = (low, high);
        unused_places-all-zero =
            λ n i h u g. stored_copy plan s n i h g ∙ get_or-eq_default (node_at s n) no_copy (omega (arith, stored_count plan s n h));
        unused_counts_zero =
            λ n past h. stored_count plan s n h ∙ ap length (nothing_past kept n past);
        state_rules = subst (λ (t : State). StateRules (plan_of (store_of plan s)) t) (sym rules_back) kept;
      }
