-- A plan's arrays give back the plan's own edges and capacities, also past its last node.
use mathlib.Core.Path.{◌≡◌, refl, sym, ap, ◌∙◌}
use mathlib.Core.List.{List, []}
use Rattle.std.specs.Prelude.{Some, None}
use Prim.Native.Nat.{ℕ, suc, ◌+◌, ◌-◌, ◌<◌, ◌≤◌}
use native.Mathlib.Omega.{arith}
use native.Mathlib.Decide.{dec_lt}
use native.Mathlib.Numerals.{add-one}
use mathlib.Core.Bool.{true, false}
use lib.ListN.{length, get_or, get_or-eq_default}
use borrow.Author.Tests.{lt-ltb, le-ltb}
use Rattle.lists.specs.Indexed.{tabulate}
use Rattle.lists.proofs.Tabulating.{length-tabulate, get_d_from_start, as_from_start}
use Rattle.plan.specs.declared.Edge.{Edge}
use Rattle.std.specs.Prelude.{Some, None}
use Rattle.plan.specs.Sizes.{most_nodes, most_edges}
use Rattle.plan.specs.Plan.{Node, Plan, no_edge, no_node, size, capacity_of, edges_of, edge_of, holds, first_edge}
use Rattle.plan.specs.PlanArrays.{Grid, cell, edge_in, at_node, edge_count_in, edges_in, edge_numbered, capacities_row, counts_row, grid_of}
use Rattle.plan.proofs.NextLaws.{no_edges}

-- A place of the grid holds its part of the edge.
pub cell_grid : (part : Edge → ℕ) (p : Plan) (n i : ℕ) → n < most_nodes → i < most_edges → cell (grid_of part p) n i ≡ part (edge_of p n i)
unfolding grid_of
cell_grid part p n i h g =
    ap (λ (l : List ℕ). get_or l i 0) (get_d_from_start (λ m. tabulate 0 most_edges (λ j. part (edge_of p m j))) most_nodes n [] h)
    ∙ get_d_from_start (λ j. part (edge_of p n j)) most_edges i 0 g

-- A row by node: what it has, and nothing past the last node.
module _ (row : List ℕ) (n : ℕ) where
  pub at_within : n < most_nodes → at_node row n ≡ get_or row n 0
  unfolding at_node
  at_within h = rw (lt-ltb n most_nodes h)

  pub at_past : most_nodes ≤ n → at_node row n ≡ 0
  unfolding at_node
  at_past h = rw (le-ltb n most_nodes h)

-- A row that is made node by node gives each node's number back, where those past the last have 0.
row_back : (f : ℕ → ℕ) → ((n : ℕ) → most_nodes ≤ n → f n ≡ 0) → (n : ℕ) → at_node (tabulate 0 most_nodes f) n ≡ f n
row_back f none n = go (dec_lt n most_nodes)
  where
    go : Dec (n < most_nodes) → at_node (tabulate 0 most_nodes f) n ≡ f n
    go (yes h) = at_within (tabulate 0 most_nodes f) n h ∙ get_d_from_start f most_nodes n 0 h
    go (no h) = let past : most_nodes ≤ n = omega arith in at_past (tabulate 0 most_nodes f) n past ∙ sym (none n past)

module _ (p : Plan) (few : size p ≤ most_nodes) where
  pub capacities_back : (n : ℕ) → at_node (capacities_row p) n ≡ capacity_of p n
  unfolding capacities_row
  capacities_back = row_back (capacity_of p) (λ n h. ap (λ (d : Node). d.capacity) (get_or-eq_default p no_node (omega arith)))

  module _ (counted : (n : ℕ) → n < size p → length (edges_of p n) ≤ most_edges) where
    few_edges : (n : ℕ) → length (edges_of p n) ≤ most_edges
    few_edges n = go (dec_lt n (size p))
      where
        go : Dec (n < size p) → length (edges_of p n) ≤ most_edges
        go (yes h) = counted n h
        go (no h) = rw (no_edges p n (omega arith)) (omega arith)

    pub count_back : (n : ℕ) → edge_count_in (counts_row p) n ≡ length (edges_of p n)
    unfolding counts_row
    count_back n =
        let counted_is = row_back (λ m. length (edges_of p m)) (λ m h. ap length (no_edges p m (omega arith))) n in
        omega (arith, counted_is, few_edges n)

    abbrev made : ℕ → ℕ → Edge
    made n = edge_in (grid_of (λ e. e.lowest) p) (grid_of (λ e. e.highest) p) (grid_of (λ e. e.target) p) n

    made_is : (n : ℕ) → n < most_nodes → (i : ℕ) → i < most_edges → edge_of p n i ≡ made n i
    made_is n h i g =
        sym (rw (cell_grid (λ e. e.lowest) p n i h g, cell_grid (λ e. e.highest) p n i h g, cell_grid (λ e. e.target) p n i h g))

    pub edges_back : (n : ℕ) → edges_in (counts_row p) (grid_of (λ e. e.lowest) p) (grid_of (λ e. e.highest) p) (grid_of (λ e. e.target) p) n
        ≡ edges_of p n
    unfolding edges_in
    edges_back n =
        ap (λ (c : ℕ). tabulate 0 c (made n)) (count_back n)
        ∙ sym (as_from_start (made n) (edges_of p n) (length (edges_of p n)) no_edge refl each)
      where
        each : (i : ℕ) → i < length (edges_of p n) → edge_of p n i ≡ made n i
        each i h = go (dec_lt n (size p))
          where
            go : Dec (n < size p) → edge_of p n i ≡ made n i
            go (yes q) = made_is n (omega arith) i (omega (arith, few_edges n))
            go (no q) = absurd (omega (arith, ap length (no_edges p n (omega arith))))

-- Of any arrays: only a node within them has edges,
pub counted_within : (counts : List ℕ) (n count i : ℕ) → count ≡ edge_count_in counts n → i < count → n < most_nodes
counted_within counts n count i e h = go (dec_lt n most_nodes)
  where
    go : Dec (n < most_nodes) → n < most_nodes
    go (yes q) = q
    go (no q) = absurd (omega (arith, at_past counts n (omega arith)))

-- the edges are those counted,
module _ (counts : List ℕ) (lows highs targets : Grid) (n i : ℕ) where
  pub edge_is : i < edge_count_in counts n → get_or (edges_in counts lows highs targets n) i no_edge ≡ edge_in lows highs targets n i
  unfolding edges_in
  edge_is h = get_d_from_start (edge_in lows highs targets n) (edge_count_in counts n) i no_edge h

  edges_long : length (edges_in counts lows highs targets n) ≡ edge_count_in counts n
  unfolding edges_in
  edges_long = length-tabulate (edge_in lows highs targets n) 0 (edge_count_in counts n)

  -- and an edge by its number is among them or is none,
  pub edge_some : i < edge_count_in counts n → edge_numbered (edges_in counts lows highs targets n) i ≡ Some (edge_in lows highs targets n i)
  unfolding edge_numbered
  edge_some h = rw (lt-ltb i (length (edges_in counts lows highs targets n)) (omega (arith, edges_long)), edge_is h)

  pub edge_none : edge_count_in counts n ≤ i → edge_numbered (edges_in counts lows highs targets n) i ≡ None
  unfolding edge_numbered
  edge_none h = rw (le-ltb i (length (edges_in counts lows highs targets n)) (omega (arith, edges_long)))

-- and a loop that looks for the first edge that holds the key begins at them all.
pub looks_from : (counts : List ℕ) (lows highs targets : Grid) (n count k : ℕ) → count ≡ edge_count_in counts n
    → first_edge (edges_in counts lows highs targets n) k ≡ first_edge (tabulate 0 (count - 0) (edge_in lows highs targets n)) k
unfolding edges_in
looks_from counts lows highs targets n count k e =
    ap (λ (c : ℕ). first_edge (tabulate 0 c (edge_in lows highs targets n)) k) (let z : edge_count_in counts n ≡ count - 0 = omega arith in z)

-- One turn of it: it is at its end, is found, or goes on.
module _ (f : ℕ → Edge) (i n k : ℕ) where
  pub looked : n ≤ i → first_edge (tabulate i (n - i) f) k ≡ None
  unfolding tabulate first_edge
  looked h = let s : n - i ≡ 0 = omega arith in rw s

  pub found : i < n → holds (f i) k ≡ true → first_edge (tabulate i (n - i) f) k ≡ Some (f i).target
  unfolding tabulate first_edge
  found h e = let s : n - i ≡ suc (n - suc i) = omega arith in rw (s, e)

  pub looks_on : i < n → holds (f i) k ≡ false → first_edge (tabulate i (n - i) f) k ≡ first_edge (tabulate (i + 1) (n - (i + 1)) f) k
  unfolding tabulate first_edge
  looks_on h e = let s : n - i ≡ suc (n - (i + 1)) = omega arith in rw (s, e, add-one)
