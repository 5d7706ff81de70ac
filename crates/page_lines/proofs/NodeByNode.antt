-- The nodes laid over one another, from the last to the root: what each turn and the end leave, and that a good store has what is asked
-- for.
use mathlib.Core.Path.{◌≡◌, refl, sym, ap, ◌∙◌}
use mathlib.Core.Bool.{true, false}
use mathlib.Core.Logic.{◌⊎◌, inl, inr}
use mathlib.Core.List.{List}
use mathlib.Core.Option.{Option, none, some, map}
use Rattle.std.specs.Prelude.{Some, None}
use Prim.Native.Nat.{ℕ, zero, suc, ◌+◌, ◌-◌, ◌*◌, ◌<◌, ◌≤◌}
use native.Mathlib.Omega.{arith}
use native.Mathlib.Decide.{dec_lt}
use lib.Dec.{eqb}
use lib.ListN.{length, get_or, replicate, get_or-replicate}
use borrow.Author.Tests.{eqb-true}
use Rattle.lists.specs.Indexed.{tabulate}
use Rattle.lists.proofs.Options.{one_some, not_none_and_some}
use Rattle.lists.proofs.Tabulating.{length-tabulate, get_d_from_start, tabulate_on, tabulate_off}
use Rattle.lists.proofs.Truths.{bool?}
use Rattle.plan.specs.Sizes.{most_nodes}
use Rattle.plan.specs.Plan.{Plan, size}
use Rattle.store.specs.declared.Copy.{Copy}
use Rattle.store.specs.declared.Store.{Store}
use Rattle.store.specs.Copies.{no_copy, key_of, find}
use Rattle.store.specs.State.{line, or_else, first_on, current}
use Rattle.store.specs.StateRules.{HeldAt, OnPath}
use Rattle.store.specs.Layout.{plan_of, width, places, copy_of, count_of, node_in, state_of}
use Rattle.store.specs.StoreRules.{good_store}
use Rattle.store.specs.Workers.{number_in, itself, AllOrdered}
use Rattle.store.proofs.Seeking.{find_tabulated}
use Rattle.store.proofs.Laying.{parts_node, parts_past, state_count, state_copy}
use Rattle.store.proofs.Lifting.{plan_good, state_good, good_ordered}
use Rattle.page_lines.specs.PageLine.{analytes, key_for}
use Rattle.page_lines.specs.Workers.{state_up_to, OnPaths, Pageable, Place, place_over, laid_over, copy_there, FindsCurrent}
use Rattle.page_lines.proofs.Lowest.{current_lowest}

-- What is found among places stands at one of them and has the key.
pub record FoundAt (f : ℕ → ℕ) (from n k j : ℕ) : Type 0 where
  pub low : from ≤ j
  pub high : j < from + n
  pub key : f j ≡ k

find_place : (f : ℕ → ℕ) (n from k j : ℕ) → find f (tabulate from n itself) k ≡ some j → FoundAt f from n k j
unfolding find tabulate
find_place f zero from k j e = absurd (not_none_and_some refl e)
find_place f (suc n) from k j e = go (bool? (eqb (f from) k)) (find_place f n (suc from) k j)
  where
    go : (eqb (f from) k ≡ true) ⊎ (eqb (f from) k ≡ false) → (find f (tabulate (suc from) n itself) k ≡ some j → FoundAt f (suc from) n k j)
        → FoundAt f from (suc n) k j
    go (inl t) again =
        let q : from ≡ j = one_some refl (rw t at e) in
        record { low = omega arith; high = omega arith; key = ap f (sym q) ∙ eqb-true (f from) k t }
    go (inr t) again =
        let w = again (rw t at e) in
        record { low = omega (arith, w.low); high = omega (arith, w.high); key = w.key }

-- There is a place laid for each analyte,
laid_long : (z : Store) (node sample : ℕ) (at : List Place) → length (laid_over z node sample at) ≡ analytes
unfolding laid_over
laid_long z node sample at =
    length-tabulate
    (λ a. place_over (get_or at a None) (find (number_in z.keys) (tabulate (width * node) (count_of z node) itself) (key_for sample a)))
    0 analytes

-- that of its copy in the node over the one that stood.
laid_at : (z : Store) (node sample : ℕ) (at : List Place) (a : ℕ) → a < analytes
    → get_or (laid_over z node sample at) a None
    ≡ place_over (get_or at a None) (find (number_in z.keys) (tabulate (width * node) (count_of z node) itself) (key_for sample a))
unfolding laid_over
laid_at z node sample at a h =
    get_d_from_start
    (λ b. place_over (get_or at b None) (find (number_in z.keys) (tabulate (width * node) (count_of z node) itself) (key_for sample b)))
    analytes a None h

-- No place for any analyte.
abbrev pub nowhere : List Place
nowhere = replicate analytes None

none_laid : (a : ℕ) → a < analytes → get_or nowhere a None ≡ None
none_laid a h = get_or-replicate analytes a None None h

module _ (nodes : ℕ) (z : Store) where
  -- A line of the first so many nodes.
  abbrev line_up_to : ℕ → ℕ → Option Copy
  line_up_to k n = line (state_up_to nodes z) k n

  -- What is found of a key among a node's places.
  abbrev found_in : ℕ → ℕ → Option ℕ
  found_in k n = find (number_in z.keys) (tabulate (width * n) (count_of z n) itself) k

  -- A node's line is the copy at the place that is found,
  node-line : (k n : ℕ) → n < nodes → line_up_to k n ≡ map (copy_of z) (found_in k n)
  unfolding node_in
  node-line k n h =
      ap (λ (xs : List Copy). find key_of xs k) (parts_node nodes z.clock z.counts z.keys z.kinds z.values z.stamps z.slots n h)
      ∙ find_tabulated key_of no_copy (copy_of z) (width * n) (count_of z n) k

  -- and past the nodes there is none.
  past_line : (k n : ℕ) → nodes ≤ n → line_up_to k n ≡ none
  unfolding find
  past_line k n h = ap (λ (xs : List Copy). find key_of xs k) (parts_past nodes z.clock z.counts z.keys z.kinds z.values z.stamps z.slots n h)

  module _ (sample : ℕ) where
    -- The nodes from one on are laid over: by analyte the place of the line's copy in the lowest of them, if one has it.
    pub record LaidFrom (node : ℕ) (at : List Place) : Type 0 where
      pub within : (a i : ℕ) → a < analytes → get_or at a None ≡ Some i → i < places
      pub lowest : (a : ℕ) → a < analytes
          → copy_there z (get_or at a None) ≡ first_on (line_up_to (key_for sample a)) (tabulate node (nodes - node) itself)

    -- At first no node is,
    pub nodes_start : LaidFrom nodes nowhere
    unfolding first_on
    nodes_start =
        record {
          within = λ a i h e. absurd (cc (none_laid a h));
          lowest = λ a h. ap (copy_there z) (none_laid a h) ∙ rw (tabulate_off itself nodes nodes (omega arith));
        }

    -- a turn lays one more,
    pub nodes_turn : nodes ≤ most_nodes → AllOrdered z.counts z.keys → (later node : ℕ) → later ≡ suc node → node < nodes → (at now : List Place)
        → now ≡ laid_over z node sample at → LaidFrom later at → LaidFrom node now
    unfolding first_on
    nodes_turn most ordered later node l h at now e g =
        record { within = inside; lowest = turn }
      where
        stood : (a : ℕ) → a < analytes → get_or now a None ≡ place_over (get_or at a None) (found_in (key_for sample a) node)
        stood a q = rw e (laid_at z node sample at a q)

        inside : (a i : ℕ) → a < analytes → get_or now a None ≡ Some i → i < places
        inside a i q s = go (found_in (key_for sample a) node) refl
          where
            go : (o : Option ℕ) → found_in (key_for sample a) node ≡ o → i < places
            go none d = g.within a i q (cc (stood a q))
            go (some j) d =
                let w = find_place (number_in z.keys) (count_of z node) (width * node) (key_for sample a) j d in
                let same : Some j ≡ Some i = cc (stood a q) in
                let k : j ≡ i = cc in
                omega (arith, w.high, (ordered node (omega arith)).fits)

        turn : (a : ℕ) → a < analytes
            → copy_there z (get_or now a None) ≡ first_on (line_up_to (key_for sample a)) (tabulate node (nodes - node) itself)
        turn a q =
            rw (tabulate_on itself node nodes h, stood a q, node-line (key_for sample a) node h)
            (go (found_in (key_for sample a) node))
          where
            go : (o : Option ℕ) → copy_there z (place_over (get_or at a None) o)
                ≡ or_else (map (copy_of z) o) (first_on (line_up_to (key_for sample a)) (tabulate (suc node) (nodes - suc node) itself))
            go none = rw l at (g.lowest a q)
            go (some j) = refl

  -- and with the root all are, in each plan on whose paths the copies stand.
  on : (p : Plan) → OnPaths p nodes z → (k n : ℕ) (x : Copy) → line_up_to k n ≡ some x → (above : ℕ) × OnPath p k n above
  on p paths k n x e = go (dec_lt n nodes)
    where
      found : n < nodes → (o : Option ℕ) → found_in k n ≡ o → map (copy_of z) o ≡ some x → (above : ℕ) × OnPath p k n above
      found h none q r = absurd (not_none_and_some refl r)
      found h (some j) q r =
          let w = find_place (number_in z.keys) (count_of z n) (width * n) k j q in
          let i : width * n + (j - width * n) ≡ j = omega (arith, w.low) in
          rw (i, w.key) at (paths.on_path n (j - width * n) h (omega (arith, w.low, w.high)))

      go : Dec (n < nodes) → (above : ℕ) × OnPath p k n above
      go (yes h) = found h (found_in k n) refl (sym (node-line k n h) ∙ e)
      go (no h) = absurd (not_none_and_some (past_line k n (omega arith)) e)

  pub nodes_end : (sample : ℕ) (at : List Place) → LaidFrom sample 0 at → FindsCurrent nodes z sample at
  nodes_end sample at g = record { within = g.within; copies = copies }
    where
      copies : (p : Plan) → OnPaths p nodes z → (a : ℕ) → a < analytes
          → copy_there z (get_or at a None) ≡ current p (state_up_to nodes z) (key_for sample a)
      copies p paths a h =
          let m : nodes - 0 ≡ size p = omega (arith, paths.nodes_are) in
          let lowest = rw m at (g.lowest a h) in
          lowest ∙ current_lowest p paths.rules (state_up_to nodes z) (key_for sample a) (on p paths (key_for sample a))

-- The nodes of a plan are no more than a store has.
pub nodes_most : (nodes : ℕ) (z : Store) → Pageable nodes z → nodes ≤ most_nodes
nodes_most nodes z g = omega (arith, g.on_paths.nodes_are, g.on_paths.rules.nodes_within)

-- A good store's copies stand on its plan's paths,
module _ (z : Store) (good : good_store z ≡ true) (nodes : ℕ) (e : nodes ≡ size (plan_of z)) where
  pub good_on_paths : OnPaths (plan_of z) nodes z
  good_on_paths = record { rules = plan_good z good; nodes_are = e; on_path = λ n i h g. on_its_path n i (omega arith) g }
    where
      on_its_path : (n i : ℕ) → n < size (plan_of z) → i < count_of z n → (above : ℕ) × OnPath (plan_of z) (number_in z.keys (width * n + i)) n above
      on_its_path n i h g =
          let here : HeldAt (state_of z) n i = omega (arith, state_count z n h) in
          rw (state_copy z n i h g) at ((state_good z good).copies_on_their_paths n i here)

  -- and its nodes are in order.
  pub good_pageable : Pageable nodes z
  good_pageable = record { plan = plan_of z; on_paths = good_on_paths; ordered = good_ordered z good }
