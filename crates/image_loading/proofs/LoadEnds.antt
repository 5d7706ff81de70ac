-- Why loading gives what it promises: one law for each way out.
use mathlib.Core.Path.{◌≡◌, refl, sym, ap, ◌∙◌}
use mathlib.Core.Bool.{true, false}
use mathlib.Core.List.{List, [], ◌∷◌}
use Prim.Native.Nat.{ℕ, ◌+◌, ◌<◌, ◌≤◌}
use native.Mathlib.Omega.{arith}
use lib.ListN.{length}
use borrow.Author.Tests.{lt-ltb, le-ltb}
use Rattle.std.specs.List.{sum}
use Rattle.std.proofs.lemmas.List.Sums.{sum_by-cons}
use Rattle.lists.proofs.Truths.{both_le}
use Rattle.plan.specs.declared.rows.Rows.{Rows}
use Rattle.plan.specs.Sizes.{most_nodes}
use Rattle.plan.specs.Plan.{Plan, size}
use Rattle.plan.specs.PlanArrays.{capacities_row, rows_of}
use Rattle.plan.specs.PlanRules.{PlanRules}
use Rattle.plan_table.specs.PlanTable.{plan_numbered, plans}
use Rattle.plan_table.proofs.TableLaws.{table_rules}
use Rattle.store.specs.declared.Outcome.{Outcome}
use Rattle.store.specs.declared.Store.{Store}
use Rattle.store.specs.Answers.{DONE, RULE, TRAIL, answer}
use Rattle.store.specs.Layout.{fresh_store, store_of}
use Rattle.store.specs.Promises.{fresh_outcome}
use Rattle.store.specs.StoreRules.{plan_number_test, good_store}
use Rattle.store.specs.Workers.{WithinPlaces}
use Rattle.store.proofs.Freshening.{fresh_store_is}
use Rattle.store.proofs.Widths.{rows_fit}
use Rattle.store.proofs.Laying.{blank_store}
use Rattle.wire.specs.Reading.{Got, got, fault, bind}
use Rattle.wire.proofs.Chains.{bind_got, bind_fault}
use Rattle.image_reading.specs.declared.Head.{Head}
use Rattle.image_reading.specs.ImageReading.{read_nodes, loaded, nodes_from, image_at}
use Rattle.image_reading.specs.Workers.{head_at, with_nodes}
use Rattle.image_reading.proofs.HeadWays.{image_head, head_known}
use Rattle.image_loading.specs.Loading.{refused_load, copies_held, finished, load_outcome}

-- ---- the end of loading

-- What an accepted image gives.
abbrev pub accepted_load : Store → Outcome
accepted_load z = record { answer = answer DONE (copies_held z.counts) 0 0 0; store = z }

module _ (s : List ℕ) (g : Got Store) where
  -- Reading stops at a fault.
  pub finish_stops : {number at : ℕ} → g ≡ fault number at → finished s g ≡ refused_load number at
  unfolding finished
  finish_stops e = rw e

  module _ {z : Store} {end : ℕ} (e : g ≡ got z end) where
    -- Bytes after the image.
    pub finish_trails : end < length s → finished s g ≡ refused_load TRAIL end
    unfolding finished
    finish_trails h = rw (e, lt-ltb end (length s) h)

    module _ (h : length s ≤ end) where
      -- A store rule is broken.
      pub finish_breaks : good_store z ≡ false → finished s g ≡ refused_load RULE (length s)
      unfolding finished
      finish_breaks bad = rw (e, le-ltb end (length s) h, bad)

      pub finish_accepts : good_store z ≡ true → finished s g ≡ accepted_load z
      unfolding finished
      finish_accepts good = rw (e, le-ltb end (length s) h, good)

-- ---- copies_held

pub held_sum : (counts : List ℕ) → copies_held counts ≡ sum counts
unfolding copies_held
held_sum [] = refl
held_sum (count ∷ counts) = ap (λ (n : ℕ). count + n) (held_sum counts) ∙ sym (sum_by-cons (λ (x : ℕ). x) count counts)

-- ---- the store that the nodes are read into

-- The node count and the capacities in the rows of a plan.
pub rows_are : (p : Plan) {r : Rows} → r ≡ rows_of p → (r.nodes ≡ size p) × (r.capacities ≡ capacities_row p)
unfolding rows_of
rows_are p e = (ap (λ (x : Rows). x.nodes) e, ap (λ (x : Rows). x.capacities) e)

module _ (h : Head) (known : plan_number_test h.plan ≡ true) {o : Outcome} (f : o ≡ fresh_outcome h.plan) where
  -- A fresh store of the plan, with the clock.
  abbrev begun : Store
  begun = record o.store { clock = h.clock }

  begun_is : begun ≡ store_of h.plan (loaded h.clock [])
  unfolding fresh_outcome
  begun_is =
      let fresh : o.store ≡ fresh_store h.plan = ap (λ (p : Outcome). p.store) f ∙ rw known in
      ap (λ (y : Store). record y { clock = h.clock }) (fresh ∙ fresh_store_is h.plan) ∙ blank_store h.plan (loaded h.clock []) (λ n. refl)

  -- It holds nothing,
  pub begun_empty : begun ≡ with_nodes begun []
  unfolding store_of
  begun_empty = begun_is ∙ ap (λ (y : Store). with_nodes y []) (sym begun_is)

  -- and its plan's rows have places in it.
  pub rows_placed : {r : Rows} → r ≡ rows_of (plan_numbered h.plan) → (r.nodes ≤ most_nodes) × WithinPlaces r.capacities
  unfolding plan_number_test
  rows_placed {r} g = (omega (arith, (rows_are (plan_numbered h.plan) g).0, rules.nodes_within), rows_fit (plan_numbered h.plan) rules r.capacities (rows_are (plan_numbered h.plan) g).1)
    where
      rules : PlanRules (plan_numbered h.plan)
      rules = let w = both_le 1 h.plan h.plan plans known in table_rules h.plan w.0 w.1

  -- ---- the ways out of loading the nodes

  module _ (s : List ℕ) (at : ℕ) where
    -- The store that the nodes make, by what is read of them.
    abbrev pub nodes_read : Got Store
    nodes_read = bind (read_nodes s (plan_numbered h.plan) at) (λ ns end. got (with_nodes begun ns) end)

    nodes_are : nodes_from s h.plan h.clock at ≡ nodes_read
    unfolding nodes_from store_of
    nodes_are = ap (λ (y : Store). bind (read_nodes s (plan_numbered h.plan) at) (λ ns end. got (with_nodes y ns) end)) (sym begun_is)

    -- A node cannot be read.
    pub nodes_stop : {number place : ℕ} → fault number place ≡ nodes_read → refused_load number place ≡ finished s (nodes_from s h.plan h.clock at)
    nodes_stop n = sym (finish_stops s (nodes_from s h.plan h.clock at) (nodes_are ∙ sym n))

    module _ {z : Store} {end : ℕ} (n : got z end ≡ nodes_read) where
      nodes_give : nodes_from s h.plan h.clock at ≡ got z end
      nodes_give = nodes_are ∙ sym n

      -- Bytes after the image.
      pub nodes_trail : end < length s → refused_load TRAIL end ≡ finished s (nodes_from s h.plan h.clock at)
      nodes_trail t = sym (finish_trails s (nodes_from s h.plan h.clock at) nodes_give t)

      -- A store rule is broken.
      pub nodes_break : length s ≤ end → good_store z ≡ false → refused_load RULE (length s) ≡ finished s (nodes_from s h.plan h.clock at)
      nodes_break t bad = sym (finish_breaks s (nodes_from s h.plan h.clock at) nodes_give t bad)

      -- All rules hold.
      pub nodes_accept : length s ≤ end → good_store z ≡ true → {held : ℕ} → held ≡ copies_held z.counts
          → record { answer = answer DONE held 0 0 0; store = z } ≡ finished s (nodes_from s h.plan h.clock at)
      nodes_accept t good k =
          ap (λ (n : ℕ). record { answer = answer DONE n 0 0 0; store = z }) k ∙ sym (finish_accepts s (nodes_from s h.plan h.clock at) nodes_give t good)

-- ---- the ways of loading an image

module _ (s : List ℕ) where
  -- The head cannot be read.
  pub head_stops : {number at : ℕ} → fault number at ≡ head_at s → refused_load number at ≡ load_outcome s
  unfolding load_outcome
  head_stops e = sym (finish_stops s (image_at s) (image_head s ∙ bind_fault _ _ (sym e)))

  module _ (h : Head) {at : ℕ} (e : got h at ≡ head_at s) where
    -- The head's plan is known,
    pub plan_known : plan_number_test h.plan ≡ true
    plan_known = (head_known s).each h at (sym e)

    -- and the load is that of the nodes after the head.
    pub load_follows : finished s (nodes_from s h.plan h.clock at) ≡ load_outcome s
    unfolding load_outcome
    load_follows = sym (ap (finished s) (image_head s ∙ bind_got _ _ (sym e)))
