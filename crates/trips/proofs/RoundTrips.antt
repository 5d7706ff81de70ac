-- Save and load, there and back. Document 01, "Bytes": "loading a saved store gives it with all slots idle".
use mathlib.Core.Path.{◌≡◌, refl, sym, ap, ◌∙◌}
use mathlib.Core.Bool.{true}
use mathlib.Core.List.{List, [], ◌++◌}
use Prim.Native.Nat.{ℕ, ◌/◌, ◌%◌, ◌<◌, ◌≤◌}
use native.Mathlib.Omega.{arith}
use native.Mathlib.Decide.{dec_lt}
use lib.Dec.{lit≤, ltb, eqb}
use lib.ListN.{length, get_or, take, replicate, length-append, length-replicate}
use Rattle.lists.proofs.Standing.{stands_itself, stands_front, stands_whole, no_elements}
use Rattle.lists.proofs.Tabulating.{get_d_from_start, get_d_tabulate_past}
use Rattle.lists.proofs.Storing.{get_d_same}
use Rattle.number.specs.Number.{Bytes, narrow}
use Rattle.plan.specs.Plan.{Plan}
use Rattle.plan.specs.Sizes.{last_key}
use Rattle.plan_table.specs.PlanTable.{plan_numbered}
use Rattle.plan_table.proofs.TableLaws.{first_plan}
use Rattle.store.specs.declared.Copy.{Copy}
use Rattle.store.specs.declared.Outcome.{Outcome}
use Rattle.store.specs.declared.Slot.{Slot}
use Rattle.store.specs.declared.Store.{Store}
use Rattle.store.specs.Answers.{DONE, PLAN, FORMAT, RULE}
use Rattle.store.specs.Copies.{no_copy}
use Rattle.store.specs.State.{State, slot_count, idle, copy_at, fresh}
use Rattle.store.specs.StateRules.{StateRules}
use Rattle.store.specs.Layout.{plan_of, width, places, state_of, place_of, column, store_of, fresh_store, refused_store}
use Rattle.store.specs.StoreRules.{StoreRules, plan_number_test, good_store}
use Rattle.store.proofs.WhichPlan.{plan_numbered_lem}
use Rattle.store.proofs.Ruling.{good_rules, rules_good}
use Rattle.store.proofs.Lifting.{fresh-node, fresh_good}
use Rattle.wire.specs.Reading.{got, number_at}
use Rattle.wire.proofs.Chains.{Gives, gives_got, gives_check, gives_bind, gives_any}
use Rattle.wire.proofs.Buffers.{done_front}
use Rattle.copies.specs.CopyBytes.{last_value}
use Rattle.copies.proofs.CopyTrips.{Small, small_none}
use Rattle.image_writing.specs.Image.{format_number, image}
use Rattle.image_reading.specs.ImageReading.{read_nodes, loaded, nodes_from, clock_from, plan_from, image_at}
use Rattle.image_loading.specs.Loading.{load_outcome}
use Rattle.image.specs.Promises.{save_buffer}
use Rattle.trips.specs.Trips.{Declared, idled, loaded_as_itself, AllIdle, IdleAndDeclared}
use Rattle.trips.proofs.ImageReads.{store_read, image_gives}
use Rattle.image_loading.proofs.LoadEnds.{finish_accepts}
use Rattle.image_loading.proofs.LoadWays.{LoadWay, stops, trails, breaks, accepts, load_way, load_accepted}

-- ---- all slots idle

-- A state that keeps the rules keeps them with all slots idle.
idle_rules : {p : Plan} {s : State} → StateRules p s → StateRules p (loaded s.clock s.nodes)
idle_rules r =
    record {
      a_list_for_each_node = r.a_list_for_each_node;
      clock_within = r.clock_within;
      counts_within_capacity = r.counts_within_capacity;
      keys_strictly_rise = r.keys_strictly_rise;
      kinds_and_values = r.kinds_and_values;
      copies_on_their_paths = r.copies_on_their_paths;
      stamps_below_the_clock = r.stamps_below_the_clock;
      stamps_all-different = r.stamps_all-different;
      stamps_fall_down_a_path = r.stamps_fall_down_a_path;
      slots_long = length-replicate slot_count idle;
      idle_slots_all-zero = λ i h e. get_d_same slot_count i idle;
      running_searches_on_their_paths = λ i h runs. absurd (runs (ap (λ (q : Slot). q.running) (get_d_same slot_count i idle)));
    }

pub idled_rules : (z : Store) → StoreRules z → StoreRules (idled z)
unfolding idled state_of
idled_rules z r =
    record {
      shape =
          record {
            counts_long = r.shape.counts_long;
            keys_long = r.shape.keys_long;
            kinds_long = r.shape.kinds_long;
            values_long = r.shape.values_long;
            stamps_long = r.shape.stamps_long;
            slots_long = length-replicate slot_count idle;
          };
      plan_known = r.plan_known;
      unused_places-all-zero = r.unused_places-all-zero;
      unused_counts_zero = rw same r.unused_counts_zero;
      state_rules = rw same (idle_rules r.state_rules);
    }
  where
    same : plan_of (idled z) ≡ plan_of z
    same = plan_numbered_lem (idled z) ∙ sym (plan_numbered_lem z)

pub idled_good : (z : Store) → good_store z ≡ true → good_store (idled z) ≡ true
idled_good z good = rules_good (idled z) (idled_rules z (good_rules z good))

-- ---- a saved store

module _ (z : Store) (good : good_store z ≡ true) (declared : Declared z) where
  -- A saved store loads as itself with all slots idle.
  pub saved_loads : load_outcome (image z) ≡ loaded_as_itself z
  unfolding idled load_outcome
  saved_loads =
      finish_accepts (image z) (image_at (image z)) (store_read z (good_rules z good) declared (stands_itself (image z))) (omega arith) (idled_good z good)

  -- So it does from the buffer it was saved into.
  pub buffer_loads : (before : List ℕ) → length (image z) ≤ length before
      → load_outcome (take (length (image z)) (save_buffer z before))
      ≡ loaded_as_itself z
  unfolding save_buffer
  buffer_loads before fits = ap load_outcome (rw good (done_front (image z) before fits)) ∙ saved_loads

-- No image is the beginning of another.
pub images_apart : (y z : Store) → good_store y ≡ true → Declared y → good_store z ≡ true → Declared z → (rest : List ℕ) → image y ++ rest ≡ image z → rest ≡ []
images_apart y z good_y declared_y good-z declared-z rest e =
    let a = store_read y (good_rules y good_y) declared_y (stands_front (image y) rest) in
    let b : image_at (image y ++ rest) ≡ got (idled z) (length (image z)) = rw e (store_read z (good_rules z good-z) declared-z (stands_itself (image z))) in
    let c : length (image y) ≡ length (image z) = cc in
    no_elements rest (omega (arith, length-append (image y) rest, ap length e))

-- ---- an accepted image

module _ (s : List ℕ) (bytes : Bytes s) (done : (load_outcome s).answer.number ≡ DONE) where
  -- An accepted image saves as the same bytes.
  pub loaded_saves : image (load_outcome s).store ≡ s
  loaded_saves =
      let a = load_accepted s done in
      let r = (image_gives s bytes).each a.store a.end a.reads in
      ap (λ (o : Outcome). image o.store) a.gives ∙ stands_whole r.stands a.whole

-- One store has one image: two accepted byte strings that load as one store are equal.
pub one_image : (s t : List ℕ) → Bytes s → (load_outcome s).answer.number ≡ DONE → Bytes t → (load_outcome t).answer.number ≡ DONE
    → (load_outcome s).store ≡ (load_outcome t).store → s ≡ t
one_image s t bytes-s done-s bytes-t done-t e = sym (loaded_saves s bytes-s done-s) ∙ ap image e ∙ loaded_saves t bytes-t done-t

-- ---- a loaded store

-- Every outcome of loading has a good store, a refused one too.
pub load_good : (s : List ℕ) → good_store (load_outcome s).store ≡ true
load_good s = go (load_way s)
  where
    refused : good_store (refused_store) ≡ true
    refused = fresh_good 1 (lit≤ tt) (omega (arith, first_plan))

    go : LoadWay s → good_store (load_outcome s).store ≡ true
    go (stops e r) = rw r refused
    go (trails r) = rw r refused
    go (breaks r) = rw r refused
    go (accepts e h g r) = rw r g

-- A store is declared if its copies' keys and values have 32 bits.
column_small : (part : Copy → ℕ) (ns : List (List Copy)) (most : ℕ) → ((n i : ℕ) → part (get_or (get_or ns n []) i no_copy) ≤ most)
    → (i : ℕ) → get_or (column part ns) i 0 ≤ most
unfolding column
column_small part ns most small i = go (dec_lt i places)
  where
    go : Dec (i < places) → get_or (column part ns) i 0 ≤ most
    go (yes h) = rw (get_d_from_start (λ j. part (place_of ns j)) places i 0 h) (small (i / width) (i % width))
    go (no h) = rw (get_d_tabulate_past (λ j. part (place_of ns j)) 0 places i 0 (omega arith)) (omega arith)

pub stored_declared : (plan : ℕ) (t : State) → ((n i : ℕ) → Small (copy_at t n i)) → Declared (store_of plan t)
unfolding store_of
stored_declared plan t small =
    record {
      keys_fit = column_small (λ (x : Copy). x.key) t.nodes last_key (λ n i. (small n i).key);
      values_fit = column_small (λ (x : Copy). x.value) t.nodes last_value (λ n i. (small n i).value);
    }

fresh_small : (p : Plan) (n i : ℕ) → Small (copy_at (fresh p) n i)
fresh_small p n i = rw (fresh-node p n) small_none

-- Every fresh store is declared, with all slots idle;
pub fresh-idle : (plan : ℕ) → IdleAndDeclared (fresh_store plan)
unfolding fresh_store fresh store_of
fresh-idle plan = record { all-idle = refl; declared = stored_declared plan (fresh (plan_numbered plan)) (fresh_small (plan_numbered plan)) }

loaded-idle : (plan clock : ℕ) (ns : List (List Copy)) → ((n i : ℕ) → Small (get_or (get_or ns n []) i no_copy))
    → IdleAndDeclared (store_of plan (loaded clock ns))
unfolding store_of
loaded-idle plan clock ns small = record { all-idle = refl; declared = stored_declared plan (loaded clock ns) small }

-- so is that of every outcome of loading.
pub load_idle : (s : List ℕ) → Bytes s → IdleAndDeclared (load_outcome s).store
load_idle s bytes = go (load_way s)
  where
    go : LoadWay s → IdleAndDeclared (load_outcome s).store
    go (stops e r) = rw r (fresh-idle 1)
    go (trails r) = rw r (fresh-idle 1)
    go (breaks r) = rw r (fresh-idle 1)
    go (accepts {z} {end} e h g r) =
        let i = (image_gives s bytes).each z end e in
        rw (r, i.is) (loaded-idle z.plan i.clock i.nodes i.small)

-- All its slots are idle whatever the numbers of the list are.
reads_idle : (s : List ℕ) → Gives (λ (z : Store) (end : ℕ). z.slots ≡ replicate slot_count idle) (image_at s)
unfolding image_at plan_from clock_from nodes_from store_of
reads_idle s =
    gives_bind _ _ (gives_any (number_at narrow s 0)) λ format a u.
    gives_check (eqb format format_number) FORMAT 0 _ λ one.
    gives_bind _ _ (gives_any (number_at narrow s a)) λ plan b v.
    gives_check (plan_number_test plan) PLAN a _ λ known.
    gives_bind _ _ (gives_any (number_at narrow s b)) λ clock c w.
    gives_check (ltb 0 clock) RULE b _ λ above.
    gives_bind _ _ (gives_any (read_nodes s (plan_numbered plan) c)) λ ns d x.
    gives_got refl

pub load_all-idle : (s : List ℕ) → AllIdle (load_outcome s).store
load_all-idle s = go (load_way s)
  where
    go : LoadWay s → AllIdle (load_outcome s).store
    go (stops e r) = rw r (fresh-idle 1).all-idle
    go (trails r) = rw r (fresh-idle 1).all-idle
    go (breaks r) = rw r (fresh-idle 1).all-idle
    go (accepts {z} {end} e h g r) = rw r ((reads_idle s).each z end e)
