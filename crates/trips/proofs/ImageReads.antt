-- A whole image: it is read back where it stands, and where one is read, its bytes stand.
use mathlib.Core.Path.{◌≡◌, refl, ap, ◌∙◌, subst}
use mathlib.Core.Bool.{true}
use mathlib.Core.List.{List, [], ◌++◌}
use Prim.Native.Nat.{ℕ, ◌+◌, ◌*◌, ◌<◌, ◌≤◌}
use native.Mathlib.Omega.{arith}
use native.Mathlib.Decide.{dec_lt}
use lib.Dec.{ltb, eqb}
use lib.ListN.{length, get_or, get_or-eq_default}
use borrow.Author.Tests.{lt-ltb, eqb-true}
use Rattle.lists.specs.Stands.{Stands}
use Rattle.lists.proofs.Standing.{stands_join, stands_left, stands_right}
use Rattle.lists.proofs.Truths.{both_le, le_both}
use Rattle.number.specs.Number.{Bytes, form}
use Rattle.plan.specs.Plan.{Plan, size}
use Rattle.plan.specs.PlanRules.{PlanRules}
use Rattle.plan_table.specs.PlanTable.{plan_numbered, plans}
use Rattle.plan_table.proofs.TableLaws.{plans_fit, table_rules}
use Rattle.store.specs.declared.Copy.{Copy}
use Rattle.store.specs.declared.Store.{Store}
use Rattle.store.specs.Answers.{PLAN, FORMAT, RULE}
use Rattle.store.specs.Copies.{no_copy}
use Rattle.store.specs.State.{State, last_clock, node_at, copy_at}
use Rattle.store.specs.Layout.{plan_of, width, copy_of, state_of, store_of}
use Rattle.store.specs.StoreRules.{StoreRules, plan_number_test}
use Rattle.store.proofs.WhichPlan.{plan_numbered_lem, known_rules}
use Rattle.store.proofs.Laying.{length_nodes, state_count, state_copy, state_back, store_back}
use Rattle.wire.specs.Reading.{got}
use Rattle.wire.proofs.Chains.{bind_got, check_holds, Gives, gives_got, gives_check, gives_bind, number_back, number_gives}
use Rattle.copies.proofs.CopyTrips.{Writable, Small}
use Rattle.image_writing.specs.Image.{format_number, nodes_bytes, image_of, image}
use Rattle.image_reading.specs.ImageReading.{loaded, nodes_from, clock_from, plan_from, image_at}
use Rattle.trips.specs.Trips.{Declared, idled}
use Rattle.trips.proofs.ImageParts.{WritableNodes, nodes_back, NodesStand, nodes_gives}

plan_number : {plan : ℕ} → plan_number_test plan ≡ true → (1 ≤ plan) × (plan ≤ plans)
unfolding plan_number_test
plan_number {plan} t = both_le 1 plan plan plans t

-- ---- what is saved is read back

pub image_back : {s : List ℕ} (plan : ℕ) (t : State) {next : ℕ} → (1 ≤ plan) × (plan ≤ plans) → (1 ≤ t.clock) × (t.clock ≤ last_clock)
    → WritableNodes (plan_numbered plan) t.nodes → Stands s 0 (image_of plan t) next → image_at s ≡ got (store_of plan (loaded t.clock t.nodes)) next
unfolding image_of image_at plan_from clock_from nodes_from plan_number_test
image_back plan t p c w h =
    let format = form format_number in
    let number = form plan in
    let clock = form t.clock in
    let nodes = nodes_bytes t.nodes in
    let k = stands_right format (number ++ (clock ++ nodes)) h in
    let j = stands_right number (clock ++ nodes) k in
    bind_got _ _ (number_back (omega arith) (stands_left format (number ++ (clock ++ nodes)) h))
    ∙ bind_got _ _ (number_back (omega (arith, plans_fit)) (stands_left number (clock ++ nodes) k))
    ∙ check_holds (plan_number_test plan) PLAN _ _ (le_both 1 plan plan plans p.0 p.1)
    ∙ bind_got _ _ (number_back c.1 (stands_left clock nodes j))
    ∙ check_holds (ltb 0 t.clock) RULE _ _ (lt-ltb 0 t.clock (omega arith))
    ∙ bind_got _ _ (nodes_back (plan_numbered plan) t.nodes w (stands_right clock nodes j))

-- The nodes of a store that keeps the rules can be written.
module _ (z : Store) (rules : StoreRules z) (declared : Declared z) where
  pub nodes_writable : WritableNodes (plan_of z) (state_of z).nodes
  nodes_writable =
      record {
        lists = length_nodes z;
        room = λ n h. (rules.state_rules.counts_within_capacity n h, (plan.capacity_within n h).1);
        copies = λ n i h g. copies n i h g;
      }
    where
      plan : PlanRules (plan_of z)
      plan = known_rules z rules.plan_known

      copies : (n i : ℕ) → n < size (plan_of z) → i < length (node_at (state_of z) n) → Writable (copy_at (state_of z) n i)
      copies n i h g =
          let c : copy_at (state_of z) n i ≡ copy_of z (width * n + i) = state_copy z n i h (omega (arith, state_count z n h)) in
          record {
            key = rw c (declared.keys_fit (width * n + i));
            kind_and_value = rules.state_rules.kinds_and_values n i g;
            value = rw c (declared.values_fit (width * n + i));
            stamp = omega (arith, (rules.state_rules.stamps_below_the_clock n i g).1, rules.state_rules.clock_within.1);
          }

  -- Where the image of the store stands, the store is read back with all slots idle.
  pub store_read : {s : List ℕ} {next : ℕ} → Stands s 0 (image z) next → image_at s ≡ got (idled z) next
  unfolding idled store_of
  store_read {next = next} h =
      image_back z.plan (state_of z) rules.plan_known rules.state_rules.clock_within
      (subst (λ (p : Plan). WritableNodes p (state_of z).nodes) (plan_numbered_lem z) nodes_writable) h
      ∙ ap (λ (y : Store). got (idled y) next) (store_back z rules)

-- ---- what is read stands there

-- What an image that is read says.
pub record ImageStands (s : List ℕ) (z : Store) (next : ℕ) : Type 0 where
  pub clock : ℕ
  pub nodes : List (List Copy)
  pub is : z ≡ store_of z.plan (loaded clock nodes)
  pub state : state_of z ≡ loaded clock nodes
  pub stands : Stands s 0 (image z) next
  pub small : (n i : ℕ) → Small (get_or (get_or nodes n []) i no_copy)

module _ (s : List ℕ) (plan clock : ℕ) (ns : List (List Copy)) {a b c d : ℕ} (known : (1 ≤ plan) × (plan ≤ plans)) where
  joined : Stands s 0 (form format_number) a → Stands s a (form plan) b → Stands s b (form clock) c → NodesStand s (plan_numbered plan) c ns d
      → ImageStands s (store_of plan (loaded clock ns)) d
  unfolding store_of image_of
  joined f p k n =
      record {
        clock = clock;
        nodes = ns;
        is = refl;
        state = back;
        stands = rw back (stands_join f (stands_join p (stands_join k n.stands)));
        small = n.small;
      }
    where
      rules : PlanRules (plan_numbered plan)
      rules = table_rules plan known.0 known.1

      fits : (m : ℕ) → Dec (m < size (plan_numbered plan)) → length (get_or ns m []) ≤ width
      fits m (yes h) = omega (arith, n.room m, (rules.capacity_within m h).1)
      fits m (no h) = let e : get_or ns m [] ≡ [] = get_or-eq_default ns [] (omega (arith, n.lists)) in rw e (omega arith)

      back : state_of (store_of plan (loaded clock ns)) ≡ loaded clock ns
      back = state_back plan (loaded clock ns) n.lists rules.nodes_within.1 (λ m. fits m (dec_lt m (size (plan_numbered plan))))

module _ (s : List ℕ) (bytes : Bytes s) where
  pub image_gives : Gives (ImageStands s) (image_at s)
  unfolding image_at plan_from clock_from nodes_from
  image_gives =
      gives_bind _ _ (number_gives s bytes 0) λ format a f.
      gives_check (eqb format format_number) FORMAT 0 _ λ one.
      gives_bind _ _ (number_gives s bytes a) λ plan b p.
      gives_check (plan_number_test plan) PLAN a _ λ known.
      gives_bind _ _ (number_gives s bytes b) λ clock c k.
      gives_check (ltb 0 clock) RULE b _ λ above.
      gives_bind _ _ (nodes_gives s bytes (plan_numbered plan) c) λ ns d n.
      gives_got (joined s plan clock ns (plan_number known) (rw (eqb-true format format_number one) at f.stands) p.stands k.stands n)
