-- The test of a slot, way out by way out: it is the idle slot, a search runs in it, or neither; and of all slots.
use mathlib.Core.Path.{◌≡◌, refl, ◌∙◌}
use mathlib.Core.Bool.{Bool, true, false, cond, ◌&&◌}
use mathlib.Core.List.{List}
use lib.Dec.{eqb}
use lib.ListN.{length}
use borrow.Author.Tests.{eqb-true, eq-eqb}
use Rattle.std.specs.List.{list_all}
use Rattle.lists.proofs.Ranges.{elements_all}
use Rattle.plan.specs.Plan.{Plan, path}
use Rattle.store.specs.declared.Slot.{Slot}
use Rattle.store.specs.State.{idle_mark, running_mark, idle, slot_count}
use Rattle.store.specs.StoreRules.{stands_at, slot_test}
use Rattle.rules_paths.specs.Workers.{slots_test}

module _ (p : Plan) (q : Slot) where
  -- It is all zero.
  abbrev pub all_idle : Bool
  all_idle = eqb q.running idle_mark && (eqb q.key 0 && (eqb q.node 0 && eqb q.visits 0))

  pub slot_idle : all_idle ≡ true → slot_test p q ≡ true
  unfolding slot_test
  slot_idle t = go (eqb q.running idle_mark) (eqb q.key 0) (eqb q.node 0) (eqb q.visits 0) t
    where
      go : (r k n v : Bool) → (r && (k && (n && v))) ≡ true → cond r (k && n && v) (eqb q.running running_mark && stands_at q.node (path p q.key) q.visits) ≡ true
      go true true true true e = refl
      go true true true false e = e
      go true true false v e = e
      go true false n v e = e
      go false k n v e = cc

  pub slot_runs : eqb q.running running_mark ≡ true → slot_test p q ≡ stands_at q.node (path p q.key) q.visits
  unfolding slot_test
  slot_runs t = rw (eqb-true q.running running_mark t)

  pub slot_strange : all_idle ≡ false → eqb q.running running_mark ≡ false → slot_test p q ≡ false
  unfolding slot_test
  slot_strange f g = rw g (go (eqb q.running idle_mark) (eqb q.key 0) (eqb q.node 0) (eqb q.visits 0) f)
    where
      go : (r k n v : Bool) → (r && (k && (n && v))) ≡ false → cond r (k && n && v) false ≡ false
      go false k n v e = refl
      go true false n v e = refl
      go true true false v e = refl
      go true true true v e = e

pub slots_all : (p : Plan) (slots : List Slot) → length slots ≡ slot_count → list_all (slot_test p) slots ≡ slots_test p slots
slots_all p slots long = elements_all (slot_test p) slots slot_count idle long ∙ rw (eq-eqb (length slots) slot_count long)
