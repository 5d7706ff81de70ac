-- Why save gives what it promises: one law for each way out.
use mathlib.Core.Path.{◌≡◌, sym, ap, ◌∙◌}
use mathlib.Core.Bool.{true, false}
use mathlib.Core.List.{List}
use Prim.Native.Nat.{ℕ, ◌<◌, ◌≤◌}
use native.Mathlib.Omega.{arith}
use lib.ListN.{length}
use Rattle.lists.specs.Stands.{Wrote}
use Rattle.plan.specs.Sizes.{most_nodes}
use Rattle.plan.specs.Plan.{Plan, size}
use Rattle.plan.specs.declared.rows.Rows.{Rows}
use Rattle.plan.specs.PlanArrays.{rows_of}
use Rattle.plan_table.specs.PlanTable.{plan_numbered}
use Rattle.store.specs.declared.Answer.{Answer}
use Rattle.store.specs.declared.Store.{Store}
use Rattle.store.specs.Answers.{DONE, BADSTORE, SMALL, answer, bare}
use Rattle.store.specs.Layout.{plan_of, state_of}
use Rattle.store.specs.StoreRules.{good_store}
use Rattle.store.proofs.WhichPlan.{plan_numbered_lem}
use Rattle.store.proofs.Lifting.{plan_good}
use Rattle.wire.proofs.Buffers.{small_answer, small_buffer, done-answer, done_wrote, wrote_end}
use Rattle.image_writing.specs.Image.{image_of, image, image_by}
use Rattle.image.specs.Promises.{save_answer, save_buffer, Saves}

-- A bad store.
pub save_bad : (z : Store) (before : List ℕ) {r : Answer} → good_store z ≡ false → r ≡ bare BADSTORE → Saves z before r before
unfolding save_answer save_buffer
save_bad z before bad e = (rw bad e, rw bad)

-- As many nodes as its plan has, by the rows taken by its number.
nodes_of : (z : Store) {r : Rows} → r ≡ rows_of (plan_numbered z.plan) → r.nodes ≡ size (plan_of z)
unfolding rows_of
nodes_of z e = ap (λ (s : Rows). s.nodes) e ∙ ap (λ (p : Plan). size p) (sym (plan_numbered_lem z))

image_by_lem : (z : Store) {r : Rows} → r ≡ rows_of (plan_numbered z.plan) → image_by r.nodes z ≡ image z
unfolding image_of state_of
image_by_lem z e = rw (nodes_of z e)

module _ (z : Store) (good : good_store z ≡ true) {r : Rows} (e : r ≡ rows_of (plan_numbered z.plan)) where
  -- What a good store gives the length and the writing of its image: its plan's nodes are no more than a store has.
  pub good_nodes : r.nodes ≤ most_nodes
  good_nodes = omega (arith, nodes_of z e, (plan_good z good).nodes_within.1)

  module _ (before : List ℕ) {needed : ℕ} (n : needed ≡ length (image_by r.nodes z)) where
    long : needed ≡ length (image z)
    long = n ∙ ap length (image_by_lem z e)

    -- The buffer is too short.
    pub save_small : {a : Answer} → length before < needed → a ≡ answer SMALL needed 0 0 0 → Saves z before a before
    unfolding save_answer save_buffer
    save_small h p = (
      rw good (p ∙ ap (λ (k : ℕ). answer SMALL k 0 0 0) long ∙ sym (small_answer (image z) before (omega (arith, long)))),
      rw good (sym (small_buffer (image z) before (omega (arith, long)))),
    )

    -- The image is written.
    pub save_done : {a : Answer} {written : ℕ} {after : List ℕ} → needed ≤ length before → Wrote before 0 (image_by r.nodes z) written after
        → a ≡ answer DONE written 0 0 0 → Saves z before a after
    unfolding save_answer save_buffer
    save_done {written = written} {after} h w p =
        let v : Wrote before 0 (image z) written after = rw (image_by_lem z e) at w in (
          rw good (p ∙ ap (λ (k : ℕ). answer DONE k 0 0 0) (wrote_end v) ∙ sym (done-answer (image z) before (omega (arith, long)))),
          rw good (done_wrote (image z) before (omega (arith, long)) v),
        )
