-- The walk through two nodes from its start to its end, and the count of the places that an edge holds.
use mathlib.Core.Path.{◌≡◌, refl, sym, ap, ◌∙◌}
use mathlib.Core.Bool.{Bool, true, false, cond}
use mathlib.Core.List.{List, [], append-nil, append_assoc, ◌++◌, ◌∷◌}
use Prim.Native.Nat.{ℕ, ◌+◌, ◌-◌, ◌<◌, ◌≤◌}
use native.Mathlib.Omega.{arith}
use lib.ListN.{length, get_or, length-append}
use Rattle.std.proofs.lemmas.List.{get_or_default}
use Rattle.arrayvec.specs.ArrayVec.{ArrayVec}
use Rattle.lists.specs.Indexed.{tabulate}
use Rattle.lists.proofs.Tabulating.{tabulate_split}
use Rattle.plan.specs.declared.Edge.{Edge}
use Rattle.plan.specs.Plan.{holds}
use Rattle.store.specs.Workers.{Within, number_in, itself}
use Rattle.steps.specs.Carries.{Merged, bit, merge, count_held}
use Rattle.std.specs.Prelude.{count_by}
use Rattle.std.proofs.lemmas.List.Recursion.{is_count_by}
use Rattle.moves.specs.declared.Span.{Span}
use Rattle.merges.specs.declared.Lists.{Lists}
use Rattle.merges.specs.declared.Walk.{Walk}
use Rattle.merges.specs.Decisions.{span, places_in, places_merged, standing, outcome, Going, Ready, Decided}
use Rattle.merges.proofs.Passing.{span-length, span_off}

-- The start of the walk,
module _ (keys : List ℕ) (capacity : ℕ) (e : Edge) (node target : Span) (lists : Lists) (stay-is : lists.stay.items ≡ []) (target-is : lists.target.items ≡ []) where
  pub start_going : Ready keys capacity node target → Going keys capacity lists (record { node = node; own = target })
  start_going r =
      record {
        node_within = r.node_within.0;
        own_within = r.target_within.0;
        stays = omega (arith, r.node_within.1, ap length stay-is);
        fits = omega (arith, r.target_within.1, ap length target-is);
        few = r.few;
        node_rises = r.node_rises;
        own_rises = r.target_rises;
        low = λ i j h. absurd (omega (arith, ap length target-is));
      }

  pub start_outcome : outcome keys capacity e lists (record { node = node; own = target }) ≡ places_merged keys capacity e node target
  unfolding outcome standing
  start_outcome = rw (stay-is, target-is)

-- and its end.
pub decided : {keys : List ℕ} {capacity : ℕ} (e : Edge) {lists : Lists} {w : Walk} → Going keys capacity lists w → w.node.count ≤ 0 → (l : Merged ℕ)
    → outcome keys capacity e lists w ≡ l → (lists' : Lists) → lists'.stay ≡ lists.stay → lists'.target.items ≡ lists.target.items ++ places_in w.own
    → Decided l lists'
unfolding outcome standing merge
decided e {lists} {w} g h l l-is lists' kept gets =
    let stays = ap (λ (v : ArrayVec ℕ). v.items) kept in
    let long = ap length gets ∙ length-append lists.target.items (places_in w.own) in
    let own = span-length w.own.from w.own.count in
    rw (← l-is, span_off w.node.from w.node.count h)
    (record {
      stays = stays ∙ sym (append-nil lists.stay.items);
      gets = gets;
      counted = (omega (arith, ap length stays, g.stays), omega (arith, long, own, g.fits, g.few));
    })

-- The rest of the target's own places: at first none, and one more.
pub begins : (from : ℕ) (was : List ℕ) → was ≡ was ++ span from (from - from)
unfolding tabulate
begins from was = let k : from - from ≡ 0 = omega arith in rw k (sym (append-nil was))

-- (The library's word of this name states another thing.)
pub one_more : (list : List ℕ) (from place : ℕ) (was : List ℕ) → from ≤ place → list ≡ was ++ span from (place - from)
    → list ++ place ∷ [] ≡ was ++ span from (place + 1 - from)
unfolding tabulate
one_more list from place was h e =
    let k : place + 1 - from ≡ (place - from) + 1 = omega arith in
    let l : from + (place - from) ≡ place = omega arith in
    rw (k, e, tabulate_split itself from (place - from) 1, l) (append_assoc was (span from (place - from)) (place ∷ []))

-- How many places have a key that the edge holds: a count over the list.
pub held_count : (keys : List ℕ) (e : Edge) (list : List ℕ)
    → count_held (number_in keys) e list ≡ count_by (λ (place : ℕ). holds e (number_in keys place)) list
unfolding count_held
held_count keys e = is_count_by (count_held (number_in keys) e) (λ (place : ℕ). holds e (number_in keys place)) refl (λ x xs. one (holds e (number_in keys x)) (count_held (number_in keys) e xs))
  where
    one : (b : Bool) (n : ℕ) → bit b + n ≡ cond b (1 + n) n
    one true n = refl
    one false n = omega arith

-- A number at some place of a list whose numbers are below a bound is below it.
pub within_at : (list : List ℕ) (bound : ℕ) → Within list bound → (x k : ℕ) → k < length list → x ≡ get_or list k x → x < bound
within_at list bound w x k h e = omega (arith, e, get_or_default list k x 0 h, w k h)
