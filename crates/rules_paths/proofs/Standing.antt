-- The place of a node in a path: it has one exactly if it stands in the path, and it is how many nodes stand above it.
use mathlib.Core.Path.{◌≡◌, refl, sym, ap, ◌∙◌}
use mathlib.Core.Bool.{Bool, true, false, cond, ◌||◌}
use mathlib.Core.Logic.{⊎_elim}
use mathlib.Core.List.{List, [], ◌∷◌}
use Prim.Native.Nat.{ℕ, zero, suc, ◌+◌, ◌<◌}
use native.Mathlib.Omega.{arith}
use native.Mathlib.Nat.{zero-add}
use lib.Dec.{eqb}
use lib.ListN.{length, get_or}
use borrow.Author.Tests.{eqb-true, eq-eqb, ne_eqb}
use Rattle.std.specs.Prelude.{Option, Some, is_some}
use Rattle.std.specs.Option.{option_eq}
use Rattle.lists.proofs.Truths.{bool?}
use Rattle.plan.specs.Plan.{Plan, path}
use Rattle.plan.specs.PlanRules.{PlanRules}
use Rattle.plan.proofs.PathLaws.{path_down}
use Rattle.store.specs.Copies.{member}
use Rattle.store.specs.StoreRules.{stands_at}
use Rattle.rules_paths.specs.Workers.{place_from, nodes_above}

placed : (over n : ℕ) (ms : List ℕ) → is_some (place_from over n ms) ≡ member n ms
unfolding place_from member
placed over n [] = refl
placed over n (m ∷ ms) = go (eqb n m) (placed (suc over) n ms)
  where
    go : (b : Bool) → is_some (place_from (suc over) n ms) ≡ member n ms
        → is_some (cond b (Some over) (place_from (suc over) n ms)) ≡ (b || member n ms)
    go true e = refl
    go false e = e

-- Counted from a number on, no place is below it.
none_below : (over n at : ℕ) (ms : List ℕ) → at < over → option_eq eqb (place_from over n ms) (Some at) ≡ false
unfolding place_from
none_below over n at [] h = refl
none_below over n at (m ∷ ms) h = go (eqb n m) (none_below (suc over) n at ms (omega arith))
  where
    go : (b : Bool) → option_eq eqb (place_from (suc over) n ms) (Some at) ≡ false
        → option_eq eqb (cond b (Some over) (place_from (suc over) n ms)) (Some at) ≡ false
    go true e = ne_eqb over at (λ q. omega arith)
    go false e = e

-- A node does not stand among larger ones.
-- (The library's word of this name states another thing.)
not_there : (n : ℕ) (ms : List ℕ) (above : ℕ) → ((i : ℕ) → i < length ms → n < get_or ms i 0) → stands_at n ms above ≡ false
unfolding stands_at
not_there n [] above h = refl
not_there n (m ∷ ms) zero h = let l : n < m = h 0 (omega arith) in ne_eqb n m (λ e. omega arith)
not_there n (m ∷ ms) (suc above) h = not_there n ms above (λ i g. h (suc i) (omega arith))

-- Where the nodes rise, a node stands at one place at most.
stands : (over n : ℕ) (ms : List ℕ) (above : ℕ) → ((i j : ℕ) → i < j → j < length ms → get_or ms i 0 < get_or ms j 0)
    → option_eq eqb (place_from over n ms) (Some (over + above)) ≡ stands_at n ms above
unfolding place_from stands_at
stands over n [] above r = refl
stands over n (m ∷ ms) zero r =
    ⊎_elim (λ (t : eqb n m ≡ true). rw t (eq-eqb over (over + zero) (omega arith)))
    (λ (f : eqb n m ≡ false). rw f (none_below (suc over) n (over + zero) ms (omega arith)))
    (bool? (eqb n m))
stands over n (m ∷ ms) (suc above) r =
    ⊎_elim (λ (t : eqb n m ≡ true).
    let e : n ≡ m = eqb-true n m t in
    rw t
    (ne_eqb over (over + suc above) (λ q. omega arith)
    ∙ sym (not_there n ms above (λ i g. let l : m < get_or ms i 0 = r 0 (suc i) (omega arith) (omega arith) in omega arith))))
    (λ (f : eqb n m ≡ false).
    let e : over + suc above ≡ suc over + above = omega arith in
    rw (f, e) (stands (suc over) n ms above (λ i j h g. r (suc i) (suc j) (omega arith) (omega arith))))
    (bool? (eqb n m))

-- On a key's path.
module _ (p : Plan) (k n : ℕ) where
  pub above_member : (o : Option ℕ) (b : Bool) → o ≡ nodes_above n (path p k) → b ≡ is_some o → b ≡ member n (path p k)
  above_member o b e f = f ∙ ap is_some e ∙ placed 0 n (path p k)

  pub above_stands : PlanRules p → (above : ℕ) → option_eq eqb (nodes_above n (path p k)) (Some above) ≡ stands_at n (path p k) above
  above_stands rules above = rw zero-add at (stands 0 n (path p k) above (path_down p rules k))
