-- The lowest idle slot, as `position` and `ok_or` give it.
use mathlib.Core.Path.{◌≡◌, refl}
use mathlib.Core.Bool.{Bool, true, false, not, cond}
use mathlib.Core.List.{List, [], ◌∷◌}
use Prim.Native.Nat.{ℕ, suc, ◌+◌, ◌<◌, ◌≤◌}
use native.Mathlib.Omega.{arith}
use lib.Dec.{ltb, eqb}
use lib.ListN.{length}
use borrow.Author.Tests.{ltb-true, ltb-false}
use Rattle.std.specs.Prelude.{Err, Some, None, position, MatchOption, ok_or}
use Rattle.std.specs.declared.option.Option.{Option}
use Rattle.std.specs.List.{position_or_len}
use Rattle.store.specs.declared.Slot.{Slot}
use Rattle.store.specs.declared.refusal.Refusal.{Refusal}
use Rattle.store.specs.State.{slot_count, idle_mark}
use Rattle.steps.specs.Searches.{lowest_idle}

-- It is the first slot of which the test holds,
turn : (b : Bool) (n : ℕ) → cond (not b) (1 + n) 0 ≡ cond b 0 (suc n)
turn true n = refl
turn false n = omega arith

first_idle : (qs : List Slot) → position_or_len (λ (q : Slot). eqb q.running idle_mark) qs ≡ lowest_idle qs
unfolding lowest_idle
first_idle [] = refl
first_idle (q ∷ qs) = rw (first_idle qs) (turn (eqb q.running idle_mark) (lowest_idle qs))

-- so `position` finds it, or nothing where all run.
idle_at : (qs : List Slot) → length qs ≡ slot_count → (b : Bool) → ltb (lowest_idle qs) (length qs) ≡ b
    → MatchOption (cond b (Some (lowest_idle qs)) None) (slot_count ≤ lowest_idle qs) (λ i. (i ≡ lowest_idle qs) × (i < slot_count))
idle_at qs long true e = (refl, omega (arith, ltb-true (lowest_idle qs) (length qs) e))
idle_at qs long false e = omega (arith, ltb-false (lowest_idle qs) (length qs) e)

pub idle_found : (qs : List Slot) (r : Option ℕ) → length qs ≡ slot_count → r ≡ position (λ (q : Slot). eqb q.running idle_mark) qs
    → MatchOption r (slot_count ≤ lowest_idle qs) (λ i. (i ≡ lowest_idle qs) × (i < slot_count))
idle_found qs r long e = rw (e, first_idle qs) (idle_at qs long (ltb (lowest_idle qs) (length qs)) refl)

-- Where `ok_or` gives its error, nothing was found.
pub none_left : {A : Type 0} (B : ℕ → Type 0) (o : Option ℕ) {why given : Refusal} → Err why ≡ ok_or o given → MatchOption o A B
    → (why ≡ given) × A
none_left B None e m = (cc, m)
none_left B (Some x) e m = absurd cc
