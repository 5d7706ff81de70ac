-- A search by halves in the places from .. end of a column, and what a look there finds.
use mathlib.Core.Path.{◌≡◌, refl, sym, ap, ◌∙◌}
use mathlib.Core.List.{List}
use mathlib.Core.Option.{Option, none, some}
use Prim.Native.Nat.{ℕ, ◌+◌, ◌-◌, ◌<◌, ◌≤◌}
use native.Mathlib.Omega.{arith}
use Rattle.lists.specs.Indexed.{tabulate}
use Rattle.lists.proofs.Tabulating.{map-tabulate}
use Rattle.store.specs.declared.Copy.{Copy}
use Rattle.std.specs.Prelude.{Some, None}
use Rattle.store.specs.Copies.{no_copy, key_of, find, found_of}
use Rattle.store.specs.Layout.{copy_in}
use Rattle.store.specs.Workers.{number_in, itself, below, place_in, Rises, RisesIn}
use Rattle.store.proofs.Seeking.{below_keys, rises_tabulated, place_within, place_up, place_down, place_hit, place_none}

-- The place of a key among the copies is its place among their keys.
pub place_of-copy : (keys kinds values stamps : List ℕ) (from n k : ℕ)
    → below itself (tabulate from n (number_in keys)) k ≡ below key_of (tabulate from n (copy_in keys kinds values stamps)) k
place_of-copy keys kinds values stamps from n k =
    ap (λ (ks : List ℕ). below itself ks k) (sym (map-tabulate key_of (copy_in keys kinds values stamps) from n))
    ∙ sym (below_keys key_of (tabulate from n (copy_in keys kinds values stamps)) k)

module _ (keys : List ℕ) (from end : ℕ) (o : from ≤ end) where
  pub place_bounds : (k : ℕ) → (from ≤ place_in keys from end k) × (place_in keys from end k ≤ end)
  place_bounds k =
      let w = place_within itself 0 (number_in keys) from (end - from) k (place_in keys from end k) refl in
      (w.0, omega arith)

  -- The place of k is no later than a key that is not below k,
  pub half_down : (k m : ℕ) → from ≤ m → m < end → k ≤ number_in keys m → place_in keys from end k ≤ m
  half_down k m p q h = place_up itself 0 (number_in keys) from (end - from) k (place_in keys from end k) refl m p (omega arith) h

  module _ (r : RisesIn keys from end) where
    -- and later than a key below k.
    pub half_up : (k m : ℕ) → from ≤ m → m < end → number_in keys m < k → m < place_in keys from end k
    half_up k m p q h =
        place_down itself 0 (number_in keys) from (end - from) k (place_in keys from end k) refl
        (rises_tabulated itself 0 (number_in keys) from (end - from) (λ i a b. r i a (omega arith)))
        m p (omega arith) h

    module _ (kinds values stamps : List ℕ) where
      pub copies_rise : Rises key_of no_copy (tabulate from (end - from) (copy_in keys kinds values stamps))
      copies_rise = rises_tabulated key_of no_copy (copy_in keys kinds values stamps) from (end - from) (λ i a b. r i a (omega arith))

      -- The copy at a place with the key is found,
      pub found_at : (k at : ℕ) → from ≤ at → at < end → number_in keys at ≡ k
          → find key_of (tabulate from (end - from) (copy_in keys kinds values stamps)) k ≡ some (copy_in keys kinds values stamps at)
      found_at k at p q e = place_hit key_of no_copy (copy_in keys kinds values stamps) from (end - from) copies_rise k at p (omega arith) e

      -- and nothing if the place of the key is not its.
      pub none_at : (k at : ℕ) → at ≡ place_in keys from end k → (at < end → number_in keys at ≡ k → ⊥)
          → find key_of (tabulate from (end - from) (copy_in keys kinds values stamps)) k ≡ none
      none_at k at e h =
          place_none key_of no_copy (copy_in keys kinds values stamps) from (end - from) k at
          (e ∙ ap (λ (n : ℕ). from + n) (place_of-copy keys kinds values stamps from (end - from) k))
          copies_rise (λ p. h (omega arith))

      -- A look that ends with no place left found nothing.
      pub look_nothing : (k at : ℕ) → at ≡ place_in keys from end k → (at < end → k < number_in keys at)
          → None ≡ found_of (find key_of (tabulate from (end - from) (copy_in keys kinds values stamps)) k)
      look_nothing k at e h = ap found_of (sym (none_at k at e (λ p q. let a = h p in omega arith)))

-- What an answer says that was found.
pub found_none : {o : Option Copy} → found_of o ≡ None → o ≡ none
found_none {o = none} e = refl
found_none {o = some x} e = cc

pub found_some : {o : Option Copy} {x : Copy} → found_of o ≡ Some x → o ≡ some x
found_some {o = none} e = cc
found_some {o = some y} e = cc
