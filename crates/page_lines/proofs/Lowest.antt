-- Node numbers rise down a path, so where copies stand on their keys' paths a line's current copy is its copy in the lowest node that
-- has one.
use mathlib.Core.Path.{◌≡◌, refl}
use mathlib.Core.List.{List, [], ◌∷◌}
use mathlib.Core.Option.{Option, none, some}
use Prim.Native.Nat.{ℕ, zero, suc, ◌+◌, ◌<◌, ◌≤◌, suc-le-suc}
use native.Mathlib.Omega.{arith}
use native.Mathlib.Nat.{le_of_suc-le-suc, not-suc-le-zero}
use native.Mathlib.Decide.{dec_lt}
use lib.ListN.{length, get_or}
use Rattle.lists.specs.Indexed.{tabulate}
use Rattle.lists.proofs.RisingKeys.{Rising, rising_from, rising_least, neighbours_rising}
use Rattle.lists.proofs.RisingKeys.Rising.{end, above}
use Rattle.plan.specs.Plan.{Plan, size, path_from, path}
use Rattle.plan.specs.PlanRules.{PlanRules}
use Rattle.plan.proofs.PathLaws.{path_down, path_in_plan}
use Rattle.store.specs.declared.Copy.{Copy}
use Rattle.store.specs.State.{State, line, or_else, first_on, in_reach, current}
use Rattle.store.specs.StateRules.{OnPath}
use Rattle.store.specs.Workers.{itself}

-- A node stands in a list.
abbrev pub Among : ℕ → List ℕ → Type 0
Among m ns = (i : ℕ) × (i < length ns) × (get_or ns i 0 ≡ m)

-- What is not something is none.
absent : {o : Option Copy} → ((x : Copy) → o ≡ some x → ⊥) → o ≡ none
absent {o = none} h = refl
absent {o = some x} h = absurd (h x refl)

-- A line that has copies in nodes of a rising list alone: its first on the list is its first in all nodes, by rising number.
abbrev pub FirstRising : (ℕ → Option Copy) → ℕ → ℕ → List ℕ → Type 0
FirstRising l n from ns =
    Rising itself from ns → ((i : ℕ) → i < length ns → get_or ns i 0 < from + n)
    → ((m : ℕ) (x : Copy) → from ≤ m → l m ≡ some x → Among m ns) → first_on l (tabulate from n itself) ≡ first_on l ns

pub first_rising : (l : ℕ → Option Copy) (n from : ℕ) (ns : List ℕ) → FirstRising l n from ns
unfolding first_on tabulate
first_rising l zero from [] r h among = refl
first_rising l zero from (x ∷ xs) (above g r) h among = absurd (omega (arith, h 0 (omega arith)))
first_rising l (suc n) from [] r h among =
    let e : l from ≡ none = absent (λ x q. absurd (not-suc-le-zero (among from x (omega arith) q).1)) in
    rw e (first_rising l n (suc from) [] end (λ i g. absurd (not-suc-le-zero g)) (λ m x g. among m x (omega arith)))
first_rising l (suc n) from (x ∷ xs) (above g r) h among = go (dec_lt from x) (first_rising l n (suc from))
  where
    later : (m i : ℕ) → x < m → i < suc (length xs) → get_or (x ∷ xs) i 0 ≡ m → Among m xs
    later m zero p a b = absurd (omega arith)
    later m (suc i) p a b = (i, le_of_suc-le-suc a, b)

    go : Dec (from < x) → ((ms : List ℕ) → FirstRising l n (suc from) ms)
        → or_else (l from) (first_on l (tabulate (suc from) n itself)) ≡ or_else (l x) (first_on l xs)
    go (yes q) again =
        let s : Rising itself (suc from) (x ∷ xs) = above q r in
        let e : l from ≡ none =
        absent (λ y f. let w = among from y (omega arith) f in absurd (omega (arith, w.2, rising_least itself s 0 w.0 w.1)))
        in
        rw e (again (x ∷ xs) s (λ i p. omega (arith, h i p)) (λ m y p. among m y (omega arith)))
    go (no q) again =
        let e : x ≡ from = omega arith in
        let rest = again xs (rising_from itself (omega arith) r) (λ i p. omega (arith, h (suc i) (suc-le-suc p)))
        (λ m y p f. let w = among m y (omega arith) f in later m w.0 (omega arith) w.1 w.2)
        in
        rw (e, rest)

-- So of a line's copies, each on its key's path, the current one is the one in the lowest node.
module _ (p : Plan) (rules : PlanRules p) (s : State) (k : ℕ) where
  pub current_lowest : ((n : ℕ) (x : Copy) → line s k n ≡ some x → (above : ℕ) × OnPath p k n above)
      → first_on (line s k) (tabulate 0 (size p) itself) ≡ current p s k
  unfolding in_reach path_from
  current_lowest on =
      first_rising (line s k) (size p) 0 (path p k)
      (neighbours_rising itself 0 (path p k) 0 (λ g. omega arith) (λ i g. path_down p rules k i (suc i) (omega arith) g))
      (λ i g. omega (arith, path_in_plan p rules k i g))
      (λ m x g e. let w = on m x e in (w.0, w.1.inside, w.1.here))
