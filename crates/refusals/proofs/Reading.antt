-- Reading from the left: "the first fault wins". A chain stops where its first part stops, or where the rest does after it; and a number
-- is CUT or NUMBER exactly where document 01 says.
use mathlib.Core.Path.{◌≡◌, refl, ap, ◌∙◌}
use mathlib.Core.Bool.{true}
use mathlib.Core.List.{List, [], ◌∷◌}
use mathlib.Core.Logic.{◌↔◌, ◌⊎◌, inl, inr, ⊎_elim}
use Prim.Native.Nat.{ℕ, ◌<◌}
use native.Mathlib.Decide.{dec_lt}
use native.Mathlib.Omega.{arith}
use lib.ListN.{length}
use Rattle.number.specs.Number.{Reading, Value, Cut, Malformed, narrow, read_at, EndsEarly, EndsInZero, EndsAbove}
use Rattle.number.proofs.Ways.{read_cut}
use Rattle.number.proofs.Refusals.{cut_when, malformed_when}
use Rattle.store.specs.Answers.{CUT, NUMBER}
use Rattle.store.specs.Copies.{member}
use Rattle.wire.specs.Reading.{Got, got, fault, bind, numbered, number_at}
use Rattle.wire.proofs.Chains.{got_or_fault, Faults, faults_number}

-- Two faults that are one.
pub same_fault : {A : Type 0} {n m at by : ℕ} → ◌≡◌ {A = Got A} (fault n at) (fault m by) → (n ≡ m) × (at ≡ by)
same_fault e = (cc, cc)

-- A fault is the same, whatever was to be read.
fault_of : {A B : Type 0} {n m at by : ℕ} → ◌≡◌ {A = Got A} (fault n at) (fault m by) → ◌≡◌ {A = Got B} (fault n at) (fault m by)
fault_of e = let w = same_fault e in λ t. fault (w.0 t) (w.1 t)

-- The rest stops after the first part was read.
pub record After {A B : Type 0} (m : Got A) (f : A → ℕ → Got B) (number at : ℕ) : Type 0 where
  pub value : A
  pub next : ℕ
  pub first : m ≡ got value next
  pub then : f value next ≡ fault number at

-- "The first fault wins."
pub first_fault : {A B : Type 0} (m : Got A) (f : A → ℕ → Got B) {number at : ℕ}
    → (bind m f ≡ fault number at) ↔ ((m ≡ fault number at) ⊎ After m f number at)
unfolding bind
first_fault {A} {B} (got x next) f {number} {at} = (λ e. inr (record { value = x; next = next; first = refl; then = e }), ⊎_elim never later)
  where
    never : got x next ≡ fault number at → f x next ≡ fault number at
    never e = absurd (got_or_fault refl e)

    later : After (got x next) f number at → f x next ≡ fault number at
    later h = ap (λ (g : Got A). bind g f) h.first ∙ h.then
first_fault {A} {B} (fault n a) f {number} {at} = (λ e. inl (fault_of e), ⊎_elim fault_of never)
  where
    never : After (fault n a) f number at → ◌≡◌ {A = Got B} (fault n a) (fault number at)
    never h = absurd (got_or_fault h.first refl)

-- ---- a number

-- A number's faults are CUT and NUMBER.
abbrev pub number_faults : List ℕ
number_faults = CUT ∷ NUMBER ∷ []

pub number_faults_lem : (s : List ℕ) (at : ℕ) → Faults (λ n. member n number_faults ≡ true) (number_at narrow s at)
unfolding member
number_faults_lem s at = faults_number narrow s at refl refl

-- They are given at the number's own offset.
pub number_fault_at : (s : List ℕ) (at : ℕ) {n by : ℕ} → number_at narrow s at ≡ fault n by → at ≡ by
unfolding number_at numbered
number_fault_at s at {n} {by} = go (read_at narrow s at)
  where
    go : (r : Reading) → numbered at r ≡ fault n by → at ≡ by
    go (Value v next) e = absurd (got_or_fault refl e)
    go Cut e = (same_fault e).1
    go Malformed e = (same_fault e).1

-- A number that is read begins before the bytes end.
pub number_inside : (s : List ℕ) (at : ℕ) {v next : ℕ} → number_at narrow s at ≡ got v next → at < length s
unfolding number_at numbered read_at
number_inside s at {v} {next} e = go (dec_lt at (length s))
  where
    go : Dec (at < length s) → at < length s
    go (yes h) = h
    go (no h) = absurd (got_or_fault e (ap (numbered at) (read_cut s narrow.last true at narrow.more (omega arith))))

-- "CUT is given only if the bytes end after none to four, all with the top bit set."
pub number_cut : (s : List ℕ) (at : ℕ) → (number_at narrow s at ≡ fault CUT at) ↔ EndsEarly narrow.more s at
unfolding number_at numbered
number_cut s at = (λ e. (cut_when narrow s at).0 (go (read_at narrow s at) e), λ h. ap (numbered at) ((cut_when narrow s at).1 h))
  where
    go : (r : Reading) → numbered at r ≡ fault CUT at → r ≡ Cut
    go (Value v next) e = absurd (got_or_fault refl e)
    go Cut e = refl
    go Malformed e = absurd (let z : ◌≡◌ {A = ℕ} NUMBER CUT = (same_fault e).0 in omega arith)

-- "a fifth above 0F, or a last byte 00 after others, is NUMBER"
pub number_malformed : (s : List ℕ) (at : ℕ)
    → (number_at narrow s at ≡ fault NUMBER at) ↔ (EndsInZero narrow.more s at ⊎ EndsAbove narrow.last narrow.more s at)
unfolding number_at numbered
number_malformed s at = (λ e. (malformed_when narrow s at).0 (go (read_at narrow s at) e), λ h. ap (numbered at) ((malformed_when narrow s at).1 h))
  where
    go : (r : Reading) → numbered at r ≡ fault NUMBER at → r ≡ Malformed
    go (Value v next) e = absurd (got_or_fault refl e)
    go Cut e = absurd (let z : ◌≡◌ {A = ℕ} CUT NUMBER = (same_fault e).0 in omega arith)
    go Malformed e = refl
