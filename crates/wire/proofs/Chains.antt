-- Readings one after another: where a chain succeeds or stops, and what a number that is read says of the bytes.
use mathlib.Core.Path.{◌≡◌, refl, ap, subst}
use mathlib.Core.Bool.{Bool, true, false, cond}
use mathlib.Core.List.{List}
use Prim.Native.Nat.{ℕ, ◌≤◌}
use native.Mathlib.Omega.{arith}
use Rattle.lists.specs.Stands.{Stands}
use Rattle.number.specs.Number.{Reading, Value, Cut, Malformed, Bytes, NumberSize, narrow, form, read_at}
use Rattle.number.proofs.Readings.{read_back, read_stands, read_small}
use Rattle.store.specs.Answers.{CUT, NUMBER}
use Rattle.wire.specs.Reading.{Got, got, fault, bind, numbered, number_at}

-- ---- chains

-- A reading succeeds or stops, and never both.
pub got_or_fault : {A : Type 0} {m : Got A} {x : A} {next number at : ℕ} → m ≡ got x next → m ≡ fault number at → ⊥
got_or_fault p q = let z : ◌≡◌ {A = ℕ} 0 1 = cc in omega arith

-- What a chain that succeeds says: its first part did, and so did the rest after it.
pub record Bound {A B : Type 0} (m : Got A) (f : A → ℕ → Got B) (y : B) (end : ℕ) : Type 0 where
  pub value : A
  pub mid : ℕ
  pub first : m ≡ got value mid
  pub then : f value mid ≡ got y end

module _ {A B : Type 0} (m : Got A) (f : A → ℕ → Got B) where
  pub bind_got : {x : A} {next : ℕ} → m ≡ got x next → bind m f ≡ f x next
  unfolding bind
  bind_got e = ap (λ (g : Got A). bind g f) e

  pub bind_fault : {number at : ℕ} → m ≡ fault number at → bind m f ≡ fault number at
  unfolding bind
  bind_fault e = ap (λ (g : Got A). bind g f) e

pub bound : {A B : Type 0} (m : Got A) (f : A → ℕ → Got B) {y : B} {end : ℕ} → bind m f ≡ got y end → Bound m f y end
unfolding bind
bound (got x next) f e = record { value = x; mid = next; first = refl; then = e }
bound (fault number at) f e = absurd (got_or_fault e refl)

-- A check between two readings.
module _ {A : Type 0} (test : Bool) (number at : ℕ) (rest : Got A) where
  pub check_holds : test ≡ true → cond test rest (fault number at) ≡ rest
  check_holds t = ap (λ (b : Bool). cond b rest (fault number at)) t

  pub check_fails : test ≡ false → cond test rest (fault number at) ≡ fault number at
  check_fails t = ap (λ (b : Bool). cond b rest (fault number at)) t

-- A chain that succeeds passed its check.
pub passed : {A : Type 0} (test : Bool) (number at : ℕ) (rest : Got A) {x : A} {end : ℕ} → cond test rest (fault number at) ≡ got x end
    → (test ≡ true) × (rest ≡ got x end)
passed true number at rest e = (refl, e)
passed false number at rest e = absurd (got_or_fault e refl)

-- ---- what a chain gives

-- Whatever the reading gives, and the offset after it, have this property.
pub record Gives {A : Type 0} (R : A → ℕ → Type 0) (m : Got A) : Type 0 where
  pub each : (x : A) (next : ℕ) → m ≡ got x next → R x next

module _ {A : Type 0} {R : A → ℕ → Type 0} where
  pub gives_got : {x : A} {next : ℕ} → R x next → Gives R (got x next)
  gives_got {x} {next} r = record { each = λ y end e. subst (λ (g : Got A). Given g) e r }
    where
      Given : Got A → Type 0
      Given (got y end) = R y end
      Given (fault number at) = Unit

  pub gives_check : (test : Bool) (number at : ℕ) (rest : Got A) → (test ≡ true → Gives R rest) → Gives R (cond test rest (fault number at))
  gives_check test number at rest h = record { each = λ x next e. let p = passed test number at rest e in (h p.0).each x next p.1 }

  pub gives_fault : (number at : ℕ) → Gives R (fault number at)
  gives_fault number at = record { each = λ x next e. absurd (got_or_fault e refl) }

  pub gives_cond : (test : Bool) (m k : Got A) → (test ≡ true → Gives R m) → (test ≡ false → Gives R k) → Gives R (cond test m k)
  gives_cond true m k h g = h refl
  gives_cond false m k h g = g refl

-- Two properties at once.
pub gives_both : {A : Type 0} {R S : A → ℕ → Type 0} {m : Got A} → Gives R m → Gives S m → Gives (λ x next. R x next × S x next) m
gives_both h k = record { each = λ x next e. (h.each x next e, k.each x next e) }

pub gives_any : {A : Type 0} (m : Got A) → Gives (λ x next. Unit {0}) m
gives_any m = record { each = λ x next e. tt }

pub gives_bind : {A B : Type 0} {R : A → ℕ → Type 0} {S : B → ℕ → Type 0} (m : Got A) (f : A → ℕ → Got B) → Gives R m
    → ((x : A) (next : ℕ) → R x next → Gives S (f x next)) → Gives S (bind m f)
gives_bind m f h k =
    record { each = λ y end e. let b = bound m f e in (k b.value b.mid (h.each b.value b.mid b.first)).each y end b.then }

-- ---- the faults of a chain

-- Every fault of the reading has a number with this property.
pub record Faults {A : Type 0} (P : ℕ → Type 0) (m : Got A) : Type 0 where
  pub each : (number at : ℕ) → m ≡ fault number at → P number

module _ {P : ℕ → Type 0} {A : Type 0} where
  pub faults_got : (x : A) (next : ℕ) → Faults P (got x next)
  faults_got x next = record { each = λ number at e. absurd (got_or_fault refl e) }

  pub faults_fault : {number : ℕ} (at : ℕ) → P number → Faults {A = A} P (fault number at)
  faults_fault {number} at p = record { each = λ k a e. let z : number ≡ k = cc in rw (← z) p }

  pub faults_cond : (test : Bool) (m k : Got A) → Faults P m → Faults P k → Faults P (cond test m k)
  faults_cond true m k h g = h
  faults_cond false m k h g = g

pub faults_bind : {P : ℕ → Type 0} {A B : Type 0} (m : Got A) (f : A → ℕ → Got B) → Faults P m → ((x : A) (next : ℕ) → Faults P (f x next))
    → Faults P (bind m f)
unfolding bind
faults_bind (got x next) f h k = k x next
faults_bind (fault number at) f h k = faults_fault at (h.each number at refl)

-- A number's faults are CUT and NUMBER.
pub faults_number : {P : ℕ → Type 0} (n : NumberSize) (s : List ℕ) (at : ℕ) → P CUT → P NUMBER → Faults P (number_at n s at)
unfolding number_at numbered
faults_number {P} n s at c m = go (read_at n s at)
  where
    go : (r : Reading) → Faults P (numbered at r)
    go (Value v next) = faults_got v next
    go Cut = faults_fault at c
    go Malformed = faults_fault at m

-- ---- numbers

numbered_is : (at : ℕ) (r : Reading) {v next : ℕ} → numbered at r ≡ got v next → r ≡ Value v next
unfolding numbered
numbered_is at (Value w m) e = cc
numbered_is at Cut e = absurd (got_or_fault e refl)
numbered_is at Malformed e = absurd (got_or_fault e refl)

value_of : (n : NumberSize) (s : List ℕ) (at : ℕ) {v next : ℕ} → number_at n s at ≡ got v next → read_at n s at ≡ Value v next
unfolding number_at
value_of n s at e = numbered_is at (read_at n s at) e

-- Where the form of a 32-bit number stands, it is read back, whatever follows.
pub number_back : {s : List ℕ} {at v next : ℕ} → v ≤ 4294967295 → Stands s at (form v) next → number_at narrow s at ≡ got v next
unfolding number_at numbered
number_back {at = at} h k = ap (numbered at) (read_back h k)

-- What a 32-bit number that is read says: its form stands there, and it has 32 bits.
pub record NumberStands (s : List ℕ) (at v next : ℕ) : Type 0 where
  pub stands : Stands s at (form v) next
  pub small : v ≤ 4294967295

pub number_gives : (s : List ℕ) → Bytes s → (at : ℕ) → Gives (NumberStands s at) (number_at narrow s at)
number_gives s bytes at =
    record {
      each = λ v next e. record { stands = read_stands s at bytes (value_of narrow s at e); small = read_small s at bytes (value_of narrow s at e) };
    }
