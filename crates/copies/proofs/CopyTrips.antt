-- A copy is read back where its bytes stand, and where one is read, its bytes stand.
use mathlib.Core.Path.{◌≡◌, refl, sym, ap, ◌∙◌}
use mathlib.Core.Bool.{Bool, true, false, cond}
use mathlib.Core.List.{List, [], ◌++◌}
use mathlib.Core.Logic.{⊎_elim}
use Prim.Native.Nat.{ℕ, suc, ◌≤◌}
use native.Mathlib.Omega.{arith}
use lib.Dec.{ltb}
use borrow.Author.Tests.{lt-ltb}
use Rattle.lists.specs.Stands.{Stands}
use Rattle.lists.proofs.Truths.{not_both}
use Rattle.lists.proofs.Standing.{stands_nil, stands_join, stands_left, stands_right}
use Rattle.number.specs.Number.{Bytes, narrow, form}
use Rattle.number.proofs.Meaning.{form_bytes}
use Rattle.plan.specs.Sizes.{last_key}
use Rattle.store.specs.declared.Copy.{Copy}
use Rattle.store.specs.Answers.{CUT, NUMBER, RULE}
use Rattle.store.specs.Copies.{last_kind, has_value, no_copy}
use Rattle.store.specs.State.{last_clock}
use Rattle.store.specs.StateRules.{KindAndValue}
use Rattle.wire.specs.Reading.{got, number_at}
use Rattle.wire.proofs.ByteStrings.{no_bytes, bytes_join}
use Rattle.wire.proofs.Chains.{bind_got, check_holds, Gives, gives_got, gives_check, gives_bind, number_back, number_gives}
use Rattle.wire.proofs.Chains.{Faults, faults_got, faults_fault, faults_bind, faults_cond, faults_number}
use Rattle.copies.specs.CopyBytes.{last_value, value_bytes, copy_bytes, read_value, read_copy}

-- Nothing stands: reading goes on at the same offset.
pub nothing_stands : {A : Type 0} {s : List ℕ} {at next : ℕ} (x : A) → Stands s at [] next → got x at ≡ got x next
nothing_stands {at = at} {next} x k = let w = k.width in let e : at ≡ next = omega arith in ap (got x) e

-- ---- what is written is read back

-- A copy whose numbers have 32 bits, with kind and value as the rules say.
pub record Writable (x : Copy) : Type 0 where
  pub key : x.key ≤ last_key
  pub kind_and_value : KindAndValue x
  pub value : x.value ≤ last_value
  pub stamp : x.stamp ≤ last_clock

-- A kind is a small number.
kind_small : (x : Copy) → KindAndValue x → x.kind ≤ last_kind
kind_small x w = let k = w.0 in omega arith

-- A kind without a value holds 0.
no_value : (x : Copy) → KindAndValue x → has_value x.kind ≡ false → x.value ≡ 0
no_value x w t = ⊎_elim (λ (r : has_value x.kind ≡ true). absurd (not_both r t)) (λ (v : x.value ≡ 0). v) w.1

module _ {s : List ℕ} where
  value_back : {at : ℕ} (t : Bool) {v next : ℕ} → (t ≡ false → v ≡ 0) → v ≤ last_value → Stands s at (cond t (form v) []) next
      → cond t (number_at narrow s at) (got 0 at) ≡ got v next
  value_back true z h k = number_back h k
  value_back false {next = next} z h k = nothing_stands 0 k ∙ ap (λ (v : ℕ). got v next) (sym (z refl))

  pub copy_back : {at : ℕ} (x : Copy) {next : ℕ} → Writable x → Stands s at (copy_bytes x) next → read_copy s at ≡ got x next
  unfolding read_copy copy_bytes read_value value_bytes
  copy_back {at} x {next} w h =
      let key = form x.key in
      let kind = form x.kind in
      let value = value_bytes x.kind x.value in
      let stamp = form x.stamp in
      let k = stands_right key (kind ++ (value ++ stamp)) h in
      let j = stands_right kind (value ++ stamp) k in
      let small = kind_small x w.kind_and_value in
      bind_got _ _ (number_back w.key (stands_left key (kind ++ (value ++ stamp)) h))
      ∙ bind_got _ _ (number_back (omega arith) (stands_left kind (value ++ stamp) k))
      ∙ check_holds (ltb x.kind (suc last_kind)) RULE _ _ (lt-ltb x.kind (suc last_kind) (omega arith))
      ∙ bind_got _ _ (value_back (has_value x.kind) (no_value x w.kind_and_value) w.value (stands_left value stamp j))
      ∙ bind_got _ _ (number_back w.stamp (stands_right value stamp j))

-- Each byte of such a copy is a byte.
pub copy_bytes_lem : (x : Copy) → Writable x → Bytes (copy_bytes x)
unfolding copy_bytes value_bytes
copy_bytes_lem x w =
    bytes_join (form x.key) _ (form_bytes x.key w.key)
    (bytes_join (form x.kind) _ (form_bytes x.kind (omega (arith, kind_small x w.kind_and_value)))
    (bytes_join (value_bytes x.kind x.value) _ (value (has_value x.kind)) (form_bytes x.stamp w.stamp)))
  where
    value : (t : Bool) → Bytes (cond t (form x.value) [])
    value true = form_bytes x.value w.value
    value false = no_bytes

-- ---- what is read stands there

-- A copy whose key and value have 32 bits.
pub record Small (x : Copy) : Type 0 where
  pub key : x.key ≤ last_key
  pub value : x.value ≤ last_value

pub small_none : Small no_copy
small_none = record { key = omega arith; value = omega arith }

-- A copy's bytes stand between two offsets, and its numbers are small.
pub record CopyStands (s : List ℕ) (at : ℕ) (x : Copy) (next : ℕ) : Type 0 where
  pub stands : Stands s at (copy_bytes x) next
  pub small : Small x

module _ (s : List ℕ) (bytes : Bytes s) where
  value_gives : (kind at : ℕ) → Gives (λ v next. Stands s at (value_bytes kind v) next × (v ≤ last_value)) (read_value s kind at)
  unfolding read_value value_bytes
  value_gives kind at = go (has_value kind)
    where
      go : (t : Bool) → Gives (λ v next. Stands s at (cond t (form v) []) next × (v ≤ last_value)) (cond t (number_at narrow s at) (got 0 at))
      go true = record { each = λ v next e. let n = (number_gives s bytes at).each v next e in (n.stands, n.small) }
      go false = gives_got (stands_nil s at, omega arith)

  pub copy_gives : (at : ℕ) → Gives (CopyStands s at) (read_copy s at)
  unfolding read_copy copy_bytes
  copy_gives at =
      gives_bind _ _ (number_gives s bytes at) λ key a k.
      gives_bind _ _ (number_gives s bytes a) λ kind b q.
      gives_check (ltb kind (suc last_kind)) RULE a _ λ low.
      gives_bind _ _ (value_gives kind b) λ value c v.
      gives_bind _ _ (number_gives s bytes c) λ stamp d t.
      gives_got (record {
        stands = stands_join k.stands (stands_join q.stands (stands_join v.0 t.stands));
        small = record { key = k.small; value = v.1 };
      })

-- The faults of reading a copy are CUT, NUMBER and RULE.
pub copy_faults : {P : ℕ → Type 0} (s : List ℕ) (at : ℕ) → P CUT → P NUMBER → P RULE → Faults P (read_copy s at)
unfolding read_copy read_value
copy_faults {P} s at c n r =
    faults_bind _ _ (number at) λ key a.
    faults_bind _ _ (number a) λ kind b.
    faults_cond (ltb kind (suc last_kind)) _ _
    (faults_bind _ _ (faults_cond (has_value kind) (number_at narrow s b) (got 0 b) (number b) (faults_got 0 b)) λ value d.
    faults_bind _ _ (number d) λ stamp e.
    faults_got _ e)
    (faults_fault a r)
  where
    number : (b : ℕ) → Faults P (number_at narrow s b)
    number b = faults_number narrow s b c n
