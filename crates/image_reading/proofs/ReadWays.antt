-- Why the reader of copies gives what it promises: what its loop keeps true, and each way out.
use mathlib.Core.Path.{◌≡◌, refl, ap, ◌∙◌}
use mathlib.Core.List.{◌∷◌, List}
use Prim.Native.Nat.{ℕ, suc, ◌+◌, ◌-◌, ◌<◌, ◌≤◌}
use native.Mathlib.Omega.{arith}
use native.Mathlib.Numerals.{add-one}
use lib.ListN.{set}
use Rattle.store.specs.declared.Copy.{Copy}
use Rattle.store.specs.declared.Store.{Store}
use Rattle.wire.specs.Reading.{Got, got, fault, bind}
use Rattle.wire.proofs.Chains.{bind_got, bind_fault}
use Rattle.copies.specs.CopyBytes.{read_copy}
use Rattle.image_reading.specs.ImageReading.{read_copies}
use Rattle.image_reading.specs.Workers.{with_copies}

-- So many copies, read into a store's places from i on.
abbrev pub copies_into : List ℕ → ℕ → ℕ → Store → ℕ → Got Store
copies_into s many at z i = bind (read_copies s many at) (λ xs next. got (with_copies z i xs) next)

-- What is done with a result is done after what is added to it.
pub bind_bind : {A B C : Type 0} (g : Got A) (f : A → ℕ → Got B) (h : B → ℕ → Got C) → bind (bind g f) h ≡ bind g (λ x next. bind (f x next) h)
unfolding bind
bind_bind (got x next) f h = refl
bind_bind (fault number at) f h = refl

module _ (s : List ℕ) (end : ℕ) (z : Store) (i at : ℕ) where
  -- All places are filled.
  pub into_end : end ≤ i → copies_into s (end - i) at z i ≡ got z at
  unfolding read_copies bind
  into_end h = let m : end - i ≡ 0 = omega arith in rw m

  module _ (h : i < end) where
    -- A copy cannot be read.
    pub into_stops : {number place : ℕ} → read_copy s at ≡ fault number place → copies_into s (end - i) at z i ≡ fault number place
    unfolding read_copies
    into_stops e =
        let m : end - i ≡ suc (end - (i + 1)) = omega arith in
        rw m (bind_fault _ _ (bind_fault _ _ e))

    -- A copy is read and laid, and the rest is to come.
    pub into_turn : {x : Copy} {next : ℕ} → read_copy s at ≡ got x next
        → copies_into s (end - i) at z i
        ≡ copies_into s (end - (i + 1)) next
        (record z { keys = set z.keys i x.key; kinds = set z.kinds i x.kind; values = set z.values i x.value; stamps = set z.stamps i x.stamp }) (i + 1)
    unfolding read_copies bind
    into_turn {x} {next} e =
        let m : end - i ≡ suc (end - (i + 1)) = omega arith in
        rw (m, add-one)
        (ap (λ (g : Got (List Copy)). bind g (λ xs b. got (with_copies z i xs) b)) (bind_got _ _ e)
        ∙ bind_bind (read_copies s (end - suc i) next) (λ xs b. got (x ∷ xs) b) (λ xs b. got (with_copies z i xs) b))
