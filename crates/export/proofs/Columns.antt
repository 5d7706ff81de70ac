-- The columns of a store behind a `&`, lent where they lie: out of the `&` to the store come five to its columns, and it stays as it is.
use mathlib.Core.Path.{refl}
use mathlib.Core.List.{List, [], ◌∷◌}
use Prim.Native.Nat.{ℕ, ◌+◌, ◌*◌}
use seplogic.Ra.Ura.{Ura}
use mir.Syntax.{named, w32}
use mir.Val.{Val, vint, vptr}
use base.Logic.{ent, sep}
use base.Fml.{Lft, Share, Fml, fsep, flft}
use types.Logic.{Logic, sem}
use types.Kit.{Item, mean, ‵, later, ◌⊛◌, ◌$◌, ◌∵◌, !, qed, move, use2, split, join, feq_i, fjoin, await, updating, now, done}
use denote.RattleType.{RattleType}
use denote.Laws.{Is}
use denote.Array.{Array, Array-Makes}
use denote.Builtin.{u32}
use denote.Plain.{uint_Makes}
use denote.Memory.{hidden_shr}
use denote.Opens.{shr_dup}
use denote.Ref.{Bor, ShrRef}
use denote.Steps.{owned}
use denote.Struct.Laws as LL
use borrow.Struct.Share.{Parts, part_field}
use Rattle.plan.specs.Sizes.{most_nodes}
use Rattle.store.specs.State.{slot_count}
use Rattle.store.specs.Layout.{places}
use Rattle.store.specs.declared.Slot.{Slot}
use Rattle.store.specs.declared.Store.{Store}
use Rattle.store.specs.Workers.{Sized}
use Rattle.store.specs.contracts.Slot as Q
use Rattle.store.proofs.Slot.TheLaws as Q'
use Rattle.store.specs.contracts.Store as S
use Rattle.store.proofs.Store.TheLaws as S'
use Rattle.export.proofs.Values.{store_val, slots_val}

-- The counts, a column of places, and the slots.
abbrev pub Counts : RattleType
Counts = Array u32 most_nodes

abbrev pub Column : RattleType
Column = Array u32 places

abbrev pub Slots : RattleType
Slots = Array Q.the_row slot_count

-- The bytes of so many numbers.
abbrev bytes : ℕ → ℕ
bytes n = 4 * n

-- Where each field of a store lies: after those before it.
abbrev pub plan_at : ℕ
plan_at = 0

abbrev pub clock_at : ℕ
clock_at = plan_at + bytes 1

abbrev pub counts_at : ℕ
counts_at = clock_at + bytes 1

abbrev pub keys_at : ℕ
keys_at = counts_at + bytes most_nodes

abbrev pub kinds_at : ℕ
kinds_at = keys_at + bytes places

abbrev pub values_at : ℕ
values_at = kinds_at + bytes places

abbrev pub stamps_at : ℕ
stamps_at = values_at + bytes places

abbrev pub slots_at : ℕ
slots_at = stamps_at + bytes places

-- Its columns have their lengths.
pub sized : (h : Store) → Is S.the_row h (store_val h ∷ []) → Sized h.counts h.keys h.kinds h.values h.stamps
sized h is =
    let are = LL.owed S.the_type S'.the_laws h _ is in
    record {
      counts_long = are.1.1.0.1.0.1;
      keys_long = are.1.1.1.0.1.0.1;
      kinds_long = are.1.1.1.1.0.1.0.1;
      values_long = are.1.1.1.1.1.0.1.0.1;
      stamps_long = are.1.1.1.1.1.1.0.1.0.1;
    }

-- Its slots lie there as they are.
pub slots_are : (h : Store) → Is S.the_row h (store_val h ∷ []) → Is Slots h.slots (slots_val h ∷ [])
slots_are h is = (LL.owed S.the_type S'.the_laws h _ is).1.1.1.1.1.1.1.0

module _ (b o : ℕ) (h : Store) where
  abbrev pub counts_ref : Bor (List ℕ)
  counts_ref = record { ref_ptr = (b, o + counts_at); now = h.counts }

  abbrev pub keys_ref : Bor (List ℕ)
  keys_ref = record { ref_ptr = (b, o + keys_at); now = h.keys }

  abbrev pub kinds_ref : Bor (List ℕ)
  kinds_ref = record { ref_ptr = (b, o + kinds_at); now = h.kinds }

  abbrev pub values_ref : Bor (List ℕ)
  values_ref = record { ref_ptr = (b, o + values_at); now = h.values }

  abbrev pub stamps_ref : Bor (List ℕ)
  stamps_ref = record { ref_ptr = (b, o + stamps_at); now = h.stamps }

-- What a `&` to a part owns.
abbrev pub OwnRef : Lft → (F : RattleType) → Bor F.Denot → Fml
OwnRef κ F x = (ShrRef (named 0) κ F).own_val x (vptr x.ref_ptr.0 x.ref_ptr.1 ∷ [])

-- What references to the five columns own, each; and five `&`.
abbrev pub Owning : Type 1
Owning = Fml × (Fml × (Fml × (Fml × Fml)))

abbrev pub OwnRefs : Lft → (b o : ℕ) → Store → Owning
OwnRefs κ b o h = (
  OwnRef κ Counts (counts_ref b o h),
  (
    OwnRef κ Column (keys_ref b o h),
    (OwnRef κ Column (kinds_ref b o h), (OwnRef κ Column (values_ref b o h), OwnRef κ Column (stamps_ref b o h))),
  ),
)

-- What a `&` to a store holds of it.
abbrev pub Held : Lft → (b o : ℕ) → Store → Fml
Held κ b o h = hidden_shr S.the_row κ h b o

module _ {M : Type 1} {𝓤 : Ura M} (𝓛 : Logic 𝓤) where
  -- The five references to the columns.
  abbrev pub Refs : Owning → Item 𝓤
  Refs own = ‵ own.0 ⊛ ‵ own.1.0 ⊛ ‵ own.1.1.0 ⊛ ‵ own.1.1.1.0 ⊛ ‵ own.1.1.1.1

  abbrev pub Lent : (κ : Lft) (b o : ℕ) (h : Store) → Item 𝓤
  Lent κ b o h = Refs (OwnRefs κ b o h)

module _ {M : Type 1} {𝓤 : Ura M} (𝓛 : Logic 𝓤) (κ : Lft) (q : Share) (b o : ℕ) (h : Store) where
  open 𝓛 use {H, A}

  abbrev One : (F : RattleType) (d : ℕ) (x : F.Denot) → Item 𝓤
  One F d x = ‵ (OwnRef κ F (record { ref_ptr = (b, o + d); now = x })) ⊛ (‵ (Held κ b o h) ⊛ ‵ (flft κ q))

  -- a `&` to one field, out of the `&` to the store
  lend : (F : RattleType) (d : ℕ) (sub : Store → F.Denot) → Parts 𝓛 S.the_row F (λ a. a + d) sub
      → ent 𝓤 (sep 𝓤 (sem 𝓛 (Held κ b o h)) (A.lft κ q)) (H.⇛ (mean 𝓛 (One F d (sub h))))
  lend F d sub part = qed 𝓛 (‵ (Held κ b o h) ∷ ‵ (flft κ q) ∷ []) {P = H.⇛ (mean 𝓛 (One F d (sub h)))} (
      updating ! $ shr_dup ! S.the_row (S'.the_row_laws).shr_laws h b o κ $ move ! (1 ∷ 2 ∷ []) $
      use2 𝓛 (later (‵ (hidden_shr F κ (sub h) b (o + d)) ⊛ ‵ (flft κ q))) (part κ q h b o) $ await ! tt $ split ! $
      -- [what a `&` to the part holds; the token; the store's]
      feq_i ! (List Val) (vptr b (o + d) ∷ []) (vptr b (o + d) ∷ []) refl $ fjoin ! $ move ! (0 ∷ 2 ∷ []) $ now ! $ done !)

  counts_lent : ent 𝓤 (sep 𝓤 (sem 𝓛 (Held κ b o h)) (A.lft κ q)) (mean 𝓛 (later (One Counts counts_at h.counts)))
  counts_lent = lend Counts counts_at (λ x. x.counts)
      (part_field 𝓛 S.the_type S'.the_laws S'.the_copy 2 counts_at refl refl (S.struct).as_values (λ x. refl))

  keys_lent : ent 𝓤 (sep 𝓤 (sem 𝓛 (Held κ b o h)) (A.lft κ q)) (mean 𝓛 (later (One Column keys_at h.keys)))
  keys_lent = lend Column keys_at (λ x. x.keys)
      (part_field 𝓛 S.the_type S'.the_laws S'.the_copy 3 keys_at refl refl (S.struct).as_values (λ x. refl))

  kinds_lent : ent 𝓤 (sep 𝓤 (sem 𝓛 (Held κ b o h)) (A.lft κ q)) (mean 𝓛 (later (One Column kinds_at h.kinds)))
  kinds_lent = lend Column kinds_at (λ x. x.kinds)
      (part_field 𝓛 S.the_type S'.the_laws S'.the_copy 4 kinds_at refl refl (S.struct).as_values (λ x. refl))

  values_lent : ent 𝓤 (sep 𝓤 (sem 𝓛 (Held κ b o h)) (A.lft κ q)) (mean 𝓛 (later (One Column values_at h.values)))
  values_lent = lend Column values_at (λ x. x.values)
      (part_field 𝓛 S.the_type S'.the_laws S'.the_copy 5 values_at refl refl (S.struct).as_values (λ x. refl))

  stamps_lent : ent 𝓤 (sep 𝓤 (sem 𝓛 (Held κ b o h)) (A.lft κ q)) (mean 𝓛 (later (One Column stamps_at h.stamps)))
  stamps_lent = lend Column stamps_at (λ x. x.stamps)
      (part_field 𝓛 S.the_type S'.the_laws S'.the_copy 6 stamps_at refl refl (S.struct).as_values (λ x. refl))

  -- the five of them
  abbrev pub AllLent : Item 𝓤
  AllLent = Lent 𝓛 κ b o h ⊛ (‵ (Held κ b o h) ⊛ ‵ (flft κ q))

  pub lends : ent 𝓤 (sep 𝓤 (sem 𝓛 (Held κ b o h)) (A.lft κ q)) (H.⇛ (mean 𝓛 AllLent))
  lends = qed 𝓛 (‵ (Held κ b o h) ∷ ‵ (flft κ q) ∷ []) {P = H.⇛ (mean 𝓛 AllLent)} (updating ! $
      use2 𝓛 (later (One Counts counts_at h.counts)) counts_lent $ await ! tt $ split ! $ move ! (1 ∷ []) $ split ! $
      use2 𝓛 (later (One Column keys_at h.keys)) keys_lent $ await ! tt $ split ! $ move ! (1 ∷ []) $ split ! $
      use2 𝓛 (later (One Column kinds_at h.kinds)) kinds_lent $ await ! tt $ split ! $ move ! (1 ∷ []) $ split ! $
      use2 𝓛 (later (One Column values_at h.values)) values_lent $ await ! tt $ split ! $ move ! (1 ∷ []) $ split ! $
      use2 𝓛 (later (One Column stamps_at h.stamps)) stamps_lent $ await ! tt $ split ! $
      -- [the stamps' &; the store's and the token; the values' &; the kinds' &; the keys' &; the counts' &]
      move ! (2 ∷ 0 ∷ []) $ join ! $ move ! (2 ∷ 0 ∷ []) $ join ! $ move ! (2 ∷ 0 ∷ []) $ join ! $ move ! (2 ∷ 0 ∷ []) $ join ! $ now ! $ done !)

-- What a call is given of a store so, and how the machine holds it.
abbrev pub StoreArgs : Type 0 → Type 0
StoreArgs X = ℕ × (ℕ × (Bor (List ℕ) × (Bor (List ℕ) × (Bor (List ℕ) × (Bor (List ℕ) × (Bor (List ℕ) × (List Slot × X)))))))

abbrev pub store_args : {X : Type 0} (b o : ℕ) (h : Store) → X → StoreArgs X
store_args b o h x =
    (h.plan, (h.clock, (counts_ref b o h, (keys_ref b o h, (kinds_ref b o h, (values_ref b o h, (stamps_ref b o h, (h.slots, x))))))))

-- What is bound at exit of a call so: nothing of the store.
abbrev pub StoreLasts : Type 0 → Type 0
StoreLasts X = Unit {0} × (Unit {0} × (Unit {0} × (Unit {0} × (Unit {0} × (Unit {0} × (Unit {0} × (Unit {0} × X)))))))

abbrev pub lasts_beside : {X : Type 0} → StoreLasts X → X
lasts_beside zs = zs.1.1.1.1.1.1.1.1

abbrev pub StoreVals : Type 0 → Type 0
StoreVals X = List Val × (List Val × (List Val × (List Val × (List Val × (List Val × (List Val × (List Val × X)))))))

abbrev pub store_vals : {X : Type 0} (b o : ℕ) (h : Store) → X → StoreVals X
store_vals b o h x = (
  vint w32 h.plan ∷ [],
  (
    vint w32 h.clock ∷ [],
    (
      vptr b (o + counts_at) ∷ [],
      (
        vptr b (o + keys_at) ∷ [],
        (
          vptr b (o + kinds_at) ∷ [],
          (vptr b (o + values_at) ∷ [], (vptr b (o + stamps_at) ∷ [], (slots_val h ∷ [], x))),
        ),
      ),
    ),
  ),
)

-- What a call owns that is given a store so: its plan and clock, the five references, its slots, and the rest.
abbrev pub OwnsStore : Owning → Store → Fml → Fml
OwnsStore own h rest =
    fsep (u32.own_val h.plan (vint w32 h.plan ∷ [])) (fsep (u32.own_val h.clock (vint w32 h.clock ∷ []))
    (fsep own.0 (fsep own.1.0 (fsep own.1.1.0 (fsep own.1.1.1.0 (fsep own.1.1.1.1 (fsep (Slots.own_val h.slots (slots_val h ∷ [])) rest)))))))

module _ {M : Type 1} {𝓤 : Ura M} (𝓛 : Logic 𝓤) where
  pub owns_refs : (own : Owning) (h : Store) → Is S.the_row h (store_val h ∷ []) → (rest : Fml)
      → ent 𝓤 (sep 𝓤 (mean 𝓛 (Refs 𝓛 own)) (sem 𝓛 rest)) (sem 𝓛 (OwnsStore own h rest))
  owns_refs own h is rest =
      let are = LL.owed S.the_type S'.the_laws h _ is in
      qed 𝓛 (Refs 𝓛 own ∷ ‵ rest ∷ []) ∵
      split ! $ move ! (1 ∷ []) $ split ! $ move ! (1 ∷ []) $ split ! $ move ! (1 ∷ []) $ split ! $ move ! (1 ∷ []) $
      -- [what the reference to the stamps owns; to the values; the kinds; the keys; the counts; the rest]
      move ! (5 ∷ []) $
      owned ! Slots (Is Slots) (Array-Makes 𝓛 Q.the_row (LL.makes Q.the_type Q'.the_plain 𝓛) slot_count) h.slots _ (slots_are h is) $ fjoin ! $
      move ! (1 ∷ 0 ∷ []) $ fjoin ! $ move ! (1 ∷ 0 ∷ []) $ fjoin ! $ move ! (1 ∷ 0 ∷ []) $ fjoin ! $
      move ! (1 ∷ 0 ∷ []) $ fjoin ! $ move ! (1 ∷ 0 ∷ []) $ fjoin ! $
      owned ! u32 (Is u32) (uint_Makes 𝓛 w32) h.clock _ are.1.0 $ fjoin ! $
      owned ! u32 (Is u32) (uint_Makes 𝓛 w32) h.plan _ are.0 $ fjoin ! $ done !

  pub owns_store : (κ : Lft) (b o : ℕ) (h : Store) → Is S.the_row h (store_val h ∷ []) → (rest : Fml)
      → ent 𝓤 (sep 𝓤 (mean 𝓛 (Lent 𝓛 κ b o h)) (sem 𝓛 rest)) (sem 𝓛 (OwnsStore (OwnRefs κ b o h) h rest))
  owns_store κ b o h = owns_refs (OwnRefs κ b o h) h
