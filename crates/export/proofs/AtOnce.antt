-- The five columns of a store in memory, lent at once as five `&mut` for a lifetime made for one call, and taken back at what each shows last.
use mathlib.Core.Path.{◌≡◌, refl, sym, subst}
use mathlib.Core.List.{List, [], ◌∷◌}
use Prim.Native.Nat.{ℕ, ◌+◌}
use seplogic.Ra.Ura.{Ura}
use base.Fraction.{full_share}
use mir.Syntax.{named}
use mir.Val.{vptr}
use base.Logic.{SProp, ent, sep, wand, ex, ex_i, all_e, apply∗}
use base.Fml.{GName, Lft, Fml, ftrue, fsep, flft, flent, fdead, fres}
use types.Logic.{Logic, sem}
use types.Kit.{Item, mean, ‵, raw, some, later, ◌⊛◌, ◌$◌, ◌∵◌, !, qed, by, move, keep, use1, use2, use3, split, pick, group, fsplit, fjoin, rewrite, await, updating, now, done}
use types.Tokens.{lft_new, lft_end}
use types.SemTy.{Body}
use denote.RattleType.{RattleType, Denots}
use denote.Builtin.{u32}
use denote.Memory.{mem, part_at, lone}
use denote.Lend.{lends_ref, ref_back}
use denote.Ref.{MutBor, MutRef}
use denote.Struct.Struct.{Struct}
use denote.Struct.Members.{Member, rows_of, parts_at}
use denote.Struct.Parts.{shape_of, PartsBack, Struct-parts}
use denote.Struct.Laws as LL
use borrow.Struct.Lend.{own_same}
use Rattle.store.specs.declared.Store.{Store}
use Rattle.store.specs.contracts.Store as S
use Rattle.store.proofs.Store.TheLaws as S'
use Rattle.export.proofs.Columns.{Counts, Column, Slots, plan_at, clock_at, counts_at, keys_at, kinds_at, values_at, stamps_at, slots_at, Owning, Refs}

-- Five columns: counts, keys, kinds, values, stamps.
abbrev pub Five : Type 0
Five = List ℕ × (List ℕ × (List ℕ × (List ℕ × List ℕ)))

-- The store with these.
abbrev pub with_columns : Store → Five → Store
with_columns z w =
    record {
      plan = z.plan;
      clock = z.clock;
      counts = w.0;
      keys = w.1.0;
      kinds = w.1.1.0;
      values = w.1.1.1.0;
      stamps = w.1.1.1.1;
      slots = z.slots;
    }

-- A store's fields as they lie side by side.
abbrev field : RattleType → Member
field R = record { row = R; ty = lone R.mir }

abbrev fields : List Member
fields =
    field u32 ∷ field u32 ∷ field Counts ∷ field Column ∷ field Column ∷ field Column ∷ field Column ∷ field Slots ∷ []

abbrev values : Store → Five → Denots (rows_of fields)
values z w = (z.plan, (z.clock, (w.0, (w.1.0, (w.1.1.0, (w.1.1.1.0, (w.1.1.1.1, (z.slots, tt))))))))

-- They in memory, as a struct.
abbrev Lying : Denots (rows_of fields) → ℕ → ℕ → Fml
Lying a b o = part_at (Struct (shape_of (S.the_type).name fields)) full_share a b o

-- The store with these columns lies as they do.
lies_same : (z : Store) (w : Five) (b o : ℕ)
    → Lying (values z w) b o ≡ part_at S.the_row full_share (with_columns z w) b o
lies_same z w b o = sym (own_same S.the_type (with_columns z w) b o)

-- The other fields where they lie.
abbrev others : Store → ℕ → ℕ → Fml
others z b o =
    fsep (part_at u32 full_share z.plan b (o + plan_at))
    (fsep (part_at u32 full_share z.clock b (o + clock_at))
    (fsep (part_at Slots full_share z.slots b (o + slots_at)) ftrue))

-- Five names, one for each `&mut` that is made.
abbrev pub Names : Type 0
Names = GName × (GName × (GName × (GName × GName)))

module _ (b o : ℕ) (z : Store) (g : Names) where
  abbrev pub counts_mut : MutBor (List ℕ)
  counts_mut = record { ref_ptr = (b, o + counts_at); ghost_name = g.0; now = z.counts }

  abbrev pub keys_mut : MutBor (List ℕ)
  keys_mut = record { ref_ptr = (b, o + keys_at); ghost_name = g.1.0; now = z.keys }

  abbrev pub kinds_mut : MutBor (List ℕ)
  kinds_mut = record { ref_ptr = (b, o + kinds_at); ghost_name = g.1.1.0; now = z.kinds }

  abbrev pub values_mut : MutBor (List ℕ)
  values_mut = record { ref_ptr = (b, o + values_at); ghost_name = g.1.1.1.0; now = z.values }

  abbrev pub stamps_mut : MutBor (List ℕ)
  stamps_mut = record { ref_ptr = (b, o + stamps_at); ghost_name = g.1.1.1.1; now = z.stamps }

-- What a `&mut` to a part owns; and five.
abbrev pub OwnMut : Lft → (F : RattleType) → MutBor F.Denot → Fml
OwnMut κ F x = (MutRef (named 0) κ F).own_val x (vptr x.ref_ptr.0 x.ref_ptr.1 ∷ [])

abbrev pub OwnMuts : Lft → (b o : ℕ) → Store → Names → Owning
OwnMuts κ b o z g = (
  OwnMut κ Counts (counts_mut b o z g),
  (
    OwnMut κ Column (keys_mut b o z g),
    (OwnMut κ Column (kinds_mut b o z g), (OwnMut κ Column (values_mut b o z g), OwnMut κ Column (stamps_mut b o z g))),
  ),
)

module _ {M : Type 1} {𝓤 : Ura M} (𝓛 : Logic 𝓤) (z : Store) (b o : ℕ) where
  open 𝓛 use {H, A}

  abbrev Back : Item 𝓤
  Back = raw (PartsBack 𝓛 full_share (S.the_type).name fields b o)

  out : ent 𝓤 (sem 𝓛 (part_at S.the_row full_share z b o)) (mean 𝓛 (‵ (parts_at full_share fields 0 ((S.the_type).to z) b o) ⊛ Back))
  out = subst (λ (X : Fml). ent 𝓤 (sem 𝓛 X) (mean 𝓛 (‵ (parts_at full_share fields 0 ((S.the_type).to z) b o) ⊛ Back))) (sym (own_same S.the_type z b o))
      (Struct-parts 𝓛 full_share (S.the_type).name fields (LL.lawfuls 𝓛 (S.the_type).parts S'.the_laws) ((S.the_type).to z) b o)

  -- A `&mut` to a column, and what the lender keeps of it.
  abbrev Mut : Lft → (F : RattleType) → MutBor F.Denot → Item 𝓤
  Mut κ F x = ‵ (OwnMut κ F x)

  abbrev Due : Lft → (F : RattleType) → MutBor F.Denot → Item 𝓤
  Due κ F x = ‵ (flent κ (Body (mem F) x.ref_ptr.0 x.ref_ptr.1 x.ghost_name))

  -- What the callee is given, beside the new lifetime's token: the five references,
  abbrev pub Muts : Lft → Names → Item 𝓤
  Muts κ g = Refs 𝓛 (OwnMuts κ b o z g)

  -- and what is kept for the way back.
  abbrev pub Kept : Lft → Names → Item 𝓤
  Kept κ g =
      Due κ Counts (counts_mut b o z g) ⊛ Due κ Column (keys_mut b o z g) ⊛ Due κ Column (kinds_mut b o z g) ⊛ Due κ Column (values_mut b o z g) ⊛ Due κ Column (stamps_mut b o z g) ⊛ ‵ (others z b o) ⊛ Back

  abbrev AllOut : ℕ × Names → SProp 𝓤
  AllOut p = sep 𝓤 (mean 𝓛 (Muts (p.0 ∷ []) p.1)) (sep 𝓤 (A.lft (p.0 ∷ []) full_share) (mean 𝓛 (Kept (p.0 ∷ []) p.1)))

  -- One of them.
  abbrev One : Lft → (F : RattleType) → ℕ → F.Denot → Item 𝓤
  One κ F d x = later (some (λ (γ : GName). Mut κ F (record { ref_ptr = (b, o + d); ghost_name = γ; now = x }) ⊛ Due κ F (record { ref_ptr = (b, o + d); ghost_name = γ; now = x })))

  one : (κ : Lft) (F : RattleType) (d : ℕ) (x : F.Denot) → ent 𝓤 (sem 𝓛 (part_at F full_share x b (o + d))) (mean 𝓛 (One κ F d x))
  one κ F d x = lends_ref 𝓛 F (named 0) κ x b (o + d)

  pub columns_lent : ent 𝓤 (sem 𝓛 (part_at S.the_row full_share z b o)) (H.⇛ (ex 𝓤 AllOut))
  columns_lent = qed 𝓛 (‵ (part_at S.the_row full_share z b o) ∷ []) {P = H.⇛ (ex 𝓤 AllOut)} (updating ! $
      use1 𝓛 (‵ (parts_at full_share fields 0 ((S.the_type).to z) b o) ⊛ Back) out $ split ! $
      fsplit ! $ move ! (1 ∷ []) $ fsplit ! $ move ! (1 ∷ []) $ fsplit ! $ move ! (1 ∷ []) $ fsplit ! $ move ! (1 ∷ []) $ fsplit ! $ move ! (1 ∷ []) $ fsplit ! $ move ! (1 ∷ []) $ fsplit ! $
      -- [the stamps; the slots; the values; the kinds; the keys; the counts; the clock; the plan; the way back]
      move ! (1 ∷ 6 ∷ 7 ∷ []) $ move ! (1 ∷ 0 ∷ []) $ fjoin ! $ move ! (1 ∷ 0 ∷ []) $ fjoin ! $
      -- [the others; the stamps; the values; the kinds; the keys; the counts; the way back]
      lft_new ! tt (λ α. move ! (2 ∷ []) $
      use1 𝓛 (One (α ∷ []) Column stamps_at z.stamps) (one (α ∷ []) Column stamps_at z.stamps) $ await ! tt $ pick ! (λ γ₅. split ! $ move ! (4 ∷ []) $
      use1 𝓛 (One (α ∷ []) Column values_at z.values) (one (α ∷ []) Column values_at z.values) $ await ! tt $ pick ! (λ γ₄. split ! $ move ! (6 ∷ []) $
      use1 𝓛 (One (α ∷ []) Column kinds_at z.kinds) (one (α ∷ []) Column kinds_at z.kinds) $ await ! tt $ pick ! (λ γ₃. split ! $ move ! (8 ∷ []) $
      use1 𝓛 (One (α ∷ []) Column keys_at z.keys) (one (α ∷ []) Column keys_at z.keys) $ await ! tt $ pick ! (λ γ₂. split ! $ move ! (10 ∷ []) $
      use1 𝓛 (One (α ∷ []) Counts counts_at z.counts) (one (α ∷ []) Counts counts_at z.counts) $ await ! tt $ pick ! (λ γ₁. split ! $
      -- [the counts' &mut, what is due of it; the keys'; the kinds'; the values'; the stamps'; the token; the others; the way back]
      move ! (0 ∷ 2 ∷ 4 ∷ 6 ∷ 8 ∷ 10 ∷ 1 ∷ 3 ∷ 5 ∷ 7 ∷ 9 ∷ []) $ group ! 5 $ now ! $ by ! (ex_i 𝓤 AllOut (α, (γ₁, (γ₂, (γ₃, (γ₄, γ₅)))))))))))))

  -- What each of the five showed last.
  abbrev pub Lasts : Names → Five → Fml
  Lasts g w =
      fsep (fres g.0 (Counts.coded.code w.0))
      (fsep (fres g.1.0 (Column.coded.code w.1.0))
      (fsep (fres g.1.1.0 (Column.coded.code w.1.1.0))
      (fsep (fres g.1.1.1.0 (Column.coded.code w.1.1.1.0)) (fres g.1.1.1.1 (Column.coded.code w.1.1.1.1)))))

  -- One of them is back.
  back : (κ : Lft) (F : RattleType) (γ : GName) (x : F.Denot) (d : ℕ)
      → ent 𝓤 (sep 𝓤 (A.dead κ) (sep 𝓤 (A.lent κ (Body (mem F) b (o + d) γ)) (A.res γ (F.coded.code x)))) (mean 𝓛 (later (‵ (part_at F full_share x b (o + d)) ⊛ ‵ (fdead κ))))
  back κ F γ x d = qed 𝓛 (‵ (fdead κ) ∷ ‵ (flent κ (Body (mem F) b (o + d) γ)) ∷ ‵ (fres γ (F.coded.code x)) ∷ []) ∵ updating ! $
      use1 𝓛 (‵ (fdead κ) ⊛ ‵ (fdead κ)) (𝓛.lfts.dead_dup κ) $ split ! $ move ! (1 ∷ 2 ∷ 3 ∷ []) $
      use3 𝓛 (later (‵ (part_at F full_share x b (o + d)))) (ref_back 𝓛 F κ γ x b (o + d)) $ await ! tt $ now ! $ done !

  abbrev Comes : Denots (rows_of fields) → SProp 𝓤
  Comes a = wand 𝓤 (sem 𝓛 (parts_at full_share fields 0 a b o)) (sem 𝓛 (Lying a b o))

  -- All are, and the store lies there with them.
  pub columns_back : (p : ℕ × Names) (w : Five)
      → ent 𝓤 (sep 𝓤 (A.lft (p.0 ∷ []) full_share) (sep 𝓤 (mean 𝓛 (Kept (p.0 ∷ []) p.1)) (sem 𝓛 (Lasts p.1 w)))) (H.⇛ (sem 𝓛 (part_at S.the_row full_share (with_columns z w) b o)))
  columns_back p w = qed 𝓛 (‵ (flft (p.0 ∷ []) full_share) ∷ Kept (p.0 ∷ []) p.1 ∷ ‵ (Lasts p.1 w) ∷ []) ∵ updating ! $ lft_end ! tt $
      move ! (2 ∷ []) $ fsplit ! $ move ! (1 ∷ []) $ fsplit ! $ move ! (1 ∷ []) $ fsplit ! $ move ! (1 ∷ []) $ fsplit ! $
      -- [the values' last; the stamps' last; the kinds'; the keys'; the counts'; that the lifetime is over; what is kept]
      move ! (6 ∷ []) $ split ! $ move ! (1 ∷ []) $ split ! $ move ! (1 ∷ []) $ split ! $ move ! (1 ∷ []) $ split ! $ move ! (1 ∷ []) $ split ! $ move ! (1 ∷ []) $ split ! $
      -- [the others; the way back; what is due of the stamps; the values; the kinds; the keys; the counts; the values' last; the stamps'; the kinds'; the keys'; the counts'; that the lifetime is over]
      move ! (12 ∷ 2 ∷ 8 ∷ []) $ use3 𝓛 (later (‵ (part_at Column full_share w.1.1.1.1 b (o + stamps_at)) ⊛ ‵ (fdead (p.0 ∷ [])))) (back (p.0 ∷ []) Column p.1.1.1.1.1 w.1.1.1.1 stamps_at) $ await ! tt $ split ! $
      move ! (1 ∷ 4 ∷ 8 ∷ []) $ use3 𝓛 (later (‵ (part_at Column full_share w.1.1.1.0 b (o + values_at)) ⊛ ‵ (fdead (p.0 ∷ [])))) (back (p.0 ∷ []) Column p.1.1.1.1.0 w.1.1.1.0 values_at) $ await ! tt $ split ! $
      move ! (1 ∷ 5 ∷ 8 ∷ []) $ use3 𝓛 (later (‵ (part_at Column full_share w.1.1.0 b (o + kinds_at)) ⊛ ‵ (fdead (p.0 ∷ [])))) (back (p.0 ∷ []) Column p.1.1.1.0 w.1.1.0 kinds_at) $ await ! tt $ split ! $
      move ! (1 ∷ 6 ∷ 8 ∷ []) $ use3 𝓛 (later (‵ (part_at Column full_share w.1.0 b (o + keys_at)) ⊛ ‵ (fdead (p.0 ∷ [])))) (back (p.0 ∷ []) Column p.1.1.0 w.1.0 keys_at) $ await ! tt $ split ! $
      move ! (1 ∷ 7 ∷ 8 ∷ []) $ use3 𝓛 (later (‵ (part_at Counts full_share w.0 b (o + counts_at)) ⊛ ‵ (fdead (p.0 ∷ [])))) (back (p.0 ∷ []) Counts p.1.0 w.0 counts_at) $ await ! tt $ split ! $
      -- [the counts; that the lifetime is over; the keys; the kinds; the values; the stamps; the others; the way back]
      move ! (6 ∷ []) $ fsplit ! $ move ! (1 ∷ []) $ fsplit ! $ move ! (8 ∷ 1 ∷ []) $ fjoin ! $ move ! (7 ∷ 0 ∷ []) $ fjoin ! $ move ! (6 ∷ 0 ∷ []) $ fjoin ! $
      move ! (5 ∷ 0 ∷ []) $ fjoin ! $ move ! (3 ∷ 0 ∷ []) $ fjoin ! $ move ! (1 ∷ 0 ∷ []) $ fjoin ! $ move ! (1 ∷ 0 ∷ []) $ fjoin ! $
      -- [the fields; that the lifetime is over; the way back]
      now ! $ keep ! (2 ∷ 0 ∷ []) $ use1 𝓛 (raw (Comes (values z w))) (all_e 𝓤 Comes (values z w)) $
      move ! (1 ∷ []) $ use2 𝓛 (‵ (Lying (values z w) b o)) (apply∗ 𝓤 (sem 𝓛 (parts_at full_share fields 0 (values z w) b o)) (sem 𝓛 (Lying (values z w) b o))) $
      rewrite ! 0 (λ (X : Fml). ‵ X) (lies_same z w b o) refl $ done !
