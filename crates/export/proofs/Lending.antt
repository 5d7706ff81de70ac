-- Lending and calling: the part of the walk that the calls which leave the store as it is have in common. Plan, clock, the columns' `&` and the
-- slots are taken out of the `&` to the store into locals of their own, in this order, and a worker is called with them. Each law is over any
-- function whose locals from some number on are those, whatever else it holds.
use mathlib.Core.Path.{◌≡◌, refl, sym, subst, ap}
use mathlib.Core.List.{List, [], ◌∷◌, ◌++◌}
use Prim.Native.Nat.{ℕ, zero, ◌+◌}
use lib.ListN.{get_or}
use seplogic.Ra.Ura.{Ura}
use base.Fraction.{full_share}
use mir.Syntax.{w32, Ty, ty_int, ty_ref, ty_array, erased, imm, Step as PStep, deref, field, Callee, Place, place, Opd as Operand, copy, rv_opd, addr_of, Body, seq, assign, call, return, Local, local, value_local}
use lib.Dec.{T}
use mir.Val.{Val, WT, has_ty, vint, vptr}
use base.Logic.{SProp, ent, sep, via, id⊢}
use base.Fml.{Lft, Share, Fml, fsep, flft, fat, froom, fdies}
use prog.Wp.{Env, Spot, Calls, Loops, no_local}
use types.Logic.{Logic, sem}
use contract.Monad.{fact}
use types.Kit.{Item, ‵, raw, some, later, ◌⊛◌, ⋆, mean, Post, at_ret, Goal, prop, runs, allocs, frees, Seq, Sq, Step, step, cut, ◌$◌, ◌∵◌, Go, !, qed, by, move, use1, use2, use3, split, pick, fsplit, drop, frame, await, done}
use types.Part.{whole, sub, look_in}
use types.Run.{Reads, Walks, Finds, Opd, Opds, look, init, forget, stop, hop, fld, from, load, addr, of_opd, assigns, and_then, land, returns, alloc1, free1}
use sound.WpLaws.{FmC}
use denote.RattleType.{RattleType}
use denote.Triple.Statement.{Contract, Triple}
use denote.Triple.Call.{calls_at}
use denote.Triple.Walked.{says}
use denote.Laws.{Typed, Is, Lawful, shows}
use denote.Array.{Array-Lawful}
use denote.Memory.{cell_at}
use denote.Steps.{looks, shuts, peeks}
use denote.Struct.Steps.{spelt}
use denote.Struct.Laws as LL
use Rattle.plan.specs.Sizes.{most_nodes}
use Rattle.store.specs.State.{slot_count}
use Rattle.store.specs.Layout.{places}
use Rattle.store.specs.Workers.{Sized}
use Rattle.store.specs.declared.Store.{Store}
use Rattle.store.specs.contracts.Slot as Q
use Rattle.store.proofs.Slot.TheLaws as Q'
use Rattle.store.specs.contracts.Store as S
use Rattle.store.proofs.Store.TheLaws as S'
use Rattle.export.proofs.Values.{store_val, slots_val}
use Rattle.export.proofs.Columns.{counts_at, keys_at, kinds_at, values_at, stamps_at, sized, slots_are, OwnRefs, Held, Lent, AllLent, lends, OwnsStore, owns_store}

-- Where the locals lie: plan, clock, counts, keys, kinds, values, stamps, slots.
abbrev Blocks : Type 0
Blocks = ℕ × (ℕ × (ℕ × (ℕ × (ℕ × (ℕ × (ℕ × ℕ))))))

-- Their types.
abbrev number : Ty
number = ty_int w32

abbrev numbers : ℕ → Ty
numbers n = ty_ref erased imm (ty_array (ty_int w32) n)

abbrev slots : Ty
slots = ty_array Q'.mir slot_count

-- The locals, before the others;
abbrev store_locals : List Local → List Local
store_locals ls =
    local number value_local ∷ local number value_local ∷ local (numbers most_nodes) value_local ∷ local (numbers places) value_local
    ∷ local (numbers places) value_local ∷ local (numbers places) value_local ∷ local (numbers places) value_local ∷ local slots value_local ∷ ls

-- the same once they lie somewhere.
abbrev store_env : Blocks → List (Ty × ℕ) → List (Ty × ℕ)
store_env l E =
    (number, l.0) ∷ (number, l.1.0) ∷ (numbers most_nodes, l.1.1.0) ∷ (numbers places, l.1.1.1.0) ∷ (numbers places, l.1.1.1.1.0)
    ∷ (numbers places, l.1.1.1.1.1.0) ∷ (numbers places, l.1.1.1.1.1.1.0) ∷ (slots, l.1.1.1.1.1.1.1) ∷ E

-- A field of the store behind the first parameter.
abbrev field_at : ℕ → Place
field_at k = place 1 (deref S'.mir ∷ field k ∷ [])

-- The code that fills the locals from n on.
abbrev lending_code : ℕ → Body → Body
lending_code n rest =
    seq (assign (place n []) (rv_opd (copy (field_at 0)))) (seq (assign (place (n + 1) []) (rv_opd (copy (field_at 1))))
    (seq (assign (place (n + 2) []) (addr_of (field_at 2))) (seq (assign (place (n + 3) []) (addr_of (field_at 3)))
    (seq (assign (place (n + 4) []) (addr_of (field_at 4))) (seq (assign (place (n + 5) []) (addr_of (field_at 5)))
    (seq (assign (place (n + 6) []) (addr_of (field_at 6))) (seq (assign (place (n + 7) []) (rv_opd (copy (field_at 7)))) rest)))))))

-- The operands that pass them on, before others.
abbrev store_opds : ℕ → List Operand → List Operand
store_opds n xs =
    copy (place n []) ∷ copy (place (n + 1) []) ∷ copy (place (n + 2) []) ∷ copy (place (n + 3) []) ∷ copy (place (n + 4) []) ∷ copy (place (n + 5) [])
    ∷ copy (place (n + 6) []) ∷ copy (place (n + 7) []) ∷ xs

abbrev store_opd_vals : (b o : ℕ) (h : Store) → List Val → List Val
store_opd_vals b o h vs =
    vint w32 h.plan ∷ vint w32 h.clock ∷ vptr b (o + counts_at) ∷ vptr b (o + keys_at) ∷ vptr b (o + kinds_at) ∷ vptr b (o + values_at)
    ∷ vptr b (o + stamps_at) ∷ slots_val h ∷ vs

module _ {M : Type 1} {𝓤 : Ura M} (𝓛 : Logic 𝓤) where
  open 𝓛 use {H}

  abbrev local_at : Env 𝓤 H → ℕ → Ty × ℕ
  local_at E i = get_or E i (no_local 𝓤 H)

  abbrev locals_from : Env 𝓤 H → ℕ → List (Ty × ℕ)
  locals_from E n =
      local_at E n ∷ local_at E (n + 1) ∷ local_at E (n + 2) ∷ local_at E (n + 3) ∷ local_at E (n + 4) ∷ local_at E (n + 5) ∷ local_at E (n + 6)
      ∷ local_at E (n + 7) ∷ []

  -- The locals from n on are these.
  abbrev Lie : Env 𝓤 H → ℕ → Blocks → Type 0
  Lie E n l = locals_from E n ≡ store_env l []

  lies : (E : Env 𝓤 H) (n : ℕ) (l : Blocks) → Lie E n l → (i : ℕ) → get_or (locals_from E n) i (no_local 𝓤 H) ≡ get_or (store_env l []) i (no_local 𝓤 H)
  lies E n l lie i = ap (λ (ls : List (Ty × ℕ)). get_or ls i (no_local 𝓤 H)) lie

  -- Room for locals; locals that hold values. Each has its end beside it.
  abbrev rooms_of : List (Ty × ℕ) → List (Item 𝓤)
  rooms_of [] = []
  rooms_of (e ∷ E) = ‵ (froom e.0 e.1 zero) ∷ ‵ (fdies e.0 e.1) ∷ rooms_of E

  abbrev cells_of : List (Ty × ℕ) → List Val → List (Item 𝓤)
  cells_of [] vs = []
  cells_of (e ∷ E) [] = []
  cells_of (e ∷ E) (v ∷ vs) = ‵ (fat full_share e.0 e.1 zero v) ∷ ‵ (fdies e.0 e.1) ∷ cells_of E vs

  abbrev roomed : Blocks → List (Item 𝓤)
  roomed l = rooms_of (store_env l [])

  abbrev held : (b o : ℕ) (h : Store) → Blocks → List (Item 𝓤)
  held b o h l = cells_of (store_env l []) (store_opd_vals b o h [])

  -- Room for them, and they once they are filled: one entry of a context.
  pub Rooms : Blocks → Item 𝓤
  Rooms l = raw (⋆ 𝓛 (roomed l))

  pub Filled : (b o : ℕ) (h : Store) → Blocks → Item 𝓤
  Filled b o h l = raw (⋆ 𝓛 (held b o h l))

module _ {M : Type 1} {𝓤 : Ura M} {𝓛 : Logic 𝓤} {K : Type 0} {Γ : List (Item 𝓤)} where
  -- They are allocated.
  open 𝓛 use {H}

  pub alloc_store : K → {ls : List Local} {Kt : Env 𝓤 H → Goal 𝓤 H}
      → ((l : Blocks) → Seq K 𝓛 (Rooms 𝓛 l ∷ Γ) (allocs ls (λ E. Kt (store_env l E)))) → Seq K 𝓛 Γ (allocs (store_locals ls) Kt)
  unfolding Rooms
  alloc_store t {ls} {Kt} k = record { prf = script.prf }
    where
      script : Sq 𝓛 Γ (allocs (store_locals ls) Kt)
      script =
          alloc1 ! (λ l₁. alloc1 ! (λ l₂. alloc1 ! (λ l₃. alloc1 ! (λ l₄. alloc1 ! (λ l₅. alloc1 ! (λ l₆. alloc1 ! (λ l₇. alloc1 ! (λ l₈.
          move ! (14 ∷ 15 ∷ 12 ∷ 13 ∷ 10 ∷ 11 ∷ 8 ∷ 9 ∷ 6 ∷ 7 ∷ 4 ∷ 5 ∷ 2 ∷ 3 ∷ 0 ∷ 1 ∷ []) $
          cut (roomed 𝓛 (l₁, (l₂, (l₃, (l₄, (l₅, (l₆, (l₇, l₈)))))))) (Rooms 𝓛 (l₁, (l₂, (l₃, (l₄, (l₅, (l₆, (l₇, l₈))))))) ∷ []) Γ (id⊢ 𝓤 _) $
          by ! (k (l₁, (l₂, (l₃, (l₄, (l₅, (l₆, (l₇, l₈)))))))).prf))))))))

  -- At the end they are freed.
  pub free_store : K → (h : Store) (b o : ℕ) {E : Env 𝓤 H} {g : Goal 𝓤 H} {l : Blocks} → Step K 𝓛 Γ (frees E g) (Filled 𝓛 b o h l ∷ Γ) (frees (store_env l E) g)
  unfolding Filled
  free_store t h b o {E} {g} {l} = step (λ s. record { prf = (script s).prf })
    where
      script : Seq K 𝓛 Γ (frees E g) → Sq 𝓛 (Filled 𝓛 b o h l ∷ Γ) (frees (store_env l E) g)
      script s =
          cut (Filled 𝓛 b o h l ∷ []) (held 𝓛 b o h l) Γ (id⊢ 𝓤 _) $
          forget ! 0 refl $ free1 ! $ forget ! 0 refl $ free1 ! $ forget ! 0 refl $ free1 ! $ forget ! 0 refl $ free1 ! $
          forget ! 0 refl $ free1 ! $ forget ! 0 refl $ free1 ! $ forget ! 0 refl $ free1 ! $ forget ! 0 refl $ free1 ! $ by ! s.prf

module _ {M : Type 1} {𝓤 : Ura M} {𝓛 : Logic 𝓤} {K : Type 0} {Γ : List (Item 𝓤)} {E : Env 𝓤 𝓛.H} where
  -- a local that is known to lie somewhere is found there, and what it points to
  open 𝓛 use {H}

  finds : K → {n : ℕ} {τ : Ty} {l : ℕ} → get_or E n (no_local 𝓤 H) ≡ (τ, l) → Finds K 𝓛 Γ E (place n []) (τ, l, zero)
  finds t {n} e = subst (λ (c : Ty × ℕ). Finds K 𝓛 Γ E (place n []) (c.0, c.1, zero)) e (from t (stop t))

  reaches : K → {n : ℕ} {τ σ : Ty} {l b o : ℕ} {st : List PStep} {sp : Spot 𝓤 H} → get_or E n (no_local 𝓤 H) ≡ (τ, l) → Reads K 𝓛 Γ τ l zero (vptr b o)
      → Walks K 𝓛 Γ E (σ, b, o) st sp → Finds K 𝓛 Γ E (place n (deref σ ∷ st)) sp
  reaches t {n} {τ} {σ} {l} {b} {o} e r w = from t (hop t (subst (λ (c : Ty × ℕ). Reads K 𝓛 Γ c.0 c.1 zero (vptr b o)) (sym e) r) w)

module _ {M : Type 1} {𝓤 : Ura M} {𝓛 : Logic 𝓤} {K : Type 0} {Γ : List (Item 𝓤)} {C : Calls 𝓤 𝓛.H} {Λ : Loops 𝓤 𝓛.H} {E : Env 𝓤 𝓛.H} {rest : Body} {q : Post 𝓤 𝓛.H} {κ : Lft} {p : Share} {τ : Ty} {s : ℕ} {l : Blocks} where
  -- They are filled: the columns are lent where they lie, the borrow is looked into for plan, clock and slots, and shut again.
  open 𝓛 use {H}

  pub lending : K → (h : Store) (b o n : ℕ) → get_or E 1 (no_local 𝓤 H) ≡ (τ, s) → Lie 𝓛 E n l
      → (Is S.the_row h (store_val h ∷ []) → Seq K 𝓛 (‵ (flft κ p) ∷ Lent 𝓛 κ b o h ∷ ‵ (Held κ b o h) ∷ ‵ (fat full_share τ s zero (vptr b o)) ∷ Filled 𝓛 b o h l ∷ Γ) (runs C Λ E rest q))
      → Seq K 𝓛 (‵ (Held κ b o h) ∷ ‵ (flft κ p) ∷ ‵ (fat full_share τ s zero (vptr b o)) ∷ Rooms 𝓛 l ∷ Γ) (runs C Λ E (lending_code n rest) q)
  unfolding Rooms Filled
  lending t h b o n at lie k = record { prf = script.prf }
    where
      script : Sq 𝓛 (‵ (Held κ b o h) ∷ ‵ (flft κ p) ∷ ‵ (fat full_share τ s zero (vptr b o)) ∷ Rooms 𝓛 l ∷ Γ) (runs C Λ E (lending_code n rest) q)
      script =
          use2 𝓛 (later (AllLent 𝓛 κ p b o h)) (lends 𝓛 κ p b o h) $ await ! tt $
          split ! $ move ! (1 ∷ []) $ split ! $
          -- [what the & holds; the token; the columns' &; the pointer; the rooms]
          looks ! tt S.the_row (LL.copied S.the_type S'.the_copy 𝓛).opens h b o (λ r vs. spelt ! S.the_row (Is S.the_row) (shows 𝓛 S.the_row) (LL.vals S.the_type S'.the_laws) (LL.tells S.the_type S'.the_laws) r h vs b o $
          move ! (1 ∷ []) $ peeks ! S.the_row (Is S.the_row) (shows 𝓛 S.the_row) h (LL.vals S.the_type S'.the_laws h) (λ was. move ! (1 ∷ 0 ∷ []) $
          use1 𝓛 (‵ (fat r S'.mir b o (store_val h))) (𝓛.laws.raw_at r S'.mir b o (store_val h)) $ move ! (6 ∷ []) $ cut (Rooms 𝓛 l ∷ []) (roomed 𝓛 l) _ (id⊢ 𝓤 _) $
          -- [the rooms, each with its end; a share of the store's cell; what a Store owns; what shuts it; what the & holds; the columns' &; the pointer]
          assigns ! (of_opd ! (load ! (reaches ! at (look ! 21 refl) (fld ! refl (stop !))) (look_in ! 16 (sub ! 0 refl (whole !))))) (finds ! (lies 𝓛 E n l lie 0)) (init ! 0 refl (tt, record { fits = (LL.owed S.the_type S'.the_laws h _ was).0.1 })) $
          assigns ! (of_opd ! (load ! (reaches ! at (look ! 21 refl) (fld ! refl (stop !))) (look_in ! 16 (sub ! 1 refl (whole !))))) (finds ! (lies 𝓛 E n l lie 1)) (init ! 2 refl (tt, record { fits = (LL.owed S.the_type S'.the_laws h _ was).1.0.1 })) $
          assigns ! (addr ! (reaches ! at (look ! 21 refl) (fld ! refl (stop !)))) (finds ! (lies 𝓛 E n l lie 2)) (init ! 4 refl (tt, tt)) $
          assigns ! (addr ! (reaches ! at (look ! 21 refl) (fld ! refl (stop !)))) (finds ! (lies 𝓛 E n l lie 3)) (init ! 6 refl (tt, tt)) $
          assigns ! (addr ! (reaches ! at (look ! 21 refl) (fld ! refl (stop !)))) (finds ! (lies 𝓛 E n l lie 4)) (init ! 8 refl (tt, tt)) $
          assigns ! (addr ! (reaches ! at (look ! 21 refl) (fld ! refl (stop !)))) (finds ! (lies 𝓛 E n l lie 5)) (init ! 10 refl (tt, tt)) $
          assigns ! (addr ! (reaches ! at (look ! 21 refl) (fld ! refl (stop !)))) (finds ! (lies 𝓛 E n l lie 6)) (init ! 12 refl (tt, tt)) $
          assigns ! (of_opd ! (load ! (reaches ! at (look ! 21 refl) (fld ! refl (stop !))) (look_in ! 16 (sub ! 7 refl (whole !))))) (finds ! (lies 𝓛 E n l lie 7)) (init ! 14 refl ((Array-Lawful 𝓛 Q.the_row (LL.lawful Q.the_type Q'.the_laws 𝓛) slot_count).typed h.slots _ (slots_are h was)).0) $
          cut (held 𝓛 b o h l) (Filled 𝓛 b o h l ∷ []) _ (id⊢ 𝓤 _) $ move ! (1 ∷ 2 ∷ 3 ∷ []) $
          use1 𝓛 (‵ (cell_at r (S.the_row).mir (store_val h ∷ []) b o)) (𝓛.laws.at_raw r S'.mir b o (store_val h)) $ shuts ! tt S.the_row r h (store_val h ∷ []) b o $
          -- [the token; the locals; what the & holds; the columns' &; the pointer]
          move ! (0 ∷ 3 ∷ 2 ∷ 4 ∷ 1 ∷ []) $ by ! (k was).prf))

module _ {M : Type 1} {𝓤 : Ura M} {𝓛 : Logic 𝓤} {K : Type 0} {Γ : List (Item 𝓤)} {E : Env 𝓤 𝓛.H} {l : Blocks} where
  -- They are passed on, and others after them.
  pub passes_store : K → (h : Store) (b o n : ℕ) {i j k : Item 𝓤} {xs : List Operand} {vs : List Val} → Lie 𝓛 E n l
      → Opds K 𝓛 (i ∷ j ∷ k ∷ Filled 𝓛 b o h l ∷ Γ) E xs vs → Opds K 𝓛 (i ∷ j ∷ k ∷ Filled 𝓛 b o h l ∷ Γ) E (store_opds n xs) (store_opd_vals b o h vs)
  unfolding Filled
  passes_store t h b o n {i} {j} {k} {xs} {vs} lie others =
      and_then t (passed (load ! (finds ! (lies 𝓛 E n l lie 0)) (look ! 0 refl))) (and_then t (passed (load ! (finds ! (lies 𝓛 E n l lie 1)) (look ! 2 refl)))
      (and_then t (passed (load ! (finds ! (lies 𝓛 E n l lie 2)) (look ! 4 refl))) (and_then t (passed (load ! (finds ! (lies 𝓛 E n l lie 3)) (look ! 6 refl)))
      (and_then t (passed (load ! (finds ! (lies 𝓛 E n l lie 4)) (look ! 8 refl))) (and_then t (passed (load ! (finds ! (lies 𝓛 E n l lie 5)) (look ! 10 refl)))
      (and_then t (passed (load ! (finds ! (lies 𝓛 E n l lie 6)) (look ! 12 refl))) (and_then t (passed (load ! (finds ! (lies 𝓛 E n l lie 7)) (look ! 14 refl))) others)))))))
    where
      passed : {x : Operand} {v : Val} → Opd (Go {0}) 𝓛 (held 𝓛 b o h l ++ (i ∷ j ∷ k ∷ Γ)) E x v → Opd K 𝓛 (i ∷ j ∷ k ∷ Filled 𝓛 b o h l ∷ Γ) E x v
      passed {x} {v} read = record {
        go = λ Kt after. via 𝓤 (⋆ 𝓛 (held 𝓛 b o h l ++ (i ∷ j ∷ k ∷ Γ)))
            (qed 𝓛 (i ∷ j ∷ k ∷ Filled 𝓛 b o h l ∷ Γ) ∵ move ! (3 ∷ []) $ cut (Filled 𝓛 b o h l ∷ []) (held 𝓛 b o h l) (i ∷ j ∷ k ∷ Γ) (id⊢ 𝓤 _) $ done !)
            (read.go Kt (via 𝓤 (⋆ 𝓛 (i ∷ j ∷ k ∷ Filled 𝓛 b o h l ∷ Γ))
            (qed 𝓛 (held 𝓛 b o h l ++ (i ∷ j ∷ k ∷ Γ)) ∵ cut (held 𝓛 b o h l) (Filled 𝓛 b o h l ∷ []) (i ∷ j ∷ k ∷ Γ) (id⊢ 𝓤 _) $ move ! (1 ∷ 2 ∷ 3 ∷ []) $ done !) after));
      }

module _ {M : Type 1} {𝓤 : Ura M} (𝓛 : Logic 𝓤) (κ : Lft) (b o : ℕ) (h : Store) (Tokens : Item 𝓤) (rest : Fml) where
  -- What the worker asks: the tokens, what its parameters own, and that the columns have their lengths.
  abbrev Asked : SProp 𝓤
  Asked = sep 𝓤 (sep 𝓤 (mean 𝓛 Tokens) (sem 𝓛 (OwnsStore (OwnRefs κ b o h) h rest)))
      (fact 𝓤 (Sized h.counts h.keys h.kinds h.values h.stamps))

  asks : Is S.the_row h (store_val h ∷ []) → ent 𝓤 (⋆ 𝓛 (Tokens ∷ Lent 𝓛 κ b o h ∷ ‵ rest ∷ [])) Asked
  asks is = qed 𝓛 (Tokens ∷ Lent 𝓛 κ b o h ∷ ‵ rest ∷ []) ∵ says ! (sized h is) $ frame ! $ by ! (owns_store 𝓛 κ b o h is rest)

module _ {M : Type 1} {𝓤 : Ura M} {𝓛 : Logic 𝓤} {K : Type 0} {Γ : List (Item 𝓤)} {C : Calls 𝓤 𝓛.H} {Λ : Loops 𝓤 𝓛.H} {E : Env 𝓤 𝓛.H} {τ₀ τ₁ : Ty} {l₀ l₁ : ℕ} {v : Val} {i j : Item 𝓤} {f : Callee} {xs : List Operand} {Kf : Val → SProp 𝓤} {Tokens : Item 𝓤} {rest : Fml} where
  -- The worker is called, and what it answers is the answer. The answer's local and the pointer's are freed; what is left is to free the others,
  -- with the tokens, the answer and what the worker said.
  open 𝓛 use {H}

  pub calling : K → (κ : Lft) (h : Store) (b o : ℕ) → Is S.the_row h (store_val h ∷ []) → FmC 𝓤 H 𝓛.laws C → (c : Contract 𝓤) → Triple 𝓤 (C f) c → (x : c.Ghost)
      → ent 𝓤 (Asked 𝓛 κ b o h Tokens rest) (c.pre x) → (R : RattleType) → Lawful 𝓛 R → R.mir ≡ τ₀ ∷ [] → (Said : R.Denot → Item 𝓤)
      → ((u : Val) → ent 𝓤 (c.post x u) (mean 𝓛 (later (some (λ (r : R.Denot). (Tokens ⊛ ‵ (R.own_val r (u ∷ []))) ⊛ Said r)))))
      → Opds K 𝓛 (raw (c.pre x) ∷ i ∷ ‵ (fat full_share τ₁ l₁ zero v) ∷ j ∷ ‵ (froom τ₀ l₀ zero) ∷ ‵ (fdies τ₀ l₀) ∷ ‵ (fdies τ₁ l₁) ∷ Γ) ((τ₀, l₀) ∷ (τ₁, l₁) ∷ E) xs (c.args x)
      → ((u : Val) (r : R.Denot) → Seq K 𝓛 (Tokens ∷ ‵ (R.own_val r (u ∷ [])) ∷ Said r ∷ i ∷ j ∷ Γ) (frees E (prop (Kf u))))
      → Seq K 𝓛 (‵ rest ∷ Tokens ∷ Lent 𝓛 κ b o h ∷ i ∷ ‵ (fat full_share τ₁ l₁ zero v) ∷ j ∷ ‵ (froom τ₀ l₀ zero) ∷ ‵ (fdies τ₀ l₀) ∷ ‵ (fdies τ₁ l₁) ∷ Γ)
      (runs C Λ ((τ₀, l₀) ∷ (τ₁, l₁) ∷ E) (seq (call f xs (place 0 [])) return) (at_ret ((τ₀, l₀) ∷ (τ₁, l₁) ∷ E) Kf))
  calling t κ h b o was fm c known x asked R lawful one Said back os k = record { prf = script.prf }
    where
      typed : (r : R.Denot) (u : Val) → Is R r (u ∷ []) → T (has_ty τ₀ u) × WT u
      typed r u is = (subst (λ (τs : List Ty). Typed τs (u ∷ [])) one (lawful.typed r (u ∷ []) is)).0

      script : Sq 𝓛 (‵ rest ∷ Tokens ∷ Lent 𝓛 κ b o h ∷ i ∷ ‵ (fat full_share τ₁ l₁ zero v) ∷ j ∷ ‵ (froom τ₀ l₀ zero) ∷ ‵ (fdies τ₀ l₀) ∷ ‵ (fdies τ₁ l₁) ∷ Γ)
          (runs C Λ ((τ₀, l₀) ∷ (τ₁, l₁) ∷ E) (seq (call f xs (place 0 [])) return) (at_ret ((τ₀, l₀) ∷ (τ₁, l₁) ∷ E) Kf))
      script =
          move ! (1 ∷ 2 ∷ 0 ∷ []) $ use3 𝓛 (raw (c.pre x)) (via 𝓤 (Asked 𝓛 κ b o h Tokens rest) (asks 𝓛 κ b o h Tokens rest was) asked) $
          calls_at ! fm c known x (record { go = os.go }) (λ u.
          use1 𝓛 (later (some (λ (r : R.Denot). (Tokens ⊛ ‵ (R.own_val r (u ∷ []))) ⊛ Said r))) (back u) $ await ! tt $ pick ! (λ r.
          split ! $ split ! $ move ! (1 ∷ []) $ peeks ! R (Is R) (shows 𝓛 R) r (u ∷ []) (λ is.
          -- [the answer; the tokens; what is said; i; the pointer; j; room for the answer; its end; the pointer's end]
          land ! (from ! (stop !)) (init ! 6 refl (typed r u is)) $ returns ! (look ! 6 refl) $ forget ! 6 refl $ forget ! 4 refl $
          move ! (6 ∷ 7 ∷ []) $ free1 ! $ move ! (4 ∷ 6 ∷ []) $ free1 ! $ move ! (1 ∷ 0 ∷ []) $ by ! (k u r).prf)))

module _ {M : Type 1} {𝓤 : Ura M} {𝓛 : Logic 𝓤} {K : Type 0} {Γ : List (Item 𝓤)} {G : Goal 𝓤 𝓛.H} where
  -- What is said at exit of plan, clock, the columns and the slots is let go; what is said of the other parameters is left.
  pub drop_store : K → {P₁ P₂ P₃ P₄ P₅ P₆ P₇ P₈ Q : Fml} → Step K 𝓛 (‵ Q ∷ Γ) G (‵ (fsep P₁ (fsep P₂ (fsep P₃ (fsep P₄ (fsep P₅ (fsep P₆ (fsep P₇ (fsep P₈ Q)))))))) ∷ Γ) G
  drop_store t = step (λ s. fsplit t $ drop t $ fsplit t $ drop t $ fsplit t $ drop t $ fsplit t $ drop t $ fsplit t $ drop t $ fsplit t $ drop t $ fsplit t $ drop t $
      fsplit t $ drop t $ s)
