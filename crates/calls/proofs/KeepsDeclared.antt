-- Every sequence of public calls with numbers of their declared types keeps a store of the declared type: so what it saves loads as itself,
-- and no image that it saves is the beginning of another.
use mathlib.Core.Path.{◌≡◌, refl, sym, ap, subst}
use mathlib.Core.Bool.{Bool, true, false, cond}
use mathlib.Core.Logic.{◌⊎◌, inl, inr}
use mathlib.Core.List.Memᴰ
use mathlib.Core.List.{List, [], ◌∷◌, ◌++◌, Memᴰ}
use mathlib.Core.Option.{Option, none, some}
use Prim.Native.Nat.{ℕ, ◌<◌, ◌≤◌}
use native.Mathlib.Omega.{arith}
use native.Mathlib.Decide.{dec_lt}
use lib.Dec.{eqb}
use lib.ListN.{length, take, get_or-eq_default}
use Rattle.lists.proofs.Truths.{bool?}
use Rattle.lists.proofs.Options.{option?, not_none_and_some, one_some}
use Rattle.plan.specs.Plan.{size}
use Rattle.store.specs.declared.Copy.{Copy}
use Rattle.store.specs.declared.Store.{Store}
use Rattle.store.specs.Copies.{kind_number, value_held, copy, no_copy}
use Rattle.store.specs.Copies.Kind.{withdrawn, result}
use Rattle.store.specs.State.{State, node_at, copy_at, line}
use Rattle.store.specs.StateRules.{HeldAt}
use Rattle.store.specs.Layout.{plan_of, state_of}
use Rattle.store.specs.StoreRules.{good_store}
use Rattle.store.proofs.KindLaws.{result_holds, withdrawn_holds}
use Rattle.store.proofs.Laying.{state_past}
use Rattle.store.proofs.Ruling.{good_rules}
use Rattle.store.proofs.Lifting.{plan_good, state_good, good_back}
use Rattle.steps.proofs.RulesOnLines.{held-line, line-held}
use Rattle.image_writing.specs.Image.{image}
use Rattle.trips.specs.Trips.{Declared, loaded_as_itself}
use Rattle.image_loading.specs.Loading.{load_outcome}
use Rattle.image.specs.Promises.{save_buffer}
use Rattle.copies.proofs.CopyTrips.{Small, small_none}
use Rattle.trips.proofs.ImageReads.{nodes_writable}
use Rattle.trips.proofs.RoundTrips.{saved_loads, buffer_loads, images_apart, stored_declared}
use Rattle.schedule.specs.declared.Step.{Step}
use Rattle.schedule.specs.Schedule.{ENTER, WITHDRAW, CARRY, START, STEP, CANCEL}
use Rattle.theory.specs.Events.{Event, option_list, held}
use Rattle.theory.specs.Events.Event.{enters, carries, starts, steps, cancels, asks}
use Rattle.theory.specs.Paper.{History, InHistory, Multicopy}
use Rattle.theory.proofs.Invariants.{history_in, member_option, line_in_held, held_in_line}
use Rattle.calls.specs.PublicCalls.{Call, accepted, store_after, store_after_all}
use Rattle.calls.specs.PublicCalls.Call.{fresh, load, enter, carry, start, step, cancel, reads, run}
use Rattle.calls.specs.Following.{event_of_record, event_of, on_event, replacement, entered_by, history_with, history}
use Rattle.calls.specs.DeclaredNumbers.{DeclaredStep, DeclaredCall, DeclaredCalls}
use Rattle.calls.proofs.Follows.{event_on, event_on_bad, replaced_by_lem, calls_keep_good}
use Rattle.calls.proofs.Histories.{store_story}

-- ---- stores

-- Every copy of a history has a key and a value of 32 bits.
abbrev pub SmallIn : History → Type 0
SmallIn h = (x : Copy) → Memᴰ x h → Small x

module _ (z : Store) (good : good_store z ≡ true) where
  abbrev s : State
  s = state_of z

  -- A node that holds a copy is one of the plan's.
  held_inside : (n i : ℕ) → HeldAt s n i → n < size (plan_of z)
  held_inside n i h = go (dec_lt n (size (plan_of z)))
    where
      go : Dec (n < size (plan_of z)) → n < size (plan_of z)
      go (yes l) = l
      go (no l) =
          absurd (omega (arith, ap length (state_past z n (omega arith))))

  -- A good store is of the declared type exactly when the copies that it holds are small.
  pub declared_small : Declared z → SmallIn (held (state_of z))
  declared_small d x m =
      let v = held_in_line (plan_of z) (plan_good z good) s (state_good z good) x m in
      let w = line-held (plan_of z) s x.key v.0 x v.1 in
      let c = (nodes_writable z (good_rules z good) d).copies v.0 w.0 (held_inside v.0 w.0 w.1) w.1 in
      subst Small w.2 (record { key = c.key; value = c.value })

  pub small_declared : SmallIn (held (state_of z)) → Declared z
  small_declared small = subst Declared (good_back z good) (stored_declared z.plan s each)
    where
      each : (n i : ℕ) → Small (copy_at s n i)
      each n i = go (dec_lt i (length (node_at s n)))
        where
          go : Dec (i < length (node_at s n)) → Small (copy_at s n i)
          go (yes h) =
              small (copy_at s n i)
              (line_in_held (plan_of z) (plan_good z good) s (state_good z good) (copy_at s n i).key n (copy_at s n i)
              (held-line (plan_of z) s (state_good z good) n i h))
          go (no h) =
              let past : length (node_at s n) ≤ i = omega arith in
              subst Small (sym (get_or-eq_default (node_at s n) no_copy past)) small_none

-- ---- one call

-- The numbers that an event puts into a copy.
abbrev SmallEvent : Event → Type 0
SmallEvent (enters kind k v) = (t : ℕ) → Small (copy k (kind_number kind) (value_held kind v) t)
SmallEvent (carries n i) = Unit {0}
SmallEvent (starts k) = Unit {0}
SmallEvent (steps i) = Unit {0}
SmallEvent (cancels i) = Unit {0}
SmallEvent asks = Unit {0}

made : (b : Bool) (y x : Copy) → cond b (some y) none ≡ some x → y ≡ x
made true y x q = one_some refl q
made false y x q = absurd (not_none_and_some refl q)

entered_small : (e : Event) → SmallEvent e → (z : Store) (x : Copy) → entered_by e z ≡ some x → Small x
unfolding entered_by
entered_small (enters kind k v) small z x q =
    subst Small (made (accepted (on_event (enters kind k v) z).answer) (copy k (kind_number kind) (value_held kind v) z.clock) x q)
    (small z.clock)
entered_small (carries n i) small z x q = absurd (not_none_and_some refl q)
entered_small (starts k) small z x q = absurd (not_none_and_some refl q)
entered_small (steps i) small z x q = absurd (not_none_and_some refl q)
entered_small (cancels i) small z x q = absurd (not_none_and_some refl q)
entered_small asks small z x q = absurd (not_none_and_some refl q)

small_record : (r : Step) → DeclaredStep r → SmallEvent (event_of_record r)
unfolding event_of_record
small_record r d =
    go (eqb r.number ENTER) (eqb r.number WITHDRAW) (eqb r.number CARRY) (eqb r.number START) (eqb r.number STEP)
    (eqb r.number CANCEL)
  where
    go : (a b c e f g : Bool)
        → SmallEvent
        (cond a (enters result r.x r.y)
        (cond b (enters withdrawn r.x 0)
        (cond c (carries r.x r.y) (cond e (starts r.x) (cond f (steps r.x) (cond g (cancels r.x) asks))))))
    go true b c e f g = λ t. record { key = d.0; value = omega (arith, d.1, result_holds r.y) }
    go false true c e f g = λ t. record { key = d.0; value = omega (arith, withdrawn_holds 0) }
    go false false true e f g = tt
    go false false false true f g = tt
    go false false false false true g = tt
    go false false false false false true = tt
    go false false false false false false = tt

small_call : (c : Call) → DeclaredCall c → SmallEvent (event_of c)
unfolding event_of
small_call (enter kind k v) d = λ t. record { key = d.0; value = d.1 }
small_call (run list place) d = small_record _ d
small_call (fresh plan) d = tt
small_call (load bytes) d = tt
small_call (carry n i) d = tt
small_call (start k) d = tt
small_call (step i) d = tt
small_call (cancel i) d = tt
small_call (reads r) d = tt

-- What a call adds to a history is small.
history_with_lem : (c : Call) → DeclaredCall c → (z : Store) (h : History) → SmallIn h
    → SmallIn (history_with (replacement c) (entered_by (event_of c) z) h)
history_with_lem c d z h small = go (option? (replacement c))
  where
    go : (replacement c ≡ none) ⊎ ((y : Store) × (replacement c ≡ some y))
        → SmallIn (history_with (replacement c) (entered_by (event_of c) z) h)
    go (inl e) =
        subst (λ (o : Option Store). SmallIn (history_with o (entered_by (event_of c) z) h)) (sym e)
        (λ x m. at x (Memᴰ.append_cases h m))
      where
        at : (x : Copy) → Memᴰ x h ⊎ Memᴰ x (option_list (entered_by (event_of c) z)) → Small x
        at x (inl m) = small x m
        at x (inr m) = entered_small (event_of c) (small_call c d) z x (member_option (entered_by (event_of c) z) x m)
    go (inr w) =
        subst (λ (o : Option Store). SmallIn (history_with o (entered_by (event_of c) z) h)) (sym w.1)
        (let r = replaced_by_lem c w.0 w.1 in declared_small w.0 r.good (r.declared d))

-- ---- sequences

-- The history of a sequence is small, from any small one.
pub history_small : (cs : List Call) → DeclaredCalls cs → (z : Store) (h : History) → SmallIn h → SmallIn (history cs z h)
unfolding history
history_small [] ds z h small = small
history_small (c ∷ cs) ds z h small =
    history_small cs (λ d m. ds d (Memᴰ.tail m)) (store_after c z) (history_with (replacement c) (entered_by (event_of c) z) h)
    (history_with_lem c (ds c (Memᴰ.head refl)) z h small)

-- A good store of the declared type stays one, since what it holds is in its history;
good_stays_declared : (cs : List Call) → DeclaredCalls cs → (z : Store) → good_store z ≡ true → Declared z → Declared (store_after_all cs z)
good_stays_declared cs ds z good d =
    small_declared y good_y
    (λ x m.
    let v = held_in_line (plan_of y) (plan_good y good_y) (state_of y) (state_good y good_y) x m in
    history_small cs ds z (held (state_of z)) (declared_small z good d) x
    (history_in h x.key (line (state_of y) x.key v.0) x (structure.invariant_3 v.0 x.key) v.1).1)
  where
    y : Store
    y = store_after_all cs z

    good_y : good_store y ≡ true
    good_y = calls_keep_good cs z good

    h : History
    h = history cs z (held (state_of z))

    structure : Multicopy (plan_of y) (state_of y) (InHistory h)
    structure = store_story cs z good

-- and so does any other.
call_keeps_declared : (c : Call) → DeclaredCall c → (z : Store) → Declared z → Declared (store_after c z)
call_keeps_declared c d z declared = go (bool? (good_store z)) (option? (replacement c))
  where
    go : (good_store z ≡ true) ⊎ (good_store z ≡ false) → (replacement c ≡ none) ⊎ ((y : Store) × (replacement c ≡ some y))
        → Declared (store_after c z)
    go w (inr x) = let r = replaced_by_lem c x.0 x.1 in rw (r.leaves z) (r.declared d)
    go (inr bad) (inl e) = rw (event_on c z e, event_on_bad (event_of c) z bad) declared
    go (inl good) (inl e) = unfold store_after_all in good_stays_declared (c ∷ []) (λ b m. subst DeclaredCall (sym (Memᴰ.eq_of_singleton m)) d) z good declared

pub calls_keep_declared : (cs : List Call) → DeclaredCalls cs → (z : Store) → Declared z → Declared (store_after_all cs z)
unfolding store_after_all
calls_keep_declared [] ds z declared = declared
calls_keep_declared (c ∷ cs) ds z declared =
    calls_keep_declared cs (λ d m. ds d (Memᴰ.tail m)) (store_after c z) (call_keeps_declared c (ds c (Memᴰ.head refl)) z declared)

-- ---- images of stores that calls have reached

module _ (z : Store) (good : good_store z ≡ true) (declared : Declared z) (cs : List Call) (ds : DeclaredCalls cs) where
  -- Saved, it loads as itself with all slots idle, from the buffer too.
  pub reached_loads : load_outcome (image (store_after_all cs z))
      ≡ loaded_as_itself (store_after_all cs z)
  reached_loads = saved_loads (store_after_all cs z) (calls_keep_good cs z good) (calls_keep_declared cs ds z declared)

  pub reached_buffer_loads : (before : List ℕ) → length (image (store_after_all cs z)) ≤ length before
      → load_outcome (take (length (image (store_after_all cs z))) (save_buffer (store_after_all cs z) before))
      ≡ loaded_as_itself (store_after_all cs z)
  reached_buffer_loads = buffer_loads (store_after_all cs z) (calls_keep_good cs z good) (calls_keep_declared cs ds z declared)

  -- Its image is not the beginning of another's.
  pub reached_images_apart : (y : Store) → good_store y ≡ true → Declared y → (es : List Call) → DeclaredCalls es → (rest : List ℕ)
      → image (store_after_all cs z) ++ rest ≡ image (store_after_all es y) → rest ≡ []
  reached_images_apart y good_y declared_y es fs rest e =
      images_apart (store_after_all cs z) (store_after_all es y) (calls_keep_good cs z good) (calls_keep_declared cs ds z declared)
      (calls_keep_good es y good_y) (calls_keep_declared es fs y declared_y) rest e
