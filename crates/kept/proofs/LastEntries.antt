-- A line's current result after calls through which a store goes on: the last copy of it that they entered, or what it was before; and the
-- entries by their answers.
use mathlib.Core.Path.{◌≡◌, refl, sym, ap, ◌∙◌, subst}
use mathlib.Core.Bool.{Bool, true, false, cond}
use mathlib.Core.List.Memᴰ
use mathlib.Core.List.{List, [], ◌∷◌, ◌++◌}
use mathlib.Core.Logic.{◌↔◌, ◌⊎◌, inl, inr}
use mathlib.Core.Option.{Option, none, some}
use Prim.Native.Nat.{ℕ, ◌<◌, ◌≤◌}
use native.Mathlib.Omega.{arith}
use lib.Dec.{eqb}
use borrow.Author.Tests.{eqb-true, eq-eqb}
use Rattle.lists.proofs.Truths.{bool?}
use Rattle.lists.proofs.Options.{option?, not_none_and_some, one_some}
use Rattle.store.specs.declared.Answer.{Answer}
use Rattle.store.specs.declared.Copy.{Copy}
use Rattle.store.specs.declared.Outcome.{Outcome}
use Rattle.store.specs.declared.Store.{Store}
use Rattle.store.specs.Answers.{DONE}
use Rattle.store.specs.Copies.{has_value, Kind, kind_number}
use Rattle.store.specs.Copies.Kind.{withdrawn, result}
use Rattle.store.specs.State.{State, or_else, in_reach}
use Rattle.store.specs.Layout.{plan_of, state_of}
use Rattle.store.specs.StoreRules.{good_store}
use Rattle.store.proofs.KindLaws.{result_valued}
use Rattle.store.proofs.WhichPlan.{plan_numbered_lem}
use Rattle.store.proofs.Lifting.{plan_good, state_good}
use Rattle.theory.specs.Events.{Event, after}
use Rattle.theory.specs.Events.Event.{enters, carries, starts, steps, cancels, asks}
use Rattle.theory.proofs.EventSteps.{entry_stamp, event_clock}
use Rattle.image_writing.specs.Image.{image}
use Rattle.trips.specs.Trips.{Declared, idled}
use Rattle.trips.proofs.RoundTrips.{saved_loads}
use Rattle.page_lines.specs.PageLine.{analytes, key_for}
use Rattle.calls.specs.PublicCalls.{Call, accepted, replaced, store_after, answer_to, store_after_all}
use Rattle.calls.specs.PublicCalls.Call.{load}
use Rattle.calls.specs.Following.{event_of, on_event, entered_by}
use Rattle.calls.specs.Recent.{current_in}
use Rattle.calls.specs.DeclaredNumbers.{DeclaredCall, DeclaredCalls}
use Rattle.calls.proofs.Follows.{acts_as, entry_acts, event_on, event_state, call_keeps_good}
use Rattle.calls.proofs.Histories.{entered_same}
use Rattle.calls.proofs.KeepsDeclared.{calls_keep_declared}
use Rattle.calls.proofs.CurrentResults.{entry-sets, others_leave}
use Rattle.kept.specs.Amended.{
  EachCall,
  Stays,
  StoreGoesOn,
  EntryDone,
  entry_copy,
  EntersCopy,
  EntersLine,
  LeavesSample,
  SampleUntouched,
  NotWithdrawn,
  if_of_line,
  last_entry,
}

-- ---- loading what the store saves

-- A load of what the store saves leaves it with all slots idle.
pub load_own : (z : Store) → good_store z ≡ true → Declared z → (other : Store) → store_after (load (image z)) other ≡ idled z
unfolding store_after
load_own z good declared other = ap (λ (o : Outcome). replaced o other) (saved_loads z good declared)

-- It changes no line's current result,
pub idled-current : (z : Store) (k : ℕ) → current_in (idled z) k ≡ current_in z k
unfolding idled state_of in_reach
idled-current z k = rw same
  where
    same : plan_of (idled z) ≡ plan_of z
    same = plan_numbered_lem (idled z) ∙ sym (plan_numbered_lem z)

-- nor the clock.
idled_clock : (z : Store) → (idled z).clock ≡ z.clock
unfolding idled
idled_clock z = refl

-- ---- a call through which the store goes on

module _ (c : Call) (z : Store) (good : good_store z ≡ true) (declared : Declared z) where
  -- It keeps the numbers of the declared type,
  stays_declared : DeclaredCall c → Declared (store_after c z)
  stays_declared d =
      unfold store_after_all in calls_keep_declared (c ∷ []) (λ b m. subst DeclaredCall (sym (Memᴰ.eq_of_singleton m)) d) z declared

  -- never puts the clock back,
  stays_clock : Stays c z → z.clock ≤ (store_after c z).clock
  unfolding state_of
  stays_clock (inl e) =
      let is : state_of (store_after c z) ≡ after (plan_of z) (event_of c) (state_of z) = ap state_of (event_on c z e) ∙ event_state (event_of c) z good in
      omega (arith, ap (λ (s : State). s.clock) is, event_clock (plan_of z) (plan_good z good) (state_of z) (state_good z good) (event_of c))
  stays_clock (inr e) =
      omega (
        arith,
        ap (λ (d : Call). (store_after d z).clock) e ∙ ap (λ (y : Store). y.clock) (load_own z good declared z) ∙ idled_clock z,
      )

  -- and makes of a line's current result the copy that it enters of it.
  stays-current : Stays c z → (k : ℕ) → current_in (store_after c z) k ≡ or_else (if_of_line k (entered_by (event_of c) z)) (current_in z k)
  unfolding event_of entered_by
  stays-current (inl e) k = go (option? (entered_by (event_of c) z))
    where
      either : (b : Bool) (x : Copy) (o : Option Copy) → cond b (some x) o ≡ or_else (cond b (some x) none) o
      either true x o = refl
      either false x o = refl

      go : (entered_by (event_of c) z ≡ none) ⊎ ((x : Copy) × (entered_by (event_of c) z ≡ some x))
          → current_in (store_after c z) k ≡ or_else (if_of_line k (entered_by (event_of c) z)) (current_in z k)
      go (inl f) = others_leave c z good e f k ∙ rw f
      go (inr w) = entry-sets c z good w.0 w.1 k ∙ rw w.1 (either (eqb w.0.key k) w.0 (current_in z k))
  stays-current (inr e) k =
      subst (λ (d : Call). current_in (store_after d z) k ≡ or_else (if_of_line k (entered_by (event_of d) z)) (current_in z k)) (sym e)
      (ap (λ (y : Store). current_in y k) (load_own z good declared z) ∙ idled-current z k)

  -- The copy of an accepted entry has the clock as its stamp.
  entered_stamp : (x : Copy) → entered_by (event_of c) z ≡ some x → x.stamp ≡ z.clock
  unfolding state_of
  entered_stamp x q = entry_stamp (plan_of z) (event_of c) (state_of z) x (sym (entered_same (event_of c) z good) ∙ q)

-- ---- the copy of a line

if_of_line_lem : (k : ℕ) (o : Option Copy) (x : Copy) → if_of_line k o ≡ some x → (o ≡ some x) × (x.key ≡ k)
if_of_line_lem k none x q = absurd (not_none_and_some refl q)
if_of_line_lem k (some y) x q = go (eqb y.key k) refl q
  where
    go : (b : Bool) → eqb y.key k ≡ b → cond b (some y) none ≡ some x → (some y ≡ some x) × (x.key ≡ k)
    go true t q = (q, ap (λ (w : Copy). w.key) (sym (one_some refl q)) ∙ eqb-true y.key k t)
    go false t q = absurd (not_none_and_some refl q)

of_line_if : (k : ℕ) (o : Option Copy) (x : Copy) → o ≡ some x → x.key ≡ k → if_of_line k o ≡ some x
of_line_if k o x q e = rw (q, eq-eqb x.key k e)

else_else : (a b c : Option Copy) → or_else a (or_else b c) ≡ or_else (or_else a b) c
else_else none b c = refl
else_else (some x) b c = refl

else_some : (a b : Option Copy) (x : Copy) → or_else a b ≡ some x → (a ≡ some x) ⊎ ((a ≡ none) × (b ≡ some x))
else_some none b x q = inr (refl, q)
else_some (some y) b x q = inl q

-- ---- sequences

-- The last copy entered is the line's current result; if none was, it is what it was before.
pub current-after-all : (cs : List Call) (z : Store) → good_store z ≡ true → Declared z → DeclaredCalls cs → StoreGoesOn cs z → (k : ℕ)
    → current_in (store_after_all cs z) k ≡ or_else (last_entry k cs z) (current_in z k)
unfolding store_after_all last_entry
current-after-all [] z good declared ds on k = refl
current-after-all (c ∷ cs) z good declared ds on k =
    current-after-all cs (store_after c z) (call_keeps_good c z good) (stays_declared c z good declared (ds c (Memᴰ.head refl)))
    (λ d m. ds d (Memᴰ.tail m)) on.1 k
    ∙ ap (λ (o : Option Copy). or_else (last_entry k cs (store_after c z)) o) (stays-current c z good declared on.0 k)
    ∙ else_else (last_entry k cs (store_after c z)) (if_of_line k (entered_by (event_of c) z)) (current_in z k)

-- Its stamp is not below the clock before the calls.
pub last_late : (cs : List Call) (z : Store) → good_store z ≡ true → Declared z → DeclaredCalls cs → StoreGoesOn cs z → (k : ℕ) (x : Copy)
    → last_entry k cs z ≡ some x → z.clock ≤ x.stamp
unfolding last_entry
last_late [] z good declared ds on k x q = absurd (not_none_and_some refl q)
last_late (c ∷ cs) z good declared ds on k x q =
    go (else_some (last_entry k cs (store_after c z)) (if_of_line k (entered_by (event_of c) z)) x q)
    (last_late cs (store_after c z) (call_keeps_good c z good) (stays_declared c z good declared (ds c (Memᴰ.head refl)))
    (λ d m. ds d (Memᴰ.tail m)) on.1 k x)
  where
    go : (last_entry k cs (store_after c z) ≡ some x)
        ⊎ ((last_entry k cs (store_after c z) ≡ none) × (if_of_line k (entered_by (event_of c) z) ≡ some x))
        → (last_entry k cs (store_after c z) ≡ some x → (store_after c z).clock ≤ x.stamp) → z.clock ≤ x.stamp
    go (inl l) again = omega (arith, again l, stays_clock c z good declared on.0)
    go (inr w) again =
        omega (arith, entered_stamp c z good declared x (if_of_line_lem k (entered_by (event_of c) z) x w.1).0)

-- ---- an entry by its answer

-- An entry that answers DONE enters its copy,
done_enters : (c : Call) (z : Store) (kind : Kind) (k v : ℕ) → EntryDone c z kind k v → entered_by (event_of c) z ≡ some (entry_copy kind k v z)
unfolding entered_by
done_enters c z kind k v e =
    subst (λ (d : Event). entered_by d z ≡ some (entry_copy kind k v z)) (sym e.0)
    (rw (eq-eqb (on_event (enters kind k v) z).answer.number DONE says))
  where
    says : (on_event (enters kind k v) z).answer.number ≡ DONE
    says =
        ap (λ (a : Answer). a.number) (one_some ((acts_as c (enters kind k v) e.0 (entry_acts kind k v)).answers z) e.1.1) ∙ e.1.2

-- and so a copy is entered by a call exactly when it is the copy of an entry that answers DONE.
pub entered_exactly : (c : Call) (z : Store) (x : Copy) → (entered_by (event_of c) z ≡ some x) ↔ EntersCopy c z x
unfolding entered_by
entered_exactly c z x = (
  λ q. go (event_of c) refl q,
  λ e. done_enters c z e.kind x.key e.value e.entry ∙ ap some (sym e.is_copy),
)
  where
    go : (e : Event) → event_of c ≡ e → entered_by e z ≡ some x → EntersCopy c z x
    go (enters kind k v) is q = at (bool? (accepted (on_event (enters kind k v) z).answer))
      where
        said : answer_to c z ≡ some (on_event (enters kind k v) z).answer
        said = (acts_as c (enters kind k v) is (entry_acts kind k v)).answers z

        at : (accepted (on_event (enters kind k v) z).answer ≡ true) ⊎ (accepted (on_event (enters kind k v) z).answer ≡ false)
            → EntersCopy c z x
        at (inl t) =
            let made : entry_copy kind k v z ≡ x = one_some refl (rw t at q) in
            subst (EntersCopy c z) made
            (record {
              kind = kind;
              value = v;
              entry = (is, ((on_event (enters kind k v) z).answer, said, eqb-true (on_event (enters kind k v) z).answer.number DONE t));
              is_copy = refl;
            })
        at (inr f) = absurd (not_none_and_some refl (rw f at q))
    go (carries n i) is q = absurd (not_none_and_some refl q)
    go (starts k) is q = absurd (not_none_and_some refl q)
    go (steps i) is q = absurd (not_none_and_some refl q)
    go (cancels i) is q = absurd (not_none_and_some refl q)
    go asks is q = absurd (not_none_and_some refl q)

-- ---- the last entry

-- What holds of each copy of the line that the calls enter holds of the last.
last_of_each : (k : ℕ) (Holds : Call → Store → Type 0) (Q : Copy → Type 0)
    → ((c : Call) (z : Store) (x : Copy) → Holds c z → entered_by (event_of c) z ≡ some x → x.key ≡ k → Q x)
    → (cs : List Call) (z : Store) → EachCall Holds cs z → (x : Copy) → last_entry k cs z ≡ some x → Q x
unfolding last_entry
last_of_each k Holds Q each [] z all x q = absurd (not_none_and_some refl q)
last_of_each k Holds Q each (c ∷ cs) z all x q =
    go (else_some (last_entry k cs (store_after c z)) (if_of_line k (entered_by (event_of c) z)) x q)
    (last_of_each k Holds Q each cs (store_after c z) all.1 x)
  where
    go : (last_entry k cs (store_after c z) ≡ some x)
        ⊎ ((last_entry k cs (store_after c z) ≡ none) × (if_of_line k (entered_by (event_of c) z) ≡ some x))
        → (last_entry k cs (store_after c z) ≡ some x → Q x) → Q x
    go (inl l) again = again l
    go (inr w) again =
        let v = if_of_line_lem k (entered_by (event_of c) z) x w.1 in
        each c z x all.0 v.0 v.1

-- Nothing is entered of the lines of a sample that each call leaves alone;
pub untouched_none : (cs : List Call) (z : Store) (sample : ℕ) → SampleUntouched cs z sample → (a : ℕ) → a < analytes
    → last_entry (key_for sample a) cs z ≡ none
untouched_none cs z sample none-of-it a g = go (option? (last_entry (key_for sample a) cs z))
  where
    go : (last_entry (key_for sample a) cs z ≡ none) ⊎ ((x : Copy) × (last_entry (key_for sample a) cs z ≡ some x))
        → last_entry (key_for sample a) cs z ≡ none
    go (inl e) = e
    go (inr w) =
        absurd
        (last_of_each (key_for sample a) (LeavesSample sample) (λ x. ⊥)
        (λ c y x leaves q e.
        let d = (entered_exactly c y x).0 q in
        leaves a g d.kind d.value (subst (λ (n : ℕ). EntryDone c y d.kind n d.value) e d.entry))
        cs z none-of-it w.0 w.1)

-- and where none withdraws the line, the last entry has a value.
pub last_has_value : (k : ℕ) (cs : List Call) (z : Store) → NotWithdrawn cs z k → (x : Copy) → last_entry k cs z ≡ some x
    → has_value x.kind ≡ true
last_has_value k =
    last_of_each k (λ c y. (v : ℕ) → EntryDone c y withdrawn k v → ⊥) (λ x. has_value x.kind ≡ true) at
  where
    by_kind : (kind : Kind) → (kind ≡ withdrawn → ⊥) → has_value (kind_number kind) ≡ true
    by_kind result f = result_valued
    by_kind withdrawn f = absurd (f refl)

    at : (c : Call) (z : Store) (x : Copy) → ((v : ℕ) → EntryDone c z withdrawn k v → ⊥) → entered_by (event_of c) z ≡ some x → x.key ≡ k
        → has_value x.kind ≡ true
    at c z x never q e =
        let d = (entered_exactly c z x).0 q in
        ap (λ (y : Copy). has_value y.kind) d.is_copy
        ∙ by_kind d.kind
        (λ is. never d.value
        (subst (λ (n : ℕ). EntryDone c z withdrawn n d.value) e
        (subst (λ (kind : Kind). EntryDone c z kind x.key d.value) is d.entry)))

-- After an entry of the line the last is one of the later calls', or it.
last_after : (before : List Call) (c : Call) (later : List Call) (z : Store) (k : ℕ) (x : Copy)
    → entered_by (event_of c) (store_after_all before z) ≡ some x → x.key ≡ k
    → last_entry k (before ++ c ∷ later) z ≡ or_else (last_entry k later (store_after c (store_after_all before z))) (some x)
unfolding last_entry store_after_all
last_after [] c later z k x q e =
    ap (λ (o : Option Copy). or_else (last_entry k later (store_after c z)) o) (of_line_if k (entered_by (event_of c) z) x q e)
last_after (b ∷ before) c later z k x q e =
    ap (λ (o : Option Copy). or_else o (if_of_line k (entered_by (event_of b) z))) (last_after before c later (store_after b z) k x q e)
    ∙ already (last_entry k later (store_after c (store_after_all before (store_after b z)))) (if_of_line k (entered_by (event_of b) z))
  where
    already : (o r : Option Copy) → or_else (or_else o (some x)) r ≡ or_else o (some x)
    already none r = refl
    already (some y) r = refl

-- The last entry, where there is one.
pub record LastOf (cs : List Call) (z : Store) (kind : Kind) (k v : ℕ) (e : EntersLine cs z kind k v) : Type 0 where
  pub last : Copy
  pub is_last : last_entry k cs z ≡ some last
  pub which :
      (last ≡ entry_copy kind k v (store_after_all e.before z))
      ⊎ (last_entry k e.later (store_after e.call (store_after_all e.before z)) ≡ some last)

pub entered_then_last : (cs : List Call) (z : Store) (kind : Kind) (k v : ℕ) (e : EntersLine cs z kind k v) → LastOf cs z kind k v e
entered_then_last cs z kind k v e = go (option? (last_entry k e.later z'))
  where
    x : Copy
    x = entry_copy kind k v (store_after_all e.before z)

    z' : Store
    z' = store_after e.call (store_after_all e.before z)

    is : last_entry k cs z ≡ or_else (last_entry k e.later z') (some x)
    is =
        ap (λ (ds : List Call). last_entry k ds z) e.parts
        ∙ last_after e.before e.call e.later z k x
        (done_enters e.call (store_after_all e.before z) kind k v e.entry) refl

    go : (last_entry k e.later z' ≡ none) ⊎ ((y : Copy) × (last_entry k e.later z' ≡ some y)) → LastOf cs z kind k v e
    go (inl l) = record { last = x; is_last = is ∙ ap (λ (o : Option Copy). or_else o (some x)) l; which = inl refl }
    go (inr w) = record { last = w.0; is_last = is ∙ ap (λ (o : Option Copy). or_else o (some x)) w.1; which = inr w.1 }
