-- What start, step and cancel do with the slots, way out by way out.
use mathlib.Core.Path.{◌≡◌, refl, sym, ap, ◌∙◌}
use mathlib.Core.Logic.{◌≢◌, inl, inr}
use mathlib.Core.List.{List}
use mathlib.Core.Option.{Option, none, some}
use Prim.Native.Nat.{ℕ, ◌+◌, ◌<◌, ◌≤◌}
use native.Mathlib.Omega.{arith}
use native.Mathlib.Numerals.{add-one}
use lib.ListN.{length, get_or, set}
use borrow.Author.Tests.{lt-ltb, le-ltb, eq-eqb, ne_eqb}
use Rattle.std.specs.Prelude.{Result, Ok, Err, Some, None}
use Rattle.std.specs.Result.{IsErrAnd}
use Rattle.std.proofs.lemmas.Result.{err_from_is_err_and}
use Rattle.plan.specs.declared.rows.Rows.{Rows}
use Rattle.plan.specs.Plan.{Plan, Hop, size, first_edge, next}
use Rattle.plan.specs.PlanArrays.{RowsOf, row_edges}
use Rattle.plan.proofs.RowsLent.{next_here}
use Rattle.store.specs.declared.Answer.{Answer}
use Rattle.store.specs.declared.Copy.{Copy}
use Rattle.store.specs.declared.Slot.{Slot}
use Rattle.store.specs.declared.Store.{Store}
use Rattle.store.specs.declared.refusal.Refusal.{Refusal}
use Rattle.store.specs.declared.refusal.Refusal.TheVariants as because
use Rattle.store.specs.Answers.{DONE, GOING, answer, bare}
use Rattle.store.specs.Refusals.{refusal_number}
use Rattle.store.specs.State.{State, slot_count, slot_at, idle, line, idle_mark}
use Rattle.store.specs.Copies.{Found, key_of, find, found_of}
use Rattle.store.specs.Layout.{node_of, state_in}
use Rattle.store.specs.Calls.{Effect}
use Rattle.store.proofs.Laying.{parts_node}
use Rattle.steps.specs.Entries.{refused}
use Rattle.steps.specs.Searches.{running, with_slot, lowest_idle, start_step, ended, with_running, step_step, cancel_step}
use Rattle.looks.specs.Workers.{copy_found}
use Rattle.slots.specs.Workers.{with_slots, moved, moved_by, ChangesBy, SearchesIn, StepsBy, RunsAt, RestsAt}

-- A refusal that `?` hands on.
pub handed_on : (P : Result Answer Refusal → Type 0) (r : Result Answer Refusal) (why : Refusal) → IsErrAnd r (λ y. y ≡ why) → P (Err why) → P r
handed_on P r why given e = let w = err_from_is_err_and r given in rw (w.1, w.2) e

-- One slot is written, by a step that is known.
wrote : (f : Plan → State → Effect) (p : Plan) (s : State) (i : ℕ) {a b : Answer} {q r : Slot} → b ≡ a → r ≡ q
    → f p s ≡ record { answer = a; after = with_slot i q s } → moved (Ok b) (set s.slots i r) ≡ moved_by (f p s)
wrote f p s i d g e = (λ t. moved (Ok (d t)) (set s.slots i (g t))) ∙ sym (ap moved_by e)

-- What is done with a slot in which a search runs, and why it is refused where none does.
module _ (f : Slot → Effect) (i : ℕ) (s : State) (long : length s.slots ≡ slot_count) where
  rests : {why : Refusal} → RestsAt s.slots i why → with_running f i s ≡ refused (refusal_number why) s
  unfolding with_running
  rests (inl (h, e)) = rw (le-ltb i (length s.slots) (omega arith), e)
  rests (inr (h, r, e)) = rw (lt-ltb i (length s.slots) (omega arith), eq-eqb (slot_at s i).running idle_mark r, e)

  runs : i < slot_count → (slot_at s i).running ≢ idle_mark → with_running f i s ≡ f (slot_at s i)
  unfolding with_running
  runs h r = rw (lt-ltb i (length s.slots) (omega arith), ne_eqb (slot_at s i).running idle_mark r)

module _ (slots : List Slot) (long : length slots ≡ slot_count) where
  -- A start: no slot is idle, or the lowest idle one takes the key.
  pub start_refused : (k : ℕ) → slot_count ≤ lowest_idle slots → ChangesBy (start_step k) slots (Err because.Slots) slots
  unfolding start_step
  start_refused k h = λ p clock nodes. rw (le-ltb (lowest_idle slots) (length slots) (omega (arith, long)))

  pub starts : (k i : ℕ) → i ≡ lowest_idle slots → i < slot_count → {b : Answer} {r : Slot} → b ≡ answer DONE i 0 0 0 → r ≡ running k 0 0
      → ChangesBy (start_step k) slots (Ok b) (set slots i r)
  unfolding start_step
  starts k i e h d g =
      λ p clock nodes.
      wrote (start_step k) p (record { clock = clock; nodes = nodes; slots = slots }) i d g
      (rw (sym e, lt-ltb i (length slots) (omega (arith, long))))

  -- A cancel: no search runs in the slot, or the slot becomes idle.
  module _ (i : ℕ) where
    pub cancel_refused : {why : Refusal} → RestsAt slots i why → ChangesBy (cancel_step i) slots (Err why) slots
    unfolding cancel_step
    cancel_refused h = λ p clock nodes. sym (ap moved_by (rests _ i (record { clock = clock; nodes = nodes; slots = slots }) long h))

    pub cancels : {at : ℕ} → RunsAt slots i at → {b : Answer} {r : Slot} → b ≡ bare DONE → r ≡ idle
        → ChangesBy (cancel_step i) slots (Ok b) (set slots at r)
    unfolding cancel_step
    cancels {at} w d g =
        rw (← w.0)
        (λ p clock nodes.
        wrote (cancel_step at) p (record { clock = clock; nodes = nodes; slots = slots }) at d g
        (runs _ at (record { clock = clock; nodes = nodes; slots = slots }) long w.1 w.2))

-- A node's line is what a look in it found.
found_back : (o : Option Copy) → copy_found (found_of o) ≡ o
found_back none = refl
found_back (some x) = refl

module _ (rows : Rows) (z : Store) (long : length z.slots ≡ slot_count) (i : ℕ) where
  -- The state of the store by a plan, at a clock.
  abbrev at_clock : Plan → ℕ → State
  at_clock p clock = state_in (size p) clock z.counts z.keys z.kinds z.values z.stamps z.slots

  -- A step: no search runs in the slot,
  pub step_refused : {why : Refusal} → RestsAt z.slots i why → StepsBy rows z i (Err why) z
  unfolding step_step
  step_refused h =
      record {
        does = λ p clock has stand. sym (ap moved_by (rests _ i (at_clock p clock) long h));
        slots_alone = refl;
        one_slot = λ a e. absurd cc;
        refused_stays = λ why e. refl;
      }

  module _ {at : ℕ} (w : RunsAt z.slots i at) where
    -- or one runs,
    abbrev search : Slot
    search = get_or z.slots at idle

    -- and its node is looked in.
    module _ (held : Found) (f : held ≡ found_of (find key_of (node_of z search.node) search.key)) where
      line_here : (p : Plan) (clock : ℕ) → SearchesIn p z.slots → (to : Found) → held ≡ to
          → line (at_clock p clock) search.key search.node ≡ copy_found to
      line_here p clock stand to e =
          ap (λ (xs : List Copy). find key_of xs search.key)
          (parts_node (size p) clock z.counts z.keys z.kinds z.values z.stamps z.slots search.node (stand at w.1 w.2))
          ∙ sym (ap copy_found f ∙ found_back (find key_of (node_of z search.node) search.key))
          ∙ ap copy_found e

      -- A copy was found,
      pub found : {b : Answer} {r : Slot} → (x : Copy) → held ≡ Some x → b ≡ ended (some x) (search.visits + 1) → r ≡ idle
          → StepsBy rows z i (Ok b) (with_slots (set z.slots at r) z)
      unfolding step_step
      found x e d g =
          rw (← w.0)
          (record {
            does = λ p clock has stand.
                wrote (step_step at) p (at_clock p clock) at d g
                (runs _ at (at_clock p clock) long w.1 w.2 ∙ rw (line_here p clock stand (Some x) e, add-one));
            slots_alone = refl;
            one_slot = λ a ok. (w.1, (_, refl));
            refused_stays = λ why e. absurd cc;
          })

      module _ (nothing : held ≡ None) (hop : Hop) (o : hop ≡ first_edge (row_edges rows search.node) search.key) where
        next_known : (p : Plan) → RowsOf p (size p) rows.counts rows.lows rows.highs rows.targets → (to : Hop) → hop ≡ to
            → next p search.node search.key ≡ to
        next_known p has to e = sym (next_here has search.node search.key hop o) ∙ e

        -- or nothing, and the path ends,
        pub never : {b : Answer} {r : Slot} → hop ≡ None → b ≡ ended none (search.visits + 1) → r ≡ idle
            → StepsBy rows z i (Ok b) (with_slots (set z.slots at r) z)
        unfolding step_step
        never e d g =
            rw (← w.0)
            (record {
              does = λ p clock has stand.
                  wrote (step_step at) p (at_clock p clock) at d g
                  (runs _ at (at_clock p clock) long w.1 w.2
                  ∙ rw (line_here p clock stand None nothing, next_known p has None e, add-one));
              slots_alone = refl;
              one_slot = λ a ok. (w.1, (_, refl));
              refused_stays = λ why e. absurd cc;
            })

        -- or it goes on.
        pub goes : {b : Answer} {r : Slot} → (to : ℕ) → hop ≡ Some to → b ≡ answer GOING to (search.visits + 1) 0 0
            → r ≡ running search.key to (search.visits + 1) → StepsBy rows z i (Ok b) (with_slots (set z.slots at r) z)
        unfolding step_step
        goes to e d g =
            rw (← w.0)
            (record {
              does = λ p clock has stand.
                  wrote (step_step at) p (at_clock p clock) at d g
                  (runs _ at (at_clock p clock) long w.1 w.2
                  ∙ rw (line_here p clock stand None nothing, next_known p has (Some to) e, add-one));
              slots_alone = refl;
              one_slot = λ a ok. (w.1, (_, refl));
              refused_stays = λ why e. absurd cc;
            })
