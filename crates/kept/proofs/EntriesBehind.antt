-- Entries among calls of the C interface, by their steps and answers, are entries among the public calls in their places.
use mathlib.Core.Path.{◌≡◌, refl, sym, ap, ◌∙◌, subst}
use mathlib.Core.List.Memᴰ
use mathlib.Core.List.{List, [], ◌∷◌, map, Memᴰ}
use mathlib.Core.Logic.{◌⊎◌, inl, inr}
use mathlib.Core.Option.{some}
use Prim.Native.Nat.{ℕ}
use Rattle.lists.proofs.Options.{one_some}
use Rattle.store.specs.declared.Answer.{Answer}
use Rattle.store.specs.declared.Store.{Store}
use Rattle.store.specs.Answers.{DONE}
use Rattle.store.specs.Copies.{Kind}
use Rattle.theory.specs.Events.{Event}
use Rattle.page_lines.specs.PageLine.{key_for}
use Rattle.calls.specs.PublicCalls.{Call, accepted, answer_in, answer_to, store_after_all}
use Rattle.calls.specs.PublicCalls.Call.{fresh, load}
use Rattle.calls.specs.Following.{event_of}
use Rattle.calls.proofs.Follows.{entry_acts}
use Rattle.behind.specs.Behind.{CallBehind, MeetsPromise, AllMeet, public_call}
use Rattle.behind.specs.Behind.CallBehind.{freshens, freshens_live, steps, checks, looks, saves, loads, loads_live, pages, serves}
use Rattle.behind.proofs.BehindPointers.{call_behind, call_returns}
use Rattle.kept.specs.Amended.{EntryDone, EntersLine, SampleUntouched}
use Rattle.kept.specs.EntriesBehind.{step_number, EntersBehind, UntouchedBehind}
use Rattle.kept.proofs.StepEntries.{step_run, entry_event, Names, event_names, or_fresh_asks}

-- What a step gave is the answer of the call in its place.
step_answer : (number x y : ℕ) (r : Answer) (z leaves : Store) → MeetsPromise (steps number x y r) z leaves
    → answer_to (step_run number x y) z ≡ some r
unfolding answer_to
step_answer number x y r z leaves does = sym (ap answer_in (call_returns (steps number x y r) z leaves does))

-- An entry's step among the calls that answered DONE is an entry among the public calls that answers DONE;
pub enters_behind : (cs : List CallBehind) (z y : Store) → AllMeet cs z y → (kind : Kind) (k v : ℕ) → EntersBehind cs kind k v
    → (w : ℕ) × EntersLine (map public_call cs) z kind k w
unfolding store_after_all public_call
enters_behind [] z y all kind k v e = absurd (Memᴰ.not-nil e.among)
enters_behind (c ∷ cs) z y all kind k v e =
    go (Memᴰ.cases_cons e.among)
    (λ m. enters_behind cs all.0 y all.2 kind k v (record { answer = e.answer; among = m; done = e.done }))
  where
    its : CallBehind
    its = steps (step_number kind) k v e.answer

    go : (its ≡ c) ⊎ Memᴰ its cs → (Memᴰ its cs → (w : ℕ) × EntersLine (map public_call cs) all.0 kind k w)
        → (w : ℕ) × EntersLine (public_call c ∷ map public_call cs) z kind k w
    go (inl q) again =
        let event = entry_event kind k v in
        let meets : MeetsPromise its z all.0 = subst (λ (d : CallBehind). MeetsPromise d z all.0) (sym q) all.1 in
        let says = step_answer (step_number kind) k v e.answer z all.0 meets in (
          event.0,
          record {
            before = [];
            call = public_call c;
            later = map public_call cs;
            parts = refl;
            entry = subst (λ (d : CallBehind). EntryDone (public_call d) z kind k event.0) q (event.1, (e.answer, says, e.done));
          },
        )
    go (inr m) again =
        let w = again m in (
          w.0,
          record {
            before = public_call c ∷ w.1.before;
            call = w.1.call;
            later = w.1.later;
            parts = ap (λ (ds : List Call). public_call c ∷ ds) w.1.parts;
            entry =
                subst (λ (x : Store). EntryDone w.1.call (store_after_all w.1.before x) kind k w.0) (call_behind c z all.0 all.1)
                w.1.entry;
          },
        )

-- and where an entry among the public calls answers DONE, its step among the calls did.
entry_behind : (c : CallBehind) (z next : Store) → MeetsPromise c z next → (cs : List CallBehind) (kind : Kind) (k v : ℕ)
    → EntryDone (public_call c) z kind k v → (w : ℕ) × EntersBehind (c ∷ cs) kind k w
unfolding public_call event_of
entry_behind (steps number x y r) z next does cs kind k v e = (y, record { answer = r; among = Memᴰ.head same; done = said })
  where
    names : (number ≡ step_number kind) × (x ≡ k)
    names = subst (λ (d : Event). Names number x d) e.0 (event_names number x y)

    same : steps (step_number kind) k y r ≡ steps number x y r
    same = ap (λ (n : ℕ). steps n k y r) (sym names.0) ∙ ap (λ (n : ℕ). steps number n y r) (sym names.1)

    said : r.number ≡ DONE
    said = ap (λ (a : Answer). a.number) (one_some (step_answer number x y r z next does) e.1.1) ∙ e.1.2
entry_behind (freshens plan r) z next does cs kind k v e =
    absurd (entry_acts kind k v (sym e.0 ∙ or_fresh_asks (accepted r) (fresh plan) refl))
entry_behind (loads bytes r) z next does cs kind k v e =
    absurd (entry_acts kind k v (sym e.0 ∙ or_fresh_asks (accepted r) (load bytes) refl))
entry_behind (freshens_live plan r) z next does cs kind k v e = absurd (entry_acts kind k v (sym e.0))
entry_behind (loads_live bytes r) z next does cs kind k v e = absurd (entry_acts kind k v (sym e.0))
entry_behind (checks r) z next does cs kind k v e = absurd (entry_acts kind k v (sym e.0))
entry_behind (looks key r) z next does cs kind k v e = absurd (entry_acts kind k v (sym e.0))
entry_behind (saves before r after) z next does cs kind k v e = absurd (entry_acts kind k v (sym e.0))
entry_behind (pages sample before r after) z next does cs kind k v e = absurd (entry_acts kind k v (sym e.0))
entry_behind (serves sample kept n) z next does cs kind k v e = absurd (entry_acts kind k v (sym e.0))

pub untouched_behind : (cs : List CallBehind) (z y : Store) → AllMeet cs z y → (sample : ℕ) → UntouchedBehind cs sample
    → SampleUntouched (map public_call cs) z sample
untouched_behind [] z y all sample none-of-it = tt
untouched_behind (c ∷ cs) z y all sample none-of-it = (
  λ a g kind v e. let w = entry_behind c z all.0 all.1 cs kind (key_for sample a) v e in none-of-it a g kind w.0 w.1,
  subst (λ (x : Store). SampleUntouched (map public_call cs) x sample) (call_behind c z all.0 all.1)
      (untouched_behind cs all.0 y all.2 sample
      (λ a g kind v e. none-of-it a g kind v (record { answer = e.answer; among = Memᴰ.tail e.among; done = e.done }))),
)
