-- Accepted entries of a line among calls on a store, and what they do to bytes that were kept before them.
use Rattle.std.specs.Prelude.{◌≡◌, false, cond, List, [], ◌∷◌, ◌++◌, ◌⊎◌, ℕ, ◌<◌, length, take}
use Rattle.std.proofs.Math.Option.{Option, none, some}
use Rattle.std.specs.Borrow.{Bor}
use Rattle.store.specs.declared.Answer.{Answer}
use Rattle.store.specs.declared.Copy.{Copy}
use Rattle.store.specs.declared.Store.{Store}
use Rattle.store.specs.Answers.{DONE}
use Rattle.store.specs.Copies.{has_value, Kind, kind_number, value_held, copy}
use Rattle.store.specs.Copies.Kind.{withdrawn}
use Rattle.store.specs.State.{or_else}
use Rattle.theory.specs.Events.{of_line}
use Rattle.theory.specs.Events.Event.{enters, carries, starts, steps, cancels, asks}
use Rattle.image_writing.specs.Image.{image}
use Rattle.image_loading.specs.Loading.{load_outcome}
use Rattle.image.specs.Promises.{Saves}
use Rattle.trips.specs.Trips.{loaded_as_itself}
use Rattle.page_lines.specs.PageLine.{analytes, key_for}
use Rattle.page.specs.Promises.{page_now, served_length}
use Rattle.calls.specs.PublicCalls.{Call, store_after, answer_to, Done, store_after_all}
use Rattle.calls.specs.PublicCalls.Call.{load}
use Rattle.calls.specs.Following.{event_of, replacement, entered_by}
use Rattle.calls.specs.DeclaredNumbers.{DeclaredCall}
use Rattle.kept.specs.Shows.{shows}
use Rattle.kept.specs.Kept.{ServesPage, ServesNotice, NoticeIsOther, ServeSame}

-- ---- the calls

-- Of each of the calls it holds, on the store that the calls before it left.
abbrev pub EachCall : (Call → Store → Type 0) → List Call → Store → Type 0
EachCall Holds [] z = Unit {0}
EachCall Holds (c ∷ cs) z = Holds c z × EachCall Holds cs (store_after c z)

-- A call does not replace the store, unless by loading the very bytes that the store saves at that point.
abbrev pub Stays : Call → Store → Type 0
Stays c z = (replacement c ≡ none) ⊎ (c ≡ load (image z))

-- A store goes on through calls: it stays through each.
abbrev pub StoreGoesOn : List Call → Store → Type 0
StoreGoesOn = EachCall Stays

-- A call is an entry of the line (an enter, a withdraw, or the run of such a record), and its answer is DONE.
abbrev pub EntryDone : Call → Store → Kind → ℕ → ℕ → Type 0
EntryDone c z kind k v = (event_of c ≡ enters kind k v) × Done c z

-- The copy of an entry: its stamp is the clock.
abbrev pub entry_copy : Kind → ℕ → ℕ → Store → Copy
entry_copy kind k v z = copy k (kind_number kind) (value_held kind v) z.clock

-- A call enters the copy x: it is an entry with the answer DONE, and x is its copy.
pub record EntersCopy (c : Call) (z : Store) (x : Copy) : Type 0 where
  pub kind : Kind
  pub value : ℕ
  pub entry : EntryDone c z kind x.key value
  pub is_copy : x ≡ entry_copy kind x.key value z

-- One of the calls on a store is an entry of the line with the answer DONE.
pub record EntersLine (cs : List Call) (z : Store) (kind : Kind) (k v : ℕ) : Type 0 where
  pub before : List Call
  pub call : Call
  pub later : List Call
  pub parts : cs ≡ before ++ call ∷ later
  pub entry : EntryDone call (store_after_all before z) kind k v

-- A call leaves a sample alone: it is no entry of one of its lines, or its answer is not DONE.
abbrev pub LeavesSample : ℕ → Call → Store → Type 0
LeavesSample sample c z = (a : ℕ) → a < analytes → (kind : Kind) (v : ℕ) → EntryDone c z kind (key_for sample a) v → ⊥

-- Each of the calls leaves the sample alone.
abbrev pub SampleUntouched : List Call → Store → ℕ → Type 0
SampleUntouched cs z sample = EachCall (LeavesSample sample) cs z

-- Entries of other samples, carries, searches and refused calls leave a sample alone, a record run as its call; so do all calls that are none
-- of the six steps.
pub record WhatLeavesSample (sample : ℕ) (c : Call) (z : Store) : Type 0 where
  pub other_samples : (kind : Kind) (other a v : ℕ) → a < analytes → (other ≡ sample → ⊥) → event_of c ≡ enters kind (key_for other a) v
      → LeavesSample sample c z
  pub carries_leave : (n i : ℕ) → event_of c ≡ carries n i → LeavesSample sample c z
  pub starts_leave : (k : ℕ) → event_of c ≡ starts k → LeavesSample sample c z
  pub steps_leave : (i : ℕ) → event_of c ≡ steps i → LeavesSample sample c z
  pub cancels_leave : (i : ℕ) → event_of c ≡ cancels i → LeavesSample sample c z
  pub no_step : event_of c ≡ asks → LeavesSample sample c z
  pub refused_leave : (r : Answer) → answer_to c z ≡ some r → (r.number ≡ DONE → ⊥) → LeavesSample sample c z

-- None of the calls is a withdrawal of the line with the answer DONE.
abbrev pub NotWithdrawn : List Call → Store → ℕ → Type 0
NotWithdrawn cs z k = EachCall (λ c y. (v : ℕ) → EntryDone c y withdrawn k v → ⊥) cs z

-- ---- what a line shows

-- A copy, if it is of the line.
abbrev pub if_of_line : ℕ → Option Copy → Option Copy
if_of_line k o = cond (of_line k o) o none

-- The last copy of a line that calls on a store enter, if they enter one.
unfoldable pub last_entry : ℕ → List Call → Store → Option Copy
last_entry k [] z = none
last_entry k (c ∷ cs) z = or_else (last_entry k cs (store_after c z)) (if_of_line k (entered_by (event_of c) z))

-- After calls on the store z a line shows again what z showed of it: nothing was entered of it; or z did not show it, and the last that was
-- entered of it withdraws it.
pub data ShowsAgain (z : Store) (cs : List Call) (k : ℕ) : Type 0 where
  untouched : last_entry k cs z ≡ none → ShowsAgain z cs k
  hidden_again : (x : Copy) → shows z k ≡ none → last_entry k cs z ≡ some x → has_value x.kind ≡ false → ShowsAgain z cs k

-- So does every line of the sample.
abbrev pub SampleShowsAgain : Store → List Call → ℕ → Type 0
SampleShowsAgain z cs sample = (a : ℕ) → a < analytes → ShowsAgain z cs (key_for sample a)

-- ---- what is served

-- The store y serves z's page, of the kept bytes.
pub record PageServed (z y : Store) (sample : ℕ) (kept notice : Bor (List ℕ)) : Type 0 where
  pub hands_back : ServesPage z y sample kept notice
  pub length_given : served_length y sample kept.now ≡ length (page_now z sample)

-- The store y serves none of the kept bytes.
pub record PageNotServed (y : Store) (sample : ℕ) (kept notice : Bor (List ℕ)) : Type 0 where
  pub hands_back : ServesNotice y sample kept notice
  pub length_given : served_length y sample kept.now ≡ 0

-- After calls on the store z through which it goes on: bytes kept from z are served exactly when every line of the sample shows again what
-- it showed.
pub record ServedAfterCalls (z : Store) (cs : List Call) (sample : ℕ) (kept notice : Bor (List ℕ)) : Type 0 where
  pub served_if_again : SampleShowsAgain z cs sample → PageServed z (store_after_all cs z) sample kept notice
  pub page_only_if_again : NoticeIsOther z sample kept notice → ServesPage z (store_after_all cs z) sample kept notice → SampleShowsAgain z cs sample
  pub length_only_if_again : served_length (store_after_all cs z) sample kept.now ≡ length (page_now z sample) → SampleShowsAgain z cs sample
  pub notice_otherwise : (SampleShowsAgain z cs sample → ⊥) → PageNotServed (store_after_all cs z) sample kept notice

-- A store z is saved and loaded, in place of any other.
pub record SavedAndLoaded (z : Store) : Type 0 where
  pub loads : load_outcome (image z) ≡ loaded_as_itself z
  -- Its image is of bytes, so the load is a call with numbers of their declared types.
  pub of_bytes : DeclaredCall (load (image z))
  -- What an accepted save wrote is its image: its answer says how many bytes of the buffer that is.
  pub saved : (before : List ℕ) (r : Answer) (after : List ℕ) → Saves z before r after → r.number ≡ DONE → take r.a after ≡ image z
  -- In place of any other store it is loaded as in its own,
  pub anywhere : (other : Store) → store_after (load (image z)) other ≡ store_after (load (image z)) z
  -- and of any sample, and of any kept bytes, it makes what z does.
  pub serves_same : (other : Store) (sample : ℕ) → ServeSame (store_after (load (image z)) other) z sample
