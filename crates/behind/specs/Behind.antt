-- Sequences of calls of the C interface on the store behind one pointer, each call with its arguments and what it gave, each by its promise.
use Rattle.std.specs.Prelude.{◌≡◌, cond, List, [], ◌∷◌, ℕ}
use Rattle.store.specs.declared.Answer.{Answer}
use Rattle.store.specs.declared.Store.{Store}
use Rattle.steps.specs.Promises.{Looks}
use Rattle.image.specs.Promises.{Saves}
use Rattle.page.specs.Promises.{Pages, ServesLength}
use Rattle.schedule.specs.Schedule.{step_record}
use Rattle.store.specs.Promises.{Checks}
use Rattle.export.specs.Promises.{FreshensBehind, StepsBehind, LoadsBehind}
use Rattle.calls.specs.PublicCalls.{Call, accepted, returned}
use Rattle.calls.specs.PublicCalls.Call.{fresh, load, reads, run}
use Rattle.calls.specs.PublicCalls.ReadOnly.{check, look, save, page, serve_length}
use Rattle.calls.specs.PublicCalls.Returned.{gave, answered, wrote, counted}

-- The calls of the C interface, each with its arguments and its answer (a serve's is a length); of a lent buffer the bytes at entry and at exit. A
-- fresh or load is made either at the pointer itself, or for the live store there by a spare one.
pub data CallBehind : Type 0 where
  freshens : (plan : ℕ) (answer : Answer) → CallBehind
  freshens_live : (plan : ℕ) (answer : Answer) → CallBehind
  steps : (number x y : ℕ) (answer : Answer) → CallBehind
  checks : (answer : Answer) → CallBehind
  looks : (key : ℕ) (answer : Answer) → CallBehind
  saves : (before : List ℕ) (answer : Answer) (after : List ℕ) → CallBehind
  loads : (bytes : List ℕ) (answer : Answer) → CallBehind
  loads_live : (bytes : List ℕ) (answer : Answer) → CallBehind
  pages : (sample : ℕ) (before : List ℕ) (answer : Answer) (after : List ℕ) → CallBehind
  serves : (sample : ℕ) (kept : List ℕ) (length : ℕ) → CallBehind

-- A call that lays its store down at a spare pointer: if it is accepted the live store is then a copy of that one, and else it goes on.
abbrev pub ByASpare : (Answer → Store → Type 0) → Answer → Store → Store → Type 0
ByASpare Promise r finds leaves = (spare : Store) × Promise r spare × (leaves ≡ cond (accepted r) spare finds)

-- A call meets its promise: it finds a store behind the pointer and leaves one there. A store that is lent to be read is left as it was: a
-- fact of the types (`&Store`, in C `const`), which no promise needs to say.
abbrev pub MeetsPromise : CallBehind → Store → Store → Type 0
MeetsPromise (freshens plan r) finds leaves = FreshensBehind plan r leaves
MeetsPromise (freshens_live plan r) finds leaves = ByASpare (FreshensBehind plan) r finds leaves
MeetsPromise (steps number x y r) finds leaves = StepsBehind finds number x y r leaves
MeetsPromise (checks r) finds leaves = Checks finds r × (leaves ≡ finds)
MeetsPromise (looks k r) finds leaves = Looks finds k r × (leaves ≡ finds)
MeetsPromise (saves before r after) finds leaves = Saves finds before r after × (leaves ≡ finds)
MeetsPromise (loads bytes r) finds leaves = LoadsBehind bytes r leaves
MeetsPromise (loads_live bytes r) finds leaves = ByASpare (LoadsBehind bytes) r finds leaves
MeetsPromise (pages sample before r after) finds leaves = Pages finds sample before r after × (leaves ≡ finds)
MeetsPromise (serves sample kept n) finds leaves = ServesLength finds sample kept n × (leaves ≡ finds)

-- Each call of a sequence meets its promise, on the store that the one before it left.
abbrev pub AllMeet : List CallBehind → Store → Store → Type 0
AllMeet [] finds leaves = leaves ≡ finds
AllMeet (c ∷ cs) finds leaves = (next : Store) × MeetsPromise c finds next × AllMeet cs next leaves

-- A fresh or load by its answer: itself if it is accepted, else `fresh 1`.
abbrev pub or_fresh : Answer → Call → Call
or_fresh r c = cond (accepted r) c (fresh 1)

-- The public call in the place of a call of the C interface: a step of three numbers is the run of one record, a refused fresh or load at the
-- pointer itself lays down "a fresh store of plan 1", and every other call is itself.
unfoldable pub public_call : CallBehind → Call
public_call (freshens plan r) = or_fresh r (fresh plan)
public_call (freshens_live plan r) = fresh plan
public_call (steps number x y r) = run (step_record number x y ∷ []) 0
public_call (checks r) = reads check
public_call (looks k r) = reads (look k)
public_call (saves before r after) = reads (save before)
public_call (loads bytes r) = or_fresh r (load bytes)
public_call (loads_live bytes r) = load bytes
public_call (pages sample before r after) = reads (page sample before)
public_call (serves sample kept n) = reads (serve_length sample kept)

-- An outcome in two parts is what the public call returns.
abbrev pub GaveBehind : Call → Store → Answer → Store → Type 0
GaveBehind c finds r store = gave (record { answer = r; store = store }) ≡ returned c finds

-- What a call gave is what the public call itself returns on the store that it found, refused or not; of a fresh or load by a spare store, with
-- what was laid down there.
abbrev pub ReturnsAs : CallBehind → Store → Store → Type 0
ReturnsAs (freshens plan r) finds leaves = GaveBehind (fresh plan) finds r leaves
ReturnsAs (freshens_live plan r) finds leaves = (spare : Store) × GaveBehind (fresh plan) finds r spare
ReturnsAs (steps number x y r) finds leaves = GaveBehind (run (step_record number x y ∷ []) 0) finds r leaves
ReturnsAs (checks r) finds leaves = answered r ≡ returned (reads check) finds
ReturnsAs (looks k r) finds leaves = answered r ≡ returned (reads (look k)) finds
ReturnsAs (saves before r after) finds leaves = wrote (r, after) ≡ returned (reads (save before)) finds
ReturnsAs (loads bytes r) finds leaves = GaveBehind (load bytes) finds r leaves
ReturnsAs (loads_live bytes r) finds leaves = (spare : Store) × GaveBehind (load bytes) finds r spare
ReturnsAs (pages sample before r after) finds leaves = wrote (r, after) ≡ returned (reads (page sample before)) finds
ReturnsAs (serves sample kept n) finds leaves = counted n ≡ returned (reads (serve_length sample kept)) finds
