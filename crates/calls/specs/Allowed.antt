-- What the promises allow a sequence of public calls to return.
use Rattle.std.specs.Prelude.{List, [], ◌∷◌, ℕ}
use Rattle.std.specs.Borrow.{Bor}
use Rattle.store.specs.declared.Answer.{Answer}
use Rattle.store.specs.declared.Outcome.{Outcome}
use Rattle.store.specs.declared.Store.{Store}
use Rattle.store.specs.Copies.Kind.{withdrawn, result}
use Rattle.store.specs.Promises.{Freshens, Checks}
use Rattle.steps.specs.Promises.{Enters, Withdraws, Carries, Starts, Steps, Cancels, Looks}
use Rattle.image.specs.Promises.{Saves, Loads}
use Rattle.page.specs.Promises.{Pages, Serves, ServesLength}
use Rattle.schedule.specs.declared.Step.{Step}
use Rattle.schedule.specs.Promises.{Decodes, Runs}
use Rattle.calls.specs.PublicCalls.{Call, Returned, store_after}
use Rattle.calls.specs.PublicCalls.Call.{fresh, load, enter, carry, start, step, cancel, reads, run}
use Rattle.calls.specs.PublicCalls.ReadOnly.{check, look, save, page, serve, serve_length, decode}
use Rattle.calls.specs.PublicCalls.Returned.{gave, answered, wrote, listed, handed_back, counted}

-- A call on a store returns what its own promise allows.
pub data Allowed (z : Store) : Call → Returned → Type 0 where
  freshens : (plan : ℕ) (o : Outcome) → Freshens plan o → Allowed z (fresh plan) (gave o)
  loads : (bytes : List ℕ) (o : Outcome) → Loads bytes o → Allowed z (load bytes) (gave o)
  enters : (key value : ℕ) (o : Outcome) → Enters z key value o → Allowed z (enter result key value) (gave o)
  withdraws : (key value : ℕ) (o : Outcome) → Withdraws z key o → Allowed z (enter withdrawn key value) (gave o)
  carries : (node edge : ℕ) (o : Outcome) → Carries z node edge o → Allowed z (carry node edge) (gave o)
  starts : (key : ℕ) (o : Outcome) → Starts z key o → Allowed z (start key) (gave o)
  steps : (slot : ℕ) (o : Outcome) → Steps z slot o → Allowed z (step slot) (gave o)
  cancels : (slot : ℕ) (o : Outcome) → Cancels z slot o → Allowed z (cancel slot) (gave o)
  runs : (list : List Step) (place : ℕ) (o : Outcome) → Runs z list place o → Allowed z (run list place) (gave o)
  checks : (a : Answer) → Checks z a → Allowed z (reads check) (answered a)
  looks : (key : ℕ) (a : Answer) → Looks z key a → Allowed z (reads (look key)) (answered a)
  saves : (before : List ℕ) (a : Answer) (after : List ℕ) → Saves z before a after → Allowed z (reads (save before)) (wrote (a, after))
  pages : (sample : ℕ) (before : List ℕ) (a : Answer) (after : List ℕ) → Pages z sample before a after
      → Allowed z (reads (page sample before)) (wrote (a, after))
  serves : (sample : ℕ) (kept notice r : Bor (List ℕ)) → Serves z sample kept notice r
      → Allowed z (reads (serve sample kept notice)) (handed_back (r.ref_ptr, r.now))
  serves_length : (sample : ℕ) (kept : List ℕ) (n : ℕ) → ServesLength z sample kept n → Allowed z (reads (serve_length sample kept)) (counted n)
  decodes : (bytes : List ℕ) (before : List Step) (a : Answer) (after : List Step) → Decodes bytes before a after
      → Allowed z (reads (decode bytes before)) (listed (a, after))

-- So does each call of a sequence, on the store that the one before it left.
pub data AllAllowed : Store → List Call → List Returned → Type 0 where
  none : (z : Store) → AllAllowed z [] []
  next : (z : Store) (c : Call) (r : Returned) (cs : List Call) (rs : List Returned) → Allowed z c r → AllAllowed (store_after c z) cs rs
      → AllAllowed z (c ∷ cs) (r ∷ rs)
