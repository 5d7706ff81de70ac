-- Uniqueness: any two outcomes that a public call's promise allows are equal. Of serve, whose outcome is lent, the pointer and the bytes.
use mathlib.Core.Path.{◌≡◌, sym, ◌∙◌}
use mathlib.Core.List.{List}
use Prim.Native.Nat.{ℕ}
use denote.Ref.{Bor}
use Rattle.store.specs.declared.Answer.{Answer}
use Rattle.store.specs.declared.Outcome.{Outcome}
use Rattle.store.specs.declared.Store.{Store}
use Rattle.store.specs.Promises.{Freshens}
use Rattle.steps.specs.Promises.{Enters, Withdraws, Carries, Starts, Steps, Cancels, Looks}
use Rattle.image.specs.Promises.{Saves, Loads}
use Rattle.page.specs.Promises.{Pages, Serves}
use Rattle.schedule.specs.declared.Step.{Step}
use Rattle.schedule.specs.Promises.{Decodes, Runs}

-- Two things that are both one are the same.
both : {A : Type 0} {x r q : A} → r ≡ x → q ≡ x → r ≡ q
both a b = a ∙ sym b

pub fresh_once : (plan : ℕ) (r q : Outcome) → Freshens plan r → Freshens plan q → r ≡ q
fresh_once plan r q = both

pub enter_once : (store : Store) (key value : ℕ) (r q : Outcome) → Enters store key value r → Enters store key value q → r ≡ q
enter_once store key value r q = both

pub withdraw_once : (store : Store) (key : ℕ) (r q : Outcome) → Withdraws store key r → Withdraws store key q → r ≡ q
withdraw_once store key r q = both

pub carry_once : (store : Store) (node edge : ℕ) (r q : Outcome) → Carries store node edge r → Carries store node edge q → r ≡ q
carry_once store node edge r q = both

pub start_once : (store : Store) (key : ℕ) (r q : Outcome) → Starts store key r → Starts store key q → r ≡ q
start_once store key r q = both

pub step_once : (store : Store) (slot : ℕ) (r q : Outcome) → Steps store slot r → Steps store slot q → r ≡ q
step_once store slot r q = both

pub cancel_once : (store : Store) (slot : ℕ) (r q : Outcome) → Cancels store slot r → Cancels store slot q → r ≡ q
cancel_once store slot r q = both

pub look_once : (store : Store) (key : ℕ) (r q : Answer) → Looks store key r → Looks store key q → r ≡ q
look_once store key r q = both

pub save_once : (store : Store) (before : List ℕ) (r q : Answer) (after other : List ℕ) → Saves store before r after → Saves store before q other
    → (r ≡ q) × (after ≡ other)
save_once store before r q after other a b = (both a.0 b.0, both a.1 b.1)

pub load_once : (bytes : List ℕ) (r q : Outcome) → Loads bytes r → Loads bytes q → r ≡ q
load_once bytes r q = both

pub page_once : (store : Store) (sample : ℕ) (before : List ℕ) (r q : Answer) (after other : List ℕ) → Pages store sample before r after
    → Pages store sample before q other → (r ≡ q) × (after ≡ other)
page_once store sample before r q after other a b = (both a.0 b.0, both a.1 b.1)

pub serve_once : (store : Store) (sample : ℕ) (kept notice r q : Bor (List ℕ)) → Serves store sample kept notice r
    → Serves store sample kept notice q → (r.ref_ptr ≡ q.ref_ptr) × (r.now ≡ q.now)
serve_once store sample kept notice r q a b = (both a.0 b.0, both a.1 b.1)

pub decode_once : (bytes : List ℕ) (before : List Step) (r q : Answer) (after other : List Step) → Decodes bytes before r after
    → Decodes bytes before q other → (r ≡ q) × (after ≡ other)
decode_once bytes before r q after other a b = (both a.0 b.0, both a.1 b.1)

pub run_once : (store : Store) (list : List Step) (place : ℕ) (r q : Outcome) → Runs store list place r → Runs store list place q → r ≡ q
run_once store list place r q = both
