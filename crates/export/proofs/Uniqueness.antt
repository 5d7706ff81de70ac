-- Uniqueness: any two answers, and any two stores behind the pointer, that a promise of the C interface allows are equal. That of Looks, Saves
-- and Pages is proved with the calls themselves (`calls/proofs/Uniqueness.antt`).
use mathlib.Core.Path.{◌≡◌, sym, ◌∙◌}
use mathlib.Core.List.{List}
use Prim.Native.Nat.{ℕ}
use Rattle.store.specs.declared.Answer.{Answer}
use Rattle.store.specs.declared.Outcome.{Outcome}
use Rattle.store.specs.declared.Store.{Store}
use Rattle.store.specs.Promises.{Checks}
use Rattle.page.specs.Promises.{ServesLength}
use Rattle.export.specs.Promises.{Gives, FreshensBehind, StepsBehind, LoadsBehind}

gives_once : (o : Outcome) (r q : Answer) (after other : Store) → Gives o r after → Gives o q other → (r ≡ q) × (after ≡ other)
gives_once o r q after other a b = (a.0 ∙ sym b.0, a.1 ∙ sym b.1)

pub fresh_behind_once : (plan : ℕ) (r q : Answer) (after other : Store) → FreshensBehind plan r after → FreshensBehind plan q other
    → (r ≡ q) × (after ≡ other)
fresh_behind_once plan = gives_once _

pub step_behind_once : (before : Store) (number x y : ℕ) (r q : Answer) (after other : Store) → StepsBehind before number x y r after
    → StepsBehind before number x y q other → (r ≡ q) × (after ≡ other)
step_behind_once before number x y = gives_once _

pub load_behind_once : (bytes : List ℕ) (r q : Answer) (after other : Store) → LoadsBehind bytes r after → LoadsBehind bytes q other
    → (r ≡ q) × (after ≡ other)
load_behind_once bytes = gives_once _

pub serve_length_once : (store : Store) (sample : ℕ) (kept : List ℕ) (r q : ℕ) → ServesLength store sample kept r
    → ServesLength store sample kept q → r ≡ q
serve_length_once store sample kept r q a b = a ∙ sym b

pub good_once : (store : Store) (r q : Answer) → Checks store r → Checks store q → r ≡ q
good_once store r q a b = a ∙ sym b
