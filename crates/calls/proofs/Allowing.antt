-- What the promises allow a sequence of public calls to return is what it returns: one list, and no other.
use mathlib.Core.Path.{◌≡◌, refl, sym, ap, ◌∙◌}
use mathlib.Core.List.{List, ◌∷◌}
use Prim.Native.Nat.{ℕ}
use Rattle.store.specs.declared.Store.{Store}
use Rattle.store.specs.Copies.{kind_number}
use Rattle.store.specs.Copies.Kind.{withdrawn}
use Rattle.store.specs.Calls.{on_store}
use Rattle.store.proofs.KindLaws.{withdrawn_holds}
use Rattle.steps.specs.Entries.{entry}
use Rattle.steps.specs.Promises.{entry_outcome, withdraw_outcome}
use Rattle.calls.specs.PublicCalls.{Call, Returned, store_after, returned, all_returned}
use Rattle.calls.specs.PublicCalls.Returned.{gave, answered, wrote, listed, handed_back, counted}
use Rattle.calls.specs.Allowed.{Allowed, AllAllowed}
use Rattle.calls.specs.Allowed.Allowed.{
  freshens,
  loads,
  enters,
  withdraws,
  carries,
  starts,
  steps,
  cancels,
  runs,
  checks,
  looks,
  saves,
  pages,
  serves,
  serves_length,
  decodes,
}
use Rattle.calls.specs.Allowed.AllAllowed.{none, next}

-- Two equal parts are an equal pair.
pub both : {A B : Type 0} {a x : A} {b y : B} → (a ≡ x) × (b ≡ y) → ◌≡◌ {A = A × B} (a, b) (x, y)
both {A} {B} {a} {x} {b} {y} e =
    let first : A → A × B = λ w. (w, b) in
    let second : B → A × B = λ w. (x, w) in
    ap first e.0 ∙ ap second e.1

-- Of a withdrawal the value is not read.
value_unread : (z : Store) (key value : ℕ) → withdraw_outcome z key ≡ entry_outcome withdrawn z key value
value_unread z key value = ap (λ (v : ℕ). on_store (entry (kind_number withdrawn) key v) z) (withdrawn_holds 0 ∙ sym (withdrawn_holds value))

pub allowed_is : (z : Store) (c : Call) (r : Returned) → Allowed z c r → r ≡ returned c z
unfolding returned
allowed_is z c r (freshens plan o e) = ap gave e
allowed_is z c r (loads bytes o e) = ap gave e
allowed_is z c r (enters key value o e) = ap gave e
allowed_is z c r (withdraws key value o e) = ap gave (e ∙ value_unread z key value)
allowed_is z c r (carries node edge o e) = ap gave e
allowed_is z c r (starts key o e) = ap gave e
allowed_is z c r (steps slot o e) = ap gave e
allowed_is z c r (cancels slot o e) = ap gave e
allowed_is z c r (runs list place o e) = ap gave e
allowed_is z c r (checks a e) = ap answered e
allowed_is z c r (looks key a e) = ap answered e
allowed_is z c r (saves before a after e) = ap wrote (both e)
allowed_is z c r (pages sample before a after e) = ap wrote (both e)
allowed_is z c r (serves sample kept notice q e) = ap handed_back (both e)
allowed_is z c r (serves_length sample kept n e) = ap counted e
allowed_is z c r (decodes bytes before a after e) = ap listed (both e)

pub all_allowed_is : (z : Store) (cs : List Call) (rs : List Returned) → AllAllowed z cs rs → rs ≡ all_returned cs z
unfolding all_returned
all_allowed_is z cs rs (none y) = refl
all_allowed_is z cs rs (next y c r ds qs a all) =
    ap (λ (x : Returned). x ∷ qs) (allowed_is y c r a) ∙ ap (λ (xs : List Returned). returned c y ∷ xs) (all_allowed_is (store_after c y) ds qs all)

-- So any two lists that the promises allow are one.
pub sequence_once : (z : Store) (cs : List Call) (rs qs : List Returned) → AllAllowed z cs rs → AllAllowed z cs qs → rs ≡ qs
sequence_once z cs rs qs a b = all_allowed_is z cs rs a ∙ sym (all_allowed_is z cs qs b)
