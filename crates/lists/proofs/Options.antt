-- Laws of something that is there or not.
use mathlib.Core.Path.{◌≡◌, refl}
use mathlib.Core.Logic.{◌⊎◌, inl, inr}
use mathlib.Core.Option.{Option, none, some}
use Prim.Native.Nat.{ℕ}
use native.Mathlib.Omega.{arith}

module _ {A : Type 0} where
  -- It is not there or it is,
  pub option? : (o : Option A) → (o ≡ none) ⊎ ((a : A) × (o ≡ some a))
  option? none = inl refl
  option? (some a) = inr (a, refl)

  -- never both,
  pub not_none_and_some : {o : Option A} {a : A} → o ≡ none → o ≡ some a → ⊥
  not_none_and_some p q = let z : ◌≡◌ {A = ℕ} 0 1 = cc in omega arith

  -- and it is one thing.
  pub one_some : {o : Option A} {a b : A} → o ≡ some a → o ≡ some b → a ≡ b
  one_some p q = cc
