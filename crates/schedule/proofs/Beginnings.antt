-- Decoding never looks further than its first 2818 bytes: so many of any bytes, or more, are decoded as all of them are.
use mathlib.Core.Path.{◌≡◌, refl, ap, ◌∙◌}
use mathlib.Core.Bool.{Bool, true, false, cond}
use mathlib.Core.List.{List, []}
use Prim.Native.Nat.{ℕ, zero, suc, ◌+◌, ◌*◌, ◌<◌, ◌≤◌}
use native.Mathlib.Omega.{arith}
use lib.Dec.{leb}
use lib.ListN.{length, take, length-take}
use lib.Seq.{get_or-take}
use borrow.Author.Tests.{leb-true, le-leb}
use Rattle.lists.proofs.Truths.{same_test}
use Rattle.number.specs.Number.{narrow, Bytes, read_in, read_at}
use Rattle.store.specs.Answers.{PLAN, OP}
use Rattle.store.specs.StoreRules.{plan_number_test}
use Rattle.wire.specs.Reading.{Got, got, fault, bind, numbered, number_at}
use Rattle.schedule.specs.Schedule.{most_steps, known_step, second_at, step_at, steps_at, schedule_at}
use Rattle.schedule.proofs.ScheduleLaws.{number_given, step_given, known_between, plan_small}

-- The plan in one byte, and 256 steps of 11.
abbrev pub most_bytes : ℕ
most_bytes = 2817

-- The same first part, and the same after each thing that it gives.
bind_same : {A B : Type 0} {m k : Got A} {f g : A → ℕ → Got B} → m ≡ k → ((x : A) (next : ℕ) → k ≡ got x next → f x next ≡ g x next)
    → bind m f ≡ bind k g
unfolding bind
bind_same {A} {B} {m} {k} {f} {g} e h = ap (λ (q : Got A). bind q f) e ∙ go k h
  where
    go : (q : Got A) → ((x : A) (next : ℕ) → q ≡ got x next → f x next ≡ g x next) → bind q f ≡ bind q g
    go (got x next) h = h x next refl
    go (fault number at) h = refl

cond_same : {A : Type 0} (test : Bool) {x y : A} (z : A) → (test ≡ true → x ≡ y) → cond test x z ≡ cond test y z
cond_same true z h = h refl
cond_same false z h = refl

cond_other : {A : Type 0} (test : Bool) (z : A) {x y : A} → x ≡ y → cond test z x ≡ cond test z y
cond_other {A} test z e = ap (λ (w : A). cond test z w) e

module _ (s : List ℕ) (n : ℕ) where
  -- Before the n-th byte the beginning ends where all of them end,
  ends_same : (at : ℕ) → at < n → leb (length (take n s)) at ≡ leb (length s) at
  ends_same at h =
      same_test (λ e. le-leb (length s) at (omega (arith, length-take n s, leb-true (length (take n s)) at e)))
      (λ e. le-leb (length (take n s)) at (omega (arith, length-take n s, leb-true (length s) at e)))

  -- and numbers are read alike.
  read_same : (last more : ℕ) (first : Bool) (at : ℕ) → at + more < n → read_in (take n s) last more first at ≡ read_in s last more first at
  unfolding read_in
  read_same last zero first at h = rw (ends_same at (omega arith), get_or-take n s at 0 (omega arith))
  read_same last (suc more) first at h =
      rw (ends_same at (omega arith), get_or-take n s at 0 (omega arith), read_same last more false (at + 1) (omega arith))

  number_same : (at : ℕ) → at + 5 ≤ n → number_at narrow (take n s) at ≡ number_at narrow s at
  unfolding number_at read_at
  number_same at h = ap (numbered at) (read_same narrow.last narrow.more true at (omega arith))

  second_same : (number at : ℕ) → at + 5 ≤ n → second_at (take n s) number at ≡ second_at s number at
  unfolding second_at
  second_same number at h = rw (number_same at h)

  module _ (bytes : Bytes s) where
    step_same : (at : ℕ) → at + 11 ≤ n → step_at (take n s) at ≡ step_at s at
    unfolding step_at
    step_same at h =
        bind_same (number_same at (omega arith)) λ number a e.
        cond_same (known_step number) (fault OP at) λ t.
        let k = known_between number t in
        let o : a ≡ at + 1 = ((number_given s bytes at).each number a e).one (omega arith) in
        bind_same (number_same a (omega arith)) λ x b f.
        let w : b ≤ a + 5 = ((number_given s bytes a).each x b f).short in
        bind_same (second_same number b (omega arith)) λ y c u. refl

    steps_same : (most at : ℕ) → at + 11 * most < n → steps_at (take n s) most at ≡ steps_at s most at
    unfolding steps_at
    steps_same zero at h = rw (ends_same at (omega arith))
    steps_same (suc most) at h =
        rw (ends_same at (omega arith))
        (cond_other (leb (length s) at) (got [] at)
        (bind_same (step_same at (omega arith)) λ x a e.
        let w : a ≤ at + 11 = ((step_given s bytes at).each x a e).short in
        bind_same (steps_same most a (omega arith)) λ xs b u. refl))

    pub beginning_same : most_bytes < n → schedule_at (take n s) ≡ schedule_at s
    unfolding schedule_at
    beginning_same h =
        bind_same (number_same 0 (omega arith)) λ plan a e.
        cond_same (plan_number_test plan) (fault PLAN 0) λ t.
        let o : a ≡ 0 + 1 = ((number_given s bytes 0).each plan a e).one (plan_small plan t) in
        bind_same (steps_same most_steps a (omega arith)) λ xs b u. refl
