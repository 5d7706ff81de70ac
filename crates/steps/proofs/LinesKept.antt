-- A step that each line sees as nothing, as one entry or as one carry keeps the rules on lines.
use mathlib.Core.Path.{◌≡◌, sym, ap, ◌∙◌, subst}
use mathlib.Core.Logic.{◌⊎◌, inl, inr}
use mathlib.Core.Option.{some}
use Prim.Native.Nat.{ℕ, suc, ◌<◌, ◌≤◌}
use native.Mathlib.Omega.{arith}
use native.Mathlib.Decide.{ℕ_discrete}
use Rattle.lists.proofs.Options.{not_none_and_some, one_some}
use Rattle.lists.proofs.Orders.{Order, order?}
use Rattle.lists.proofs.Orders.Order.{less, equal, more}
use Rattle.std.specs.Prelude.{Some}
use Rattle.plan.specs.Plan.{Plan, next}
use Rattle.plan.specs.PlanRules.{PlanRules}
use Rattle.plan.proofs.NextLaws.{next_down}
use Rattle.store.specs.declared.Copy.{Copy}
use Rattle.store.specs.State.{State, line}
use Rattle.store.specs.StateRules.{KindAndValue, OnPath}
use Rattle.steps.proofs.OnPaths.{root_on_path, next_on_path, none_between}
use Rattle.steps.proofs.RulesOnLines.{LineRules}
use Rattle.steps.proofs.LineSteps.{Entered, Carried, LineStep}
use Rattle.steps.proofs.LineSteps.LineStep.{same, enters, carries}

module _ (p : Plan) (rules : PlanRules p) (s s' : State) (moves entries : ℕ → ℕ)
    (steps : (k : ℕ) → LineStep (λ m. next p m k) s.clock s'.clock (line s k) (line s' k) (moves k) (entries k)) where
  -- Where a line's copy comes from: it was there, it was at the node before, or it is new.
  pub data Came (k m : ℕ) (y : Copy) : Type 0 where
    stood : line s k m ≡ some y → Came k m y
    moved : (n : ℕ) → line s k n ≡ some y → next p n k ≡ Some m → Came k m y
    entered : entries k ≡ 1 → m ≡ 0 → y.stamp ≡ s.clock → s.clock < s'.clock → Came k m y

  pub came : (k m : ℕ) (y : Copy) → line s' k m ≡ some y → Came k m y
  came k m y e = go (steps k)
    where
      go : LineStep (λ m. next p m k) s.clock s'.clock (line s k) (line s' k) (moves k) (entries k) → Came k m y
      go (same a b h f) = stood (sym (f m) ∙ e)
      go (enters a b x t h f) = at (ℕ_discrete m 0)
        where
          at : Dec (m ≡ 0) → Came k m y
          at (yes q) =
              let is : x ≡ y = one_some f.got (subst (λ (z : ℕ). line s' k z ≡ some y) q e) in
              entered b q (ap (λ (z : Copy). z.stamp) (sym is) ∙ t) h
          at (no q) = stood (sym (f.other m q) ∙ e)
      go (carries a b n t x h f) = at (ℕ_discrete m n) (ℕ_discrete m t)
        where
          at : Dec (m ≡ n) → Dec (m ≡ t) → Came k m y
          at (yes q) d = absurd (not_none_and_some f.gone (subst (λ (z : ℕ). line s' k z ≡ some y) q e))
          at (no q) (yes d) =
              let is : x ≡ y = one_some f.got (subst (λ (z : ℕ). line s' k z ≡ some y) d e) in
              moved n (f.had ∙ ap some is) (rw d f.via)
          at (no q) (no d) = stood (sym (f.other m q d) ∙ e)

  pub clock_grows : s.clock ≤ s'.clock
  clock_grows = go (steps 0)
    where
      go : LineStep (λ m. next p m 0) s.clock s'.clock (line s 0) (line s' 0) (moves 0) (entries 0) → s.clock ≤ s'.clock
      go (same a b h f) = h
      go (enters a b x t h f) = omega arith
      go (carries a b n t x h f) = omega arith

  module _ (l : LineRules p s) where
    fall-entered : (k : ℕ) (z : Copy) → z.stamp ≡ s.clock → Entered z (line s k) (line s' k)
        → (n m : ℕ) (x y : Copy) → line s' k n ≡ some x → line s' k m ≡ some y → n < m → y.stamp < x.stamp
    fall-entered k z t f n m x y a b h = at (ℕ_discrete n 0)
      where
        old : line s k m ≡ some y
        old = sym (f.other m (λ (q : m ≡ 0). omega arith)) ∙ b

        at : Dec (n ≡ 0) → y.stamp < x.stamp
        at (yes q) =
            let is : z ≡ x = one_some f.got (subst (λ (i : ℕ). line s' k i ≡ some x) q a) in
            omega (arith, l.stamps k m y old, t, ap (λ (c : Copy). c.stamp) is)
        at (no q) = l.fall k n m x y (sym (f.other n q) ∙ a) old h

    fall-carried : (k from t : ℕ) (z : Copy) → Carried (λ m. next p m k) from t z (line s k) (line s' k)
        → (n m : ℕ) (x y : Copy) → line s' k n ≡ some x → line s' k m ≡ some y → n < m → y.stamp < x.stamp
    fall-carried k from t z f n m x y a b h =
        at (ℕ_discrete n from) (ℕ_discrete n t) (ℕ_discrete m from) (ℕ_discrete m t)
      where
        down : from < t
        down = (next_down p rules from k t f.via).0

        stamp : {c d : Copy} → c ≡ d → c.stamp ≡ d.stamp
        stamp e = ap (λ (c : Copy). c.stamp) e

        gone : (j : ℕ) (c : Copy) → line s' k j ≡ some c → j ≡ from → ⊥
        gone j c e q = not_none_and_some f.gone (subst (λ (i : ℕ). line s' k i ≡ some c) q e)

        got : (j : ℕ) (c : Copy) → line s' k j ≡ some c → j ≡ t → z ≡ c
        got j c e q = one_some f.got (subst (λ (i : ℕ). line s' k i ≡ some c) q e)

        old : (j : ℕ) (c : Copy) → line s' k j ≡ some c → (j ≡ from → ⊥) → (j ≡ t → ⊥) → line s k j ≡ some c
        old j c e u v = sym (f.other j u v) ∙ e

        -- A node above the target, other than the one carried from, stands above that one too.
        above : line s k n ≡ some x → (n ≡ from → ⊥) → n < t → n < from
        above e u g = side (order? n from)
          where
            side : Order n from → n < from
            side (less w) = w
            side (equal w) = absurd (u w)
            side (more w) =
                absurd
                (omega (
                  arith,
                  none_between p rules k from t n (l.paths k from z f.had).0 (l.paths k n x e).0 (l.paths k from z f.had).1 f.via
                      (l.paths k n x e).1 w,
                ))

        at : Dec (n ≡ from) → Dec (n ≡ t) → Dec (m ≡ from) → Dec (m ≡ t) → y.stamp < x.stamp
        at (yes q) c d e = absurd (gone n x a q)
        at (no q) c (yes d) e = absurd (gone m y b d)
        at (no q) (yes c) (no d) (yes e) = absurd (omega arith)
        at (no q) (yes c) (no d) (no e) =
            omega (arith, l.fall k from m z y f.had (old m y b d e) (omega (arith, down)), stamp (got n x a c))
        at (no q) (no c) (no d) (yes e) =
            let o = old n x a q c in
            omega (arith, l.fall k n from x z o f.had (above o q (omega arith)), stamp (got m y b e))
        at (no q) (no c) (no d) (no e) = l.fall k n m x y (old n x a q c) (old m y b d e) h

    keeps_fall : (k n m : ℕ) (x y : Copy) → line s' k n ≡ some x → line s' k m ≡ some y → n < m → y.stamp < x.stamp
    keeps_fall k n m x y a b h = go (steps k)
      where
        go : LineStep (λ m. next p m k) s.clock s'.clock (line s k) (line s' k) (moves k) (entries k) → y.stamp < x.stamp
        go (same c d e f) = l.fall k n m x y (sym (f n) ∙ a) (sym (f m) ∙ b) h
        go (enters c d z t e f) = fall-entered k z t f n m x y a b h
        go (carries c d from t z e f) = fall-carried k from t z f n m x y a b h

    -- A copy was held before, at whatever node, or it has entered at the root.
    Was : ℕ → Copy → Type 0
    Was k y = (n : ℕ) × (line s k n ≡ some y)

    New : ℕ → Copy → Type 0
    New k y = (entries k ≡ 1) × (line s' k 0 ≡ some y) × (y.stamp ≡ s.clock)

    was? : (k m : ℕ) (y : Copy) → line s' k m ≡ some y → Was k y ⊎ New k y
    unfolding Was New
    was? k m y e = go (came k m y e)
      where
        go : Came k m y → Was k y ⊎ New k y
        go (stood f) = inl (m, f)
        go (moved n f h) = inl (n, f)
        go (entered f q t h) = inr (f, subst (λ (z : ℕ). line s' k z ≡ some y) q e, t)

    keeps_paths : (k m : ℕ) (y : Copy) → Came k m y → (above : ℕ) × OnPath p k m above
    keeps_paths k m y (stood e) = l.paths k m y e
    keeps_paths k m y (moved n e h) =
        let w = l.paths k n y e in
        (suc w.0, next_on_path p rules k n m w.0 w.1 h)
    keeps_paths k m y (entered e q t h) = (0, rw q (root_on_path p rules k))

    keeps_stamps : 1 ≤ s.clock → (k m : ℕ) (y : Copy) → Came k m y → (1 ≤ y.stamp) × (y.stamp < s'.clock)
    keeps_stamps c k m y (stood e) = omega (arith, clock_grows, l.stamps k m y e)
    keeps_stamps c k m y (moved n e h) = omega (arith, clock_grows, l.stamps k n y e)
    keeps_stamps c k m y (entered e q t h) = omega arith

    -- With one entry at most, and that of a fitting kind and value, all rules on lines are kept.
    pub lines_kept : 1 ≤ s.clock → ((j k : ℕ) → entries j ≡ 1 → entries k ≡ 1 → j ≡ k)
        → ((k : ℕ) (x : Copy) → entries k ≡ 1 → line s' k 0 ≡ some x → KindAndValue x) → LineRules p s'
    unfolding Was New
    lines_kept c one fit =
        record {
          kinds = λ k n x e. kind k x (was? k n x e);
          paths = λ k n x e. keeps_paths k n x (came k n x e);
          stamps = λ k n x e. keeps_stamps c k n x (came k n x e);
          apart = λ j k m n x y a b t. apart j k x y t (was? j m x a) (was? k n y b);
          fall = keeps_fall;
        }
      where
        kind : (k : ℕ) (x : Copy) → Was k x ⊎ New k x → KindAndValue x
        kind k x (inl w) = l.kinds k w.0 x w.1
        kind k x (inr w) = fit k x w.0 w.1

        apart : (j k : ℕ) (x y : Copy) → x.stamp ≡ y.stamp → Was j x ⊎ New j x → Was k y ⊎ New k y → j ≡ k
        apart j k x y t (inl w) (inl v) = l.apart j k w.0 v.0 x y w.1 v.1 t
        apart j k x y t (inl w) (inr v) = absurd (omega (arith, l.stamps j w.0 x w.1, v.2))
        apart j k x y t (inr w) (inl v) = absurd (omega (arith, l.stamps k v.0 y v.1, w.2))
        apart j k x y t (inr w) (inr v) = one j k w.0 v.0
