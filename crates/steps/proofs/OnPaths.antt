-- Where a node stands on a key's path: the root first, and the key's next node one place further.
use mathlib.Core.Path.{◌≡◌, sym}
use Prim.Native.Nat.{ℕ, suc, ◌-◌, ◌<◌, ◌≤◌}
use native.Mathlib.Omega.{arith}
use native.Mathlib.Decide.{dec_lt}
use lib.ListN.{length, get_or}
use Rattle.lists.proofs.Orders.{Order, order?}
use Rattle.lists.proofs.Orders.Order.{less, equal, more}
use Rattle.std.specs.Prelude.{Some}
use Rattle.plan.specs.Plan.{Plan, size, next, path, IsPath}
use Rattle.plan.specs.PlanRules.{PlanRules}
use Rattle.plan.proofs.NextLaws.{not_both_hops, one_target, root_in_plan}
use Rattle.plan.proofs.PathLaws.{path_some, path_first, path-next, path_is, path_down, path_in_plan, path_end}
use Rattle.store.specs.StateRules.{OnPath}

module _ (p : Plan) (rules : PlanRules p) (k : ℕ) where
  is_path : IsPath (λ m. next p m k) 0 (path p k)
  is_path = path_is p rules k 0 (root_in_plan p rules)

  -- The root stands first.
  pub root_on_path : OnPath p k 0 0
  root_on_path = record { inside = path_some (λ m. next p m k) is_path; here = path_first (λ m. next p m k) is_path }

  -- Each node of a path is one of the plan,
  pub on_path_in_plan : (n above : ℕ) → OnPath p k n above → n < size p
  on_path_in_plan n above o = omega (arith, path_in_plan p rules k above o.inside, o.here)

  -- and its next node stands in the next place.
  pub next_on_path : (n t above : ℕ) → OnPath p k n above → next p n k ≡ Some t → OnPath p k t (suc above)
  next_on_path n t above o e = go (dec_lt (suc above) (length (path p k)))
    where
      goes : next p (get_or (path p k) above 0) k ≡ Some t
      goes = rw o.here e

      go : Dec (suc above < length (path p k)) → OnPath p k t (suc above)
      go (yes h) = record { inside = h; here = one_target (path-next (λ m. next p m k) is_path above h) goes }
      go (no h) =
          let last : length (path p k) - 1 ≡ above = omega (arith, o.inside) in
          absurd (not_both_hops (rw last at (path_end p rules k)) goes)

  -- So no node of the path stands between a node and its next.
  pub none_between : (n t m a b : ℕ) → OnPath p k n a → next p n k ≡ Some t → OnPath p k m b → n < m → t ≤ m
  none_between n t m a b o e q h = go (order? (suc a) b) (order? b a)
    where
      after : OnPath p k t (suc a)
      after = next_on_path n t a o e

      at : (i : ℕ) → i ≡ b → get_or (path p k) i 0 ≡ m
      at i g = rw g q.here

      go : Order (suc a) b → Order b a → t ≤ m
      go (less g) d = omega (arith, path_down p rules k (suc a) b g q.inside, after.here, q.here)
      go (equal g) d = omega (arith, after.here, at (suc a) g)
      go (more g) (less f) = absurd (omega (arith, path_down p rules k b a f o.inside, o.here, q.here))
      go (more g) (equal f) = absurd (omega (arith, o.here, at a (sym f)))
      go (more g) (more f) = absurd (omega arith)
