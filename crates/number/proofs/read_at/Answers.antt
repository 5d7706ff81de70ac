-- `number::read_at` meets its contract. The loop keeps `Going`.
use mathlib.Core.Path.{◌≡◌}
use mathlib.Core.Logic.{⊎_elim}
use Prim.Native.Nat.{◌<◌, ◌≤◌}
use native.Mathlib.Omega.{arith}
use borrow.Author.Tests.{ltb-true, ltb-false}
use Rattle.number.specs.Number.{narrow, largest_in}
use Rattle.number.proofs.Reader.{go_starts, go_fits, go_above, go_turns, last_within}
use Rattle.number.proofs.read_at.Goals as goal
use Rattle.number.proofs.read_at.Goals.{Else-byte-lt128, Joined-else-more-eq0, Then-byte-lt128}

pub loop-next-init : goal.loop-next-init
loop-next-init c =
    go_starts _ _ c.from-low.ensures c.if-bytes-at.false c.if-low-lt128.false
    (omega (arith, c.from-low.ensures, c.type_inv.bytes c.args.at))

pub returns-then-byte-gt-LAST : goal.returns-then-byte-gt-LAST
returns-then-byte-gt-LAST c =
    go_above c.loop-next.invariant c.from-byte.ensures c.loop-next-test.true c.if-more-eq0.true (omega (arith, ltb-true))

-- Past the two tests a byte that must be the last is at most 0F.
allowed : (j : Joined-else-more-eq0) → j.loop-next.more ≡ 0 → j.from-byte.result ≤ narrow.last
allowed j z = ⊎_elim (λ w. omega (arith, ltb-false)) (λ w. absurd (w z)) j.else-more-eq0.either

-- A last byte is within what may come.
within : (c : Then-byte-lt128) → c.from-byte.result ≤ largest_in narrow.last c.loop-next.more
within c = last_within _ _ c.if-byte-lt128.true (allowed (goal.at.Then-byte-lt128 c).Joined-else-more-eq0)

pub overflow_mul-result : goal.overflow_mul-result
overflow_mul-result c = omega (arith, go_fits c.loop-next.invariant (within c))

pub overflow_add-result-then-byte-lt128 : goal.overflow_add-result-then-byte-lt128
overflow_add-result-then-byte-lt128 c = omega (arith, go_fits c.loop-next.invariant (within c))

-- After a byte with the top bit a further one may come.
some : (c : Else-byte-lt128) → c.loop-next.more ≡ 0 → ⊥
some c z = omega (arith, allowed (goal.at.Else-byte-lt128 c).Joined-else-more-eq0 z, c.if-byte-lt128.false)

-- It is a byte.
small : (c : Else-byte-lt128) → c.from-byte.result < 256
small c = omega (arith, c.from-byte.ensures, c.type_inv.bytes c.loop-next.next)

pub loop-next-preserved : goal.loop-next-preserved
loop-next-preserved c =
    go_turns c.loop-next.invariant c.from-byte.ensures c.loop-next-test.true c.if-byte-lt128.false (small c) (some c)
