-- `merges::turn` meets its contract.
use mathlib.Core.Path.{◌≡◌, sym, ◌∙◌}
use mathlib.Core.Bool.{true, true≢false}
use Prim.Native.Nat.{◌<◌, ◌≤◌}
use native.Mathlib.Omega.{arith}
use Rattle.store.specs.Workers.{number_in}
use Rattle.merges.proofs.Turning.{own_first, replaces, adds, stays_outside, stays_full}
use Rattle.merges.proofs.turn.Goals as goal
use Rattle.merges.proofs.turn.Goals.{Joined-else-own, Joined-else-held, else-own-via-then-own+else-keys-walk, else-own-via-else-own, else-held-via-then-held+then-own-2+else-keys-walk-2, else-held-via-then-held+else-own-2, else-held-via-else-held, else-held-2-via-then-held-2+else-len-walk, else-held-2-via-else-held-2}

-- Where the tests on the target's next key meet: it is not below the node's, and not the same where the edge holds the node's.
not-below : (c : Joined-else-own) → let a = c.args in
    0 < a.walk.now.own.count → number_in a.keys.now a.walk.now.node.from ≤ number_in a.keys.now a.walk.now.own.from
not-below c h = elim c.else-own.branch [ else-own-via-then-own+else-keys-walk w ↦ w.if-keys-walk.false | else-own-via-else-own w ↦ absurd (omega (arith, w.if-own.false, h)) ]

not_same : (c : Joined-else-held) → c.holds-held.result ≡ true → let a = c.args in
    0 < a.walk.now.own.count → number_in a.keys.now a.walk.now.own.from ≡ number_in a.keys.now a.walk.now.node.from → ⊥
not_same c t h =
    elim c.else-held.branch [
      | else-held-via-then-held+then-own-2+else-keys-walk-2 w ↦ w.if-keys-walk-2.false
      | else-held-via-then-held+else-own-2 w ↦ absurd (omega (arith, w.if-own-2.false, h))
      | else-held-via-else-held w ↦ absurd (true≢false (sym t ∙ w.if-held.false))
    ]

pub returns-then-keys-walk : goal.returns-then-keys-walk
returns-then-keys-walk c =
    own_first c.args.edge c.requires.0 c.requires.1 (omega arith) c.if-keys-walk.true c.pass.new.list c.pass.new.span c.pass.ensures.0 c.pass.ensures.1

pub returns-then-keys-walk-2 : goal.returns-then-keys-walk-2
returns-then-keys-walk-2 c =
    let p = c.replace in
    replaces c.args.edge c.requires.0 c.requires.1 (sym c.holds-held.ensures ∙ c.if-held.true) (omega arith) c.if-keys-walk-2.true
    p.new.list p.new.node p.new.own p.ensures.0 p.ensures.1 p.ensures.2

pub returns-then-len-walk : goal.returns-then-len-walk
returns-then-len-walk c =
    let p = c.pass-then-len-walk in
    let j = (goal.at.returns-then-len-walk c).Joined-else-held in
    adds c.args.edge c.requires.0 c.requires.1 (not-below (goal.at.returns-then-len-walk c).Joined-else-own) (not_same j c.if-held-2.true)
    (sym c.holds-held.ensures ∙ c.if-held-2.true) (omega (arith, c.len.ensures.value, c.if-len-walk.true)) p.new.list p.new.span p.ensures.0 p.ensures.1

pub returns : goal.returns
returns c =
    let p = c.pass-2 in
    elim c.else-held-2.branch [
      | else-held-2-via-then-held-2+else-len-walk w ↦ stays_full c.args.edge c.requires.0 c.requires.1 (not-below (goal.at.returns c).Joined-else-own)
          (not_same (goal.at.returns c).Joined-else-held w.if-held-2.true) (sym c.holds-held.ensures ∙ w.if-held-2.true)
          (omega (arith, w.len.ensures.value, w.if-len-walk.false)) p.new.list p.new.span p.ensures.0 p.ensures.1
      | else-held-2-via-else-held-2 w ↦ stays_outside c.args.edge c.requires.0 c.requires.1 (sym c.holds-held.ensures ∙ w.if-held-2.false)
          p.new.list p.new.span p.ensures.0 p.ensures.1
    ]
