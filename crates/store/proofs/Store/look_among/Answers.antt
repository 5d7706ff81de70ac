-- `store::Store::look_among` meets its contract.
-- (What stands three times here is a word with its own arguments; a lemma would name as many.)
use mathlib.Core.Path.{sym, ap, ◌∙◌}
use Rattle.std.specs.Prelude.{Some}
use Rattle.store.specs.Copies.{found_of}
use Prim.Native.Nat.{◌+◌, ◌-◌, ◌/◌}
use native.Mathlib.Omega.{arith}
use borrow.Author.Rules.{rules}
use Rattle.store.proofs.Halving.{place_bounds, half_up, half_down, found_at, look_nothing}
use Rattle.store.proofs.Store.look_among.Goals as goal

pub loop-high-init : goal.loop-high-init
loop-high-init c =
    let w = place_bounds c.args.self.now.keys c.args.from c.args.end (omega arith) c.args.key in
    (search rules, search rules, omega arith, omega arith, λ h. absurd (omega arith))

pub returns-then-high-low : goal.returns-then-high-low
returns-then-high-low c =
    let a = c.args in
    look_nothing a.self.now.keys a.from a.end (omega arith) c.requires.2 a.self.now.kinds a.self.now.values a.self.now.stamps a.key c.loop-high.high (omega arith) c.loop-high.invariant.4

pub loop-high-preserved-then-here-key-2 : goal.loop-high-preserved-then-here-key-2
loop-high-preserved-then-here-key-2 c =
    let a = c.args in
    let m = c.loop-high.low + (c.loop-high.high - c.loop-high.low) / 2 in
    let d = half_up a.self.now.keys a.from a.end (omega arith) c.requires.2 a.key m (omega arith) (omega arith) c.if-here-key-2.true in
    (omega arith, search rules, omega arith, search rules, c.loop-high.invariant.4)

pub loop-high-preserved : goal.loop-high-preserved
loop-high-preserved c =
    let a = c.args in
    let m = c.loop-high.low + (c.loop-high.high - c.loop-high.low) / 2 in
    let d = half_down a.self.now.keys a.from a.end (omega arith) a.key m (omega arith) (omega arith) c.if-here-key-2.false in
    (search rules, omega arith, search rules, omega arith, λ h. omega arith)

pub returns : goal.returns
returns c =
    let a = c.args in
    let z = a.self.now in
    let m = c.loop-high.low + (c.loop-high.high - c.loop-high.low) / 2 in
    ap Some c.copy_at.ensures ∙ ap found_of (sym (found_at z.keys a.from a.end (omega arith) c.requires.2 z.kinds z.values z.stamps a.key m (omega arith) (omega arith) c.if-here-key.true))
