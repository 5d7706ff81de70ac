-- `transcript::transcribe` meets its contract.
use native.Mathlib.Omega.{arith}
use borrow.Author.Rules.{rules}
use lib.ListN.{length-take}
use Rattle.transcript.proofs.TextWays.{accepted_way, refused_way}
use Rattle.transcript.proofs.transcribe.Goals as goal

pub returns-in-Ok : goal.returns-in-Ok
returns-in-Ok c =
    let a = c.args in
    let read = c.in-Ok.ensures in
    let steps = c.records-steps.ensures in
    accepted_way a.bytes.now a.out.now (search rules) _ read.whole steps (rw steps (simp length-take (omega (arith, read.few)))) c.of-count.ensures
    c.print_into-from.ensures c.write_steps.ensures

pub returns-in-Err : goal.returns-in-Err
returns-in-Err c =
    let a = c.args in
    refused_way a.bytes.now a.out.now (search rules) (λ i. omega (arith, c.type_inv.bytes i)) c.in-Err.ensures.whole c.from.ensures c.print_into.ensures
