-- `copies::copy_length` meets its contract.
use native.Mathlib.Omega.{arith}
use Rattle.number.proofs.Forms.{form-length}
use Rattle.copies.proofs.CopyLengths.{value_short, copy-length}
use Rattle.copies.proofs.copy_length.Goals as goal

pub overflow_add-result : goal.overflow_add-result
overflow_add-result c = let x = c.args.copy in omega (arith, form-length x.key, form-length x.kind)

pub overflow_add-result-2 : goal.overflow_add-result-2
overflow_add-result-2 c = let x = c.args.copy in omega (arith, form-length x.key, form-length x.kind, value_short x.kind x.value)

pub overflow_add-result-3 : goal.overflow_add-result-3
overflow_add-result-3 c =
    let x = c.args.copy in
    omega (arith, form-length x.key, form-length x.kind, value_short x.kind x.value, form-length x.stamp)

pub returns : goal.returns
returns c = omega (arith, copy-length c.args.copy)
