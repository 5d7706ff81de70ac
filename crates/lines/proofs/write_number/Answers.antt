-- `lines::write_number` meets its contract.
use mathlib.Core.Path.{◌∙◌}
use native.Mathlib.Omega.{arith}
use Rattle.lines.proofs.DecimalLaws.{decimal_printed}
use Rattle.lines.proofs.LineLaws.{wrote_part}
use Rattle.lines.proofs.write_number.Goals as goal

pub returns : goal.returns
returns c =
    let a = c.args in
    let t = c.as_bytes-text in
    let printed = t.ensures.value ∙ c.format.ensures.text ∙ decimal_printed a.number (omega arith) in (
      wrote_part a.buffer.now t.result.now a.at _ c.copy_from_slice.ensures.after printed (omega arith) (omega (arith, t.ensures.len, c.format.ensures.fits)),
      omega (arith, t.ensures.len, c.format.ensures.fits),
    )
