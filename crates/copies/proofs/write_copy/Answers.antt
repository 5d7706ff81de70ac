-- `copies::write_copy` meets its contract.
use Rattle.copies.proofs.CopyWriting.{key_fits, kind_fits, value_part_fits, stamp_fits, wrote_copy}
use Rattle.copies.proofs.write_copy.Goals as goal

pub write_at-after_key-requires : goal.write_at-after_key-requires
write_at-after_key-requires c =
    let a = c.args in
    key_fits a.copy a.buffer.now a.at c.requires

pub write_at-after_kind-requires : goal.write_at-after_kind-requires
write_at-after_kind-requires c =
    let a = c.args in
    kind_fits a.copy a.buffer.now a.at c.requires c.write_at-after_key.ensures

pub write_value-after_value-requires : goal.write_value-after_value-requires
write_value-after_value-requires c =
    let a = c.args in
    value_part_fits a.copy a.buffer.now a.at c.requires c.write_at-after_key.ensures c.write_at-after_kind.ensures

pub write_at-requires : goal.write_at-requires
write_at-requires c =
    let a = c.args in
    stamp_fits a.copy a.buffer.now a.at c.requires c.write_at-after_key.ensures c.write_at-after_kind.ensures c.write_value-after_value.ensures

pub returns : goal.returns
returns c =
    let a = c.args in
    wrote_copy a.copy a.buffer.now a.at c.requires c.write_at-after_key.ensures c.write_at-after_kind.ensures c.write_value-after_value.ensures c.write_at.ensures
