-- `image_writing::lengths::copies_length` meets its contract.
use Rattle.std.proofs.Common.{ℕ, ◌-◌, ◌∙◌, refl, rules, arith, length}
use borrow.Author.Tests.{tests}
use Rattle.std.proofs.lemmas.Iterator.{YieldsList-from_range, YieldsList-from_map}
use Rattle.std.proofs.lemmas.Iterator.Consumers.{sum_by_from_yields_List, fits_by_from_yields_list}
use Rattle.std.specs.List.{range_with_len}
use Rattle.lists.specs.Indexed.{tabulate}
use Rattle.lists.proofs.Tabulating.{length-tabulate}
use Rattle.store.specs.Layout.{copy_of}
use Rattle.copies.specs.CopyBytes.{copy_bytes}
use Rattle.image_writing.proofs.ImageLengths.{copies_short, copies_sum}
use Rattle.image_writing.proofs.lengths.copies_length.Goals as goal

pub sum-requires-clause-fits : goal.sum-requires-clause-fits
sum-requires-clause-fits c =
    let a = c.args in
    let long = λ (k : ℕ). length (copy_bytes (copy_of a.store.now k)) in
    let n = a.end - a.from in
    fits_by_from_yields_list long (range_with_len a.from n) c.map.result _
    (YieldsList-from_map _ long (YieldsList-from_range a.from a.end n c.map.ensures.source refl) c.map.ensures.closure (λ x r q k. search (rules, tests)))
    (omega (arith, copies_sum (copy_of a.store.now) a.from n, copies_short (tabulate a.from n (copy_of a.store.now)), length-tabulate (copy_of a.store.now) a.from n))

pub returns : goal.returns
returns c =
    let a = c.args in
    let long = λ (k : ℕ). length (copy_bytes (copy_of a.store.now k)) in
    let n = a.end - a.from in
    sum_by_from_yields_List long (range_with_len a.from n) c.map.result c.sum.result c.sum.ensures.ran
    (YieldsList-from_map _ long (YieldsList-from_range a.from a.end n c.map.ensures.source refl) c.map.ensures.closure (λ x r q k. search (rules, tests)))
    ∙ copies_sum (copy_of a.store.now) a.from n
