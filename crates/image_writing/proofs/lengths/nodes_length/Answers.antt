-- `image_writing::lengths::nodes_length` meets its contract.
use Rattle.std.proofs.Common.{ℕ, ◌∙◌, rules, arith, length}
use borrow.Author.Tests.{tests}
use Rattle.std.proofs.lemmas.Iterator.{YieldsList-from_range, YieldsList-from_map}
use Rattle.std.proofs.lemmas.Iterator.Consumers.{sum_by_from_yields_List, fits_by_from_yields_list}
use Rattle.std.specs.List.{range_with_len}
use Rattle.store.specs.Layout.{node_of}
use Rattle.image_writing.specs.Image.{node_bytes}
use Rattle.image_writing.proofs.ImageLengths.{nodes_in_short, nodes_sum}
use Rattle.image_writing.proofs.lengths.nodes_length.Goals as goal

pub sum-requires-clause-fits : goal.sum-requires-clause-fits
sum-requires-clause-fits c =
    let a = c.args in
    let long = λ (k : ℕ). length (node_bytes (node_of a.store.now k)) in
    fits_by_from_yields_list long (range_with_len 0 a.nodes) c.map.result _
    (YieldsList-from_map _ long (YieldsList-from_range 0 a.nodes a.nodes c.map.ensures.source (omega arith)) c.map.ensures.closure (λ x r q k. search (rules, tests)))
    (omega (arith, nodes_sum (node_of a.store.now) 0 a.nodes, nodes_in_short a.store.now a.nodes c.requires.0 c.requires.1))

pub returns : goal.returns
returns c =
    let a = c.args in
    let long = λ (k : ℕ). length (node_bytes (node_of a.store.now k)) in
    sum_by_from_yields_List long (range_with_len 0 a.nodes) c.map.result c.sum.result c.sum.ensures.ran
    (YieldsList-from_map _ long (YieldsList-from_range 0 a.nodes a.nodes c.map.ensures.source (omega arith)) c.map.ensures.closure (λ x r q k. search (rules, tests)))
    ∙ nodes_sum (node_of a.store.now) 0 a.nodes
