-- `store::columns::seek` meets its contract.
use native.Mathlib.Omega.{arith}
use lib.Dec.{ltb}
use borrow.Author.Rules.{rules}
use Rattle.std.proofs.Common.{of_calls}
use Rattle.std.proofs.lemmas.List.Sorted.{IsPartitionPoint-from_clause}
use Rattle.store.proofs.Parting.{parted, place_parted}
use Rattle.store.proofs.columns.seek.Goals as goal

pub returns : goal.returns
returns c =
    let a = c.args in
    let fits = c.requires.1 in
    place_parted a.keys.now a.from a.end (omega arith) (omega arith) c.requires.2 a.key c.partition_point-before.result c.partition_point-before.ensures.bound
    (IsPartitionPoint-from_clause (λ y. ltb y a.key) _ _ c.partition_point-before.ensures.partitioned
    (parted a.keys.now a.from a.end (omega arith) (omega arith) c.requires.2 a.key) (λ x r f k. search (rules, of_calls)))
