-- The loop's invariant: the stamps of the nodes from n on are taken.
use Rattle.rules_stamps.specs.Workers.{from_node, Taken}
use Rattle.rules_stamps.proofs.stamps_differ.Given as goal

abbrev pub invariant-loop-n : goal.invariant-loop-n
invariant-loop-n l = Taken l.table (from_node l.store l.n)
