-- The loop's invariant: the stamps from this place on are taken.
use Rattle.std.proofs.Common.{◌≡◌, ◌≤◌, length}
use Rattle.rules_stamps.specs.Workers.{mark_words, TakenDown}
use Rattle.rules_stamps.proofs.take_new.Given as goal

abbrev pub invariant-loop-at : goal.invariant-loop-at
invariant-loop-at l = (l.from ≤ l.at) × (length l.table ≡ mark_words) × TakenDown l.stamps l.at l.end l.initial.table l.table
