-- The loop's invariant: the stamp was found, or stands at the places from i on, exactly if it stands at all.
use Rattle.std.proofs.Common.{◌≡◌, ◌||◌, ◌-◌}
use Rattle.lists.specs.Indexed.{tabulate}
use Rattle.store.specs.Copies.{member}
use Rattle.store.specs.Workers.{number_in}
use Rattle.rules_stamps.proofs.stands.Given as goal

abbrev pub invariant-loop-i : goal.invariant-loop-i
invariant-loop-i l =
    (l.found || member l.stamp (tabulate l.i (l.end - l.i) (number_in l.stamps))) ≡ member l.stamp (tabulate l.from (l.end - l.from) (number_in l.stamps))
