-- `marks::mark` meets its contract.
-- (What stands three times here is a word with its own arguments; a lemma would name as many.)
use mathlib.Core.Path.{refl}
use Prim.Native.Nat.{◌%◌, ◌<◌}
use native.Mathlib.Omega.{arith}
use native.Mathlib.Nat.{mod-lt}
use Rattle.marks.specs.Marks.{bit_of, bit_set, has_mark, with_mark}
use Rattle.marks.proofs.Bits.{one_shifted}
use Rattle.marks.proofs.mark.Goals as goal
use Rattle.marks.proofs.mark.Goals.{Start}

-- The mark's word is one of the table's.
word : (s : Start) → s.args.number % s.args.words < s.args.words
word s = mod-lt s.args.number s.requires.0

pub overflow_cast-at : goal.overflow_cast-at
overflow_cast-at c = omega (arith, word c)

pub overflow_add-at : goal.overflow_add-at
overflow_add-at c = omega (arith, word c)

pub offset_bounds-table-at : goal.offset_bounds-table-at
offset_bounds-table-at c = omega (arith, word c)

pub bounds-table-at : goal.bounds-table-at
bounds-table-at c = omega (arith, word (goal.at.bounds-table-at c).Start)

pub offset_bounds-table-at-2 : goal.offset_bounds-table-at-2
offset_bounds-table-at-2 c = omega (arith, word (goal.at.offset_bounds-table-at-2 c).Start)

pub bounds-table-at-2 : goal.bounds-table-at-2
bounds-table-at-2 c = omega (arith, word (goal.at.bounds-table-at-2 c).Start)

pub returns : goal.returns
unfolding has_mark with_mark bit_set
returns c = let a = c.args in (refl, rw (one_shifted (bit_of a.words a.number) (omega arith)))
