-- Answers and their numbers. Document 01, "Answer numbers".
use Rattle.std.specs.Prelude.{ℕ}
use Rattle.store.specs.declared.Answer.{Answer}

-- The answer numbers by name, in the table's order, each with when it is given. The call was done.
abbrev pub DONE : ℕ
DONE = 0

-- "search not ended"
abbrev pub GOING : ℕ
GOING = 1

-- "a store rule is broken"
abbrev pub BADSTORE : ℕ
BADSTORE = 2

-- "plan not 1 to 3"
abbrev pub PLAN : ℕ
PLAN = 3

-- "entry at clock 4294967295"
abbrev pub CLOCK : ℕ
CLOCK = 4

-- "root full and lacks the key"
abbrev pub FULL : ℕ
FULL = 5

-- "plan has no such node"
abbrev pub NODE : ℕ
NODE = 6

-- "node has no such edge"
abbrev pub EDGE : ℕ
EDGE = 7

-- "all 8 running"
abbrev pub SLOTS : ℕ
SLOTS = 8

-- "slot above 7"
abbrev pub SLOT : ℕ
SLOT = 9

-- "slot not running"
abbrev pub IDLE : ℕ
IDLE = 10

-- "buffer too short"
abbrev pub SMALL : ℕ
SMALL = 11

-- "sample too large"
abbrev pub SAMPLE : ℕ
SAMPLE = 12

-- "bytes end inside or before a number"
abbrev pub CUT : ℕ
CUT = 13

-- "not shortest, or above 32 bits"
abbrev pub NUMBER : ℕ
NUMBER = 14

-- "format not 1"
abbrev pub FORMAT : ℕ
FORMAT = 15

-- "image breaks a store rule"
abbrev pub RULE : ℕ
RULE = 16

-- "bytes after the image"
abbrev pub TRAIL : ℕ
TRAIL = 17

-- "unknown step number, or a place outside the list"
abbrev pub OP : ℕ
OP = 18

-- "bytes after 256 steps"
abbrev pub MANY : ℕ
MANY = 19

-- "Each answer has a number and four numbers a, b, c, d, zero unless named."
abbrev pub answer : ℕ → ℕ → ℕ → ℕ → ℕ → Answer
answer number a b c d = record { number = number; a = a; b = b; c = c; d = d }

-- An answer of which nothing but the number is named.
abbrev pub bare : ℕ → Answer
bare number = answer number 0 0 0 0
