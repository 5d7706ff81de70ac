-- The text of printed lines, as bytes: numbers in decimal, one space between two, a line feed after the last.
use Rattle.std.specs.Prelude.{cond, List, [], ◌∷◌, ◌++◌, ℕ, zero, suc, ◌+◌, ◌-◌, ◌*◌, ◌/◌, ◌%◌, ltb}
use Rattle.store.specs.declared.Answer.{Answer}

-- The byte of a digit.
abbrev pub digit : ℕ → ℕ
digit v = 48 + v

-- The byte of a space.
abbrev pub SPACE : ℕ
SPACE = 32

-- The byte of a line feed.
abbrev pub FEED : ℕ
FEED = 10

-- The digits of a number, of which at most `more` come before the last.
unfoldable pub digits_in : ℕ → ℕ → List ℕ
digits_in zero v = digit v ∷ []
digits_in (suc more) v = cond (ltb v 10) (digit v ∷ []) (digits_in more (v / 10) ++ digit (v % 10) ∷ [])

-- A number in decimal, without leading zeros; 0 is the digit 0.
unfoldable pub decimal : ℕ → List ℕ
decimal v = digits_in v v

-- The number that digits spell, after others that spelt a number.
unfoldable pub spelt : ℕ → List ℕ → ℕ
spelt v [] = v
spelt v (b ∷ l) = spelt (10 * v + (b - 48)) l

-- A printed line of some numbers.
unfoldable pub printed_text : List ℕ → List ℕ
printed_text [] = []
printed_text (v ∷ []) = decimal v ++ FEED ∷ []
printed_text (v ∷ w ∷ ws) = decimal v ++ SPACE ∷ printed_text (w ∷ ws)

-- That of a step, or of a whole schedule: a first number, then "answer number, a, b, c, d".
abbrev pub answer_text : ℕ → Answer → List ℕ
answer_text first r = printed_text (first ∷ r.number ∷ r.a ∷ r.b ∷ r.c ∷ r.d ∷ [])

-- The digits of the largest number of 64 bits.
abbrev pub most_digits : ℕ
most_digits = 20

-- Six numbers of at most 20 digits, each with one byte after it.
abbrev pub most_text : ℕ
most_text = 126
