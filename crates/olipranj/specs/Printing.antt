-- The promise of the program over any input and output whose bytes are known.
use Rattle.std.specs.Prelude.{List, ℕ, take, IfSome, Option}
use Rattle.std.specs.Io.KnownBytes.{Appends}
use Rattle.transcript.specs.Transcript.{schedule_text}

-- "The program reads a schedule on standard input, its first 65,536 bytes".
abbrev pub most_read : ℕ
most_read = 65536

-- To the output's bytes is added the text of the input's first bytes, and nothing else.
abbrev pub PrintsFirst : Option (List ℕ) → Option (List ℕ) → Option (List ℕ) → Type 0
PrintsFirst input before after = IfSome input (λ bytes. Appends before after (schedule_text (take most_read bytes)))
