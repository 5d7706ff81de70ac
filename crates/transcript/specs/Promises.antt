-- The promise of transcribe: it fixes the number of bytes and every lent byte, for every byte string.
use Rattle.std.specs.Prelude.{◌≡◌, List, ◌++◌, ℕ, length, drop}
use Rattle.transcript.specs.Transcript.{schedule_text}

-- Of a buffer at entry: the length of the text, and the buffer at exit, the text and what lay beyond it.
abbrev pub Transcribes : List ℕ → List ℕ → ℕ → List ℕ → Type 0
Transcribes bytes before r after =
    let text = schedule_text bytes in
    (r ≡ length text) × (after ≡ text ++ drop (length text) before)
