-- Uniqueness: any two lengths, and any two buffers at exit, that the promise of transcribe allows are equal.
use mathlib.Core.Path.{◌≡◌, sym, ◌∙◌}
use mathlib.Core.List.{List}
use Prim.Native.Nat.{ℕ}
use Rattle.transcript.specs.Promises.{Transcribes}

pub transcribe_once : (bytes before : List ℕ) (r q : ℕ) (after other : List ℕ) → Transcribes bytes before r after
    → Transcribes bytes before q other → (r ≡ q) × (after ≡ other)
transcribe_once bytes before r q after other a b = (a.0 ∙ sym b.0, a.1 ∙ sym b.1)
