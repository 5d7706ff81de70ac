-- Copies, and the look in one node. Document 01, "Lines, copies, plans" and "What each step does".
-- The lists here are of any things with a key: copies, and in the proofs also keys alone and places.
use Rattle.std.specs.Prelude.{Bool, true, false, cond, not, ◌&&◌, ◌||◌, List, [], ◌∷◌, ℕ, eqb}
use Rattle.std.proofs.Math.Option.{Option, none, some}
use Rattle.store.specs.declared.Copy.{Copy}
use Rattle.std.specs.Prelude.{Some, None}
use Rattle.std.specs.declared.option.Option as answer

-- The kind of a withdrawn copy.
abbrev pub WITHDRAWN : ℕ
WITHDRAWN = 0

-- The kind of a result.
abbrev pub RESULT : ℕ
RESULT = 1

-- The largest number of a kind.
abbrev pub last_kind : ℕ
last_kind = RESULT

-- A copy of this kind has a value; of any other kind it holds 0.
unfoldable pub has_value : ℕ → Bool
has_value kind = eqb kind RESULT

-- The kinds of entries by name: a withdrawal and a result.
pub data Kind : Type 0 where
  withdrawn : Kind
  result : Kind

-- The number of a kind.
abbrev pub kind_number : Kind → ℕ
kind_number withdrawn = WITHDRAWN
kind_number result = RESULT

-- What an entry of this kind holds where a value is given: "a withdrawn copy holds 0".
abbrev pub value_held : Kind → ℕ → ℕ
value_held kind v = cond (has_value (kind_number kind)) v 0

-- "A copy has a key, a kind (0 withdrawn, 1 result), a value .. and a stamp."
abbrev pub copy : ℕ → ℕ → ℕ → ℕ → Copy
copy k kind v t = record { key = k; kind = kind; value = v; stamp = t }

-- What stands in an unused place.
abbrev pub no_copy : Copy
no_copy = copy 0 0 0 0

-- A copy's key.
abbrev pub key_of : Copy → ℕ
key_of x = x.key

-- The first thing of a list that has the key.
unfoldable pub find : {A : Type 0} → (A → ℕ) → List A → ℕ → Option A
find key [] k = none
find key (x ∷ xs) k = cond (eqb (key x) k) (some x) (find key xs k)

-- There is one.
abbrev pub is_some : {A : Type 0} → Option A → Bool
is_some none = false
is_some (some x) = true

-- What a look in one node gives.
abbrev pub Found : Type 0
Found = answer.Option Copy

-- "A look in one node gives a found copy or nothing."
abbrev pub found_of : Option Copy → Found
found_of none = None
found_of (some x) = Some x

-- The stamp of what was found: "'Never' counts as older than every copy."
abbrev pub stamp_of : Option Copy → ℕ
stamp_of none = 0
stamp_of (some x) = x.stamp

-- The number stands in the list.
unfoldable pub member : ℕ → List ℕ → Bool
member n [] = false
member n (m ∷ ms) = eqb n m || member n ms

-- No number stands twice.
unfoldable pub different : List ℕ → Bool
different [] = true
different (t ∷ ts) = not (member t ts) && different ts
