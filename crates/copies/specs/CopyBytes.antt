-- A copy's bytes, and reading them at an offset. Document 01, "Bytes": "key, kind, value (only for kind 1), stamp".
use Rattle.std.specs.Prelude.{cond, List, [], ◌++◌, ℕ, suc, ltb}
use Rattle.number.specs.Number.{narrow, form}
use Rattle.store.specs.declared.Copy.{Copy}
use Rattle.store.specs.Answers.{RULE}
use Rattle.store.specs.Copies.{last_kind, has_value, copy}
use Rattle.wire.specs.Reading.{Got, got, bind, number_at, checked}

-- "a value (any 32-bit unsigned number ..)"
abbrev pub last_value : ℕ
last_value = 4294967295

-- "value (only for kind 1)"
unfoldable pub value_bytes : ℕ → ℕ → List ℕ
value_bytes kind value = cond (has_value kind) (form value) []

-- A copy: "key, kind, value (only for kind 1), stamp".
unfoldable pub copy_bytes : Copy → List ℕ
copy_bytes x = form x.key ++ (form x.kind ++ (value_bytes x.kind x.value ++ form x.stamp))

-- The value at an offset of a copy of this kind; where the kind has none, the copy holds 0.
unfoldable pub read_value : List ℕ → ℕ → ℕ → Got ℕ
read_value s kind at = cond (has_value kind) (number_at narrow s at) (got 0 at)

-- The copy at an offset: key, kind (RULE above the last), value, stamp.
unfoldable pub read_copy : List ℕ → ℕ → Got Copy
read_copy s at =
    bind (number_at narrow s at) λ key a.
    bind (number_at narrow s a) λ kind b.
    checked (ltb kind (suc last_kind)) RULE a
    (bind (read_value s kind b) λ value c.
    bind (number_at narrow s c) λ stamp d.
    got (copy key kind value stamp) d)
