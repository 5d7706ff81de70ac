-- The sizes that document 01 fixes for plans, each in this one place.
use Rattle.std.specs.Prelude.{ℕ}

-- A plan has at most 8 nodes.
abbrev pub most_nodes : ℕ
most_nodes = 8

-- A node has room for at most 64 copies.
abbrev pub most_capacity : ℕ
most_capacity = 64

-- A node has up to four edges.
abbrev pub most_edges : ℕ
most_edges = 4

-- A line's key is any 32-bit unsigned number.
abbrev pub last_key : ℕ
last_key = 4294967295
