-- A limit that the header names and no other definition has.
use Rattle.std.specs.Prelude.{ℕ}

-- The most bytes of an image: 1 for the format, 1 for the plan, 5 for the clock, 1 for each node's count and 16 for each copy; of plan 1, with
-- 4 nodes and room for 120 copies.
abbrev pub most_image_bytes : ℕ
most_image_bytes = 1931
