-- Why the writers of an image give what they promise: the room for each part, and the parts written one after another.
use mathlib.Core.Path.{◌≡◌}
use mathlib.Core.List.{List, ◌++◌}
use Prim.Native.Nat.{ℕ, ◌+◌, ◌-◌, ◌*◌, ◌≤◌}
use native.Mathlib.Nat.{sub-zero}
use lib.ListN.{length}
use Rattle.lists.specs.Indexed.{tabulate}
use Rattle.lists.specs.Stands.{Wrote}
use Rattle.lists.proofs.Standing.{wrote_join, fits_left, fits_right}
use Rattle.number.specs.Number.{form}
use Rattle.store.specs.declared.Copy.{Copy}
use Rattle.store.specs.declared.Store.{Store}
use Rattle.store.specs.Layout.{width, copy_of, count_of, node_of}
use Rattle.store.proofs.Laying.{length-node}
use Rattle.wire.proofs.Parts.{Writes, write_begins}
use Rattle.copies.specs.CopyBytes.{copy_bytes}
use Rattle.image_writing.specs.Image.{format_number, copies_bytes, node_bytes, nodes_bytes, image_of, nodes_in, image_by}
use Rattle.image_writing.proofs.ImageLengths.{node_copies, no_copies, more_copies, no_nodes, more_nodes}

-- ---- write_copies, write_nodes

-- The loop over copies, or over nodes, has yet to write those from i on.
abbrev pub WritesCopies : (ℕ → Copy) → ℕ → List ℕ → ℕ → List ℕ → ℕ → ℕ → List ℕ → Type 0
WritesCopies f end before start whole i at buffer = Writes copy_bytes copies_bytes no_copies more_copies f end before start whole i at buffer

abbrev pub WritesNodes : (ℕ → List Copy) → ℕ → List ℕ → ℕ → List ℕ → ℕ → ℕ → List ℕ → Type 0
WritesNodes f end before start whole i at buffer = Writes node_bytes nodes_bytes no_nodes more_nodes f end before start whole i at buffer

pub copies_begin : (f : ℕ → Copy) (from end : ℕ) (before : List ℕ) (at : ℕ) → at + length (copies_bytes (tabulate from (end - from) f)) ≤ length before
    → WritesCopies f end before at (copies_bytes (tabulate from (end - from) f)) from at before
copies_begin f from end before at h = write_begins copy_bytes copies_bytes no_copies more_copies f end before from at h

pub nodes_begin : (f : ℕ → List Copy) (end : ℕ) (before : List ℕ) (at : ℕ) → at + length (nodes_bytes (tabulate 0 end f)) ≤ length before
    → WritesNodes f end before at (nodes_bytes (tabulate 0 end f)) 0 at before
nodes_begin f end before at h = rw sub-zero at (write_begins node_bytes nodes_bytes no_nodes more_nodes f end before 0 at (rw sub-zero h))

-- ---- write_node

module _ (z : Store) (n : ℕ) (before : List ℕ) (at : ℕ) (h : at + length (node_bytes (node_of z n)) ≤ length before) where
  abbrev rest : List ℕ
  rest = copies_bytes (tabulate (width * n) (width * n + count_of z n - width * n) (copy_of z))

  node_is : node_bytes (node_of z n) ≡ form (count_of z n) ++ rest
  unfolding node_bytes
  node_is = rw (length-node z n, node_copies z n)

  fits : at + length (form (count_of z n) ++ rest) ≤ length before
  fits = rw node_is at h

  pub count_fits : at + length (form (count_of z n)) ≤ length before
  count_fits = fits_left at (form (count_of z n)) rest fits

  module _ {next : ℕ} {b1 : List ℕ} (w : Wrote before at (form (count_of z n)) next b1) where
    pub copies_fit : next + length (copies_bytes (tabulate (width * n) (width * n + count_of z n - width * n) (copy_of z))) ≤ length b1
    copies_fit = fits_right (form (count_of z n)) rest fits w

    pub wrote_node : {end : ℕ} {after : List ℕ}
        → Wrote b1 next (copies_bytes (tabulate (width * n) (width * n + count_of z n - width * n) (copy_of z))) end after
        → Wrote before at (node_bytes (node_of z n)) end after
    wrote_node v = rw node_is (wrote_join w v)

-- ---- write_image

module _ (z : Store) (size : ℕ) (before : List ℕ) (h : 0 + length (image_by size z) ≤ length before) where
  abbrev plan : List ℕ
  plan = form z.plan

  abbrev clock : List ℕ
  clock = form z.clock

  abbrev nodes : List ℕ
  nodes = nodes_bytes (nodes_in z size)

  whole_fits : 0 + length (form format_number ++ (plan ++ (clock ++ nodes))) ≤ length before
  unfolding image_of
  whole_fits = h

  pub format_fits : 0 + length (form format_number) ≤ length before
  format_fits = fits_left 0 (form format_number) (plan ++ (clock ++ nodes)) whole_fits

  module _ {a : ℕ} {b1 : List ℕ} (w1 : Wrote before 0 (form format_number) a b1) where
    after_format : a + length (plan ++ (clock ++ nodes)) ≤ length b1
    after_format = fits_right (form format_number) (plan ++ (clock ++ nodes)) whole_fits w1

    pub plan_fits : a + length (form z.plan) ≤ length b1
    plan_fits = fits_left a plan (clock ++ nodes) after_format

    module _ {b : ℕ} {b2 : List ℕ} (w2 : Wrote b1 a (form z.plan) b b2) where
      after_plan : b + length (clock ++ nodes) ≤ length b2
      after_plan = fits_right plan (clock ++ nodes) after_format w2

      pub clock_fits : b + length (form z.clock) ≤ length b2
      clock_fits = fits_left b clock nodes after_plan

      module _ {c : ℕ} {b3 : List ℕ} (w3 : Wrote b2 b (form z.clock) c b3) where
        pub nodes_fit : c + length (nodes_bytes (nodes_in z size)) ≤ length b3
        nodes_fit = fits_right clock nodes after_plan w3

        pub wrote_image : {end : ℕ} {after : List ℕ} → Wrote b3 c (nodes_bytes (nodes_in z size)) end after → Wrote before 0 (image_by size z) end after
        unfolding image_of
        wrote_image w4 = wrote_join w1 (wrote_join w2 (wrote_join w3 w4))
