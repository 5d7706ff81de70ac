-- Each byte of an image is a byte.
use mathlib.Core.List.{List, [], ◌∷◌}
use Prim.Native.Nat.{ℕ, suc, ◌<◌}
use native.Mathlib.Omega.{arith}
use lib.Dec.{lit≤}
use lib.ListN.{length, get_or}
use Rattle.number.specs.Number.{Bytes, form}
use Rattle.number.proofs.Meaning.{form_bytes}
use Rattle.plan.specs.Plan.{Plan}
use Rattle.plan_table.proofs.TableLaws.{plans_fit}
use Rattle.store.specs.declared.Copy.{Copy}
use Rattle.store.specs.declared.Store.{Store}
use Rattle.store.specs.Copies.{no_copy}
use Rattle.store.specs.Layout.{plan_of, state_of}
use Rattle.store.specs.StoreRules.{StoreRules}
use Rattle.wire.proofs.ByteStrings.{no_bytes, bytes_join}
use Rattle.copies.specs.CopyBytes.{copy_bytes}
use Rattle.copies.proofs.CopyTrips.{Writable, copy_bytes_lem}
use Rattle.image_writing.specs.Image.{format_number, copies_bytes, node_bytes, nodes_bytes, image_of, image}
use Rattle.trips.specs.Trips.{Declared}
use Rattle.trips.proofs.ImageParts.{WritableNodes, rest_writable}
use Rattle.trips.proofs.ImageReads.{nodes_writable}

copies_bytes_lem : (xs : List Copy) → ((i : ℕ) → i < length xs → Writable (get_or xs i no_copy)) → Bytes (copies_bytes xs)
unfolding copies_bytes
copies_bytes_lem [] w = no_bytes
copies_bytes_lem (x ∷ xs) w =
    bytes_join (copy_bytes x) (copies_bytes xs) (copy_bytes_lem x (w 0 (omega arith))) (copies_bytes_lem xs (λ i h. w (suc i) (omega arith)))

nodes_bytes_lem : (p : Plan) (ns : List (List Copy)) → WritableNodes p ns → Bytes (nodes_bytes ns)
unfolding nodes_bytes node_bytes
nodes_bytes_lem p [] w = no_bytes
nodes_bytes_lem [] (xs ∷ ns) w = absurd (omega (arith, w.lists))
nodes_bytes_lem (n ∷ p) (xs ∷ ns) w =
    let r = w.room 0 (omega arith) in
    bytes_join (node_bytes xs) (nodes_bytes ns)
    (bytes_join (form (length xs)) (copies_bytes xs) (form_bytes (length xs) (omega arith)) (copies_bytes_lem xs (λ i h. w.copies 0 i (omega arith) h)))
    (nodes_bytes_lem p ns (rest_writable w))

-- The image of a store that keeps the rules is a byte string.
pub image_bytes : (z : Store) → StoreRules z → Declared z → Bytes (image z)
unfolding image_of state_of
image_bytes z rules declared =
    bytes_join (form format_number) _ (form_bytes format_number (lit≤ tt))
    (bytes_join (form z.plan) _ (form_bytes z.plan (omega (arith, rules.plan_known.1, plans_fit)))
    (bytes_join (form z.clock) _ (form_bytes z.clock rules.state_rules.clock_within.1)
    (nodes_bytes_lem (plan_of z) (state_of z).nodes (nodes_writable z rules declared))))
