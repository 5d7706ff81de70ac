-- What was read of an image's head, and what the readers of its nodes leave in a store.
use Rattle.std.specs.Prelude.{◌≡◌, List, slice_set, map, ℕ, ◌*◌, ltb, eqb, length, Result, Ok, Err}
use Rattle.std.proofs.lemmas.List.Edits.{sets}
use Rattle.number.specs.Number.{narrow}
use Rattle.store.specs.declared.Copy.{Copy}
use Rattle.store.specs.declared.Store.{Store}
use Rattle.store.specs.Answers.{PLAN, FORMAT, RULE}
use Rattle.store.specs.Layout.{width, store_of}
use Rattle.store.specs.Refusals.{refusal_number}
use Rattle.store.specs.StoreRules.{plan_number_test}
use Rattle.wire.specs.declared.Fault.{Fault}
use Rattle.wire.specs.Reading.{Got, got, fault, bind, number_at, checked}
use Rattle.image_writing.specs.Image.{format_number}
use Rattle.image_reading.specs.declared.Head.{Head}

-- Format, plan and clock, each with its check.
unfoldable pub head_at : List ℕ → Got Head
head_at s =
    bind (number_at narrow s 0) λ format a.
    checked (eqb format format_number) FORMAT 0
    (bind (number_at narrow s a) λ plan b.
    checked (plan_number_test plan) PLAN a
    (bind (number_at narrow s b) λ clock c.
    checked (ltb 0 clock) RULE b
    (got (record { plan = plan; clock = clock }) c)))

-- A store with copies laid into its places from one on,
abbrev pub with_copies : Store → ℕ → List Copy → Store
with_copies z from xs =
    record z {
      keys = sets z.keys from (map (λ (x : Copy). x.key) xs);
      kinds = sets z.kinds from (map (λ (x : Copy). x.kind) xs);
      values = sets z.values from (map (λ (x : Copy). x.value) xs);
      stamps = sets z.stamps from (map (λ (x : Copy). x.stamp) xs);
    }

-- with a node's count and copies laid into it,
abbrev pub with_node : Store → ℕ → List Copy → Store
with_node z n xs = with_copies (record z { counts = slice_set z.counts n (length xs) }) (width * n) xs

-- and with these lists in its nodes, in place of all that they held.
abbrev pub with_nodes : Store → List (List Copy) → Store
with_nodes z ns = store_of z.plan (record { clock = z.clock; nodes = ns; slots = z.slots })

-- What a reading into a store tells: the store and the offset after what was read, or the fault.
abbrev pub got_in : Store → Result ℕ Fault → Got Store
got_in z (Ok next) = got z next
got_in z (Err f) = fault (refusal_number f.why) f.at

-- What was read is laid into the store; after a fault this says nothing of the store.
abbrev pub LaysInto : {A : Type 0} → Got A → (A → Store) → Result ℕ Fault → Store → Type 0
LaysInto g laid r z = got_in z r ≡ bind g (λ x next. got (laid x) next)
