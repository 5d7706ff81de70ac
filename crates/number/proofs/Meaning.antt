-- What a form means: it is a list of groups, it spells its number, and it is the one shortest list of groups that does.
-- Each law is shown for numbers of any size, and then for the 32-bit numbers of document 01.
use mathlib.Core.Path.{◌≡◌, sym, ap, ap₂, ◌∙◌}
use mathlib.Core.Logic.{◌↔◌}
use mathlib.Core.List.{List, [], ◌∷◌}
use Prim.Native.Nat.{ℕ, zero, suc, ◌+◌, ◌/◌, ◌%◌, ◌<◌, ◌≤◌}
use native.Mathlib.Omega.{arith}
use native.Mathlib.Decide.{dec_lt}
use lib.Dec.{lit<}
use lib.ListN.{length}
use borrow.Author.Tests.{lt-ltb, le-ltb}
use Rattle.lists.specs.Stands.{Stands}
use Rattle.number.specs.Number.{Value, Bytes, Groups, last_group, more_groups, value_of, NumberSize, largest_in, largest, narrow, form_in, form, read_at}
use Rattle.number.proofs.Forms.{form_one, Turn, form_turn, small_narrow, largest-narrow}
use Rattle.number.proofs.Readings.{value_when_in}

-- A list of groups has a last one.
pub groups_some : {l : List ℕ} → Groups l → 1 ≤ length l
groups_some (last_group h) = omega arith
groups_some (more_groups h g k) = omega arith

-- A list of groups is a list of bytes.
pub groups_bytes : {l : List ℕ} → Groups l → Bytes l
groups_bytes (last_group h) zero = omega arith
groups_bytes (last_group h) (suc i) = lit< tt
groups_bytes (more_groups h g k) zero = g
groups_bytes (more_groups h g k) (suc i) = groups_bytes k i

-- ---- numbers of any size

-- A list is not shorter than the form of a number, and if it is not longer it is the form.
pub record Shortest (more : ℕ) (l : List ℕ) (v : ℕ) : Type 0 where
  pub longer : length (form_in more v) ≤ length l
  pub same : length l ≡ length (form_in more v) → l ≡ form_in more v

module _ (last : ℕ) (low : last < 128) where
  -- A form is a list of groups.
  pub form_groups_in : (more v : ℕ) → v ≤ largest_in last more → Groups (form_in more v)
  unfolding largest_in form_in
  form_groups_in zero v h = last_group {b = v} (omega arith)
  form_groups_in (suc more) v h = go (dec_lt v 128) (λ g. form_groups_in more (v / 128) g)
    where
      go : Dec (v < 128) → (v / 128 ≤ largest_in last more → Groups (form_in more (v / 128))) → Groups (form_in (suc more) v)
      go (yes g) again = rw (lt-ltb v 128 g) (last_group g)
      go (no g) again = rw (le-ltb v 128 (omega arith)) (more_groups {b = 128 + v % 128} (omega arith) (omega arith) (again (omega arith)))

  -- The bytes of a form are bytes.
  pub form_bytes_in : (more v : ℕ) → v ≤ largest_in last more → Bytes (form_in more v)
  form_bytes_in more v h = groups_bytes (form_groups_in more v h)

  -- A form spells its number.
  pub form_spells_in : (more v : ℕ) → v ≤ largest_in last more → value_of (form_in more v) ≡ v
  unfolding largest_in form_in value_of
  form_spells_in zero v h = omega arith
  form_spells_in (suc more) v h = go (dec_lt v 128) (λ g. form_spells_in more (v / 128) g)
    where
      go : Dec (v < 128) → (v / 128 ≤ largest_in last more → value_of (form_in more (v / 128)) ≡ v / 128) → value_of (form_in (suc more) v) ≡ v
      go (yes g) again = rw (lt-ltb v 128 g) (omega arith)
      go (no g) again = rw (le-ltb v 128 (omega arith)) (omega (arith, again (omega arith)))

  -- A list of groups that spells a number is not shorter than its form, and if it is not longer it is the form.
  pub form_shortest_in : (more : ℕ) {l : List ℕ} {v : ℕ} → Groups l → value_of l ≡ v → v ≤ largest_in last more → Shortest more l v
  unfolding value_of
  form_shortest_in more {v = v} (last_group {b} h) e m =
      let x : v ≡ b = omega arith in
      let f : form_in more v ≡ b ∷ [] = form_one more v (omega arith) ∙ ap (λ (n : ℕ). n ∷ []) x in
      record { longer = rw f (omega arith); same = λ _. sym f }
  form_shortest_in more {v = v} (more_groups {b} {l} h g k) e m =
      go (dec_lt v 128) (λ t. form_shortest_in t.less k (omega arith) t.small)
    where
      go : Dec (v < 128) → ((t : Turn last more v) → Shortest t.less l (v / 128)) → Shortest more (b ∷ l) v
      go (yes s) again =
          let f = form_one more v s in
          let z = groups_some k in
          record { longer = rw f (omega arith); same = λ q. absurd (omega (arith, rw f at q)) }
      go (no s) again =
          let t = form_turn last low more v m (omega arith) in
          let f = t.bytes in
          let r = again t in
          let x : 128 + v % 128 ≡ b = omega arith in
          record {
            longer = rw f (omega (arith, r.longer));
            same = λ q. ap₂ ◌∷◌ (sym x) (r.same (omega (arith, rw f at q))) ∙ sym f;
          }

-- A list of groups stands between two offsets and spells a number of at most `most`, and no shorter one spells it.
pub record Spelt (most : ℕ) (s : List ℕ) (at v next : ℕ) : Type 0 where
  pub groups : List ℕ
  pub stands : Stands s at groups next
  pub are : Groups groups
  pub spell : value_of groups ≡ v
  pub small : v ≤ most
  pub shortest : (l : List ℕ) → Groups l → value_of l ≡ v → length groups ≤ length l

module _ (n : NumberSize) where
  -- Reading gives a number exactly where the shortest list of groups that spells it stands.
  pub value_means_in : (s : List ℕ) (at : ℕ) {v next : ℕ} → Bytes s → (read_at n s at ≡ Value v next) ↔ Spelt (largest n) s at v next
  value_means_in s at {v} {next} b = (there, back)
    where
      there : read_at n s at ≡ Value v next → Spelt (largest n) s at v next
      there e =
          let k = (value_when_in n s at b).0 e in
          record {
            groups = form_in n.more v;
            stands = k.1;
            are = form_groups_in n.last n.low n.more v k.0;
            spell = form_spells_in n.last n.low n.more v k.0;
            small = k.0;
            shortest = λ l g q. (form_shortest_in n.last n.low n.more g q k.0).longer;
          }

      back : Spelt (largest n) s at v next → read_at n s at ≡ Value v next
      back k =
          let h = k.small in
          let r = form_shortest_in n.last n.low n.more k.are k.spell h in
          let c = k.shortest (form_in n.more v) (form_groups_in n.last n.low n.more v h) (form_spells_in n.last n.low n.more v h) in
          let e : k.groups ≡ form_in n.more v = r.same (omega (arith, r.longer)) in
          (value_when_in n s at b).1 (h, rw e at k.stands)

-- ---- 32-bit numbers

-- A form is a list of groups.
pub form_groups : (v : ℕ) → v ≤ 4294967295 → Groups (form v)
unfolding form
form_groups v h = form_groups_in narrow.last narrow.low narrow.more v (small_narrow h)

-- The bytes of a form are bytes.
pub form_bytes : (v : ℕ) → v ≤ 4294967295 → Bytes (form v)
form_bytes v h = groups_bytes (form_groups v h)

-- A form spells its number.
pub form_spells : (v : ℕ) → v ≤ 4294967295 → value_of (form v) ≡ v
unfolding form
form_spells v h = form_spells_in narrow.last narrow.low narrow.more v (small_narrow h)

-- No list of groups that spells a number is shorter than its form.
pub form_shortest : {l : List ℕ} {v : ℕ} → v ≤ 4294967295 → Groups l → value_of l ≡ v → length (form v) ≤ length l
unfolding form
form_shortest h k e = (form_shortest_in narrow.last narrow.low narrow.more k e (small_narrow h)).longer

-- Of the lists of groups that spell a number, only its form is that short.
pub form_only : {l : List ℕ} {v : ℕ} → v ≤ 4294967295 → Groups l → value_of l ≡ v → length l ≡ length (form v) → l ≡ form v
unfolding form
form_only h k e = (form_shortest_in narrow.last narrow.low narrow.more k e (small_narrow h)).same

-- Reading gives a number exactly where the shortest list of groups that spells it stands.
pub value_means : (s : List ℕ) (at : ℕ) {v next : ℕ} → Bytes s → (read_at narrow s at ≡ Value v next) ↔ Spelt 4294967295 s at v next
value_means s at b = rw (← largest-narrow) (value_means_in narrow s at b)
