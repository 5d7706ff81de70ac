-- Parts of a byte string, one after another: what a loop that counts their bytes or writes them keeps true.
use mathlib.Core.Path.{◌≡◌, refl, ap, ◌∙◌}
use mathlib.Core.List.{List, [], ◌∷◌, ◌++◌}
use Prim.Native.Nat.{ℕ, suc, ◌+◌, ◌-◌, ◌<◌, ◌≤◌}
use native.Mathlib.Omega.{arith}
use native.Mathlib.Numerals.{add-one}
use lib.ListN.{length, length-append}
use Rattle.lists.specs.Indexed.{tabulate}
use Rattle.lists.specs.Stands.{Wrote}
use Rattle.lists.proofs.Tabulating.{tabulate_on, tabulate_off}
use Rattle.lists.proofs.Standing.{wrote_nil, wrote_join, wrote_length}

-- Parts of any type, the bytes of each, and the bytes of a list of them; the parts are those of a run, f i for i from one number up to another.
module _ {A : Type 0} (bytes : A → List ℕ) (all : List A → List ℕ) (none : all [] ≡ []) (more : (x : A) (xs : List A) → all (x ∷ xs) ≡ bytes x ++ all xs)
    (f : ℕ → A) (end : ℕ) where
  -- The bytes of the parts from i on.
  abbrev pub parts_from : ℕ → List ℕ
  parts_from i = all (tabulate i (end - i) f)

  pub parts_on : (i : ℕ) → i < end → parts_from i ≡ bytes (f i) ++ parts_from (i + 1)
  parts_on i h = ap all (tabulate_on f i end h) ∙ more (f i) (tabulate (suc i) (end - suc i) f) ∙ rw add-one refl

  pub parts_off : (i : ℕ) → end ≤ i → parts_from i ≡ []
  parts_off i h = ap all (tabulate_off f i end h) ∙ none

  -- ---- a loop that counts: the bytes counted so far and those of the parts from i on are all

  pub count_on : {total : ℕ} (sum i : ℕ) → i < end → sum + length (parts_from i) ≡ total → sum + length (bytes (f i)) + length (parts_from (i + 1)) ≡ total
  count_on sum i h e = omega (arith, ap length (parts_on i h), length-append (bytes (f i)) (parts_from (i + 1)))

  pub count_off : {total : ℕ} (sum i : ℕ) → end ≤ i → sum + length (parts_from i) ≡ total → sum ≡ total
  count_off sum i h e = omega (arith, ap length (parts_off i h))

  -- ---- a loop that writes: the parts from i on fit at `at`, and once they are written there, all parts were written

  pub record Writes (before : List ℕ) (start : ℕ) (whole : List ℕ) (i at : ℕ) (buffer : List ℕ) : Type 0 where
    pub fits : at + length (parts_from i) ≤ length buffer
    pub kept : length buffer ≡ length before
    pub joins : (next : ℕ) (after : List ℕ) → Wrote buffer at (parts_from i) next after → Wrote before start whole next after

  pub write_begins : (before : List ℕ) (i at : ℕ) → at + length (parts_from i) ≤ length before → Writes before at (parts_from i) i at before
  write_begins before i at h = record { fits = h; kept = refl; joins = λ next after w. w }

  module _ {before : List ℕ} {start : ℕ} {whole : List ℕ} {i at : ℕ} {buffer : List ℕ} (w : Writes before start whole i at buffer) where
    -- There is room for the next part.
    pub write_room : i < end → at + length (bytes (f i)) ≤ length buffer
    write_room h = let r = w.fits in omega (arith, ap length (parts_on i h), length-append (bytes (f i)) (parts_from (i + 1)))

    pub write_on : {next : ℕ} {after : List ℕ} → i < end → Wrote buffer at (bytes (f i)) next after → Writes before start whole (i + 1) next after
    write_on {next} {after} h v =
        record {
          fits =
              let r = w.fits in
              let t = v.to in
              omega (arith, ap length (parts_on i h), length-append (bytes (f i)) (parts_from (i + 1)), wrote_length v);
          kept = wrote_length v ∙ w.kept;
          joins = λ n b u. w.joins n b (rw (parts_on i h) (wrote_join v u));
        }

    pub write_off : end ≤ i → Wrote before start whole at buffer
    write_off h = w.joins at buffer (rw (parts_off i h) (wrote_nil buffer at))
