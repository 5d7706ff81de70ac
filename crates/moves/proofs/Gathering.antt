-- A column written in place: a turn of each loop and its end, and the column after a carry.
use mathlib.Core.Path.{◌≡◌, refl, sym, ap, ◌∙◌}
use mathlib.Core.List.{List, [], ◌∷◌, ◌++◌, map-append, append_assoc}
use Prim.Native.Nat.{ℕ, suc, ◌+◌, ◌-◌, ◌<◌, ◌≤◌}
use native.Mathlib.Omega.{arith}
use lib.ListN.{length, set, take, drop, replicate, length-map}
use lib.Seq.{sets, sets-eq, drop-drop, take-suc, length-take-le, get_or-set_other}
use borrow.Rule.Slice.PartMut.{put_mid}
use Rattle.lists.proofs.Standing.{sets_join}
use Rattle.lists.proofs.Storing.{sets_below, sets_later, sets_snoc}
use Rattle.store.specs.Workers.{Within, number_in}
use Rattle.moves.specs.declared.Span.{Span}
use Rattle.moves.specs.Writings.{gather, Under, carried_column}

-- The column as it is, as it was, and the places to gather by.
module _ (now was list : List ℕ) (start : ℕ) where
  -- From the last to the first: what stands before the goal i is as it was.
  pub back_turn : (i : ℕ) → 0 < i → i ≤ length list → Under start list → ((j : ℕ) → j < start + i → number_in now j ≡ number_in was j)
      → let next = set now (start + (i - 1)) (number_in now (number_in list (i - 1))) in
      ((j : ℕ) → j < start + (i - 1) → number_in next j ≡ number_in was j)
      × (sets next start (gather was (take (i - 1) list)) ≡ sets now start (gather was (take i list)))
  back_turn i z h under same = (
    λ j g. get_or-set_other now (start + (i - 1)) j x 0 (λ (q : j ≡ start + (i - 1)). omega arith) ∙ same j (omega arith),
    sets_later front now start (start + (i - 1)) x (omega (arith, long))
        ∙ ap (λ (n : ℕ). set (sets now start front) (start + n) x) (sym long)
        ∙ sym (sets_snoc front now start x)
        ∙ sym (ap (sets now start) split),
  )
    where
      x : ℕ
      x = number_in now (number_in list (i - 1))

      front : List ℕ
      front = gather was (take (i - 1) list)

      long : length front ≡ i - 1
      long = length-map (take (i - 1) list) (number_in was) ∙ length-take-le (i - 1) list (omega arith)

      read : x ≡ number_in was (number_in list (i - 1))
      read = same (number_in list (i - 1)) (omega (arith, under (i - 1) (omega arith)))

      split : gather was (take i list) ≡ front ++ x ∷ []
      split =
          let k : i ≡ suc (i - 1) = omega arith in
          ap (λ (n : ℕ). gather was (take n list)) k ∙ ap (gather was) (take-suc list (i - 1) 0 (omega arith))
          ∙ map-append (number_in was) (take (i - 1) list) (number_in list (i - 1) ∷ [])
          ∙ ap (λ (n : ℕ). front ++ n ∷ []) (sym read)

-- Numbers written over a part of a column are stored in a row.
pub part_written : (column vs : List ℕ) (from n : ℕ) → from + n ≤ length column → length vs ≡ n → put_mid from n column vs ≡ sets column from vs
part_written column vs from n h long =
    rw (sets-eq vs column from (omega arith), long) (ap (λ (l : List ℕ). take from column ++ (vs ++ l)) (drop-drop n from column)
    ∙ sym (append_assoc (take from column) vs (drop (from + n) column)))

-- What is stored from start on leaves the numbers at the places below it.
gather-below : (list column vs : List ℕ) (start : ℕ) → Within list start → gather (sets column start vs) list ≡ gather column list
gather-below [] column vs start low = refl
gather-below (p ∷ list) column vs start low =
    rw (sets_below vs column start p 0 (low 0 (omega arith)), gather-below list column vs start (λ i h. low (suc i) (omega arith)))

-- The three writes together.
pub column-carried : (column c₁ c₂ c₃ stay target : List ℕ) (node : Span) (start : ℕ) → Within stay start
    → c₁ ≡ sets column start (gather column target) → c₂ ≡ sets c₁ node.from (gather c₁ stay)
    → c₃ ≡ sets c₂ (node.from + length stay) (replicate (node.from + node.count - (node.from + length stay)) 0)
    → c₃ ≡ carried_column column stay target node start
unfolding carried_column
column-carried column c₁ c₂ c₃ stay target node start low e₁ e₂ e₃ =
    let from = node.from in
    let had = node.count in
    let k : from + had - (from + length stay) ≡ had - length stay = omega arith in
    let l : from + length (gather column stay) ≡ from + length stay = ap (λ (n : ℕ). from + n) (length-map stay (number_in column)) in
    e₃ ∙ rw (e₂, e₁, gather-below stay column (gather column target) start low, k)
    (sym
    (sets_join (gather column stay) (replicate (had - length stay) 0) (sets column start (gather column target)) from
    ∙ ap (λ (n : ℕ). sets (sets (sets column start (gather column target)) from (gather column stay)) n (replicate (had - length stay) 0)) l))
