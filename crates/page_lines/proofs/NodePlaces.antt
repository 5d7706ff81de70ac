-- The sample's copies of one node laid over those of later nodes, place by place: what each turn and each way out leaves.
use mathlib.Core.Path.{◌≡◌, refl, sym, ap, ◌∙◌}
use mathlib.Core.List.{List}
use mathlib.Core.Option.{Option, none, some}
use Rattle.std.specs.Prelude.{Some, None}
use Prim.Native.Nat.{ℕ, zero, suc, ◌+◌, ◌-◌, ◌*◌, ◌<◌, ◌≤◌}
use native.Mathlib.Omega.{arith}
use native.Mathlib.Decide.{dec_lt, ℕ_discrete}
use lib.ListN.{length, get_or, set, length-set}
use lib.Seq.{get_or-set_same, get_or-set_other}
use borrow.Author.Tests.{eq-eqb, ne_eqb}
use Rattle.lists.specs.Indexed.{tabulate}
use Rattle.lists.proofs.Options.{one_some}
use Rattle.lists.proofs.Tabulating.{tabulate_on, tabulate_off, as_from_start}
use Rattle.store.specs.Copies.{find}
use Rattle.store.specs.declared.Store.{Store}
use Rattle.store.specs.Layout.{width, count_of}
use Rattle.store.specs.Workers.{number_in, itself, place_in, RisesIn}
use Rattle.store.proofs.Halving.{place_bounds, half_up, half_down}
use Rattle.store.proofs.Seeking.{rises_tabulated, place_hit, place_before}
use Rattle.page_lines.specs.PageLine.{analytes, key_for}
use Rattle.page_lines.specs.Workers.{Place, place_over, laid_over}

-- Places that do not have the key are passed over,
pass : (f : ℕ → ℕ) (k end m from at : ℕ) → from + m ≡ at → at ≤ end → ((i : ℕ) → from ≤ i → i < at → f i ≡ k → ⊥)
    → find f (tabulate from (end - from) itself) k ≡ find f (tabulate at (end - at) itself) k
unfolding find
pass f k end zero from at e h miss = let q : from ≡ at = omega arith in rw q
pass f k end (suc m) from at e h miss =
    rw (tabulate_on itself from end (omega arith), ne_eqb (f from) k (miss from (omega arith) (omega arith)))
    (pass f k end m (suc from) at (omega arith) h (λ i g. miss i (omega arith)))

-- and nothing is found where all are.
find_nowhere : (f : ℕ → ℕ) (k end at : ℕ) → at ≤ end → ((i : ℕ) → at ≤ i → i < end → f i ≡ k → ⊥)
    → find f (tabulate at (end - at) itself) k ≡ none
unfolding find
find_nowhere f k end at h miss = pass f k end (end - at) at end (omega arith) (omega arith) miss ∙ rw (tabulate_off itself end end (omega arith))

module _ (keys : List ℕ) (from end sample : ℕ) where
  -- What is found of an analyte's line from a place on.
  abbrev found : ℕ → ℕ → Option ℕ
  found at a = find (number_in keys) (tabulate at (end - at) itself) (key_for sample a)

  -- The places of all of them over those that stood before.
  abbrev laid : List Place → List Place
  laid before = tabulate 0 analytes (λ a. place_over (get_or before a None) (found from a))

  -- The places before one are laid over: with those from it on they make the whole node's.
  pub record Laying (before : List Place) (at : ℕ) (now : List Place) : Type 0 where
    pub past : place_in keys from end (sample * analytes) ≤ at
    pub high : at ≤ end
    pub long : length now ≡ analytes
    pub same : (a : ℕ) → a < analytes → place_over (get_or now a None) (found at a) ≡ place_over (get_or before a None) (found from a)

  module _ (o : from ≤ end) (rises : RisesIn keys from end) (before : List Place) where
    pub lay_starts : (at : ℕ) → at ≡ place_in keys from end (sample * analytes) → length before ≡ analytes → Laying before at before
    lay_starts at e long =
        let w = place_bounds keys from end o (sample * analytes) in
        record { past = omega arith; high = omega arith; long = long; same = λ a h. ap (place_over (get_or before a None)) (sym (skip w a)) }
      where
        skip : (from ≤ place_in keys from end (sample * analytes)) × (place_in keys from end (sample * analytes) ≤ end) → (a : ℕ)
            → found from a ≡ found at a
        skip w a =
            pass (number_in keys) (key_for sample a) end (at - from) from at (omega arith) (omega arith)
            (λ i g l q. omega (arith, place_before itself 0 (number_in keys) from (end - from) (sample * analytes) at e i g l))

    module _ (at : ℕ) (now : List Place) (g : Laying before at now) where
      -- From there on no key is below the sample's first,
      pub lay_low : (i : ℕ) → at ≤ i → i < end → sample * analytes ≤ number_in keys i
      lay_low i h l = go (dec_lt (number_in keys i) (sample * analytes))
        where
          go : Dec (number_in keys i < sample * analytes) → sample * analytes ≤ number_in keys i
          go (yes q) =
              absurd
              (let b = place_bounds keys from end o (sample * analytes) in
              let u = half_up keys from end o rises (sample * analytes) i (omega (arith, g.past)) l q in
              omega (arith, g.past))
          go (no q) = omega arith

      ends : ((a i : ℕ) → a < analytes → at ≤ i → i < end → number_in keys i ≡ key_for sample a → ⊥)
          → now ≡ laid before
      ends miss =
          as_from_start (λ a. place_over (get_or before a None) (found from a)) now analytes None g.long
          (λ a h. rw (find_nowhere (number_in keys) (key_for sample a) end at g.high (λ i. miss a i h)) at (g.same a h))

      -- and no place is left,
      pub lay_ends : end ≤ at → now ≡ laid before
      lay_ends h = ends (λ a i q p l e. omega arith)

      module _ (within : at < end) where
        -- or the keys from there on are past the sample's last,
        pub lay_stops : sample * analytes + (analytes - 1) < number_in keys at → now ≡ laid before
        lay_stops h = ends far
          where
            far : (a i : ℕ) → a < analytes → at ≤ i → i < end → number_in keys i ≡ key_for sample a → ⊥
            far a i q p l e =
                let b = place_bounds keys from end o (sample * analytes) in
                let k = sample * analytes + analytes in
                let d = half_down keys from end o k at (omega (arith, g.past)) within (omega arith) in
                let u = half_up keys from end o rises k i (omega (arith, g.past)) l (omega arith) in
                omega arith

        -- or the copy there is laid over.
        pub lay_turns : number_in keys at ≤ sample * analytes + (analytes - 1)
            → Laying before (at + 1) (set now (number_in keys at - sample * analytes) (Some at))
        unfolding find
        lay_turns h =
            record {
              past = omega (arith, g.past);
              high = omega arith;
              long = length-set now (number_in keys at - sample * analytes) (Some at) ∙ g.long;
              same = λ a q. turn a q ∙ g.same a q;
            }
          where
            low : sample * analytes ≤ number_in keys at
            low = lay_low at (omega arith) within

            -- A key stands once.
            once : (i : ℕ) → at < i → i < end → number_in keys i ≡ number_in keys at → ⊥
            once i p l e =
                let w = place_bounds keys from end o (sample * analytes) in
                let r = rises_tabulated (number_in keys) 0 itself from (end - from) (λ j u v. rises j u (omega arith)) in
                let hit = place_hit (number_in keys) 0 itself from (end - from) r (number_in keys at) in
                let q = one_some (hit at (omega (arith, g.past)) (omega arith) refl) (hit i (omega (arith, g.past)) (omega arith) e) in
                omega arith

            turn : (a : ℕ) → a < analytes
                → place_over (get_or (set now (number_in keys at - sample * analytes) (Some at)) a None) (found (at + 1) a)
                ≡ place_over (get_or now a None) (found at a)
            turn a q = go (ℕ_discrete (number_in keys at) (key_for sample a))
              where
                go : Dec (number_in keys at ≡ key_for sample a)
                    → place_over (get_or (set now (number_in keys at - sample * analytes) (Some at)) a None) (found (at + 1) a)
                    ≡ place_over (get_or now a None) (found at a)
                go (yes e) =
                    let b : number_in keys at - sample * analytes ≡ a = omega arith in
                    let here : found at a ≡ some at = rw (tabulate_on itself at end within, eq-eqb (number_in keys at) (key_for sample a) e) in
                    let after : found (at + 1) a ≡ none =
                    find_nowhere (number_in keys) (key_for sample a) end (at + 1) (omega arith) (λ i p l d. once i (omega arith) l (d ∙ sym e))
                    in
                    rw (here, after, b) (get_or-set_same now a (Some at) None (omega (arith, g.long)))
                go (no e) =
                    let after : found at a ≡ found (at + 1) a =
                    pass (number_in keys) (key_for sample a) end 1 at (at + 1) refl (omega arith)
                    (λ i p l d. let i-is : i ≡ at = omega arith in e (rw i-is at d))
                    in
                    rw (after, get_or-set_other now (number_in keys at - sample * analytes) a (Some at) None (λ d. e (omega (arith, low))))

-- The places laid are the node's.
pub node-laid : (z : Store) (node sample : ℕ) (before : List Place)
    → laid z.keys (width * node) (width * node + count_of z node) sample before ≡ laid_over z node sample before
unfolding laid_over
node-laid z node sample before = let c : width * node + count_of z node - width * node ≡ count_of z node = omega arith in rw c
