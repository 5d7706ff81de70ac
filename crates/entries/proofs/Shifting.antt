-- A column in which one copy is put into a node, and those after it moved one place up.
use mathlib.Core.Path.{◌≡◌, sym, ap, ◌∙◌}
use mathlib.Core.List.{List, [], ◌∷◌, ◌++◌}
use Prim.Native.Nat.{ℕ, suc, ◌+◌, ◌-◌, ◌*◌, ◌<◌, ◌≤◌}
use native.Mathlib.Omega.{arith}
use native.Mathlib.Decide.{dec_lt}
use lib.ListN.{length, get_or, take, drop, set, get_or-eq_default}
use Rattle.lists.proofs.Orders.{Order, order?}
use Rattle.lists.proofs.Orders.Order.{less, equal, more}
use Rattle.lists.proofs.Inserting.{put_in_before, put_in_here, put_in_after}
use Rattle.plan.specs.Sizes.{most_nodes}
use Rattle.store.specs.declared.Copy.{Copy}
use Rattle.store.specs.Copies.{no_copy}
use Rattle.store.specs.Layout.{width, places, column}
use Rattle.store.specs.Workers.{opened}
use Rattle.store.proofs.Laying.{length-column, place_at, set_one, other_places, node_written}
use Rattle.store.proofs.Opening.{length-opened, opened_before, opened_here, opened_after, opened_past}

pub copy-opened : (part : Copy → ℕ) (ns : List (List Copy)) (n at : ℕ) (x : Copy) → n < length ns → n < most_nodes
    → at ≤ length (get_or ns n []) → length (get_or ns n []) < width
    → opened (column part ns) (width * n + at) (width * n + length (get_or ns n [])) (part x)
    ≡ column part (set ns n (take at (get_or ns n []) ++ x ∷ drop at (get_or ns n [])))
copy-opened part ns n at x in_List few held fits =
    node_written (set_one ns n ys in_List) part (opened c from end (part x))
    (length-opened c end 0 inside from (part x) under ∙ long) here
    (other_places (λ j. get_or (opened c from end (part x)) j 0 ≡ get_or c j 0) n
    (λ j h. opened_before c end 0 inside from (part x) j under (omega arith))
    (λ j h. opened_past c end 0 inside from (part x) j under (omega arith)))
  where
    c : List ℕ
    c = column part ns

    xs : List Copy
    xs = get_or ns n []

    ys : List Copy
    ys = take at xs ++ x ∷ drop at xs

    from : ℕ
    from = width * n + at

    end : ℕ
    end = width * n + length xs

    long : length c ≡ places
    long = length-column part ns

    inside : end < length c
    inside = omega (arith, long)

    under : from ≤ end
    under = omega arith

    stood : (i : ℕ) → i < width → get_or c (width * n + i) 0 ≡ part (get_or xs i no_copy)
    stood i h = place_at part ns n i few h

    -- Past the new copy stands what stood one place below, and past the copies nothing.
    after : (i j : ℕ) → i ≡ suc j → at ≤ j → i < width → Dec (j < length xs)
        → get_or (opened c from end (part x)) (width * n + i) 0 ≡ part (get_or ys i no_copy)
    after i j e h g (yes l) =
        let s : width * n + i ≡ suc (width * n + j) = omega arith in
        rw (s, e, put_in_after x no_copy xs at j held h)
        (opened_after c end 0 inside from (part x) (width * n + j) (omega arith) (omega arith) ∙ stood j (omega arith))
    after i j e h g (no l) =
        opened_past c end 0 inside from (part x) (width * n + i) under (omega arith) ∙ stood i g
        ∙ ap part
        (get_or-eq_default xs no_copy (omega arith) ∙ sym (get_or-eq_default xs no_copy (omega arith))
        ∙ sym (put_in_after x no_copy xs at j held h) ∙ ap (λ (m : ℕ). get_or ys m no_copy) (sym e))

    go : (i : ℕ) → i < width → Order i at → get_or (opened c from end (part x)) (width * n + i) 0 ≡ part (get_or ys i no_copy)
    go i h (less l) =
        rw (put_in_before x no_copy xs at i held l)
        (opened_before c end 0 inside from (part x) (width * n + i) under (omega arith) ∙ stood i h)
    go i h (equal l) = rw (l, put_in_here x no_copy xs at held) (opened_here c end 0 inside from (part x) under)
    go i h (more l) = after i (i - 1) (omega arith) (omega arith) h (dec_lt (i - 1) (length xs))

    here : (i : ℕ) → i < width → get_or (opened c from end (part x)) (width * n + i) 0 ≡ part (get_or ys i no_copy)
    here i h = go i h (order? i at)
