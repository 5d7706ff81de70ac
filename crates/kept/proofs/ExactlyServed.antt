-- Bytes that were a sample's page in one store are served by another, of any plan, exactly when every line of the sample shows the same in
-- both.
use mathlib.Core.Path.{◌≡◌, sym, ap, ◌∙◌}
use mathlib.Core.Bool.{true, false}
use mathlib.Core.List.{List, [], ◌++◌}
use mathlib.Core.Logic.{◌⊎◌, inl, inr}
use Prim.Native.Nat.{ℕ, ◌≤◌}
use native.Mathlib.Omega.{arith}
use lib.ListN.{length}
use denote.Ref.{Bor}
use Rattle.lists.proofs.Truths.{bool?, not_both}
use Rattle.std.proofs.lemmas.Bool.{false_from_ne_true}
use Rattle.store.specs.declared.Store.{Store}
use Rattle.store.specs.Layout.{plan_of, state_of}
use Rattle.store.specs.StoreRules.{good_store}
use Rattle.trips.specs.Trips.{Declared}
use Rattle.page_lines.specs.PageLine.{last_sample}
use Rattle.page.specs.Promises.{page_now, still_true, served_length, served}
use Rattle.page.proofs.PageLength.{page_some}
use Rattle.page.proofs.Served.{serves_kept, serves_notice}
use Rattle.refusals.proofs.Page.{true_exactly}
use Rattle.kept.specs.Shows.{ShowsSame}
use Rattle.kept.specs.Kept.{KeptFrom, ServesPage, NoticeIsOther, ServedExactly, LengthExactly, ServeSame}
use Rattle.kept.proofs.ShownLines.{page_if_same, same_if_pages}

-- Two good stores that show the same of a sample make the same of any kept bytes.
pub serve_same : (z y : Store) → good_store z ≡ true → good_store y ≡ true → (sample : ℕ) → ShowsSame z y sample → ServeSame z y sample
unfolding still_true served served_length
serve_same z y good-z good_y sample same =
    record {
      page_same = sym (page_if_same z y sample same);
      served_same = λ kept notice. rw (good-z, good_y, page_if_same z y sample same);
      length_same = λ kept. rw (good-z, good_y, page_if_same z y sample same);
    }

-- The kept bytes are still true exactly when all shows the same.
true_if_same : (z y : Store) → good_store y ≡ true → (sample : ℕ) → sample ≤ last_sample → (kept : List ℕ) → KeptFrom z sample kept
    → ShowsSame z y sample → still_true y sample kept ≡ true
true_if_same z y good_y sample h kept begun same =
    (true_exactly y sample kept).1
    (record {
      good = good_y;
      small = h;
      rest = begun.0;
      begin = begun.1 ∙ ap (λ (l : List ℕ). l ++ begun.0) (sym (page_if_same z y sample same));
    })

same_if_true : (z y : Store) → good_store z ≡ true → Declared z → good_store y ≡ true → Declared y → (sample : ℕ) → sample ≤ last_sample
    → (kept : List ℕ) → KeptFrom z sample kept → still_true y sample kept ≡ true → ShowsSame z y sample
same_if_true z y good-z declared-z good_y declared_y sample h kept begun t =
    let w = (true_exactly y sample kept).0 t in
    same_if_pages z y sample good-z declared-z good_y declared_y h begun.0 w.rest (sym begun.1 ∙ w.begin)

-- The stores are any two good ones with numbers of the declared type, of any plans; the kept bytes begin with the first one's page.
pub served_exactly : (z y : Store) → good_store z ≡ true → Declared z → good_store y ≡ true → Declared y → (sample : ℕ) → sample ≤ last_sample
    → (kept notice : Bor (List ℕ)) → KeptFrom z sample kept.now → ServedExactly z y sample kept notice
served_exactly z y good-z declared-z good_y declared_y sample h kept notice begun =
    record {
      still_true_exactly = (same, true_then);
      page_if_same = page;
      page_only_if_same = λ other served-page. from_page other served-page (bool? (still_true y sample kept.now));
      notice_otherwise = λ no. serves_notice y sample kept notice (false_from_ne_true (still_true y sample kept.now) (λ t. no (same t)));
      notice_only_otherwise = λ other served-notice all. other (sym served-notice ∙ page all);
      pages_equal_exactly = (
        λ e. same_if_pages z y sample good-z declared-z good_y declared_y h [] [] (ap (λ (l : List ℕ). l ++ []) e),
        λ all. sym (page_if_same z y sample all),
      );
      same_or_not = decided (bool? (still_true y sample kept.now));
    }
  where
    true_then : ShowsSame z y sample → still_true y sample kept.now ≡ true
    true_then = true_if_same z y good_y sample h kept.now begun

    same : still_true y sample kept.now ≡ true → ShowsSame z y sample
    same = same_if_true z y good-z declared-z good_y declared_y sample h kept.now begun

    page : ShowsSame z y sample → ServesPage z y sample kept notice
    page all =
        serves_kept y sample kept notice (true_then all)
        ∙ ap (λ (l : List ℕ). (kept.ref_ptr, l)) (page_if_same z y sample all)

    from_page : NoticeIsOther z sample kept notice → ServesPage z y sample kept notice
        → (still_true y sample kept.now ≡ true) ⊎ (still_true y sample kept.now ≡ false) → ShowsSame z y sample
    from_page other e (inl t) = same t
    from_page other e (inr f) = absurd (other (sym (serves_notice y sample kept notice f) ∙ e))

    decided : (still_true y sample kept.now ≡ true) ⊎ (still_true y sample kept.now ≡ false) → Dec (ShowsSame z y sample)
    decided (inl t) = yes (same t)
    decided (inr f) = no (λ all. not_both (true_then all) f)

-- The same of the length, which is all that the C interface hands back.
pub length_exactly : (z y : Store) → good_store z ≡ true → Declared z → good_store y ≡ true → Declared y → (sample : ℕ) → sample ≤ last_sample
    → (kept : List ℕ) → KeptFrom z sample kept → LengthExactly z y sample kept
unfolding served_length
length_exactly z y good-z declared-z good_y declared_y sample h kept begun =
    record {
      page_exactly = (λ e. from_length e (bool? (still_true y sample kept)), λ all. length_then all);
      none_exactly = (
        λ e all. absurd (omega (arith, some_bytes, sym (length_then all) ∙ e)),
        λ no. rw (false_from_ne_true (still_true y sample kept) (λ t. no (same t))),
      );
    }
  where
    some_bytes : 1 ≤ length (page_now z sample)
    some_bytes = page_some (plan_of z) (state_of z) sample

    same : still_true y sample kept ≡ true → ShowsSame z y sample
    same = same_if_true z y good-z declared-z good_y declared_y sample h kept begun

    length_then : ShowsSame z y sample → served_length y sample kept ≡ length (page_now z sample)
    length_then all = rw (true_if_same z y good_y sample h kept begun all) (ap length (page_if_same z y sample all))

    from_length : served_length y sample kept ≡ length (page_now z sample)
        → (still_true y sample kept ≡ true) ⊎ (still_true y sample kept ≡ false) → ShowsSame z y sample
    from_length e (inl t) = same t
    from_length e (inr f) = absurd (let n : 0 ≡ length (page_now z sample) = rw f at e in omega (arith, some_bytes))
