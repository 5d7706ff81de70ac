-- What serve hands back is the sample's page as the store is now, in the kept page's own bytes, or the whole notice.
use mathlib.Core.Path.{◌≡◌, sym, ap, ◌∙◌}
use mathlib.Core.Bool.{true, false, ◌&&◌}
use mathlib.Core.List.{List}
use Prim.Native.Nat.{ℕ}
use lib.Dec.{leb}
use lib.ListN.{length, take}
use lib.Seq.{take-append_seam}
use denote.Ref.{Bor}
use Rattle.lists.proofs.Truths.{and_right}
use Rattle.store.specs.declared.Store.{Store}
use Rattle.store.specs.StoreRules.{good_store}
use Rattle.page_lines.specs.PageLine.{last_sample}
use Rattle.page.specs.PageBytes.{begins}
use Rattle.page.specs.Promises.{page_now, still_true, served}
use Rattle.page.proofs.PagesApart.{begins_rest}

-- What it is to be still true, said for the laws below: the kept bytes begin with the sample's page.
pub still_true_is : (z : Store) (sample : ℕ) (kept : List ℕ)
    → still_true z sample kept ≡ (good_store z && leb sample last_sample && begins kept (page_now z sample))
unfolding still_true
still_true_is z sample kept = cc

pub serves_kept : (z : Store) (sample : ℕ) (kept notice : Bor (List ℕ)) → still_true z sample kept.now ≡ true
    → served z sample kept notice ≡ (kept.ref_ptr, page_now z sample)
unfolding served
serves_kept z sample kept notice t =
    let b : begins kept.now (page_now z sample) ≡ true =
    and_right (good_store z && leb sample last_sample) (begins kept.now (page_now z sample)) (sym (still_true_is z sample kept.now) ∙ t)
    in
    let w = begins_rest kept.now (page_now z sample) b in
    rw t
    (ap (λ (l : List ℕ). (kept.ref_ptr, l))
    (ap (λ (l : List ℕ). take (length (page_now z sample)) l) w.1 ∙ take-append_seam (page_now z sample) w.0))

pub serves_notice : (z : Store) (sample : ℕ) (kept notice : Bor (List ℕ)) → still_true z sample kept.now ≡ false
    → served z sample kept notice ≡ (notice.ref_ptr, notice.now)
unfolding served
serves_notice z sample kept notice f = rw f
