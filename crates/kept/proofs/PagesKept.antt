-- What an accepted page leaves in its buffer are bytes kept from the store; and so, by the promises of page and serve alone, what serve hands
-- back of them.
use mathlib.Core.Path.{◌≡◌, sym, ap, ◌∙◌}
use mathlib.Core.Bool.{true, false}
use mathlib.Core.List.{List, ◌++◌}
use mathlib.Core.Logic.{◌⊎◌, inl, inr}
use Prim.Native.Nat.{ℕ, ◌<◌, ◌≤◌}
use native.Mathlib.Omega.{arith}
use native.Mathlib.Decide.{dec_lt}
use lib.ListN.{length, take}
use denote.Ref.{Bor}
use borrow.Author.Tests.{le-leb}
use Rattle.lists.proofs.Truths.{bool?}
use Rattle.store.specs.declared.Answer.{Answer}
use Rattle.store.specs.declared.Store.{Store}
use Rattle.store.specs.Answers.{DONE, answer}
use Rattle.store.specs.StoreRules.{good_store}
use Rattle.wire.proofs.Buffers.{done-answer, done_front}
use Rattle.trips.specs.Trips.{Declared}
use Rattle.page_lines.specs.PageLine.{last_sample}
use Rattle.page.specs.Promises.{page_now, page_answer, page_buffer, Pages, ServesLength, Handed, Serves}
use Rattle.refusals.proofs.Page.{page_badstore, page_sample, page_small}
use Rattle.kept.specs.Shows.{ShowsSame}
use Rattle.kept.specs.Kept.{KeptFrom, ServedExactly, LengthExactly, PageDone, KeptOf, ServedIf, LengthIf}
use Rattle.kept.proofs.ExactlyServed.{served_exactly, length_exactly}

-- ---- an accepted page

done_at : (z : Store) (sample : ℕ) (before : List ℕ) → (page_answer z sample before).number ≡ DONE
    → PageDone z sample (page_answer z sample before) (page_buffer z sample before)
unfolding page_answer page_buffer
done_at z sample before done = go (bool? (good_store z)) (dec_lt last_sample sample) (dec_lt (length before) (length (page_now z sample)))
  where
    go : (good_store z ≡ true) ⊎ (good_store z ≡ false) → Dec (last_sample < sample) → Dec (length before < length (page_now z sample))
        → PageDone z sample (page_answer z sample before) (page_buffer z sample before)
    go (inr b) d f = absurd (omega (arith, done, (page_badstore z sample before).1 b))
    go (inl g) (yes l) f = absurd (omega (arith, done, (page_sample z sample before).1 (g, l)))
    go (inl g) (no l) (yes s) = absurd (omega (arith, done, (page_small z sample before).1 (g, (omega arith, s))))
    go (inl g) (no l) (no s) =
        let fits : length (page_now z sample) ≤ length before = omega arith in
        let t = le-leb sample last_sample (omega arith) in
        let says : page_answer z sample before ≡ answer DONE (length (page_now z sample)) 0 0 0 =
        rw (g, t) (done-answer (page_now z sample) before fits) in
        record {
          good = g;
          sample_known = omega arith;
          says = says;
          wrote =
              ap (λ (r : Answer). take r.a (page_buffer z sample before)) says ∙ rw (g, t) (done_front (page_now z sample) before fits);
        }

-- The promise of page, with an accepted answer.
pub page_done : (z : Store) (sample : ℕ) (before : List ℕ) (r : Answer) (after : List ℕ) → Pages z sample before r after → r.number ≡ DONE
    → PageDone z sample r after
page_done z sample before r after promise done =
    rw (promise.0, promise.1) (done_at z sample before (sym (ap (λ (q : Answer). q.number) promise.0) ∙ done))

-- What it wrote, with anything after it, is kept from the store.
pub page_is_kept : (z : Store) (sample : ℕ) (r : Answer) (after : List ℕ) → PageDone z sample r after
    → (kept : List ℕ) → KeptOf r after kept → KeptFrom z sample kept
page_is_kept z sample r after d kept begun = (begun.0, begun.1 ∙ ap (λ (l : List ℕ). l ++ begun.0) d.wrote)

-- ---- from page to serve

-- That the first store is good and the sample not too large follows from the accepted page.
pub from_page_to_serve : (z y : Store) → Declared z → good_store y ≡ true → Declared y → (sample : ℕ)
    → (before : List ℕ) (r : Answer) (after : List ℕ) → Pages z sample before r after → r.number ≡ DONE
    → (kept notice q : Bor (List ℕ)) → KeptOf r after kept.now → Serves y sample kept notice q
    → ServedIf (ShowsSame z y sample) r after kept notice q
from_page_to_serve z y declared-z good_y declared_y sample before r after paged done kept notice q begun serves =
    record {
      page_if_due =
          λ all.
          let f = e.page_if_same all in
          (serves.0 ∙ ap (λ (w : Handed). w.0) f, serves.1 ∙ ap (λ (w : Handed). w.1) f ∙ sym d.wrote);
      notice_otherwise =
          λ no.
          let f = e.notice_otherwise no in
          (serves.0 ∙ ap (λ (w : Handed). w.0) f, serves.1 ∙ ap (λ (w : Handed). w.1) f);
    }
  where
    d : PageDone z sample r after
    d = page_done z sample before r after paged done

    e : ServedExactly z y sample kept notice
    e =
        served_exactly z y d.good declared-z good_y declared_y sample d.sample_known kept notice
        (page_is_kept z sample r after d kept.now begun)

-- The same of the length that the C interface's serve gives.
pub from_page_to_length : (z y : Store) → Declared z → good_store y ≡ true → Declared y → (sample : ℕ)
    → (before : List ℕ) (r : Answer) (after : List ℕ) → Pages z sample before r after → r.number ≡ DONE
    → (kept : List ℕ) → KeptOf r after kept → (n : ℕ) → ServesLength y sample kept n → LengthIf (ShowsSame z y sample) r n
from_page_to_length z y declared-z good_y declared_y sample before r after paged done kept begun n gives =
    record {
      page_exactly = (λ m. l.page_exactly.0 (sym gives ∙ m ∙ wrote), λ all. gives ∙ l.page_exactly.1 all ∙ sym wrote);
      none_exactly = (λ m. l.none_exactly.0 (sym gives ∙ m), λ no. gives ∙ l.none_exactly.1 no);
    }
  where
    d : PageDone z sample r after
    d = page_done z sample before r after paged done

    l : LengthExactly z y sample kept
    l = length_exactly z y d.good declared-z good_y declared_y sample d.sample_known kept (page_is_kept z sample r after d kept begun)

    wrote : r.a ≡ length (page_now z sample)
    wrote = ap (λ (q : Answer). q.a) d.says
