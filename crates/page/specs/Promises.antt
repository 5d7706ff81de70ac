-- The promises of page and serve: each fixes the answer and every byte handed back.
use Rattle.std.specs.Prelude.{◌≡◌, Bool, true, false, cond, ◌&&◌, List, ℕ, leb, length, take}
use Rattle.std.specs.Borrow.{Bor}
use Rattle.store.specs.declared.Answer.{Answer}
use Rattle.store.specs.declared.Store.{Store}
use Rattle.store.specs.Answers.{BADSTORE, SAMPLE, bare}
use Rattle.store.specs.Layout.{plan_of, state_of}
use Rattle.store.specs.StoreRules.{good_store}
use Rattle.wire.specs.Writing.{written_answer, written_buffer}
use Rattle.page_lines.specs.PageLine.{last_sample}
use Rattle.page.specs.PageBytes.{page_of, begins}

-- The sample's page as the store is now.
abbrev pub page_now : Store → ℕ → List ℕ
page_now z sample = page_of (plan_of z) (state_of z) sample

-- BADSTORE, SAMPLE, SMALL with the bytes needed, or DONE with the bytes written.
unfoldable pub page_answer : Store → ℕ → List ℕ → Answer
page_answer z sample before =
    cond (good_store z) (cond (leb sample last_sample) (written_answer (page_now z sample) before) (bare SAMPLE)) (bare BADSTORE)

-- A refusal leaves every byte; the bytes beyond the page are kept.
unfoldable pub page_buffer : Store → ℕ → List ℕ → List ℕ
page_buffer z sample before = cond (good_store z && leb sample last_sample) (written_buffer (page_now z sample) before) before

-- The outcome of a page into a buffer: the answer, and the buffer at exit.
abbrev pub page_outcome : Store → ℕ → List ℕ → Answer × List ℕ
page_outcome store sample before = (page_answer store sample before, page_buffer store sample before)

-- Of a buffer at entry: the answer, and the buffer at exit.
abbrev pub Pages : Store → ℕ → List ℕ → Answer → List ℕ → Type 0
Pages store sample before r after = (r ≡ (page_outcome store sample before).0) × (after ≡ (page_outcome store sample before).1)

-- "If the kept bytes begin with the sample's page as it is now": of a good store and a sample that is not too large.
unfoldable pub still_true : Store → ℕ → List ℕ → Bool
still_true z sample kept = good_store z && leb sample last_sample && begins kept (page_now z sample)

-- How many of the kept bytes may be shown: the length of the page that they begin with, or none. No page is empty.
unfoldable pub served_length : Store → ℕ → List ℕ → ℕ
served_length z sample kept = cond (still_true z sample kept) (length (page_now z sample)) 0

-- Of the kept bytes: how many of them may be shown.
abbrev pub ServesLength : Store → ℕ → List ℕ → ℕ → Type 0
ServesLength store sample kept r = r ≡ served_length store sample kept

-- Whose bytes are handed back (a pointer), and which.
abbrev pub Handed : Type 0
Handed = (ℕ × ℕ) × List ℕ

-- The kept bytes, or the notice.
abbrev pub handed : Bool → Handed → Handed → Handed
handed true kept notice = kept
handed false kept notice = notice

-- "exactly that beginning is returned; otherwise, and for a bad store or sample, the whole notice"
unfoldable pub served : Store → ℕ → Bor (List ℕ) → Bor (List ℕ) → Handed
served z sample kept notice =
    handed (still_true z sample kept.now) (kept.ref_ptr, take (length (page_now z sample)) kept.now) (notice.ref_ptr, notice.now)

-- Of what is handed back, its pointer and its bytes.
abbrev pub Serves : Store → ℕ → Bor (List ℕ) → Bor (List ℕ) → Bor (List ℕ) → Type 0
Serves store sample kept notice r = (r.ref_ptr ≡ (served store sample kept notice).0) × (r.now ≡ (served store sample kept notice).1)
