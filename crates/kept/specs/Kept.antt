-- Bytes that were kept from one store, and when another serves them, exactly.
use Rattle.std.specs.Prelude.{◌≡◌, true, List, ◌++◌, ◌↔◌, ℕ, ◌≤◌, length, take}
use Rattle.std.specs.Borrow.{Bor}
use Rattle.store.specs.declared.Answer.{Answer}
use Rattle.store.specs.declared.Store.{Store}
use Rattle.store.specs.Answers.{DONE, answer}
use Rattle.store.specs.StoreRules.{good_store}
use Rattle.page_lines.specs.PageLine.{last_sample}
use Rattle.page.specs.Promises.{page_now, still_true, served_length, Handed, served}
use Rattle.kept.specs.Shows.{ShowsSame}

-- ---- two stores

-- Bytes kept from a store: they begin with the sample's page as it was there.
abbrev pub KeptFrom : Store → ℕ → List ℕ → Type 0
KeptFrom z sample kept = (rest : List ℕ) × (kept ≡ page_now z sample ++ rest)

-- The store y serves the store z's page, in the kept bytes.
abbrev pub ServesPage : Store → Store → ℕ → Bor (List ℕ) → Bor (List ℕ) → Type 0
ServesPage z y sample kept notice = served y sample kept notice ≡ (kept.ref_ptr, page_now z sample)

-- The store y serves the notice.
abbrev pub ServesNotice : Store → ℕ → Bor (List ℕ) → Bor (List ℕ) → Type 0
ServesNotice y sample kept notice = served y sample kept notice ≡ (notice.ref_ptr, notice.now)

-- The notice is not the kept page itself, at its pointer: or else what is handed back could be either.
abbrev pub NoticeIsOther : Store → ℕ → Bor (List ℕ) → Bor (List ℕ) → Type 0
NoticeIsOther z sample kept notice = ◌≡◌ {A = Handed} (notice.ref_ptr, notice.now) (kept.ref_ptr, page_now z sample) → ⊥

-- Bytes kept from the store z, and what the store y makes of them.
pub record ServedExactly (z y : Store) (sample : ℕ) (kept notice : Bor (List ℕ)) : Type 0 where
  -- The kept bytes are still true exactly when every line of the sample shows the same in both stores.
  pub still_true_exactly : (still_true y sample kept.now ≡ true) ↔ ShowsSame z y sample
  -- Then z's page is handed back, in the kept bytes,
  pub page_if_same : ShowsSame z y sample → ServesPage z y sample kept notice
  -- and only then;
  pub page_only_if_same : NoticeIsOther z sample kept notice → ServesPage z y sample kept notice → ShowsSame z y sample
  -- otherwise the notice is,
  pub notice_otherwise : (ShowsSame z y sample → ⊥) → ServesNotice y sample kept notice
  -- and only otherwise.
  pub notice_only_otherwise : NoticeIsOther z sample kept notice → ServesNotice y sample kept notice → ShowsSame z y sample → ⊥
  -- That is exactly when the two pages are equal,
  pub pages_equal_exactly : (page_now z sample ≡ page_now y sample) ↔ ShowsSame z y sample
  -- and it is so or not.
  pub same_or_not : Dec (ShowsSame z y sample)

-- The same of the length that the C interface's serve gives.
pub record LengthExactly (z y : Store) (sample : ℕ) (kept : List ℕ) : Type 0 where
  -- It is the length of z's page exactly when every line of the sample shows the same in both stores,
  pub page_exactly : (served_length y sample kept ≡ length (page_now z sample)) ↔ ShowsSame z y sample
  -- and 0 exactly otherwise.
  pub none_exactly : (served_length y sample kept ≡ 0) ↔ (ShowsSame z y sample → ⊥)

-- Two stores make the same of any kept bytes of a sample.
pub record ServeSame (z y : Store) (sample : ℕ) : Type 0 where
  pub page_same : page_now z sample ≡ page_now y sample
  pub served_same : (kept notice : Bor (List ℕ)) → served z sample kept notice ≡ served y sample kept notice
  pub length_same : (kept : List ℕ) → served_length z sample kept ≡ served_length y sample kept

-- ---- from page to serve, by their promises

-- What an accepted page says, and what it leaves in its buffer.
pub record PageDone (z : Store) (sample : ℕ) (r : Answer) (after : List ℕ) : Type 0 where
  pub good : good_store z ≡ true
  pub sample_known : sample ≤ last_sample
  pub says : r ≡ answer DONE (length (page_now z sample)) 0 0 0
  pub wrote : take r.a after ≡ page_now z sample

-- The kept bytes begin with what an accepted page wrote: its answer says how many bytes of the buffer that is.
abbrev pub KeptOf : Answer → List ℕ → List ℕ → Type 0
KeptOf r after kept = (rest : List ℕ) × (kept ≡ take r.a after ++ rest)

-- What a serve of the kept bytes handed back, by whether the page is due: what page wrote, at the kept bytes' own place, or else the whole notice.
pub record ServedIf (Due : Type 0) (r : Answer) (after : List ℕ) (kept notice q : Bor (List ℕ)) : Type 0 where
  pub page_if_due : Due → (q.ref_ptr ≡ kept.ref_ptr) × (q.now ≡ take r.a after)
  pub notice_otherwise : (Due → ⊥) → (q.ref_ptr ≡ notice.ref_ptr) × (q.now ≡ notice.now)

-- What length it gave: as many bytes as page wrote exactly if the page is due, and 0 exactly otherwise.
pub record LengthIf (Due : Type 0) (r : Answer) (n : ℕ) : Type 0 where
  pub page_exactly : (n ≡ r.a) ↔ Due
  pub none_exactly : (n ≡ 0) ↔ (Due → ⊥)
