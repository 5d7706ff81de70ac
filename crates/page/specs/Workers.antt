-- What the workers below page and serve ask for and promise of what they are lent.
use Rattle.std.specs.Prelude.{◌≡◌, Bool, true, false, cond, ◌&&◌, List, ℕ, ◌≤◌, leb, length, take, Result, Ok, Err}
use Rattle.std.specs.Borrow.{MutBor}
use Rattle.store.specs.declared.Store.{Store}
use Rattle.store.specs.declared.refusal.Refusal.{Refusal}
use Rattle.store.specs.declared.refusal.Refusal.TheVariants.{BadStore, Sample}
use Rattle.store.specs.StoreRules.{good_store}
use Rattle.wire.specs.Writing.{HasRoom}
use Rattle.page_lines.specs.declared.PageLine.{PageLine}
use Rattle.page_lines.specs.PageLine.{analytes, last_sample}
use Rattle.page.specs.PageBytes.{page_bytes}
use Rattle.page.specs.Promises.{page_now}

-- A lent scratch has room for a page with these lines, which are no more than a page may have.
abbrev pub RoomForPage : MutBor (List ℕ) → ℕ → List PageLine → Type 0
RoomForPage scratch sample ls = (length ls ≤ analytes) × HasRoom scratch 0 (page_bytes sample ls)

-- A good store, and a sample that is not too large.
abbrev pub has_page : Store → ℕ → Bool
has_page z sample = good_store z && leb sample last_sample

-- A scratch that begins with a page, and the page's length.
pub record Holds (page : List ℕ) (n : ℕ) (scratch : List ℕ) : Type 0 where
  pub long : n ≡ length page
  pub begin : take n scratch ≡ page
  pub room : n ≤ length scratch

-- The scratch begins with the sample's page as it is now, whose length is told; or why there is none.
abbrev pub WritesNow : Store → ℕ → List ℕ → Result ℕ Refusal → Type 0
WritesNow z sample scratch (Ok n) = (has_page z sample ≡ true) × Holds (page_now z sample) n scratch
WritesNow z sample scratch (Err why) = (has_page z sample ≡ false) × (why ≡ cond (good_store z) Sample BadStore)
