-- Kept pages of sample 1 and how many of their bytes a later store serves.
use Rattle.std.specs.Prelude.{◌≡◌, List, [], ◌∷◌, ◌++◌, ℕ}
use Rattle.store.specs.declared.Store.{Store}
use Rattle.store.specs.Copies.Kind.{withdrawn, result}
use Rattle.store.specs.Layout.{fresh_store}
use Rattle.image_writing.specs.Image.{image}
use Rattle.page.specs.Promises.{page_now, served_length}
use Rattle.calls.specs.PublicCalls.{Call, store_after_all}
use Rattle.calls.specs.PublicCalls.Call.{load, enter, carry}

-- The line of sample 1 and analyte 1.
abbrev pub line_key : ℕ
line_key = 33

-- A result of that line.
abbrev pub entering : ℕ → Call
entering v = enter result line_key v

-- Its withdrawal.
abbrev pub withdrawing : Call
withdrawing = enter withdrawn line_key 0

-- A result of sample 2.
abbrev pub entering_other : Call
entering_other = enter result 65 7

-- The store after calls on a fresh one of a plan.
abbrev pub after_fresh : ℕ → List Call → Store
after_fresh plan cs = store_after_all cs (fresh_store plan)

-- The page kept before the line is entered.
abbrev pub empty_page : List ℕ
empty_page = 0x01 ∷ 0x00 ∷ []

-- The page kept after 180 was.
abbrev pub kept_page : List ℕ
kept_page = 0x01 ∷ 0x01 ∷ 0x01 ∷ 0xB4 ∷ 0x01 ∷ 0x01 ∷ []

-- The image saved after 180 was entered.
abbrev pub saved_image : List ℕ
saved_image = 0x01 ∷ 0x01 ∷ 0x02 ∷ 0x01 ∷ 0x21 ∷ 0x01 ∷ 0xB4 ∷ 0x01 ∷ 0x01 ∷ 0x00 ∷ 0x00 ∷ 0x00 ∷ []

-- How many bytes of a kept page are served after calls on a fresh store of plan 1.
abbrev pub served_after : List ℕ → List Call → ℕ
served_after kept cs = served_length (after_fresh 1 cs) 1 kept

-- What is served of them.
pub record Examples : Type 0 where
  pub the_empty_page : page_now (fresh_store 1) 1 ≡ empty_page
  pub the_page : page_now (after_fresh 1 (entering 180 ∷ [])) 1 ≡ kept_page
  -- Served: at once, with bytes after the page, after a carry, after an entry of another sample, and by a store of another plan.
  pub at_once : served_after kept_page (entering 180 ∷ []) ≡ 6
  pub bytes_after : served_after (kept_page ++ 0x07 ∷ 0xFF ∷ []) (entering 180 ∷ []) ≡ 6
  pub carried : served_after kept_page (entering 180 ∷ carry 0 0 ∷ carry 1 0 ∷ []) ≡ 6
  pub another_sample : served_after kept_page (entering 180 ∷ entering_other ∷ []) ≡ 6
  pub another_plan : served_length (after_fresh 2 (entering 180 ∷ [])) 1 kept_page ≡ 6
  -- Not served: after a result of another value, and of the same, after a withdrawal, and after a withdrawal and the same result again.
  pub amended : served_after kept_page (entering 180 ∷ entering 210 ∷ []) ≡ 0
  pub same_value : served_after kept_page (entering 180 ∷ entering 180 ∷ []) ≡ 0
  pub after_withdrawal : served_after kept_page (entering 180 ∷ withdrawing ∷ []) ≡ 0
  pub entered_again : served_after kept_page (entering 180 ∷ withdrawing ∷ entering 180 ∷ []) ≡ 0
  -- A line that was not shown, entered and then withdrawn: the page is again what it was, and so it is served again.
  pub once_entered : served_after empty_page (entering 180 ∷ []) ≡ 0
  pub hidden_again : served_after empty_page (entering 180 ∷ withdrawing ∷ []) ≡ 2
  -- Served after the store's own image is loaded, and after an older one is loaded in place of the store.
  pub the_image : image (after_fresh 1 (entering 180 ∷ [])) ≡ saved_image
  pub own_image : served_after kept_page (entering 180 ∷ load saved_image ∷ []) ≡ 6
  pub older_image : served_after kept_page (entering 180 ∷ entering 210 ∷ load saved_image ∷ []) ≡ 6
