-- The ways out of page, served_length and serve, and the scratch that the sample's page is written into.
use mathlib.Core.Path.{◌≡◌, refl, sym, ap, ◌∙◌}
use mathlib.Core.Bool.{Bool, true, false, cond, ◌&&◌}
use mathlib.Core.List.{List, [], ◌∷◌, ◌++◌}
use mathlib.Core.Logic.{◌⊎◌, inl, inr, ⊎_elim}
use Prim.Native.Nat.{ℕ, ◌<◌, ◌≤◌}
use native.Mathlib.Omega.{arith}
use native.Mathlib.Decide.{ℕ_discrete}
use lib.Dec.{leb, eqb}
use lib.ListN.{length, take, drop, length-append}
use denote.Ref.{Bor}
use borrow.Author.Tests.{le-leb, ne_eqb}
use Rattle.std.specs.List.{starts_with}
use Rattle.lists.specs.Stands.{Wrote}
use Rattle.lists.proofs.Standing.{wrote_length}
use Rattle.lists.proofs.Truths.{bool?, and_left, and_right}
use Rattle.plan.specs.Plan.{size}
use Rattle.plan.specs.declared.rows.Rows.{Rows}
use Rattle.plan.specs.PlanArrays.{rows_of}
use Rattle.plan_table.specs.PlanTable.{plan_numbered}
use Rattle.store.specs.declared.Answer.{Answer}
use Rattle.store.specs.declared.Store.{Store}
use Rattle.store.specs.declared.refusal.Refusal.{Refusal}
use Rattle.store.specs.declared.refusal.Refusal.TheVariants.{BadStore, Sample}
use Rattle.store.specs.Answers.{DONE, SMALL, answer, bare}
use Rattle.store.specs.Refusals.{refusal_number}
use Rattle.store.specs.State.{in_reach}
use Rattle.store.specs.Layout.{plan_of, state_in, state_of}
use Rattle.store.specs.StoreRules.{good_store}
use Rattle.store.proofs.WhichPlan.{rows_here}
use Rattle.store.proofs.Lifting.{plan_good}
use Rattle.wire.proofs.Buffers.{small_answer, small_buffer, done-answer, done_buffer, done_front, done_wrote, wrote_end}
use Rattle.page_lines.specs.declared.PageLine.{PageLine}
use Rattle.page_lines.specs.PageLine.{analytes, last_sample, page_lines}
use Rattle.page_lines.specs.Workers.{Pageable, Gathers}
use Rattle.page_lines.proofs.LineLaws.{lines_few}
use Rattle.page_lines.proofs.NodeByNode.{good_on_paths, good_pageable}
use Rattle.page.specs.PageBytes.{page_bytes, most_page_bytes, page_of, begins}
use Rattle.page.specs.Promises.{page_now, page_answer, page_buffer, Pages, still_true, served_length, ServesLength, Handed, served, Serves}
use Rattle.page.specs.Workers.{has_page, Holds}
use Rattle.page.proofs.PageLength.{page_length, page_some}
use Rattle.page.proofs.PagesApart.{begins_rest}
use Rattle.page.proofs.KeptLines.{same-page}
use Rattle.page.proofs.Served.{still_true_is, serves_notice}

-- ---- the scratch

module _ (z : Store) (good : good_store z ≡ true) (sample : ℕ) (r : Rows) (known : r ≡ rows_of (plan_numbered z.plan)) where
  nodes_are : r.nodes ≡ size (plan_of z)
  nodes_are = (rows_here z (plan_good z good) r known).nodes_are

  -- A good store has what the page's lines ask for,
  pub good_gather : Pageable r.nodes z
  good_gather = good_pageable z good r.nodes nodes_are

  module _ (ls : List PageLine) (gathered : Gathers r.nodes z sample ls) where
    -- and those gathered are its page's,
    lines_now : ls ≡ page_lines (plan_of z) (state_of z) sample
    unfolding state_of
    lines_now = gathered (plan_of z) (good_on_paths z good r.nodes nodes_are) ∙ rw nodes_are

    page_now_is : page_bytes sample ls ≡ page_now z sample
    page_now_is = ap (page_bytes sample) lines_now

    module _ (small : sample ≤ last_sample) where
      -- which fits a scratch that has room for the longest,
      pub lines_fit : (length ls ≤ analytes) × (length (page_bytes sample ls) ≤ most_page_bytes)
      lines_fit = (
        omega (arith, ap length lines_now, lines_few (plan_of z) (state_of z) sample 0 analytes),
        rw lines_now (page_length (plan_of z) (state_of z) sample small),
      )

      -- and once written is held there.
      pub page_held : {before : List ℕ} {n : ℕ} {after : List ℕ} → most_page_bytes ≤ length before → Wrote before 0 (page_bytes sample ls) n after
          → (has_page z sample ≡ true) × Holds (page_now z sample) n after
      page_held {before} {n} {after} room w = (rw (good, le-leb sample last_sample small), rw page_now_is at held)
        where
          fits : length (page_bytes sample ls) ≤ length before
          fits = omega (arith, lines_fit.1)

          front : take n after ≡ page_bytes sample ls
          front = rw (wrote_end w, done_wrote (page_bytes sample ls) before fits w) (done_front (page_bytes sample ls) before fits)

          held : Holds (page_bytes sample ls) n after
          held = record { long = wrote_end w; begin = front; room = omega (arith, wrote_end w, wrote_length w, fits) }

-- A page reads neither clock nor slots,
lent_page : (z : Store) (sample nodes : ℕ) → nodes ≡ size (plan_of z)
    → page_of (plan_of z) (state_in nodes 0 z.counts z.keys z.kinds z.values z.stamps []) sample ≡ page_now z sample
unfolding state_of in_reach
lent_page z sample nodes e =
    same-page (plan_of z) (plan_of z) (state_in nodes 0 z.counts z.keys z.kinds z.values z.stamps []) (state_of z) sample (λ a h ls. rw e)

-- so one that was written by the columns alone, of any store, into a scratch with room for the longest, is held there as it is now.
pub columns_held : (z : Store) (sample nodes : ℕ) {before : List ℕ} {n : ℕ} {after : List ℕ} → sample ≤ last_sample → most_page_bytes ≤ length before
    → nodes ≡ size (plan_of z)
    → Wrote before 0 (page_of (plan_of z) (state_in nodes 0 z.counts z.keys z.kinds z.values z.stamps []) sample) n after
    → Holds (page_now z sample) n after
columns_held z sample nodes {before} {n} {after} small room all wrote =
    record { long = wrote_end w; begin = front; room = omega (arith, wrote_end w, wrote_length w, fits) }
  where
    w : Wrote before 0 (page_now z sample) n after
    w = rw (lent_page z sample nodes all) at wrote

    fits : length (page_now z sample) ≤ length before
    fits = omega (arith, page_length (plan_of z) (state_of z) sample small)

    front : take n after ≡ page_now z sample
    front = rw (wrote_end w, done_wrote (page_now z sample) before fits w) (done_front (page_now z sample) before fits)

-- ---- page

-- A store that has a page is good, and the sample not too large.
module _ (z : Store) (sample : ℕ) (here : has_page z sample ≡ true) where
  good_here : good_store z ≡ true
  good_here = and_left (good_store z) (leb sample last_sample) here

  small_here : leb sample last_sample ≡ true
  small_here = and_right (good_store z) (leb sample last_sample) here

module _ (z : Store) (sample : ℕ) (before : List ℕ) {r : Answer} where
  -- Refused: the answer has the refusal's number, and the buffer is as it was.
  pub page_refused : {why : Refusal} → (has_page z sample ≡ false) × (why ≡ cond (good_store z) Sample BadStore) → r ≡ bare (refusal_number why)
      → Pages z sample before r before
  unfolding page_answer page_buffer
  page_refused {why} w e = go (bool? (good_store z))
    where
      go : (good_store z ≡ true) ⊎ (good_store z ≡ false) → Pages z sample before r before
      go (inl t) =
          let large : leb sample last_sample ≡ false = rw t at w.0 in
          let sample-is : why ≡ Sample = rw t at w.1 in
          (rw (t, large) (rw sample-is at e), rw (t, large))
      go (inr f) =
          let bad-is : why ≡ BadStore = rw f at w.1 in
          (rw f (rw bad-is at e), rw f)

  module _ (here : has_page z sample ≡ true) {n : ℕ} {scratch : List ℕ} (h : Holds (page_now z sample) n scratch) where
    pub page_too_small : length before < n → r ≡ answer SMALL n 0 0 0 → Pages z sample before r before
    unfolding page_answer page_buffer
    page_too_small short e =
        let g : length before < length (page_now z sample) = omega (arith, h.long) in (
          rw (good_here z sample here, small_here z sample here, small_answer (page_now z sample) before g, ← h.long) e,
          rw (good_here z sample here, small_here z sample here, small_buffer (page_now z sample) before g),
        )

    pub page_done : n ≤ length before → r ≡ answer DONE n 0 0 0 → {after : List ℕ} → after ≡ take n scratch ++ drop n before
        → Pages z sample before r after
    unfolding page_answer page_buffer
    page_done fits e {after} laid =
        let g : length (page_now z sample) ≤ length before = omega (arith, h.long) in (
          rw (good_here z sample here, small_here z sample here, done-answer (page_now z sample) before g, ← h.long) e,
          rw (good_here z sample here, small_here z sample here, done_buffer (page_now z sample) before g, ← h.long) (rw h.begin at laid),
        )

-- ---- served_length

-- What the library says of bytes that begin with others is what is said of kept bytes and a page.
pub begins_is : (kept page : List ℕ) → starts_with eqb kept page ≡ begins kept page
unfolding begins
begins_is kept [] = refl
begins_is [] (b ∷ bs) = refl
begins_is (a ∷ kept) (b ∷ bs) = rw (begins_is kept bs) (ap (λ (t : Bool). t && begins kept bs) (turned (ℕ_discrete a b)))
  where
    turned : Dec (a ≡ b) → eqb b a ≡ eqb a b
    turned (yes e) = rw e
    turned (no e) = rw (ne_eqb a b e, ne_eqb b a (λ d. e (sym d)))

module _ (z : Store) (sample : ℕ) (kept : List ℕ) where
  length_none : still_true z sample kept ≡ false → served_length z sample kept ≡ 0
  unfolding served_length
  length_none f = rw f

  length_page : still_true z sample kept ≡ true → served_length z sample kept ≡ length (page_now z sample)
  unfolding served_length
  length_page f = rw f

  pub length_refused : has_page z sample ≡ false → ServesLength z sample kept 0
  length_refused none = sym (length_none (rw (still_true_is z sample kept, none)))

  module _ (here : has_page z sample ≡ true) {n : ℕ} {scratch : List ℕ} (h : Holds (page_now z sample) n scratch) where
    told : begins kept (take n scratch) ≡ still_true z sample kept
    told = rw (still_true_is z sample kept, here, ← h.begin)

    pub length_stale : starts_with eqb kept (take n scratch) ≡ false → ServesLength z sample kept 0
    length_stale f = sym (length_none (sym told ∙ sym (begins_is kept (take n scratch)) ∙ f))

    pub length-fresh : starts_with eqb kept (take n scratch) ≡ true → ServesLength z sample kept n
    length-fresh t = h.long ∙ sym (length_page (sym told ∙ sym (begins_is kept (take n scratch)) ∙ t))

-- ---- serve

-- Bytes that begin with a page are at least as long.
pub begins_long : (kept page : List ℕ) → begins kept page ≡ true → length page ≤ length kept
begins_long kept page t = let w = begins_rest kept page t in omega (arith, ap length w.1, length-append page w.0)

module _ (z : Store) (sample : ℕ) (kept notice : Bor (List ℕ)) {n : ℕ} (told : ServesLength z sample kept.now n) where
  none_stale : n ≡ 0 → still_true z sample kept.now ≡ false
  none_stale e =
      ⊎_elim
      (λ (f : still_true z sample kept.now ≡ true). absurd (omega (arith, e, told, length_page z sample kept.now f, page_some (plan_of z) (state_of z) sample)))
      (λ (f : still_true z sample kept.now ≡ false). f) (bool? (still_true z sample kept.now))

  some_true : 0 < n → still_true z sample kept.now ≡ true
  some_true g =
      ⊎_elim (λ (f : still_true z sample kept.now ≡ true). f)
      (λ (f : still_true z sample kept.now ≡ false). absurd (omega (arith, g, told, length_none z sample kept.now f)))
      (bool? (still_true z sample kept.now))

  pub serve_notice : n ≡ 0 → Serves z sample kept notice notice
  serve_notice none =
      let e = serves_notice z sample kept notice (none_stale none) in
      (sym (ap (λ (h : Handed). h.0) e), sym (ap (λ (h : Handed). h.1) e))

  pub serve_fits : 0 < n → n ≤ length kept.now
  serve_fits g =
      let f = some_true g in
      let b = and_right (good_store z && leb sample last_sample) (begins kept.now (page_now z sample)) (sym (still_true_is z sample kept.now) ∙ f) in
      omega (arith, told, length_page z sample kept.now f, begins_long kept.now (page_now z sample) b)

  pub serve_kept : 0 < n → (kept.ref_ptr ≡ (served z sample kept notice).0) × (take n kept.now ≡ (served z sample kept notice).1)
  unfolding served
  serve_kept g = let f = some_true g in (rw f, rw (f, ← length_page z sample kept.now f, ← told))
