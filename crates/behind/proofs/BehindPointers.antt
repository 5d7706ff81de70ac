-- What stands behind the pointer after a sequence of calls of the C interface is what the public calls in their places leave: by the promises
-- of crate `export` alone.
use mathlib.Core.Path.{◌≡◌, refl, sym, ap, ◌∙◌}
use mathlib.Core.Bool.{true, false, cond}
use mathlib.Core.Logic.{◌⊎◌, inl, inr}
use mathlib.Core.List.{List, [], ◌∷◌, map}
use Prim.Native.Nat.{ℕ}
use native.Mathlib.Omega.{arith}
use Rattle.lists.proofs.Truths.{bool?, not_both, le_both}
use Rattle.plan_table.specs.PlanTable.{plans}
use Rattle.plan_table.proofs.TableLaws.{first_plan}
use Rattle.store.specs.declared.Answer.{Answer}
use Rattle.store.specs.declared.Outcome.{Outcome}
use Rattle.store.specs.declared.Store.{Store}
use Rattle.store.specs.Layout.{fresh_store}
use Rattle.store.specs.StoreRules.{plan_number_test}
use Rattle.store.specs.Promises.{fresh_outcome}
use Rattle.image_loading.specs.Loading.{load_outcome}
use Rattle.image_loading.proofs.LoadWays.{LoadWay, stops, trails, breaks, accepts, load_way}
use Rattle.schedule.specs.Schedule.{step_record}
use Rattle.schedule.specs.Running.{record_outcome, run_outcome}
use Rattle.export.specs.Promises.{Gives}
use Rattle.calls.specs.PublicCalls.{Call, accepted, replaced, store_after, returned, store_after_all}
use Rattle.calls.specs.PublicCalls.Call.{fresh, load}
use Rattle.calls.specs.PublicCalls.Returned.{gave, answered, wrote, counted}
use Rattle.calls.proofs.Allowing.{both}
use Rattle.behind.specs.Behind.{CallBehind, ByASpare, MeetsPromise, AllMeet, or_fresh, public_call, ReturnsAs}
use Rattle.behind.specs.Behind.CallBehind.{freshens, freshens_live, steps, checks, looks, saves, loads, loads_live, pages, serves}

-- A refused fresh or load gives a fresh store of plan 1,
fresh-refused : (plan : ℕ) → accepted (fresh_outcome plan).answer ≡ false → (fresh_outcome plan).store ≡ fresh_store 1
unfolding fresh_outcome
fresh-refused plan = go (bool? (plan_number_test plan))
  where
    go : (plan_number_test plan ≡ true) ⊎ (plan_number_test plan ≡ false) → accepted (fresh_outcome plan).answer ≡ false
        → (fresh_outcome plan).store ≡ fresh_store 1
    go (inl t) e = absurd (not_both (rw t) e)
    go (inr t) e = rw t

load_refused : (bytes : List ℕ) → accepted (load_outcome bytes).answer ≡ false → (load_outcome bytes).store ≡ fresh_store 1
load_refused bytes = go (load_way bytes)
  where
    go : LoadWay bytes → accepted (load_outcome bytes).answer ≡ false → (load_outcome bytes).store ≡ fresh_store 1
    go (stops e r) t = ap (λ (o : Outcome). o.store) r
    go (trails r) t = ap (λ (o : Outcome). o.store) r
    go (breaks r) t = ap (λ (o : Outcome). o.store) r
    go (accepts e h g r) t = absurd (not_both (ap (λ (o : Outcome). accepted o.answer) r) t)

-- which is what `fresh 1` leaves.
fresh_one : (z : Store) → store_after (fresh 1) z ≡ fresh_store 1
unfolding store_after fresh_outcome plan_number_test
fresh_one z = rw (le_both 1 1 1 plans (omega arith) (omega (arith, first_plan)))

-- An outcome in two parts, of a call that gives it and is refused with a fresh store of plan 1.
taken_or_fresh : (o : Outcome) (c : Call) → ((z : Store) → store_after c z ≡ replaced o z)
    → (accepted o.answer ≡ false → o.store ≡ fresh_store 1) → (r : Answer) (z leaves : Store) → Gives o r leaves
    → leaves ≡ store_after (or_fresh r c) z
taken_or_fresh o c gives refused r z leaves given = go (bool? (accepted r))
  where
    same : accepted r ≡ accepted o.answer
    same = ap accepted given.0

    go : (accepted r ≡ true) ⊎ (accepted r ≡ false) → leaves ≡ store_after (or_fresh r c) z
    go (inl t) = rw t (given.1 ∙ sym (gives z ∙ rw (sym same ∙ t)))
    go (inr f) = rw f (given.1 ∙ refused (sym same ∙ f) ∙ sym (fresh_one z))

-- Such an outcome is put together again.
parts : (o : Outcome) (r : Answer) (leaves : Store) → Gives o r leaves → gave (record { answer = r; store = leaves }) ≡ gave o
parts o r leaves given =
    ap (λ (a : Answer). gave (record { answer = a; store = leaves })) given.0
    ∙ ap (λ (y : Store). gave (record { answer = o.answer; store = y })) given.1

-- By a spare store the live one is replaced as "the store before it goes on" says.
by_a_spare : (o : Outcome) (r : Answer) (z leaves : Store) → ByASpare (Gives o) r z leaves → leaves ≡ replaced o z
by_a_spare o r z leaves does =
    does.2 ∙ ap (λ (a : Answer). cond (accepted a) does.0 z) does.1.0
    ∙ ap (λ (s : Store). cond (accepted o.answer) s z) does.1.1

-- After every call the store behind the pointer is what the call in its place leaves,
pub call_behind : (c : CallBehind) (z leaves : Store) → MeetsPromise c z leaves → leaves ≡ store_after (public_call c) z
unfolding public_call store_after run_outcome
call_behind (freshens plan r) z leaves does =
    taken_or_fresh (fresh_outcome plan) (fresh plan) (λ y. refl) (fresh-refused plan) r z leaves does
call_behind (loads bytes r) z leaves does =
    taken_or_fresh (load_outcome bytes) (load bytes) (λ y. refl) (load_refused bytes) r z leaves does
call_behind (freshens_live plan r) z leaves does = by_a_spare (fresh_outcome plan) r z leaves does
call_behind (loads_live bytes r) z leaves does = by_a_spare (load_outcome bytes) r z leaves does
call_behind (steps number x y r) z leaves does = does.1
call_behind (checks r) z leaves does = does.1
call_behind (looks k r) z leaves does = does.1
call_behind (saves before r after) z leaves does = does.1
call_behind (pages sample before r after) z leaves does = does.1
call_behind (serves sample kept n) z leaves does = does.1

-- and so after every sequence.
pub calls_behind : (cs : List CallBehind) (z leaves : Store) → AllMeet cs z leaves → leaves ≡ store_after_all (map public_call cs) z
unfolding store_after_all
calls_behind [] z leaves all = all
calls_behind (c ∷ cs) z leaves all =
    calls_behind cs all.0 leaves all.2 ∙ ap (store_after_all (map public_call cs)) (call_behind c z all.0 all.1)

-- What each call gives is what the public call itself returns on the store that it found, refused or not.
pub call_returns : (c : CallBehind) (z leaves : Store) → MeetsPromise c z leaves → ReturnsAs c z leaves
unfolding returned run_outcome
call_returns (freshens plan r) z leaves does = parts (fresh_outcome plan) r leaves does
call_returns (freshens_live plan r) z leaves does = (does.0, parts (fresh_outcome plan) r does.0 does.1)
call_returns (loads bytes r) z leaves does = parts (load_outcome bytes) r leaves does
call_returns (loads_live bytes r) z leaves does = (does.0, parts (load_outcome bytes) r does.0 does.1)
call_returns (steps number x y r) z leaves does = parts (record_outcome z (step_record number x y) 0) r leaves does
call_returns (checks r) z leaves does = ap answered does.0
call_returns (looks k r) z leaves does = ap answered does.0
call_returns (saves before r after) z leaves does = ap wrote (both does.0)
call_returns (pages sample before r after) z leaves does = ap wrote (both does.0)
call_returns (serves sample kept n) z leaves does = ap counted does.0
