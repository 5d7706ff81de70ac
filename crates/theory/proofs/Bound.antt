-- Demand 3: how often the copies of a line are carried. A carry takes one off what the line's copies are worth, and an entry adds at most
-- the edges of the path.
use mathlib.Core.Path.{◌≡◌, refl, ap, ◌∙◌, subst}
use mathlib.Core.Bool.{Bool, true, false, cond}
use mathlib.Core.List.{List, [], ◌∷◌, ◌++◌, flatten}
use mathlib.Core.Option.{Option, none, some}
use Prim.Native.Nat.{ℕ, zero, suc, ◌+◌, ◌-◌, ◌*◌, ◌<◌, ◌≤◌}
use native.Mathlib.Omega.{arith}
use native.Mathlib.Nat.{add-zero, zero-add, suc-add, mul-zero, mul-one, mul-add, le_trans, mul-le-mul_left}
use lib.Dec.{eqb}
use lib.ListN.{length, get_or, drop}
use Rattle.plan.specs.Plan.{Hop}
use Rattle.std.specs.Prelude.{Some}
use Rattle.plan.specs.Plan.{Plan, next, path, edges_on, IsPath, Reach}
use Rattle.plan.specs.Plan.IsPath.{last, more}
use Rattle.plan.specs.Plan.Reach.{here, there}
use Rattle.plan.specs.PlanRules.{PlanRules}
use Rattle.plan.proofs.NextLaws.{not_both_hops, one_target, next_down, root_in_plan}
use Rattle.plan.proofs.PathLaws.{path_is}
use Rattle.store.specs.declared.Copy.{Copy}
use Rattle.store.specs.Copies.{key_of, find, is_some}
use Rattle.store.specs.State.{State, node_at, line, fresh}
use Rattle.store.specs.StateRules.{StateRules}
use Rattle.store.proofs.Lifting.{fresh_rules}
use Rattle.steps.specs.Carries.{bit}
use Rattle.steps.proofs.LineSteps.{Line, Entered, Carried, LineStep}
use Rattle.steps.proofs.LineSteps.LineStep.{same, enters, carries}
use Rattle.theory.specs.Events.{Event, after, state_after_all, entry_of, option_list, entered_copies, of_line, held, copies_of, held_of, entries, carries_line, carried, worth_on, worth}
use Rattle.theory.proofs.EventSteps.{event_keeps, event_line}
use Rattle.theory.proofs.Invariants.{line_led_to, held-fresh}

-- Lines with the same copies are worth the same.
worth_same : (l l' : Line) → ((m : ℕ) → l' m ≡ l m) → (ns : List ℕ) → worth_on l' ns ≡ worth_on l ns
unfolding worth_on
worth_same l l' h [] = refl
worth_same l l' h (n ∷ ns) = rw (h n, worth_same l l' h ns)

module _ (hop : ℕ → Hop) (down : (n t : ℕ) → hop n ≡ Some t → n < t) where
  reach_not_up : {n m : ℕ} → Reach hop n m → n ≤ m
  reach_not_up here = omega arith
  reach_not_up (there {n = n} {t = t} e r) = omega (arith, down n t e, reach_not_up r)

  -- So are lines with the same copies from a node on, on a path from there.
  worth_from : (l l' : Line) (b : ℕ) → ((m : ℕ) → b ≤ m → l' m ≡ l m) → {n : ℕ} {ns : List ℕ} → IsPath hop n ns → b ≤ n
      → worth_on l' ns ≡ worth_on l ns
  unfolding worth_on
  worth_from l l' b h (last {n = n} e) g = rw (h n g)
  worth_from l l' b h (more {n = n} {t = t} e q) g = rw (h n g, worth_from l l' b h q (omega (arith, down n t e)))

  -- The copy carried to a node is worth the edges below it,
  worth_target : {n t : ℕ} {x : Copy} {l l' : Line} → Carried hop n t x l l' → {ns : List ℕ} → IsPath hop t ns
      → suc (worth_on l' ns) ≤ length ns + worth_on l ns
  unfolding worth_on
  worth_target c (last e) = rw c.got (omega arith)
  worth_target {n} {t} {x} {l} {l'} c (more {t = u} {ns = ns} e q) =
      rw (
        c.got,
        worth_from l l' (suc t)
            (λ m h. c.other m (λ (z : m ≡ n). omega (arith, down n t c.via)) (λ (z : m ≡ t). omega arith))
            q
            (down t u e),
      )
      (omega arith)

  -- one less than at the node before it.
  worth-carried : {n t : ℕ} {x : Copy} {l l' : Line} → Carried hop n t x l l' → {m : ℕ} {ns : List ℕ} → Reach hop m n → IsPath hop m ns
      → suc (worth_on l' ns) ≤ worth_on l ns
  unfolding worth_on
  worth-carried c here (last e) = absurd (not_both_hops e c.via)
  worth-carried c here (more {ns = ns} e q) =
      rw (c.had, c.gone)
      (omega (arith, worth_target c (subst (λ (z : ℕ). IsPath hop z ns) (one_target e c.via) q)))
  worth-carried c (there f r) (last e) = absurd (not_both_hops e f)
  worth-carried {n} {t} c (there {n = m} {t = u} f r) (more {ns = ns} e q) =
      let a : m < u = down m u f in
      let b : u ≤ n = reach_not_up r in
      let d : n < t = down n t c.via in
      rw (c.other m (λ (z : m ≡ n). omega arith) (λ (z : m ≡ t). omega arith))
      (omega (arith, worth-carried c (subst (λ (z : ℕ). Reach hop z n) (one_target f e) r) q))

  -- An entry adds at most the edges of the path.
  worth-entered : {x : Copy} {l l' : Line} → Entered x l l' → {ns : List ℕ} → IsPath hop 0 ns → worth_on l' ns ≤ worth_on l ns + (length ns - 1)
  unfolding worth_on
  worth-entered c (last e) = rw c.got (omega arith)
  worth-entered {x} {l} {l'} c (more {t = t} {ns = ns} e q) =
      rw (c.got, worth_from l l' 1 (λ m h. c.other m (λ (z : m ≡ 0). omega arith)) q (down 0 t e)) (omega arith)

  -- Each carry of the line is paid from what its copies are worth.
  pays : {clock clock' moves entries : ℕ} {l l' : Line} → ((n : ℕ) (x : Copy) → l n ≡ some x → Reach hop 0 n)
      → LineStep hop clock clock' l l' moves entries → {ns : List ℕ} → IsPath hop 0 ns
      → moves + worth_on l' ns ≤ worth_on l ns + (length ns - 1) * entries
  pays {l = l} {l' = l'} led (same a b h e) {ns} q = rw (a, b, worth_same l l' e ns, mul-zero) (omega arith)
  pays led (enters a b x t h c) q = rw (a, b, mul-one) (omega (arith, worth-entered c q))
  pays led (carries a b n t x h c) q = rw (a, b, mul-zero) (omega (arith, worth-carried c (led n x c.had) q))

-- The copies on a path are among those held.
copies_on : Line → List ℕ → ℕ
copies_on l [] = 0
copies_on l (n ∷ ns) = bit (is_some (l n)) + copies_on l ns

worth_least : (b : Bool) (n m : ℕ) → n ≤ m → cond b n 0 ≤ m * bit b
worth_least true n m h = rw mul-one h
worth_least false n m h = rw mul-zero (omega arith)

worth_copies : (l : Line) (ns : List ℕ) (d : ℕ) → length ns ≤ suc d → worth_on l ns ≤ d * copies_on l ns
unfolding worth_on copies_on
worth_copies l [] d h = omega arith
worth_copies l (n ∷ ns) d h =
    rw (mul-add d (bit (is_some (l n))) (copies_on l ns))
    (omega (arith, worth_least (is_some (l n)) (length ns) d (omega arith), worth_copies l ns d (omega arith)))

found_counts : (xs : List Copy) (k : ℕ) → bit (is_some (find key_of xs k)) ≤ copies_of k xs
unfolding find copies_of
found_counts [] k = omega arith
found_counts (x ∷ xs) k = go (eqb x.key k) (found_counts xs k)
  where
    go : (b : Bool) → bit (is_some (find key_of xs k)) ≤ copies_of k xs
        → bit (is_some (cond b (some x) (find key_of xs k))) ≤ bit b + copies_of k xs
    go true h = omega arith
    go false h = omega arith

pub copies_append : (k : ℕ) (xs ys : List Copy) → copies_of k (xs ++ ys) ≡ copies_of k xs + copies_of k ys
unfolding copies_of
copies_append k [] ys = omega arith
copies_append k (x ∷ xs) ys = omega (arith, copies_append k xs ys)

-- The entries of a line are its copies among those entered.
copies_option : (k : ℕ) (o : Option Copy) → copies_of k (option_list o) ≡ bit (of_line k o)
unfolding copies_of
copies_option k none = refl
copies_option k (some x) = add-zero (bit (eqb x.key k))

pub copies_with : (k : ℕ) (xs : List Copy) (o : Option Copy) → copies_of k (xs ++ option_list o) ≡ copies_of k xs + bit (of_line k o)
copies_with k xs o = copies_append k xs (option_list o) ∙ ap (λ (n : ℕ). copies_of k xs + n) (copies_option k o)

pub copies_entered : (p : Plan) (k : ℕ) (es : List Event) (s : State) → copies_of k (entered_copies p es s) ≡ entries p k es s
unfolding entered_copies entries copies_of
copies_entered p k [] s = refl
copies_entered p k (e ∷ es) s =
    omega (
      arith,
      copies_append k (option_list (entry_of p e s)) (entered_copies p es (after p e s)),
      copies_option k (entry_of p e s),
      copies_entered p k es (after p e s),
    )

-- The copies held from a node on are that node's and those from the next on.
copies_from : (k : ℕ) (xss : List (List Copy)) (n : ℕ)
    → copies_of k (flatten (drop n xss)) ≡ copies_of k (get_or xss n []) + copies_of k (flatten (drop (suc n) xss))
unfolding flatten copies_of
copies_from k [] zero = refl
copies_from k [] (suc n) = refl
copies_from k (xs ∷ xss) zero = copies_append k xs (flatten xss)
copies_from k (xs ∷ xss) (suc n) = copies_from k xss n

copies_later : (k : ℕ) (xss : List (List Copy)) (n d : ℕ) → copies_of k (flatten (drop (d + n) xss)) ≤ copies_of k (flatten (drop n xss))
copies_later k xss n zero = rw zero-add (omega arith)
copies_later k xss n (suc d) = rw suc-add (omega (arith, copies_from k xss (d + n), copies_later k xss n d))

copies_on_path : (hop : ℕ → Hop) → ((n t : ℕ) → hop n ≡ Some t → n < t) → (s : State) (k : ℕ) {n : ℕ} {ns : List ℕ} → IsPath hop n ns
    → copies_on (line s k) ns ≤ copies_of k (flatten (drop n s.nodes))
unfolding copies_on
copies_on_path hop down s k (last {n = n} e) =
    omega (arith, found_counts (node_at s n) k, copies_from k s.nodes n)
copies_on_path hop down s k (more {n = n} {t = t} e q) =
    let d : t - suc n + suc n ≡ t = omega (arith, down n t e) in
    let later : copies_of k (flatten (drop t s.nodes)) ≤ copies_of k (flatten (drop (suc n) s.nodes)) =
    rw d at (copies_later k s.nodes (suc n) (t - suc n)) in
    omega (arith, found_counts (node_at s n) k, copies_from k s.nodes n, copies_on_path hop down s k q)

module _ (p : Plan) (rules : PlanRules p) (k : ℕ) where
  down : (n t : ℕ) → next p n k ≡ Some t → n < t
  down n t e = (next_down p rules n k t e).0

  is_path : IsPath (λ n. next p n k) 0 (path p k)
  is_path = path_is p rules k 0 (root_in_plan p rules)

  -- What a line's copies are worth is at most the edges of the path, for each copy held.
  pub worth-held : (s : State) → worth p k s ≤ edges_on p k * held_of k s
  unfolding held
  worth-held s =
      let within : length (path p k) ≤ suc (edges_on p k) = omega arith in
      let few : copies_on (line s k) (path p k) ≤ held_of k s = copies_on_path (λ n. next p n k) down s k is_path in
      le_trans (worth_copies (line s k) (path p k) (edges_on p k) within) (mul-le-mul_left (edges_on p k) few)

  -- The carries of a line, and what its copies are worth after them, are paid by what they were worth before and by the entries:
  -- through an event,
  pub event_pays : (e : Event) (s : State) → StateRules p s
      → bit (carries_line p k e s) + worth p k (after p e s) ≤ worth p k s + edges_on p k * bit (of_line k (entry_of p e s))
  event_pays e s good = pays (λ n. next p n k) down (line_led_to p rules s good k) (event_line p rules s good e k) is_path

  -- and through a sequence.
  pub account : (es : List Event) (s : State) → StateRules p s
      → carried p k es s + worth p k (state_after_all p es s) ≤ worth p k s + edges_on p k * entries p k es s
  unfolding carried entries state_after_all
  account [] s good = rw mul-zero (omega arith)
  account (e ∷ es) s good =
      omega (
        arith,
        mul-add (edges_on p k) (bit (of_line k (entry_of p e s))) (entries p k es (after p e s)),
        event_pays e s good,
        account es (after p e s) (event_keeps p rules e s good),
      )

  -- Demand 3, from any state: carried ≤ edges on the path × entries, each copy of the line that is held at the start counting as one.
  pub bound : (es : List Event) (s : State) → StateRules p s → carried p k es s ≤ edges_on p k * (held_of k s + entries p k es s)
  bound es s good = rw mul-add (omega (arith, account es s good, worth-held s))

  -- From a fresh state: carried ≤ edges on the path × accepted entries.
  pub bound_fresh : (es : List Event) → carried p k es (fresh p) ≤ edges_on p k * entries p k es (fresh p)
  unfolding copies_of
  bound_fresh es = rw (held-fresh p, zero-add) at (bound es (fresh p) (fresh_rules p))
