-- The ways that loading can go, and the numbers that it answers.
use mathlib.Core.Path.{◌≡◌, refl, sym, ap, ◌∙◌}
use mathlib.Core.Bool.{Bool, true, false, cond}
use mathlib.Core.List.{List, [], ◌∷◌}
use Prim.Native.Nat.{ℕ, zero, suc, ◌<◌, ◌≤◌}
use native.Mathlib.Decide.{dec_lt}
use native.Mathlib.Omega.{arith}
use lib.Dec.{ltb, eqb}
use lib.ListN.{length}
use Rattle.lists.proofs.Truths.{bool?, not_both}
use Rattle.std.proofs.lemmas.Bool.{or_right}
use mathlib.Core.Logic.{◌⊎◌, inl, inr}
use Rattle.number.specs.Number.{narrow}
use Rattle.plan.specs.Plan.{Plan}
use Rattle.plan_table.specs.PlanTable.{plan_numbered}
use Rattle.store.specs.declared.Outcome.{Outcome}
use Rattle.store.specs.declared.Store.{Store}
use Rattle.store.specs.Answers.{DONE, PLAN, CUT, NUMBER, FORMAT, RULE, TRAIL}
use Rattle.store.specs.Copies.{member}
use Rattle.store.specs.StoreRules.{plan_number_test, good_store}
use Rattle.wire.specs.Reading.{Got, got, fault, number_at}
use Rattle.wire.proofs.Chains.{Faults, faults_got, faults_fault, faults_bind, faults_cond, faults_number}
use Rattle.copies.proofs.CopyTrips.{copy_faults}
use Rattle.image_writing.specs.Image.{format_number}
use Rattle.image_reading.specs.ImageReading.{read_copies, read_node, read_nodes, nodes_from, clock_from, plan_from, image_at}
use Rattle.image_loading.specs.Loading.{refused_load, load_outcome}
use Rattle.image_loading.proofs.LoadEnds.{accepted_load, finish_stops, finish_trails, finish_breaks, finish_accepts}

-- Loading goes one of these ways.
pub data LoadWay (s : List ℕ) : Type 0 where
  stops : {number at : ℕ} → image_at s ≡ fault number at → load_outcome s ≡ refused_load number at → LoadWay s
  trails : {end : ℕ} → load_outcome s ≡ refused_load TRAIL end → LoadWay s
  breaks : load_outcome s ≡ refused_load RULE (length s) → LoadWay s
  accepts : {z : Store} {end : ℕ} → image_at s ≡ got z end → length s ≤ end → good_store z ≡ true → load_outcome s ≡ accepted_load z → LoadWay s

pub load_way : (s : List ℕ) → LoadWay s
unfolding load_outcome
load_way s = go (image_at s) refl
  where
    ends : (z : Store) (end : ℕ) → image_at s ≡ got z end → Dec (end < length s) → (good_store z ≡ true) ⊎ (good_store z ≡ false) → LoadWay s
    ends z end e (yes h) g = trails (finish_trails s (image_at s) e h)
    ends z end e (no h) (inl g) = accepts e (omega arith) g (finish_accepts s (image_at s) e (omega arith) g)
    ends z end e (no h) (inr g) = breaks (finish_breaks s (image_at s) e (omega arith) g)

    go : (m : Got Store) → image_at s ≡ m → LoadWay s
    go (fault number at) e = stops e (finish_stops s (image_at s) e)
    go (got z end) e = ends z end e (dec_lt end (length s)) (bool? (good_store z))

-- ---- the numbers that loading answers

-- The faults of reading.
abbrev pub IsFault : ℕ → Type 0
IsFault number = member number (CUT ∷ NUMBER ∷ FORMAT ∷ PLAN ∷ RULE ∷ []) ≡ true

module _ (s : List ℕ) where
  number_faults_lem : (at : ℕ) → Faults IsFault (number_at narrow s at)
  unfolding member
  number_faults_lem at = faults_number narrow s at refl refl

  rule_faults : {A : Type 0} (test : Bool) (at : ℕ) (rest : Got A) → Faults IsFault rest → Faults IsFault (cond test rest (fault RULE at))
  unfolding member
  rule_faults test at rest h = faults_cond test rest (fault RULE at) h (faults_fault at refl)

  copies_faults : (n at : ℕ) → Faults IsFault (read_copies s n at)
  unfolding read_copies member
  copies_faults zero at = faults_got [] at
  copies_faults (suc n) at = faults_bind _ _ (copy_faults s at refl refl refl) λ x a. faults_bind _ _ (copies_faults n a) λ xs b. faults_got (x ∷ xs) b

  nodes_faults : (p : Plan) (at : ℕ) → Faults IsFault (read_nodes s p at)
  unfolding read_nodes read_node
  nodes_faults [] at = faults_got [] at
  nodes_faults (n ∷ p) at =
      faults_bind _ _ (faults_bind _ _ (number_faults_lem at) λ count a. rule_faults (ltb count (suc n.capacity)) at _ (copies_faults count a)) λ xs a.
      faults_bind _ _ (nodes_faults p a) λ ns b.
      faults_got (xs ∷ ns) b

  image_faults : Faults IsFault (image_at s)
  unfolding image_at plan_from clock_from nodes_from member
  image_faults =
      faults_bind _ _ (number_faults_lem 0) λ format a.
      faults_cond (eqb format format_number) _ (fault FORMAT 0)
      (faults_bind _ _ (number_faults_lem a) λ plan b.
      faults_cond (plan_number_test plan) _ (fault PLAN a)
      (faults_bind _ _ (number_faults_lem b) λ clock c.
      rule_faults (ltb 0 clock) b _ (faults_bind _ _ (nodes_faults (plan_numbered plan) c) λ ns d. faults_got _ d))
      (faults_fault a refl))
      (faults_fault 0 refl)

-- A fault is not DONE.
not_done : {number : ℕ} → IsFault number → number ≡ DONE → ⊥
unfolding member
not_done {number} h e = let f : IsFault DONE = rw e at h in not_both f refl

-- What an accepted image says.
pub record Accepted (s : List ℕ) : Type 0 where
  pub store : Store
  pub end : ℕ
  pub reads : image_at s ≡ got store end
  pub whole : length s ≤ end
  pub good : good_store store ≡ true
  pub gives : load_outcome s ≡ accepted_load store

pub load_accepted : (s : List ℕ) → (load_outcome s).answer.number ≡ DONE → Accepted s
load_accepted s done = go (load_way s)
  where
    go : LoadWay s → Accepted s
    go (stops {number} {at} e r) =
        absurd (not_done ((image_faults s).each number at e) (sym (ap (λ (o : Outcome). o.answer.number) r) ∙ done))
    go (trails r) = absurd (let z : ◌≡◌ {A = ℕ} TRAIL DONE = sym (ap (λ (o : Outcome). o.answer.number) r) ∙ done in omega arith)
    go (breaks r) = absurd (let z : ◌≡◌ {A = ℕ} RULE DONE = sym (ap (λ (o : Outcome). o.answer.number) r) ∙ done in omega arith)
    go (accepts {z} {end} e h g r) = record { store = z; end = end; reads = e; whole = h; good = g; gives = r }

-- The numbers that loading answers.
pub load_number : (s : List ℕ) → member (load_outcome s).answer.number (DONE ∷ TRAIL ∷ CUT ∷ NUMBER ∷ FORMAT ∷ PLAN ∷ RULE ∷ []) ≡ true
unfolding member
load_number s = go (load_way s)
  where
    go : LoadWay s → member (load_outcome s).answer.number (DONE ∷ TRAIL ∷ CUT ∷ NUMBER ∷ FORMAT ∷ PLAN ∷ RULE ∷ []) ≡ true
    go (stops {number} {at} e r) = rw r (or_right (eqb number DONE) _ (or_right (eqb number TRAIL) _ ((image_faults s).each number at e)))
    go (trails r) = rw r
    go (breaks r) = rw r
    go (accepts e h g r) = rw r
