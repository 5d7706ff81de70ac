-- Load: for each number from the left CUT, NUMBER, then its own check; at the end TRAIL, then RULE.
use mathlib.Core.Path.{◌≡◌, refl, sym, ap, subst, ◌∙◌}
use mathlib.Core.Bool.{true, false, cond}
use mathlib.Core.List.{List, [], ◌∷◌}
use mathlib.Core.Logic.{◌≢◌, ◌↔◌, ◌⊎◌, inl, inr, ⊎_elim}
use Prim.Native.Nat.{ℕ, zero, suc, ◌<◌, ◌≤◌}
use native.Mathlib.Decide.{dec_lt}
use native.Mathlib.Omega.{arith}
use lib.ListN.{length}
use borrow.Author.Tests.{eqb-true, eqb-false, ne_eqb, ltb-false, le-ltb}
use Rattle.lists.proofs.Truths.{bool?, not_both}
use Rattle.number.specs.Number.{narrow, EndsEarly, EndsInZero, EndsAbove}
use Rattle.plan.specs.Plan.{Plan}
use Rattle.plan_table.specs.PlanTable.{plan_numbered}
use Rattle.store.specs.declared.Copy.{Copy}
use Rattle.store.specs.declared.Outcome.{Outcome}
use Rattle.store.specs.declared.Store.{Store}
use Rattle.store.specs.Answers.{DONE, PLAN, CUT, NUMBER, FORMAT, RULE, TRAIL}
use Rattle.store.specs.Copies.{has_value, copy, member}
use Rattle.store.specs.StoreRules.{good_store}
use Rattle.wire.specs.Reading.{Got, got, fault, bind, number_at}
use Rattle.wire.proofs.Chains.{got_or_fault, bind_got, bind_fault, check_holds, check_fails}
use Rattle.image_writing.specs.Image.{format_number}
use Rattle.copies.specs.CopyBytes.{read_value, read_copy}
use Rattle.image_reading.specs.ImageReading.{read_copies, read_node, read_nodes, nodes_from, clock_from, plan_from, image_at}
use Rattle.image_loading.specs.Loading.{refused_load, load_outcome}
use Rattle.image_loading.proofs.LoadEnds.{accepted_load, finish_stops, finish_trails, finish_breaks, finish_accepts}
use Rattle.image_loading.proofs.LoadWays.{load_number as load-among}
use Rattle.refusals.specs.Given.{Among}
use Rattle.refusals.specs.Images.{Own, the_format, the_plan, the_clock, the_count, the_kind, nothing, passes, refusal, Passes, Breaks, Fails, InCopy, its_key, its_kind, its_value, its_stamp, InCopies, InNode, its_count, its_copies, InNodes, InImage, its_format, its_plan, its_clock, its_nodes, StopsAt, BadFormat, BadPlan, RuleAt, clock_0, count_above, kind_above, Trails, BreaksWhole, LoadStop, at_number, trailing, breaking}
use Rattle.refusals.proofs.OnStores.{not_given}
use Rattle.refusals.proofs.Fresh.{plan_test_fails}
use Rattle.refusals.proofs.Reading.{After, first_fault, same_fault, number_faults_lem, number_fault_at, number_inside, number_cut, number_malformed}

-- One number with its check, and the rest after it.
module _ {A : Type 0} (s : List ℕ) (own : Own) (start : ℕ) (rest : ℕ → ℕ → Got A) where
  abbrev staged : Got A
  staged = bind (number_at narrow s start) λ v a. cond (passes own v) (rest v a) (fault (refusal own) start)

  -- It fails here, or later.
  data Staged (number at : ℕ) : Type 0 where
    here : start ≡ at → Fails s own at number → Staged number at
    later : {v next : ℕ} → Passes s own start v next → rest v next ≡ fault number at → Staged number at

  stage : {number at : ℕ} → staged ≡ fault number at → Staged number at
  stage {number} {at} e = ⊎_elim unread then ((first_fault (number_at narrow s start) _).0 e)
    where
      unread : number_at narrow s start ≡ fault number at → Staged number at
      unread q = let h = number_fault_at s start q in here h (inl (ap (number_at narrow s) (sym h) ∙ q))

      go : (v a : ℕ) → number_at narrow s start ≡ got v a → (passes own v ≡ true) ⊎ (passes own v ≡ false)
          → cond (passes own v) (rest v a) (fault (refusal own) start) ≡ fault number at → Staged number at
      go v a r (inl t) q = later (record { read = r; passed = t }) (sym (check_holds (passes own v) (refusal own) start (rest v a) t) ∙ q)
      go v a r (inr f) q =
          let w = same_fault (sym (check_fails (passes own v) (refusal own) start (rest v a) f) ∙ q) in
          here w.1 (inr (record { value = v; next = a; read = ap (number_at narrow s) (sym w.1) ∙ r; broken = f; is = w.0 }))

      then : After (number_at narrow s start) (λ v a. cond (passes own v) (rest v a) (fault (refusal own) start)) number at → Staged number at
      then h = go h.value h.next h.first (bool? (passes own h.value)) h.then

  stage_here : {number : ℕ} → Fails s own start number → staged ≡ fault number start
  stage_here {number} (inl e) = bind_fault _ _ e
  stage_here {number} (inr b) =
      bind_got _ _ b.read ∙ check_fails (passes own b.value) (refusal own) start _ b.broken ∙ ap (λ (n : ℕ). fault n start) b.is

  stage_later : {v next : ℕ} → Passes s own start v next → staged ≡ rest v next
  stage_later {v} p = bind_got _ _ p.read ∙ check_holds (passes own v) (refusal own) start _ p.passed

-- ---- a copy

module _ (s : List ℕ) where
  stamp_rest : ℕ → ℕ → ℕ → ℕ → Got Copy
  stamp_rest key kind value c = bind (number_at narrow s c) λ stamp d. got (copy key kind value stamp) d

  value_rest : ℕ → ℕ → ℕ → Got Copy
  value_rest key kind b = bind (read_value s kind b) λ value c. stamp_rest key kind value c

  kind_rest : ℕ → ℕ → Got Copy
  kind_rest key a = bind (number_at narrow s a) λ kind b. cond (passes the_kind kind) (value_rest key kind b) (fault RULE a)

  copy_stops : {start number at : ℕ} → read_copy s start ≡ fault number at → StopsAt s (InCopy s start) number at
  unfolding read_copy read_value stamp_rest value_rest kind_rest
  copy_stops {start} {number} {at} e = in_key (stage s nothing start kind_rest e)
    where
      Stop : Type 0
      Stop = StopsAt s (InCopy s start) number at

      in_stamp : {key a kind b value c : ℕ} → number_at narrow s start ≡ got key a → Passes s the_kind a kind b → read_value s kind b ≡ got value c
          → Staged s nothing c (λ stamp d. got (copy key kind value stamp) d) number at → Stop
      in_stamp r p v (here h f) = record { own = nothing; place = subst (InCopy s start nothing) h (its_stamp r p v); fails = f }
      in_stamp r p v (later q g) = absurd (got_or_fault refl g)

      in_value : {key a kind b : ℕ} → number_at narrow s start ≡ got key a → Passes s the_kind a kind b → (has_value kind ≡ true) ⊎ (has_value kind ≡ false)
          → (read_value s kind b ≡ fault number at) ⊎ After (read_value s kind b) (stamp_rest key kind) number at → Stop
      in_value {kind = kind} {b} r p (inl t) (inl g) =
          let q : number_at narrow s b ≡ fault number at = rw t at g in
          let h = number_fault_at s b q in
          record {
            own = nothing;
            place = subst (InCopy s start nothing) h (its_value r p t);
            fails = inl (ap (number_at narrow s) (sym h) ∙ q);
          }
      in_value {b = b} r p (inr f) (inl g) = absurd (got_or_fault {A = ℕ} refl (rw f at g))
      in_value {key} {kind = kind} r p w (inr h) = in_stamp r p h.first (stage s nothing h.next (λ stamp d. got (copy key kind h.value stamp) d) h.then)

      in_kind : {key a : ℕ} → number_at narrow s start ≡ got key a → Staged s the_kind a (value_rest key) number at → Stop
      in_kind r (here h f) = record { own = the_kind; place = subst (InCopy s start the_kind) h (its_kind r); fails = f }
      in_kind {key} r (later {v = kind} {next = b} p g) = in_value r p (bool? (has_value kind)) ((first_fault (read_value s kind b) (stamp_rest key kind)).0 g)

      in_key : Staged s nothing start kind_rest number at → Stop
      in_key (here h f) = record { own = nothing; place = subst (InCopy s start nothing) h its_key; fails = f }
      in_key (later {v = key} {next = a} p g) = in_kind p.read (stage s the_kind a (value_rest key) g)

  copy_fails : {start number at : ℕ} {own : Own} → InCopy s start own at → Fails s own at number → read_copy s start ≡ fault number at
  unfolding read_copy read_value stamp_rest value_rest kind_rest
  copy_fails {start} its_key f = stage_here s nothing start kind_rest f
  copy_fails {start} {at = at} (its_kind {key} r) f =
      stage_later s nothing start kind_rest (record { read = r; passed = refl }) ∙ stage_here s the_kind at (value_rest key) f
  copy_fails {start} {number} {at} (its_value {key} {a} {kind} r p t) f =
      let reads : value_rest key kind at ≡ fault number at = rw t (stage_here s nothing at (stamp_rest key kind) f) in
      stage_later s nothing start kind_rest (record { read = r; passed = refl }) ∙ stage_later s the_kind a (value_rest key) p ∙ reads
  copy_fails {start} {at = at} (its_stamp {key} {a} {kind} {b} {value} r p v) f =
      stage_later s nothing start kind_rest (record { read = r; passed = refl }) ∙ stage_later s the_kind a (value_rest key) p ∙ bind_got _ _ v
      ∙ stage_here s nothing at (λ stamp d. got (copy key kind value stamp) d) f

-- ---- the copies of a node, and nodes

module _ (s : List ℕ) where
  copies_stop : (n start : ℕ) {number at : ℕ} → read_copies s n start ≡ fault number at → StopsAt s (InCopies s n start) number at
  unfolding read_copies
  copies_stop zero start e = absurd (got_or_fault refl e)
  copies_stop (suc n) start {number} {at} e = go (λ a q. copies_stop n a q) ((first_fault (read_copy s start) _).0 e)
    where
      Again : Type 0
      Again = (a : ℕ) → read_copies s n a ≡ fault number at → StopsAt s (InCopies s n a) number at

      go : Again → (read_copy s start ≡ fault number at) ⊎ After (read_copy s start) (λ x a. bind (read_copies s n a) λ xs b. got (x ∷ xs) b) number at
          → StopsAt s (InCopies s (suc n) start) number at
      go again (inl q) = let h = copy_stops s q in record { own = h.own; place = inl h.place; fails = h.fails }
      go again (inr h) =
          ⊎_elim
          (λ q. let k = again h.next q in record { own = k.own; place = inr (h.value, h.next, h.first, k.place); fails = k.fails })
          (λ k. absurd (got_or_fault refl k.then))
          ((first_fault (read_copies s n h.next) _).0 h.then)

  copies_fail : (n start : ℕ) {number at : ℕ} {own : Own} → InCopies s n start own at → Fails s own at number → read_copies s n start ≡ fault number at
  unfolding read_copies
  copies_fail zero start h f = absurd h
  copies_fail (suc n) start (inl h) f = bind_fault _ _ (copy_fails s h f)
  copies_fail (suc n) start (inr (x, a, g, h)) f = bind_got _ _ g ∙ bind_fault _ _ (copies_fail n a h f)

  node_stops : {capacity start number at : ℕ} → read_node s capacity start ≡ fault number at → StopsAt s (InNode s capacity start) number at
  unfolding read_node
  node_stops {capacity} {start} {number} {at} e = go (stage s (the_count capacity) start (read_copies s) e)
    where
      go : Staged s (the_count capacity) start (read_copies s) number at → StopsAt s (InNode s capacity start) number at
      go (here h f) = record { own = the_count capacity; place = subst (InNode s capacity start (the_count capacity)) h its_count; fails = f }
      go (later {v = count} {next = a} p g) =
          let k = copies_stop count a g in record { own = k.own; place = its_copies p k.place; fails = k.fails }

  node_fails : {capacity start number at : ℕ} {own : Own} → InNode s capacity start own at → Fails s own at number → read_node s capacity start ≡ fault number at
  unfolding read_node
  node_fails {capacity} {start} its_count f = stage_here s (the_count capacity) start (read_copies s) f
  node_fails {capacity} {start} (its_copies {count} {a} p h) f = stage_later s (the_count capacity) start (read_copies s) p ∙ copies_fail count a h f

  nodes_stop : (p : Plan) (start : ℕ) {number at : ℕ} → read_nodes s p start ≡ fault number at → StopsAt s (InNodes s p start) number at
  unfolding read_nodes
  nodes_stop [] start e = absurd (got_or_fault refl e)
  nodes_stop (n ∷ p) start {number} {at} e = go (λ a q. nodes_stop p a q) ((first_fault (read_node s n.capacity start) _).0 e)
    where
      Again : Type 0
      Again = (a : ℕ) → read_nodes s p a ≡ fault number at → StopsAt s (InNodes s p a) number at

      go : Again
          → (read_node s n.capacity start ≡ fault number at)
          ⊎ After (read_node s n.capacity start) (λ xs a. bind (read_nodes s p a) λ xss b. got (xs ∷ xss) b) number at
          → StopsAt s (InNodes s (n ∷ p) start) number at
      go again (inl q) = let h = node_stops q in record { own = h.own; place = inl h.place; fails = h.fails }
      go again (inr h) =
          ⊎_elim
          (λ q. let k = again h.next q in record { own = k.own; place = inr (h.value, h.next, h.first, k.place); fails = k.fails })
          (λ k. absurd (got_or_fault refl k.then))
          ((first_fault (read_nodes s p h.next) _).0 h.then)

  nodes_fail : (p : Plan) (start : ℕ) {number at : ℕ} {own : Own} → InNodes s p start own at → Fails s own at number → read_nodes s p start ≡ fault number at
  unfolding read_nodes
  nodes_fail [] start h f = absurd h
  nodes_fail (n ∷ p) start (inl h) f = bind_fault _ _ (node_fails h f)
  nodes_fail (n ∷ p) start (inr (xs, a, g, h)) f = bind_got _ _ g ∙ bind_fault _ _ (nodes_fail p a h f)

-- ---- an image

module _ (s : List ℕ) where
  -- Reading an image stops with a number and an offset exactly if at that offset stands a number of it that fails so.
  pub image_stop : (number at : ℕ) → (image_at s ≡ fault number at) ↔ StopsAt s (InImage s) number at
  unfolding image_at plan_from clock_from nodes_from
  image_stop number at = (λ e. in_format (stage s the_format 0 (λ _. plan_from s) e), λ h. back h.place h.fails)
    where
      Stop : Type 0
      Stop = StopsAt s (InImage s) number at

      in_nodes : {format a plan b clock c : ℕ} → Passes s the_format 0 format a → Passes s the_plan a plan b → Passes s the_clock b clock c
          → nodes_from s plan clock c ≡ fault number at → Stop
      in_nodes {plan = plan} {c = c} f p k e =
          ⊎_elim (λ q. let h = nodes_stop s (plan_numbered plan) c q in record { own = h.own; place = its_nodes f p k h.place; fails = h.fails })
          (λ h. absurd (got_or_fault refl h.then))
          ((first_fault (read_nodes s (plan_numbered plan) c) _).0 e)

      in_clock : {format a plan b : ℕ} → Passes s the_format 0 format a → Passes s the_plan a plan b → Staged s the_clock b (nodes_from s plan) number at → Stop
      in_clock f p (here h g) = record { own = the_clock; place = subst (InImage s the_clock) h (its_clock f p); fails = g }
      in_clock f p (later k e) = in_nodes f p k e

      in_plan : {format a : ℕ} → Passes s the_format 0 format a → Staged s the_plan a (clock_from s) number at → Stop
      in_plan f (here h g) = record { own = the_plan; place = subst (InImage s the_plan) h (its_plan f); fails = g }
      in_plan f (later {v = plan} {next = b} p e) = in_clock f p (stage s the_clock b (nodes_from s plan) e)

      in_format : Staged s the_format 0 (λ _. plan_from s) number at → Stop
      in_format (here h g) = record { own = the_format; place = subst (InImage s the_format) h its_format; fails = g }
      in_format (later {next = a} f e) = in_plan f (stage s the_plan a (clock_from s) e)

      back : {own : Own} {at : ℕ} → InImage s own at → Fails s own at number → image_at s ≡ fault number at
      back its_format g = stage_here s the_format 0 (λ _. plan_from s) g
      back {at = at} (its_plan f) g = stage_later s the_format 0 (λ _. plan_from s) f ∙ stage_here s the_plan at (clock_from s) g
      back {at = at} (its_clock {a = a} {plan} f p) g =
          stage_later s the_format 0 (λ _. plan_from s) f ∙ stage_later s the_plan a (clock_from s) p ∙ stage_here s the_clock at (nodes_from s plan) g
      back (its_nodes {a = a} {plan} {b} {clock} {c} f p k h) g =
          stage_later s the_format 0 (λ _. plan_from s) f ∙ stage_later s the_plan a (clock_from s) p ∙ stage_later s the_clock b (nodes_from s plan) k
          ∙ bind_fault _ _ (nodes_fail s (plan_numbered plan) c h g)

-- ---- the call

-- The checks of the nodes' numbers are RULE's.
copy_rule : {s : List ℕ} {start at : ℕ} {own : Own} → InCopy s start own at → refusal own ≡ RULE
copy_rule its_key = refl
copy_rule (its_kind r) = refl
copy_rule (its_value r p t) = refl
copy_rule (its_stamp r p v) = refl

copies_rule : (s : List ℕ) (n start at : ℕ) (own : Own) → InCopies s n start own at → refusal own ≡ RULE
copies_rule s zero start at own h = absurd h
copies_rule s (suc n) start at own (inl h) = copy_rule h
copies_rule s (suc n) start at own (inr h) = copies_rule s n h.1 at own h.3

node_rule : {s : List ℕ} {capacity start at : ℕ} {own : Own} → InNode s capacity start own at → refusal own ≡ RULE
node_rule its_count = refl
node_rule {s = s} {at = at} {own = own} (its_copies {count} {a} p h) = copies_rule s count a at own h

nodes_rule : (s : List ℕ) (p : Plan) (start at : ℕ) (own : Own) → InNodes s p start own at → refusal own ≡ RULE
nodes_rule s [] start at own h = absurd h
nodes_rule s (n ∷ p) start at own (inl h) = node_rule h
nodes_rule s (n ∷ p) start at own (inr h) = nodes_rule s p h.1 at own h.3

-- The checks' own refusals are FORMAT, PLAN and RULE.
own_among : (own : Own) → member (refusal own) (FORMAT ∷ PLAN ∷ RULE ∷ []) ≡ true
unfolding member
own_among the_format = refl
own_among the_plan = refl
own_among the_clock = refl
own_among (the_count capacity) = refl
own_among the_kind = refl
own_among nothing = refl

own_not : (own : Own) {n : ℕ} → refusal own ≡ n → member n (FORMAT ∷ PLAN ∷ RULE ∷ []) ≡ false → ⊥
own_not own e lacks = not_given (FORMAT ∷ PLAN ∷ RULE ∷ []) (refusal own) (own_among own) lacks e

rule_at : {s : List ℕ} {at : ℕ} (own : Own) → InImage s own at → Breaks s own at RULE → RuleAt s at
rule_at the_format p b = absurd (omega (arith, b.is))
rule_at the_plan p b = absurd (omega (arith, b.is))
rule_at the_clock p b =
    let z : b.value ≡ 0 = omega (arith, ltb-false 0 b.value b.broken) in
    clock_0 p (b.read ∙ ap (λ (v : ℕ). got v b.next) z)
rule_at (the_count capacity) p b = count_above p b.read (ltb-false b.value (suc capacity) b.broken)
rule_at the_kind p b = kind_above p b.read (ltb-false b.value 2 b.broken)
rule_at nothing p b = absurd (not_both refl b.broken)

at_rule : {s : List ℕ} {at : ℕ} → RuleAt s at → StopsAt s (InImage s) RULE at
at_rule {s} {at} (clock_0 {next} p r) =
    record { own = the_clock; place = p; fails = inr (record { value = 0; next = next; read = r; broken = refl; is = refl }) }
at_rule {s} {at} (count_above {capacity} {count} {next} p r h) =
    record {
      own = the_count capacity;
      place = p;
      fails = inr (record { value = count; next = next; read = r; broken = le-ltb count (suc capacity) h; is = refl });
    }
at_rule {s} {at} (kind_above {kind} {next} p r h) =
    record { own = the_kind; place = p; fails = inr (record { value = kind; next = next; read = r; broken = le-ltb kind 2 h; is = refl }) }

rule_inside : {s : List ℕ} {at : ℕ} → RuleAt s at → at < length s
rule_inside {s} {at} (clock_0 p r) = number_inside s at r
rule_inside {s} {at} (count_above p r h) = number_inside s at r
rule_inside {s} {at} (kind_above p r h) = number_inside s at r

module _ (s : List ℕ) where
  -- The ways of loading.
  data Way : Type 0 where
    stops : {number at : ℕ} → LoadStop s number at → load_outcome s ≡ refused_load number at → Way
    accepts : {z : Store} → load_outcome s ≡ accepted_load z → Way

  same_refusal : {n m at by : ℕ} → load_outcome s ≡ refused_load n at → load_outcome s ≡ refused_load m by → (n ≡ m) × (at ≡ by)
  same_refusal e f =
      let r = sym e ∙ f in (ap (λ (o : Outcome). o.answer.number) r, ap (λ (o : Outcome). o.answer.a) r)

  -- A refusal is given as these say.
  given : {number at : ℕ} → LoadStop s number at → load_outcome s ≡ refused_load number at
  unfolding load_outcome
  given {number} {at} (at_number h) = finish_stops s (image_at s) ((image_stop s number at).1 h)
  given {number} {at} (trailing h e) = finish_trails s (image_at s) h.read h.left ∙ ap (λ (n : ℕ). refused_load n at) (sym e)
  given {number} {at} (breaking h e) =
      finish_breaks s (image_at s) h.read h.whole h.broken ∙ sym (λ t. refused_load (e t) (h.is_length t))

  way : Way
  unfolding load_outcome
  way = go (image_at s) refl
    where
      ends : (z : Store) (end : ℕ) → image_at s ≡ got z end → Dec (end < length s) → (good_store z ≡ true) ⊎ (good_store z ≡ false) → Way
      ends z end e (yes h) g = let w : LoadStop s TRAIL end = trailing (record { store = z; read = e; left = h }) refl in stops w (given w)
      ends z end e (no h) (inl g) = accepts (finish_accepts s (image_at s) e (omega arith) g)
      ends z end e (no h) (inr g) =
          let w : LoadStop s RULE (length s) = breaking (record { store = z; end = end; read = e; whole = omega arith; broken = g; is_length = refl }) refl in
          stops w (given w)

      go : (m : Got Store) → image_at s ≡ m → Way
      go (fault number at) e = let w = at_number ((image_stop s number at).0 e) in stops w (given w)
      go (got z end) e = ends z end e (dec_lt end (length s)) (bool? (good_store z))

  -- Each refusal, with its offset, is given exactly when it is the first from the left.
  pub load_refusal : (number at : ℕ) → number ≢ DONE → (load_outcome s ≡ refused_load number at) ↔ LoadStop s number at
  load_refusal number at not_done = (λ e. go way e, given)
    where
      go : Way → load_outcome s ≡ refused_load number at → LoadStop s number at
      go (stops {number = n} {at = by} h e) f = let w = same_refusal e f in subst (λ (m : ℕ). LoadStop s m at) w.0 (subst (λ (b : ℕ). LoadStop s n b) w.1 h)
      go (accepts e) f = absurd (not_done (ap (λ (o : Outcome). o.answer.number) (sym f ∙ e)))

  -- "CUT: bytes end inside or before a number"
  pub load_cut : (at : ℕ) → (load_outcome s ≡ refused_load CUT at) ↔ ((own : Own) × InImage s own at × EndsEarly narrow.more s at)
  unfolding member
  load_cut at =
      let f = load_refusal CUT at (λ q. omega arith) in
      (λ e. there (f.0 e), λ h. f.1 (at_number (record { own = h.0; place = h.1; fails = inl ((number_cut s at).1 h.2) })))
    where
      fails : (own : Own) → InImage s own at → Fails s own at CUT → (own : Own) × InImage s own at × EndsEarly narrow.more s at
      fails own p (inl e) = (own, p, (number_cut s at).0 e)
      fails own p (inr b) = absurd (own_not own b.is refl)

      there : LoadStop s CUT at → (own : Own) × InImage s own at × EndsEarly narrow.more s at
      there (at_number h) = fails h.own h.place h.fails
      there (trailing h e) = absurd (omega arith)
      there (breaking h e) = absurd (omega arith)

  -- "NUMBER: not shortest, or above 32 bits"
  pub load_number : (at : ℕ)
      → (load_outcome s ≡ refused_load NUMBER at) ↔ ((own : Own) × InImage s own at × (EndsInZero narrow.more s at ⊎ EndsAbove narrow.last narrow.more s at))
  unfolding member
  load_number at =
      let f = load_refusal NUMBER at (λ q. omega arith) in
      (λ e. there (f.0 e), λ h. f.1 (at_number (record { own = h.0; place = h.1; fails = inl ((number_malformed s at).1 h.2) })))
    where
      Spoilt : Type 0
      Spoilt = (own : Own) × InImage s own at × (EndsInZero narrow.more s at ⊎ EndsAbove narrow.last narrow.more s at)

      fails : (own : Own) → InImage s own at → Fails s own at NUMBER → Spoilt
      fails own p (inl e) = (own, p, (number_malformed s at).0 e)
      fails own p (inr b) = absurd (own_not own b.is refl)

      there : LoadStop s NUMBER at → Spoilt
      there (at_number h) = fails h.own h.place h.fails
      there (trailing h e) = absurd (omega arith)
      there (breaking h e) = absurd (omega arith)

  -- "FORMAT: format not 1"
  pub load_format : (at : ℕ) → (load_outcome s ≡ refused_load FORMAT at) ↔ BadFormat s at
  unfolding member
  load_format at = let f = load_refusal FORMAT at (λ q. omega arith) in (λ e. there (f.0 e), λ h. f.1 (back h))
    where
      breaks : {own : Own} {by : ℕ} → InImage s own by → Breaks s own by FORMAT → BadFormat s by
      breaks its_format b = record { first = refl; format = b.value; next = b.next; read = b.read; not_one = eqb-false b.value format_number b.broken }
      breaks (its_plan p) b = absurd (omega (arith, b.is))
      breaks (its_clock p q) b = absurd (omega (arith, b.is))
      breaks {own} {by} (its_nodes {plan = plan} {c = c} p q k h) b = absurd (omega (arith, b.is, nodes_rule s (plan_numbered plan) c by own h))

      there : LoadStop s FORMAT at → BadFormat s at
      there (at_number h) = ⊎_elim (λ e. absurd (not_both ((number_faults_lem s at).each FORMAT at e) refl)) (λ b. breaks h.place b) h.fails
      there (trailing h e) = absurd (omega arith)
      there (breaking h e) = absurd (omega arith)

      back : BadFormat s at → LoadStop s FORMAT at
      back b =
          let w : Breaks s the_format 0 FORMAT = record { value = b.format; next = b.next; read = b.read; broken = ne_eqb b.format format_number b.not_one; is = refl } in
          subst (λ (k : ℕ). LoadStop s FORMAT k) (sym b.first) (at_number (record { own = the_format; place = its_format; fails = inr w }))

  -- "PLAN: plan not 1 to 3"
  pub load_plan : (at : ℕ) → (load_outcome s ≡ refused_load PLAN at) ↔ BadPlan s at
  unfolding member
  load_plan at = let f = load_refusal PLAN at (λ q. omega arith) in (λ e. there (f.0 e), λ h. f.1 (back h))
    where
      breaks : {own : Own} {by : ℕ} → InImage s own by → Breaks s own by PLAN → BadPlan s by
      breaks its_format b = absurd (omega (arith, b.is))
      breaks {by = by} (its_plan {format} p) b =
          record {
            format = p.read ∙ ap (λ (v : ℕ). got v by) (eqb-true format format_number p.passed);
            plan = b.value;
            next = b.next;
            read = b.read;
            no_such_plan = (plan_test_fails b.value).0 b.broken;
          }
      breaks (its_clock p q) b = absurd (omega (arith, b.is))
      breaks {own} {by} (its_nodes {plan = plan} {c = c} p q k h) b = absurd (omega (arith, b.is, nodes_rule s (plan_numbered plan) c by own h))

      there : LoadStop s PLAN at → BadPlan s at
      there (at_number h) = ⊎_elim (λ e. absurd (not_both ((number_faults_lem s at).each PLAN at e) refl)) (λ b. breaks h.place b) h.fails
      there (trailing h e) = absurd (omega arith)
      there (breaking h e) = absurd (omega arith)

      back : BadPlan s at → LoadStop s PLAN at
      back b =
          let w : Breaks s the_plan at PLAN = record { value = b.plan; next = b.next; read = b.read; broken = (plan_test_fails b.plan).1 b.no_such_plan; is = refl } in
          at_number (record { own = the_plan; place = its_plan (record { read = b.format; passed = refl }); fails = inr w })

  -- "TRAIL: bytes after the image"
  pub load_trail : (at : ℕ) → (load_outcome s ≡ refused_load TRAIL at) ↔ Trails s at
  unfolding member
  load_trail at = let f = load_refusal TRAIL at (λ q. omega arith) in (λ e. there (f.0 e), λ h. f.1 (trailing h refl))
    where
      there : LoadStop s TRAIL at → Trails s at
      there (at_number h) =
          ⊎_elim (λ e. absurd (not_both ((number_faults_lem s at).each TRAIL at e) refl)) (λ b. absurd (own_not h.own b.is refl)) h.fails
      there (trailing h e) = h
      there (breaking h e) = absurd (omega arith)

  -- "RULE: image breaks a store rule", at a number or at the end.
  pub load_rule : (at : ℕ) → (load_outcome s ≡ refused_load RULE at) ↔ (RuleAt s at ⊎ BreaksWhole s at)
  unfolding member
  load_rule at = let f = load_refusal RULE at (λ q. omega arith) in (λ e. there (f.0 e), λ h. f.1 (back h))
    where
      there : LoadStop s RULE at → RuleAt s at ⊎ BreaksWhole s at
      there (at_number h) =
          ⊎_elim (λ e. absurd (not_both ((number_faults_lem s at).each RULE at e) refl))
          (λ b. inl (rule_at h.own h.place b)) h.fails
      there (trailing h e) = absurd (omega arith)
      there (breaking h e) = inr h

      back : RuleAt s at ⊎ BreaksWhole s at → LoadStop s RULE at
      back (inl h) = at_number (at_rule h)
      back (inr h) = breaking h refl

  -- Of these the one at the end has the image's length as offset, and the others a smaller one.
  pub load_rule_whole : (load_outcome s ≡ refused_load RULE (length s)) ↔ BreaksWhole s (length s)
  load_rule_whole =
      let f = load_rule (length s) in
      (λ e. ⊎_elim (λ h. absurd (omega (arith, rule_inside h))) (λ h. h) (f.0 e), λ h. f.1 (inr h))

  -- "A refused .. load returns a fresh store of plan 1", and names only the offset besides.
  pub load_refused : 2 ≤ (load_outcome s).answer.number → load_outcome s ≡ refused_load (load_outcome s).answer.number (load_outcome s).answer.a
  load_refused = go way
    where
      go : Way → 2 ≤ (load_outcome s).answer.number → load_outcome s ≡ refused_load (load_outcome s).answer.number (load_outcome s).answer.a
      go (stops h e) q = e ∙ sym (λ t. refused_load (e t).answer.number (e t).answer.a)
      go (accepts e) q = absurd (let d = ap (λ (o : Outcome). o.answer.number) e in omega arith)

  pub load_answers : Among (DONE ∷ TRAIL ∷ CUT ∷ NUMBER ∷ FORMAT ∷ PLAN ∷ RULE ∷ []) (load_outcome s).answer
  load_answers = load-among s
