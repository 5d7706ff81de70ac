-- A look down a key's path: what is still to be answered from a node on, turn by turn.
use mathlib.Core.Path.{◌≡◌, refl, sym, ap, ◌∙◌}
use mathlib.Core.Bool.{true, false}
use mathlib.Core.Logic.{◌⊎◌, inl, inr}
use mathlib.Core.List.{List, [], ◌∷◌}
use mathlib.Core.Option.{Option, none, some}
use Prim.Native.Nat.{ℕ, suc, ◌+◌, ◌<◌}
use native.Mathlib.Nat.{zero-add}
use native.Mathlib.Omega.{arith}
use Rattle.std.specs.Prelude.{Some, None}
use Rattle.plan.specs.declared.rows.Rows.{Rows}
use Rattle.plan.specs.Plan.{Plan, Hop, size, first_edge, next, path_from}
use Rattle.plan.specs.PlanRules.{PlanRules}
use Rattle.plan.specs.PlanArrays.{RowsOfPlan, row_edges}
use Rattle.plan.proofs.NextLaws.{hop?, next_down}
use Rattle.plan.proofs.PathLaws.{path_ends, path_goes}
use Rattle.plan.proofs.RowsLent.{own_count, next_here}
use Rattle.store.specs.declared.Answer.{Answer}
use Rattle.store.specs.declared.Copy.{Copy}
use Rattle.store.specs.declared.Slot.{Slot}
use Rattle.store.specs.declared.Store.{Store}
use Rattle.store.specs.Answers.{BADSTORE, bare}
use Rattle.store.specs.Copies.{Found, key_of, find, found_of}
use Rattle.store.specs.State.{State, line, first_on, in_reach}
use Rattle.store.specs.Layout.{plan_of, node_of, state_in, state_of}
use Rattle.store.specs.StoreRules.{good_store}
use Rattle.store.proofs.Laying.{parts_node}
use Rattle.store.proofs.Lifting.{good_ordered, of_good, of_bad}
use Rattle.steps.specs.Promises.{look_outcome}
use Rattle.steps.specs.Searches.{ended, visits_on, look_answer}
use Rattle.looks.specs.Workers.{copy_found, EdgesOfPlan, Lookable, looked_in, LooksDown}

-- A node's line is what a look in its places finds,
pub line_looked : (z : Store) (nodes clock : ℕ) (slots : List Slot) (k n : ℕ) → n < nodes
    → line (state_in nodes clock z.counts z.keys z.kinds z.values z.stamps slots) k n ≡ find key_of (node_of z n) k
line_looked z nodes clock slots k n h =
    ap (λ (xs : List Copy). find key_of xs k) (parts_node nodes clock z.counts z.keys z.kinds z.values z.stamps slots n h)

-- and what one found.
found_back : (o : Option Copy) → copy_found (found_of o) ≡ o
found_back none = refl
found_back (some x) = refl

pub line_found : (z : Store) (p : Plan) (k n : ℕ) → n < size p → (found : Found) → found ≡ found_of (find key_of (node_of z n) k)
    → line (looked_in z p) k n ≡ copy_found found
line_found z p k n h found f =
    line_looked z (size p) 0 [] k n h ∙ sym (ap copy_found f ∙ found_back (find key_of (node_of z n) k))

-- What a look answers that goes on from node n, where so many nodes were visited before.
unfoldable pub answer_from : Plan → State → ℕ → ℕ → ℕ → Answer
answer_from p s k n visits =
    let ns = path_from p k n in
    ended (first_on (line s k) ns) (visits + visits_on (line s k) ns)

-- It starts at the root.
answer_starts : (p : Plan) (s : State) (k : ℕ) → look_answer k p s ≡ answer_from p s k 0 0
unfolding look_answer answer_from in_reach path_from
answer_starts p s k = rw zero-add

module _ (p : Plan) (rules : PlanRules p) (s : State) (k n visits : ℕ) (h : n < size p) where
  -- The path from a node begins with it.
  path_here : (ns : List ℕ) × (path_from p k n ≡ n ∷ ns)
  path_here = go (hop? (next p n k))
    where
      go : (next p n k ≡ None) ⊎ ((t : ℕ) × (next p n k ≡ Some t)) → (ns : List ℕ) × (path_from p k n ≡ n ∷ ns)
      go (inl e) = ([], path_ends p rules k n h e)
      go (inr w) = (path_from p k w.0, path_goes p rules k n w.0 h w.1)

  -- The node has a copy: it ends the look, whatever its kind.
  answer-held : (x : Copy) → line s k n ≡ some x → answer_from p s k n visits ≡ ended (some x) (visits + 1)
  unfolding answer_from first_on visits_on
  answer-held x e = rw (path_here.1, e)

  -- It has none, and the path ends,
  answer_never : line s k n ≡ none → next p n k ≡ None → answer_from p s k n visits ≡ ended none (visits + 1)
  unfolding answer_from first_on visits_on
  answer_never e g = rw (path_ends p rules k n h g, e)

  -- or goes on to another.
  answer_on : (t : ℕ) → line s k n ≡ none → next p n k ≡ Some t → answer_from p s k n visits ≡ answer_from p s k t (visits + 1)
  unfolding answer_from first_on visits_on
  answer_on t e g =
      let ns = path_from p k t in
      let v : visits + suc (visits_on (line s k) ns) ≡ visits + 1 + visits_on (line s k) ns = omega arith in
      rw (path_goes p rules k n t h g, e, v)

-- A look that goes on from node n is the whole look, by one plan and of any state,
pub record LooksOn (p : Plan) (s : State) (k n visits : ℕ) : Type 0 where
  pub node : n < size p
  pub rest : look_answer k p s ≡ answer_from p s k n visits

module _ (p : Plan) (rules : PlanRules p) (s : State) (k : ℕ) where
  pub on_starts : LooksOn p s k 0 0
  on_starts = record { node = omega (arith, rules.nodes_within); rest = answer_starts p s k }

  module _ {n visits : ℕ} (w : LooksOn p s k n visits) where
    -- A copy was found,
    pub on_held : (x : Copy) → line s k n ≡ some x → look_answer k p s ≡ ended (some x) (visits + 1)
    on_held x e = w.rest ∙ answer-held p rules s k n visits w.node x e

    -- or nothing, and the path ends,
    pub on_never : line s k n ≡ none → next p n k ≡ None → look_answer k p s ≡ ended none (visits + 1)
    on_never e g = w.rest ∙ answer_never p rules s k n visits w.node e g

    -- or it goes on, further down.
    pub on_further : (t : ℕ) → line s k n ≡ none → next p n k ≡ Some t → LooksOn p s k t (visits + 1) × (n < t)
    on_further t e g =
        let down = next_down p rules n k t g in
        (record { node = down.1; rest = w.rest ∙ answer_on p rules s k n visits w.node t e g }, down.0)

-- The same of a plan's rows and a store: by every plan that has the rows.
pub record Looking (r : Rows) (z : Store) (k n visits : ℕ) : Type 0 where
  pub by : (p : Plan) → EdgesOfPlan p r → LooksOn p (looked_in z p) k n visits

module _ {r : Rows} {z : Store} {k : ℕ} where
  pub looking_starts : Looking r z k 0 0
  looking_starts = record { by = λ p rows. on_starts p rows.rules (looked_in z p) k }

  module _ {n visits : ℕ} (w : Looking r z k n visits) (found : Found) (f : found ≡ found_of (find key_of (node_of z n) k)) where
    line_here : (p : Plan) → EdgesOfPlan p r → (to : Found) → found ≡ to → line (looked_in z p) k n ≡ copy_found to
    line_here p rows to e = line_found z p k n (w.by p rows).node found f ∙ ap copy_found e

    -- A copy was found,
    pub looking_held : (x : Copy) → found ≡ Some x → (a : Answer) → a ≡ ended (some x) (visits + 1) → LooksDown r z k a
    looking_held x e a q = λ p rows.
        q ∙ sym (on_held p rows.rules (looked_in z p) k (w.by p rows) x (line_here p rows (Some x) e))

    module _ (nothing : found ≡ None) (hop : Hop) (o : hop ≡ first_edge (row_edges r n) k) where
      hop_here : (p : Plan) → EdgesOfPlan p r → (to : Hop) → hop ≡ to → next p n k ≡ to
      hop_here p rows to e = sym (next_here rows n k hop o) ∙ e

      -- or nothing, and the path ends,
      pub looking_never : hop ≡ None → (a : Answer) → a ≡ ended none (visits + 1) → LooksDown r z k a
      looking_never e a q = λ p rows.
          q ∙ sym (on_never p rows.rules (looked_in z p) k (w.by p rows) (line_here p rows None nothing) (hop_here p rows None e))

      -- or it goes on,
      goes_on : (t : ℕ) → hop ≡ Some t → (p : Plan) → EdgesOfPlan p r → LooksOn p (looked_in z p) k t (visits + 1) × (n < t)
      goes_on t e p rows =
          on_further p rows.rules (looked_in z p) k (w.by p rows) t (line_here p rows None nothing) (hop_here p rows (Some t) e)

      pub looking_on : (t : ℕ) → hop ≡ Some t → Looking r z k t (visits + 1)
      looking_on t e = record { by = λ p rows. (goes_on t e p rows).0 }

      -- further down.
      pub looking_down : (t : ℕ) → hop ≡ Some t → (p : Plan) → EdgesOfPlan p r → n < t
      looking_down t e p rows = (goes_on t e p rows).1

module _ (z : Store) where
  -- A good store has what a look asks for, with its plan's rows,
  pub good_lookable : good_store z ≡ true → (r : Rows) → RowsOfPlan (plan_of z) r → Lookable r z
  good_lookable good r has = record { plan = plan_of z; rows = own_count has; ordered = good_ordered z good }

  -- and the answer by its own plan is the store's: a look reads neither clock nor slots.
  pub look_lent : good_store z ≡ true → (k : ℕ) (a : Answer) → a ≡ look_answer k (plan_of z) (looked_in z (plan_of z)) → a ≡ look_outcome z k
  unfolding look_answer in_reach state_of
  look_lent good k a e = e ∙ sym (of_good (look_answer k) z good)

  -- That of a bad one is BADSTORE.
  pub look_refused : good_store z ≡ false → (k : ℕ) (a : Answer) → a ≡ bare BADSTORE → a ≡ look_outcome z k
  look_refused bad k a e = e ∙ sym (of_bad (look_answer k) z bad)
