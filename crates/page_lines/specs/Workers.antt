-- What gathering a page's lines asks for and hands on: the place of each line's current copy, and the page's lines.
use Rattle.std.specs.Prelude.{◌≡◌, List, ℕ, ◌+◌, ◌*◌, ◌<◌, get_or, Some, None}
use Rattle.std.proofs.Math.Option.{Option, none, some}
use Rattle.std.specs.declared.option.Option as answer
use Rattle.lists.specs.Indexed.{tabulate}
use Rattle.plan.specs.Plan.{Plan, size}
use Rattle.plan.specs.PlanRules.{PlanRules}
use Rattle.store.specs.declared.Copy.{Copy}
use Rattle.store.specs.declared.Store.{Store}
use Rattle.store.specs.Copies.{find}
use Rattle.store.specs.State.{State, current}
use Rattle.store.specs.StateRules.{OnPath}
use Rattle.store.specs.Layout.{width, places, copy_of, count_of, state_in}
use Rattle.store.specs.Workers.{number_in, itself, AllOrdered}
use Rattle.page_lines.specs.declared.PageLine.{PageLine}
use Rattle.page_lines.specs.PageLine.{analytes, key_for, page_lines}

-- The state of a store's first so many nodes.
abbrev pub state_up_to : ℕ → Store → State
state_up_to nodes z = state_in nodes z.clock z.counts z.keys z.kinds z.values z.stamps z.slots

-- A plan of so many nodes, and each copy in a node of its key's path.
pub record OnPaths (p : Plan) (nodes : ℕ) (z : Store) : Type 0 where
  pub rules : PlanRules p
  pub nodes_are : nodes ≡ size p
  pub on_path : (n i : ℕ) → n < nodes → i < count_of z n → (above : ℕ) × OnPath p (number_in z.keys (width * n + i)) n above

-- What a page's lines ask for: copies on the paths of some plan, and nodes in which a look can go by halves. A good store has both.
pub record Pageable (nodes : ℕ) (z : Store) : Type 0 where
  pub plan : Plan
  pub on_paths : OnPaths plan nodes z
  pub ordered : AllOrdered z.counts z.keys

-- A fact of each plan on whose paths the copies stand.
abbrev pub EachPlanOf : ℕ → Store → (Plan → Type 0) → Type 0
EachPlanOf nodes z fact = (p : Plan) → OnPaths p nodes z → fact p

-- The place of a copy, if there is one.
abbrev pub Place : Type 0
Place = answer.Option ℕ

-- The second place, if there is one, else the first.
abbrev pub place_over : Place → Option ℕ → Place
place_over i none = i
place_over i (some j) = Some j

-- By analyte, the place of its copy in a node, over the place that stood there before.
unfoldable pub laid_over : Store → ℕ → ℕ → List Place → List Place
laid_over z node sample before =
    tabulate 0 analytes λ a.
    place_over (get_or before a None) (find (number_in z.keys) (tabulate (width * node) (count_of z node) itself) (key_for sample a))

-- The copy at a place, if there is one.
abbrev pub copy_there : Store → Place → Option Copy
copy_there z None = none
copy_there z (Some i) = some (copy_of z i)

-- By analyte, the place of the line's current copy: a store has it, and in each plan the copy there is the current one.
pub record FindsCurrent (nodes : ℕ) (z : Store) (sample : ℕ) (at : List Place) : Type 0 where
  pub within : (a i : ℕ) → a < analytes → get_or at a None ≡ Some i → i < places
  pub copies : EachPlanOf nodes z
      (λ p. (a : ℕ) → a < analytes → copy_there z (get_or at a None) ≡ current p (state_up_to nodes z) (key_for sample a))

-- The lines of the sample's page, by each plan.
abbrev pub Gathers : ℕ → Store → ℕ → List PageLine → Type 0
Gathers nodes z sample ls = EachPlanOf nodes z (λ p. ls ≡ page_lines p (state_up_to nodes z) sample)
