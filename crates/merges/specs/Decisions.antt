-- What the decision of a carry promises: which places stay in the node, and which the target then has, by the keys at the places.
use Rattle.std.specs.Prelude.{◌≡◌, List, ◌++◌, ℕ, ◌+◌, ◌-◌, ◌<◌, ◌≤◌, length}
use Rattle.lists.specs.Indexed.{tabulate}
use Rattle.plan.specs.declared.Edge.{Edge}
use Rattle.store.specs.Layout.{width, places}
use Rattle.store.specs.Workers.{number_in, itself, RisesIn}
use Rattle.steps.specs.Carries.{Merged, merge}
use Rattle.moves.specs.declared.Span.{Span}
use Rattle.merges.specs.declared.Lists.{Lists}
use Rattle.merges.specs.declared.Walk.{Walk}

-- So many places in a row, from one on,
abbrev pub span : ℕ → ℕ → List ℕ
span from count = tabulate from count itself

-- and as a list.
abbrev pub places_in : Span → List ℕ
places_in s = span s.from s.count

-- The end of a span.
abbrev pub end_of : Span → ℕ
end_of s = s.from + s.count

-- A span without its first place.
abbrev pub passed : Span → Span
passed s = record { from = s.from + 1; count = s.count - 1 }

-- The merge of a node's places into the target's.
abbrev pub places_merged : List ℕ → ℕ → Edge → Span → Span → Merged ℕ
places_merged keys capacity e node target = merge (number_in keys) capacity e (places_in node) (places_in target)

-- The target as it stands: the places that it has got so far, and its own that are still to come.
unfoldable pub standing : Lists → Walk → List ℕ
standing lists w = lists.target.items ++ places_in w.own

-- What the merge comes to from here: the places that stay so far, and the merge of the node's places still to come.
unfoldable pub outcome : List ℕ → ℕ → Edge → Lists → Walk → Merged ℕ
outcome keys capacity e lists w =
    let r = merge (number_in keys) capacity e (places_in w.node) (standing lists w) in
    record { stay = lists.stay.items ++ r.stay; target = r.target }

-- A merge under way.
pub record Going (keys : List ℕ) (capacity : ℕ) (lists : Lists) (w : Walk) : Type 0 where
  pub node_within : end_of w.node ≤ places
  pub own_within : end_of w.own ≤ places
  -- there is room for all that may stay, and for all that the target may have
  pub stays : length lists.stay.items + w.node.count ≤ width
  pub fits : length lists.target.items + w.own.count ≤ capacity
  pub few : capacity ≤ width
  -- keys rise in what is still to come, and those that the target has got are below the node's
  pub node_rises : RisesIn keys w.node.from (end_of w.node)
  pub own_rises : RisesIn keys w.own.from (end_of w.own)
  pub low : (i j : ℕ) → i < length lists.target.items → w.node.from ≤ j → j < end_of w.node
      → number_in keys (number_in lists.target.items i) < number_in keys j

-- After one turn the merge comes to the same, and less is still to come.
pub record Turned (keys : List ℕ) (capacity : ℕ) (e : Edge) (lists : Lists) (w : Walk) (lists' : Lists) (w' : Walk) : Type 0 where
  pub going : Going keys capacity lists' w'
  pub same : outcome keys capacity e lists' w' ≡ outcome keys capacity e lists w
  pub less : w'.node.count + w'.own.count < w.node.count + w.own.count

-- Two nodes that can be merged: their places, as many as they have room for, by rising keys.
pub record Ready (keys : List ℕ) (capacity : ℕ) (node target : Span) : Type 0 where
  pub node_within : (end_of node ≤ places) × (node.count ≤ width)
  pub target_within : (end_of target ≤ places) × (target.count ≤ capacity)
  pub few : capacity ≤ width
  pub node_rises : RisesIn keys node.from (end_of node)
  pub target_rises : RisesIn keys target.from (end_of target)

-- The two lists of a merge.
pub record Decided (l : Merged ℕ) (lists : Lists) : Type 0 where
  pub stays : lists.stay.items ≡ l.stay
  pub gets : lists.target.items ≡ l.target
  pub counted : (length lists.stay.items ≤ width) × (length lists.target.items ≤ width)
