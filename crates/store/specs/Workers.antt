-- What the workers on columns promise: the place of a key by rising keys, and a number put in between others.
use Rattle.std.specs.Prelude.{◌≡◌, cond, List, [], ◌∷◌, ◌++◌, ℕ, suc, ◌+◌, ◌-◌, ◌*◌, ◌<◌, ◌≤◌, ltb, length, get_or, take, drop}
use Rattle.std.proofs.Math.Seq.{slice}
use Rattle.lists.specs.Indexed.{tabulate}
use Rattle.plan.specs.Sizes.{most_nodes}
use Rattle.store.specs.Layout.{width, places}

-- The number of a column at a place.
abbrev pub number_in : List ℕ → ℕ → ℕ
number_in column i = get_or column i 0

-- The numbers of a list are below a bound.
abbrev pub Within : List ℕ → ℕ → Type 0
Within list bound = (i : ℕ) → i < length list → number_in list i < bound

-- A number is its own key.
abbrev pub itself : ℕ → ℕ
itself k = k

-- How many things at the front of a list have a key below k: the place of k by rising keys.
unfoldable pub below : {A : Type 0} → (A → ℕ) → List A → ℕ → ℕ
below key [] k = 0
below key (x ∷ xs) k = cond (ltb (key x) k) (suc (below key xs k)) 0

-- The first of the places from one up to another whose key is not below k, or the end.
abbrev pub place_in : List ℕ → ℕ → ℕ → ℕ → ℕ
place_in keys from end k = from + below itself (tabulate from (end - from) (number_in keys)) k

-- The keys of a list strictly rise, each below the next; the thing named stands for what is not there.
abbrev pub Rises : {A : Type 0} → (A → ℕ) → A → List A → Type 0
Rises key none xs = (i : ℕ) → suc i < length xs → key (get_or xs i none) < key (get_or xs (suc i) none)

-- The same of a column, from one place up to another.
abbrev pub RisesIn : List ℕ → ℕ → ℕ → Type 0
RisesIn keys from end = (i : ℕ) → from ≤ i → suc i < end → number_in keys i < number_in keys (suc i)

-- Node n has places for as many copies as a list says of it: its count, or its capacity.
abbrev pub HasPlaces : List ℕ → ℕ → Type 0
HasPlaces list n = number_in list n ≤ width

-- All nodes have.
abbrev pub WithinPlaces : List ℕ → Type 0
WithinPlaces list = (n : ℕ) → n < most_nodes → HasPlaces list n

-- A node in which a look can go by halves: it has places for its copies, and their keys rise.
pub record Ordered (counts keys : List ℕ) (n : ℕ) : Type 0 where
  pub fits : HasPlaces counts n
  pub rises : RisesIn keys (width * n) (width * n + get_or counts n 0)

-- All nodes are such.
abbrev pub AllOrdered : List ℕ → List ℕ → Type 0
AllOrdered counts keys = (n : ℕ) → n < most_nodes → Ordered counts keys n

-- Columns that are as long as a store's.
pub record Sized (counts keys kinds values stamps : List ℕ) : Type 0 where
  pub counts_long : length counts ≡ most_nodes
  pub keys_long : length keys ≡ places
  pub kinds_long : length kinds ≡ places
  pub values_long : length values ≡ places
  pub stamps_long : length stamps ≡ places

-- A list with x put in at a place; those from there up to end stand one place further up, over the one that stood at end.
unfoldable pub opened : {A : Type 0} → List A → ℕ → ℕ → A → List A
opened xs at end x = take at xs ++ x ∷ (slice at end xs ++ drop (suc end) xs)
