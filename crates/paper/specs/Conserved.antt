-- Conservation: what becomes of the copies of a line, and of all copies, over a sequence; and what the carries' answers add up to.
use Rattle.std.specs.Prelude.{◌≡◌, Bool, true, false, ◌&&◌, ℕ, ◌+◌, ◌-◌, ◌*◌, ◌<◌, ◌≤◌, length, get_or}
use mathlib.Core.List.{List, [], ◌∷◌, Memᴰ}
use Rattle.std.proofs.Math.Option.{Option, none, some}
use Rattle.plan.specs.Plan.{Plan, size, edge_of, edges_on}
use Rattle.store.specs.declared.Answer.{Answer}
use Rattle.store.specs.declared.Copy.{Copy}
use Rattle.store.specs.Answers.{DONE, bare}
use Rattle.store.specs.Copies.{is_some}
use Rattle.store.specs.State.{State, line}
use Rattle.steps.specs.Carries.{bit}
use Rattle.theory.specs.Events.{Event, after, answer_of, state_after_all, entry_of, entered_copies, held, of_line, entries, held_of, carries_line, carried}
use Rattle.theory.specs.Events.Event.{enters, carries, starts, steps, cancels, asks}

-- A number of each event, summed over a sequence.
unfoldable pub summed : Plan → (Event → State → ℕ) → List Event → State → ℕ
summed p f [] s = 0
summed p f (e ∷ es) s = f e s + summed p f es (after p e s)

-- The node that a carry carries into: its edge's target. (No other event carries; the root stands for it.)
unfoldable pub into_node : Plan → Event → ℕ
into_node p (carries n i) = (edge_of p n i).target
into_node p (enters kind j v) = 0
into_node p (starts j) = 0
into_node p (steps i) = 0
into_node p (cancels i) = 0
into_node p asks = 0

-- An event discards a line's copy: it carries the line, and the node that it carries into had a copy of it.
unfoldable pub discards_line : Plan → ℕ → Event → State → Bool
discards_line p k e s = carries_line p k e s && is_some (line s k (into_node p e))

-- The copies of a line discarded by carries.
abbrev pub discarded : Plan → ℕ → List Event → State → ℕ
discarded p k es s = summed p (λ e t. bit (discards_line p k e t)) es s

-- An accepted entry of the line replaces the root's copy: the root had one.
unfoldable pub replaces_line : Plan → ℕ → Event → State → Bool
replaces_line p k e s = of_line k (entry_of p e s) && is_some (line s k 0)

-- The copies of a line replaced at the root.
abbrev pub replaced_at_root : Plan → ℕ → List Event → State → ℕ
replaced_at_root p k es s = summed p (λ e t. bit (replaces_line p k e t)) es s

-- A line's copies over a sequence: held at the start and entered, they are held at the end, discarded by carries or replaced at the root.
abbrev pub Conserved : Plan → ℕ → List Event → State → Type 0
Conserved p k es s = held_of k s + entries p k es s ≡ held_of k (state_after_all p es s) + discarded p k es s + replaced_at_root p k es s

-- So many keys pass a test: they can be listed, each once, in rising order.
pub record KeysWith (test : ℕ → Bool) (number : ℕ) : Type 0 where
  pub keys : List ℕ
  pub each_once : (i j : ℕ) → i < j → j < length keys → get_or keys i 0 < get_or keys j 0
  pub only : (k : ℕ) → Memᴰ k keys → test k ≡ true
  pub all : (k : ℕ) → test k ≡ true → Memᴰ k keys
  pub counted : number ≡ length keys

-- The answer of a carry; of any other event one with no number in it.
unfoldable pub carry_answer : Plan → Event → State → Answer
carry_answer p (carries n i) s = answer_of p (carries n i) s
carry_answer p (enters kind j v) s = bare DONE
carry_answer p (starts j) s = bare DONE
carry_answer p (steps i) s = bare DONE
carry_answer p (cancels i) s = bare DONE
carry_answer p asks s = bare DONE

-- The answer of a carry: a is the number of lines that it carries, b of those whose copy it discards; no other event carries or discards.
pub record CountsLines (p : Plan) (e : Event) (s : State) : Type 0 where
  pub lines_carried : KeysWith (λ k. carries_line p k e s) (carry_answer p e s).a
  pub lines_discarded : KeysWith (λ k. discards_line p k e s) (carry_answer p e s).b

-- What the carries' answers say to be carried, summed over a sequence.
abbrev pub all_carried : Plan → List Event → State → ℕ
all_carried p es s = summed p (λ e t. (carry_answer p e t).a) es s

-- What they say to be discarded.
abbrev pub all_discarded : Plan → List Event → State → ℕ
all_discarded p es s = summed p (λ e t. (carry_answer p e t).b) es s

-- An accepted entry replaces the root's copy of its own line.
abbrev pub replaces_root : Option Copy → State → Bool
replaces_root none s = false
replaces_root (some x) s = is_some (line s x.key 0)

-- The copies replaced at the root.
abbrev pub all_replaced : Plan → List Event → State → ℕ
all_replaced p es s = summed p (λ e t. bit (replaces_root (entry_of p e t) t)) es s

-- All copies over a sequence.
pub record AllConserved (p : Plan) (es : List Event) (s : State) : Type 0 where
  pub balance :
      length (held s) + length (entered_copies p es s) ≡ length (held (state_after_all p es s)) + all_discarded p es s + all_replaced p es s
  -- The carries' answers add up to at most (nodes − 1) × (copies held at the start + accepted entries).
  pub most_carried : all_carried p es s ≤ (size p - 1) * (length (held s) + length (entered_copies p es s))

-- A sum over some keys.
unfoldable pub sum_over : List ℕ → (ℕ → ℕ) → ℕ
sum_over [] f = 0
sum_over (k ∷ ks) f = f k + sum_over ks f

-- Keys, each once, with that of every copy of a list.
pub record AllKeys (xs : List Copy) (ks : List ℕ) : Type 0 where
  pub each_once : (i j : ℕ) → i < j → j < length ks → get_or ks i 0 < get_or ks j 0
  pub every_key : (x : Copy) → Memᴰ x xs → Memᴰ x.key ks

-- What is counted over all copies is the sum of what is counted by line; so the carries' answers add up to at most, over the lines, the
-- edges on the key's path times the copies of the line held at the start and entered.
pub record LineSums (p : Plan) (es : List Event) (s : State) (ks : List ℕ) : Type 0 where
  pub of_held : length (held s) ≡ sum_over ks (λ k. held_of k s)
  pub of_entered : length (entered_copies p es s) ≡ sum_over ks (λ k. entries p k es s)
  pub of_carried : all_carried p es s ≡ sum_over ks (λ k. carried p k es s)
  pub of_discarded : all_discarded p es s ≡ sum_over ks (λ k. discarded p k es s)
  pub of_replaced : all_replaced p es s ≡ sum_over ks (λ k. replaced_at_root p k es s)
  pub most_carried_by-line : all_carried p es s ≤ sum_over ks (λ k. edges_on p k * (held_of k s + entries p k es s))
