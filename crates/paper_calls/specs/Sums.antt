-- Conservation over public calls, since the store was last replaced: what becomes of the copies, and what the carries' answers add up to.
use Rattle.std.specs.Prelude.{◌≡◌, Bool, true, false, cond, ◌&&◌, List, [], ◌∷◌, ℕ, ◌+◌, ◌-◌, ◌*◌, ◌≤◌, length}
use Rattle.std.proofs.Math.Option.{Option, none, some}
use Rattle.plan.specs.Plan.{size}
use Rattle.store.specs.declared.Answer.{Answer}
use Rattle.store.specs.declared.Store.{Store}
use Rattle.store.specs.Layout.{plan_of, state_of}
use Rattle.steps.specs.Carries.{bit}
use Rattle.theory.specs.Events.{Event, of_line, held, copies_of, held_of}
use Rattle.theory.specs.Events.Event.{enters, carries, starts, steps, cancels, asks}
use Rattle.paper.specs.Conserved.{into_node, replaces_root, sum_over}
use Rattle.calls.specs.PublicCalls.{Call, store_after, answer_to, store_after_all}
use Rattle.calls.specs.Following.{event_of, replacement, entered_by, has_line, carried_by, carries_since}
use Rattle.calls.specs.Counts.{target_of, fall, rise}
use Rattle.paper_calls.specs.Structure.{copies_so_far}

-- A carry's rise is at most its fall: the target's count rises by at most what the node's falls by.
abbrev pub RiseWithinFall : Call → ℕ → ℕ → Store → Type 0
RiseWithinFall c n i z = rise z c (target_of z n i) ≤ fall z c n

-- What a call does to a sum: it starts again at an accepted fresh or load.
abbrev pub sum_with : Option Store → ℕ → ℕ → ℕ
sum_with (some y) m n = 0
sum_with none m n = m + n

-- A number of each call, summed since the store was last replaced.
unfoldable pub summed_since : (Call → Store → ℕ) → List Call → Store → ℕ → ℕ
summed_since f [] z n = n
summed_since f (c ∷ cs) z n = summed_since f cs (store_after c z) (sum_with (replacement c) (f c z) n)

-- An event discards a line's copy: it carries the line, and the node that it carries into had a copy of it.
unfoldable pub discarded_by : ℕ → Event → Store → Bool
discarded_by k e z = carried_by k e z && has_line z k (into_node (plan_of z) e)

-- An event replaces the root's copy of a line: it is an accepted entry of the line, and the root had one.
unfoldable pub replaced_by : ℕ → Event → Store → Bool
replaced_by k e z = of_line k (entered_by e z) && has_line z k 0

-- The copies of a line that carries discarded since the store was last replaced.
abbrev pub discarded_since : ℕ → List Call → Store → ℕ
discarded_since k cs z = summed_since (λ c y. bit (discarded_by k (event_of c) y)) cs z 0

-- Those that were replaced at the root.
abbrev pub replaced_since : ℕ → List Call → Store → ℕ
replaced_since k cs z = summed_since (λ c y. bit (replaced_by k (event_of c) y)) cs z 0

-- A line's copies: those entered, each copy loaded counting as one, are held, discarded by carries or replaced at the root.
abbrev pub LineConserved : ℕ → List Call → Store → Type 0
LineConserved k cs z =
    copies_of k (copies_so_far cs z) ≡ held_of k (state_of (store_after_all cs z)) + discarded_since k cs z + replaced_since k cs z

-- The event is a carry.
unfoldable pub is_carry : Event → Bool
is_carry (carries n i) = true
is_carry (enters kind j v) = false
is_carry (starts j) = false
is_carry (steps i) = false
is_carry (cancels i) = false
is_carry asks = false

-- A number of an answer, if there is one.
abbrev pub part_said : (Answer → ℕ) → Option Answer → ℕ
part_said part none = 0
part_said part (some r) = part r

-- A number of the answer of a call that is a carry, by a record run too; nothing of any other.
unfoldable pub said_by : (Answer → ℕ) → Call → Store → ℕ
said_by part c z = cond (is_carry (event_of c)) (part_said part (answer_to c z)) 0

-- What the carries' answers say to be carried, summed since the store was last replaced.
abbrev pub said_carried : List Call → Store → ℕ
said_carried cs z = summed_since (said_by (λ r. r.a)) cs z 0

-- What they say to be discarded.
abbrev pub said_discarded : List Call → Store → ℕ
said_discarded cs z = summed_since (said_by (λ r. r.b)) cs z 0

-- All copies replaced at the root since the store was last replaced.
abbrev pub all_replaced_since : List Call → Store → ℕ
all_replaced_since cs z = summed_since (λ c y. bit (replaces_root (entered_by (event_of c) y) (state_of y))) cs z 0

-- All copies: nothing is lost and nothing invented.
pub record AllCallsConserved (cs : List Call) (z : Store) : Type 0 where
  pub balance :
      length (copies_so_far cs z) ≡ length (held (state_of (store_after_all cs z))) + said_discarded cs z + all_replaced_since cs z
  -- The carries' answers add up to at most (nodes − 1) × accepted entries, each copy loaded counting as one.
  pub most_carried : said_carried cs z ≤ (size (plan_of (store_after_all cs z)) - 1) * length (copies_so_far cs z)

-- The sums of the answers are the sums over the lines, for any keys with those of all copies: what was carried is the sum of demand 3's
-- counts.
pub record CallLineSums (cs : List Call) (z : Store) (ks : List ℕ) : Type 0 where
  pub of_entered : length (copies_so_far cs z) ≡ sum_over ks (λ k. copies_of k (copies_so_far cs z))
  pub of_carried : said_carried cs z ≡ sum_over ks (λ k. carries_since k cs z 0)
  pub of_discarded : said_discarded cs z ≡ sum_over ks (λ k. discarded_since k cs z)
  pub of_replaced : all_replaced_since cs z ≡ sum_over ks (λ k. replaced_since k cs z)
