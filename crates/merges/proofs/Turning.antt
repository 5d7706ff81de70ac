-- One turn of the walk through two nodes, a law for each way out: what the merge comes to stays the same.
use mathlib.Core.Path.{◌≡◌, refl, sym, ap, ◌∙◌}
use mathlib.Core.Bool.{Bool, true, false}
use mathlib.Core.List.{List, [], ◌∷◌, ◌++◌, append_assoc}
use mathlib.Core.Option.{some}
use Prim.Native.Nat.{ℕ, suc, ◌+◌, ◌-◌, ◌<◌, ◌≤◌}
use native.Mathlib.Omega.{arith}
use native.Mathlib.Decide.{dec_lt, ℕ_discrete}
use lib.ListN.{length, get_or, length-append}
use Rattle.std.proofs.lemmas.List.{get_or_append_left, get_or_push}
use Rattle.arrayvec.specs.ArrayVec.{ArrayVec}
use Rattle.plan.specs.declared.Edge.{Edge}
use Rattle.plan.specs.Plan.{holds}
use Rattle.store.specs.Copies.{find}
use Rattle.store.specs.Workers.{number_in}
use Rattle.steps.specs.Entries.{put, room}
use Rattle.steps.specs.Carries.{Merged, carries, merge}
use Rattle.steps.proofs.NodeLists.{find_same, find_low, put_before, put_over, room_has, room_free, room_none}
use Rattle.steps.proofs.Merges.{merge_carry, merge_keep}
use Rattle.moves.specs.declared.Span.{Span}
use Rattle.merges.specs.declared.Lists.{Lists}
use Rattle.merges.specs.declared.Walk.{Walk}
use Rattle.merges.specs.Decisions.{places_in, end_of, passed, standing, outcome, Going, Turned}
use Rattle.merges.proofs.Passing.{span-length, span_on, span_off, first_least, span_rising, put_past, find_past}

-- A list with one place more.
abbrev longer : List ℕ → ℕ → ArrayVec ℕ
longer xs x = record { items = xs ++ x ∷ [] }

as_longer : (xs : List ℕ) (x : ℕ) (v : ArrayVec ℕ) → v.items ≡ xs ++ x ∷ [] → v ≡ longer xs x
as_longer xs x v e = ap (λ (l : List ℕ). record { items = l }) e

-- A merge under way.
module _ (e : Edge) {keys : List ℕ} {capacity : ℕ} {lists : Lists} {w : Walk} (g : Going keys capacity lists w) (more : 0 < w.node.count) where
  abbrev key : ℕ → ℕ
  key = number_in keys

  abbrev place : ℕ
  place = w.node.from

  abbrev next : ℕ
  next = w.own.from

  abbrev had : List ℕ
  had = lists.target.items

  abbrev stands : List ℕ
  stands = standing lists w

  -- What the target has got is below the node's next key.
  had_low : (i : ℕ) → i < length had → key (get_or had i 0) < key place
  had_low i h = g.low i place h (omega arith) (omega arith)

  -- The target as it stands once it has got a place x, and its own next place: it stands as before.
  pub stood : (x : ℕ) (node own : Span) → standing (record { stay = lists.stay; target = longer had x }) (record { node = node; own = own }) ≡ had ++ x ∷ places_in own
  unfolding standing
  stood x node own = append_assoc had (x ∷ []) (places_in own)

  pub own_stands : 0 < w.own.count → had ++ next ∷ places_in (passed w.own) ≡ stands
  unfolding standing
  own_stands h = ap (λ (l : List ℕ). had ++ l) (sym (span_on next w.own.count h))

  stands_length : length stands ≡ length had + w.own.count
  unfolding standing
  stands_length = omega (arith, length-append had (places_in w.own), span-length next w.own.count)

  -- The node's key among what the target has.
  stands_find : find key stands (key place) ≡ find key (places_in w.own) (key place)
  unfolding standing
  stands_find = find_past key 0 (key place) had (places_in w.own) had_low

  stands_put : put key place stands ≡ had ++ put key place (places_in w.own)
  unfolding standing
  stands_put = put_past key 0 place had (places_in w.own) had_low

  -- What the merge comes to, where these places stay before it.
  abbrev from_here : List ℕ → List ℕ → List ℕ → Merged ℕ
  from_here kept xs ys = record { stay = kept ++ (merge key capacity e xs ys).stay; target = (merge key capacity e xs ys).target }

  -- The node's next place is carried, or kept.
  carry_turn : (kept : List ℕ) → carries key capacity e place stands ≡ true
      → from_here kept (places_in (passed w.node)) (put key place stands) ≡ from_here kept (places_in w.node) stands
  carry_turn kept t =
      rw (span_on place w.node.count more, merge_carry key capacity e place (places_in (passed w.node)) stands t)

  keep_turn : (kept : List ℕ) → carries key capacity e place stands ≡ false
      → from_here (kept ++ place ∷ []) (places_in (passed w.node)) stands ≡ from_here kept (places_in w.node) stands
  keep_turn kept t =
      rw (
        span_on place w.node.count more,
        merge_keep key capacity e place (places_in (passed w.node)) stands t,
        append_assoc kept (place ∷ []) (merge key capacity e (places_in (passed w.node)) stands).stay,
      )

  held-carries : {b : Bool} → holds e (key place) ≡ true → room key capacity stands (key place) ≡ b → carries key capacity e place stands ≡ b
  unfolding carries
  held-carries h t = rw h t

  -- The target gets a place x, and the walk goes on.
  module _ (x : ℕ) (node own : Span) where
    gets : place ≤ node.from → end_of node ≡ end_of w.node → next ≤ own.from → end_of own ≡ end_of w.own → length had + 1 + own.count ≤ capacity
        → ((j : ℕ) → node.from ≤ j → j < end_of w.node → key x < key j)
        → Going keys capacity (record { stay = lists.stay; target = longer had x }) (record { node = node; own = own })
    gets p q n o f low =
        record {
          node_within = omega (arith, g.node_within);
          own_within = omega (arith, g.own_within);
          stays = omega (arith, g.stays);
          fits = omega (arith, f, length-append had (x ∷ []));
          few = g.few;
          node_rises = λ i a b. g.node_rises i (omega arith) (omega arith);
          own_rises = λ i a b. g.own_rises i (omega arith) (omega arith);
          low = λ i j a b c. go i j (omega (arith, a, length-append had (x ∷ []))) b (omega arith) (ℕ_discrete i (length had));
        }
      where
        go : (i j : ℕ) → i < length had + 1 → node.from ≤ j → j < end_of w.node → Dec (i ≡ length had) → key (number_in (had ++ x ∷ []) i) < key j
        go i j a b c (yes i-is) = rw (get_or_push had x 0 i (sym i-is)) (low j b c)
        go i j a b c (no i-not) = rw (get_or_append_left had (x ∷ []) 0 i (omega arith)) (g.low i j (omega arith) (omega arith) c)

  -- The target's own copy comes first.
  pub own_first : 0 < w.own.count → key next < key place → (v : ArrayVec ℕ) (s : Span) → s ≡ passed w.own → v.items ≡ had ++ next ∷ []
      → Turned keys capacity e lists w (record { stay = lists.stay; target = v }) (record { node = w.node; own = s })
  unfolding outcome
  own_first h below v s s-is v-is =
      let f = g.fits in
      rw (s-is, as_longer had next v v-is)
      (record {
        going =
            gets next w.node (passed w.own) (omega arith) refl (omega arith) (omega arith) (omega arith)
            (λ j p q. omega (arith, first_least keys place w.node.count g.node_rises j p q));
        same =
            ap (from_here lists.stay.items (places_in w.node))
            (stood next w.node (passed w.own) ∙ own_stands h);
        less = omega arith;
      })

  -- The node's copy is carried: it comes after what the target has got.
  carried : (own : Span) → next ≤ own.from → end_of own ≡ end_of w.own → length had + 1 + own.count ≤ capacity
      → had ++ place ∷ places_in own ≡ put key place stands
      → carries key capacity e place stands ≡ true → own.count ≤ w.own.count → (v : ArrayVec ℕ) (s : Span) → s ≡ passed w.node → v.items ≡ had ++ place ∷ []
      → Turned keys capacity e lists w (record { stay = lists.stay; target = v }) (record { node = s; own = own })
  unfolding outcome
  carried own n o f puts t less v s s-is v-is =
      rw (s-is, as_longer had place v v-is)
      (record {
        going =
            gets place (passed w.node) own (omega arith) (omega arith) n o f
            (λ j p q.
            omega (
              arith,
              g.node_rises place (omega arith) (omega arith),
              first_least keys (suc place) (w.node.count - 1) (λ i a b. g.node_rises i (omega arith) (omega arith)) j (omega arith) (omega arith),
            ));
        same =
            ap (from_here lists.stay.items (places_in (passed w.node))) (stood place (passed w.node) own ∙ puts)
            ∙ carry_turn lists.stay.items t;
        less = omega arith;
      })

  -- It replaces the target's copy of its key.
  pub replaces : holds e (key place) ≡ true → 0 < w.own.count → key next ≡ key place → (v : ArrayVec ℕ) (s t : Span)
      → s ≡ passed w.node → t ≡ passed w.own → v.items ≡ had ++ place ∷ []
      → Turned keys capacity e lists w (record { stay = lists.stay; target = v }) (record { node = s; own = t })
  replaces held h same v s t s-is t-is =
      let f = g.fits in
      rw (t-is)
      (carried (passed w.own) (omega arith) (omega arith) (omega arith) puts
      (held-carries held (room_has key capacity stands (key place) next (stands_find ∙ found))) (omega arith) v s s-is)
    where
      puts : had ++ place ∷ places_in (passed w.own) ≡ put key place stands
      puts = rw (stands_put, span_on next w.own.count h, put_over key place next (places_in (passed w.own)) (sym same))

      found : find key (places_in w.own) (key place) ≡ some next
      found = rw (span_on next w.own.count h) (find_same key next (places_in (passed w.own)) (key place) same)

  -- The target lacks the key: its next key is greater, or it has none.
  module _ (above : 0 < w.own.count → key place ≤ key next) (other : 0 < w.own.count → key next ≡ key place → ⊥) where
    greater : 0 < w.own.count → key place < key next
    greater h = go (ℕ_discrete (key next) (key place))
      where
        go : Dec (key next ≡ key place) → key place < key next
        go (yes q) = absurd (other h q)
        go (no q) = omega (arith, above h)

    -- It is added, since the target has a free place.
    pub adds : holds e (key place) ≡ true → length had + w.own.count < capacity → (v : ArrayVec ℕ) (s : Span)
        → s ≡ passed w.node → v.items ≡ had ++ place ∷ []
        → Turned keys capacity e lists w (record { stay = lists.stay; target = v }) (record { node = s; own = w.own })
    unfolding put
    adds held f =
        carried w.own (omega arith) refl (omega arith) (puts (dec_lt 0 w.own.count))
        (held-carries held (room_free key capacity stands (key place) (omega (arith, stands_length)))) (omega arith)
      where
        puts : Dec (0 < w.own.count) → had ++ place ∷ places_in w.own ≡ put key place stands
        puts (yes h) =
            rw (stands_put, span_on next w.own.count h, put_before key place next (places_in (passed w.own)) (greater h))
        puts (no h) = rw (stands_put, span_off next w.own.count (omega arith))

    full : capacity ≤ length had + w.own.count → room key capacity stands (key place) ≡ false
    full f =
        room_none key capacity stands (key place)
        (stands_find ∙ find_low key (span_rising keys next w.own.count g.own_rises (suc (key place)) greater) (key place) (omega arith))
        (omega (arith, stands_length))

  -- The node's copy stays,
  keeps : carries key capacity e place stands ≡ false → (v : ArrayVec ℕ) (s : Span) → s ≡ passed w.node → v.items ≡ lists.stay.items ++ place ∷ []
      → Turned keys capacity e lists w (record { stay = v; target = lists.target }) (record { node = s; own = w.own })
  unfolding outcome standing
  keeps t v s s-is v-is =
      rw (s-is, as_longer lists.stay.items place v v-is)
      (record {
        going =
            record {
              node_within = omega (arith, g.node_within);
              own_within = g.own_within;
              stays = omega (arith, g.stays, length-append lists.stay.items (place ∷ []));
              fits = g.fits;
              few = g.few;
              node_rises = λ i a b. g.node_rises i (omega arith) (omega arith);
              own_rises = g.own_rises;
              low = λ i j a b c. g.low i j a (omega arith) (omega arith);
            };
        same = keep_turn lists.stay.items t;
        less = omega arith;
      })

  -- where the edge does not hold its key,
  pub stays_outside : holds e (key place) ≡ false → (v : ArrayVec ℕ) (s : Span) → s ≡ passed w.node → v.items ≡ lists.stay.items ++ place ∷ []
      → Turned keys capacity e lists w (record { stay = v; target = lists.target }) (record { node = s; own = w.own })
  unfolding carries
  stays_outside out = keeps outside
    where
      outside : carries key capacity e place stands ≡ false
      outside = rw out

  -- and where there is no room for it.
  pub stays_full : (0 < w.own.count → key place ≤ key next) → (0 < w.own.count → key next ≡ key place → ⊥)
      → holds e (key place) ≡ true → capacity ≤ length had + w.own.count → (v : ArrayVec ℕ) (s : Span)
      → s ≡ passed w.node → v.items ≡ lists.stay.items ++ place ∷ []
      → Turned keys capacity e lists w (record { stay = v; target = lists.target }) (record { node = s; own = w.own })
  stays_full above other held f = keeps (held-carries held (full above other f))
