-- The head of an image, and the image after it.
use mathlib.Core.Path.{◌≡◌, refl, sym, ap, ◌∙◌}
use mathlib.Core.Bool.{Bool, true, false, cond}
use mathlib.Core.List.{List}
use Prim.Native.Nat.{ℕ}
use lib.Dec.{ltb, eqb}
use Rattle.number.specs.Number.{narrow}
use Rattle.store.specs.declared.Store.{Store}
use Rattle.store.specs.Answers.{PLAN, FORMAT, RULE}
use Rattle.store.specs.StoreRules.{plan_number_test}
use Rattle.wire.specs.Reading.{Got, fault, bind, number_at}
use Rattle.wire.proofs.Chains.{Gives, gives_got, gives_any, gives_check, gives_bind}
use Rattle.image_writing.specs.Image.{format_number}
use Rattle.image_reading.specs.declared.Head.{Head}
use Rattle.image_reading.specs.ImageReading.{clock_from, plan_from, nodes_from, image_at}
use Rattle.image_reading.specs.Workers.{head_at}
use Rattle.image_reading.proofs.ReadWays.{bind_bind}

-- The nodes after a head.
abbrev pub nodes_after : List ℕ → Head → ℕ → Got Store
nodes_after s h at = nodes_from s h.plan h.clock at

-- What is done after a check is done where it holds.
after_check : (test : Bool) (number at : ℕ) (g : Got Head) (h : Head → ℕ → Got Store)
    → bind (cond test g (fault number at)) h ≡ cond test (bind g h) (fault number at)
unfolding bind
after_check true number at g h = refl
after_check false number at g h = refl

-- A number, its check and what follows, and then what is done after all.
module _ (g : Got ℕ) (test : ℕ → Bool) (number : ℕ) (place : ℕ → ℕ) (f : ℕ → ℕ → Got Head) (h : Head → ℕ → Got Store) where
  number_checked : (k : ℕ → ℕ → Got Store) → ((x a : ℕ) → bind (f x a) h ≡ k x a)
      → bind (bind g (λ x a. cond (test x) (f x a) (fault number (place a)))) h ≡ bind g (λ x a. cond (test x) (k x a) (fault number (place a)))
  number_checked k same =
      bind_bind g (λ x a. cond (test x) (f x a) (fault number (place a))) h
      ∙ (λ t. bind g (λ x a. (after_check (test x) number (place a) (f x a) h ∙ ap (λ (r : Got Store). cond (test x) r (fault number (place a))) (same x a)) t))

module _ (s : List ℕ) where
  -- Reading an image is reading its head, and then the nodes.
  pub image_head : image_at s ≡ bind (head_at s) (nodes_after s)
  unfolding image_at plan_from clock_from head_at bind
  image_head =
      sym
      (number_checked (number_at narrow s 0) (λ format. eqb format format_number) FORMAT (λ a. 0) _ (nodes_after s) _
      λ format a. number_checked (number_at narrow s a) plan_number_test PLAN (λ b. a) _ (nodes_after s) _
      λ plan b. number_checked (number_at narrow s b) (λ clock. ltb 0 clock) RULE (λ c. b) _ (nodes_after s) _ λ clock c. refl)

  -- The plan that it names is known.
  pub head_known : Gives (λ h next. plan_number_test h.plan ≡ true) (head_at s)
  unfolding head_at
  head_known =
      gives_bind _ _ (gives_any _) λ format a _.
      gives_check (eqb format format_number) FORMAT 0 _ λ _.
      gives_bind _ _ (gives_any _) λ plan b _.
      gives_check (plan_number_test plan) PLAN a _ λ known.
      gives_bind _ _ (gives_any _) λ clock c _.
      gives_check (ltb 0 clock) RULE b _ λ _.
      gives_got known
