-- The check's answer, when the tests are made in their order: a test that fails is passed, and the first that holds decides.
use Prim.Native.Nat.{ℕ}
use mathlib.Core.Path.{◌≡◌, refl, sym, ap, ap₂, ◌∙◌}
use mathlib.Core.Bool.{Bool, true, false, not, cond}
use mathlib.Core.List.{List}
use lib.Dec.{ltb}
use lib.ListN.{length}
use borrow.Author.Tests.{eq-eqb, ne_eqb}
use Rattle.std.specs.Prelude.{Ok, Err}
use Rattle.finite.specs.Below.{all_below}
use Rattle.sheet.specs.Refusals.{first_applying, refusal}
use Rattle.sheet.specs.Reading.{reading}
use Rattle.sheet.specs.Instance.{Instance, instance}
use Rattle.sheet.specs.declared.Sheet.{Sheet}
use Rattle.sheet.specs.declared.Refusal.{Refusal}
use Rattle.sheet.specs.declared.Refusal.TheVariants.{PlanWriter}
use Rattle.sheet.specs.Reading.{Reading}
use Rattle.embedding.specs.Plan.{place, in_range, bars_keep, cabinets_keep, links_keep, plan_cost}
use Rattle.checker.specs.Check.{rules, answered, plan_checked, checked_after, checked}
use Rattle.checker.specs.Inner.Walk.{walked}

-- the test of the plan's cabinet numbers, by the counts that the code has
pub range_is : (I : Instance) (plan : List ℕ) (s : ℕ) → length plan ≡ I.r → s ≡ I.s
    → all_below (length plan) (λ i. ltb (place plan i) s) ≡ in_range I (place plan)
unfolding in_range
range_is I plan s e f = ap₂ (λ (n s : ℕ). all_below n (λ i. ltb (place plan i) s)) e f

-- the last test
last : (t : Bool) (cost : ℕ) → answered (cond (not t) 16 0) cost ≡ cond t (Ok cost) (Err (refusal 16))
unfolding answered
last true cost = refl
last false cost = refl

module _ (bytes plan : List ℕ) where
  -- a refusal of the reader
  pub handed_on : (f : Refusal) → reading bytes ≡ Err f → Err f ≡ checked bytes plan
  unfolding checked checked_after
  handed_on f e = sym (ap (λ (r : Reading). checked_after r (instance bytes) plan) e)

  module _ (h : Sheet) (reads : reading bytes ≡ Ok h) where
    -- a sheet that the reader accepts
    pub on_plan : checked bytes plan ≡ plan_checked (instance bytes) plan
    unfolding checked checked_after
    on_plan = ap (λ (r : Reading). checked_after r (instance bytes) plan) reads

    -- the same by the instance that the records tell of
    module _ (I : Instance) (same : I ≡ instance bytes) where
      on_told : checked bytes plan ≡ plan_checked I plan
      on_told = on_plan ∙ sym (ap (λ (I : Instance). plan_checked I plan) same)

      pub wrong_length : (length plan ≡ I.r → ⊥) → Err (PlanWriter 13) ≡ checked bytes plan
      unfolding plan_checked rules first_applying answered refusal
      wrong_length e = sym (on_told ∙ simp (ne_eqb (length plan) I.r e))

      module _ (places : length plan ≡ I.r) where
        pub out_of_range : in_range I (place plan) ≡ false → Err (PlanWriter 14) ≡ checked bytes plan
        unfolding plan_checked rules first_applying answered refusal
        out_of_range e = sym (on_told ∙ simp (eq-eqb (length plan) I.r places, e))

        module _ (range : in_range I (place plan) ≡ true) where
          pub barred_place : bars_keep I (place plan) ≡ false → Err (PlanWriter 20) ≡ checked bytes plan
          unfolding plan_checked rules first_applying answered refusal
          barred_place e = sym (on_told ∙ simp (eq-eqb (length plan) I.r places, range, e))

          module _ (bars : bars_keep I (place plan) ≡ true) where
            pub cabinet_overfull : cabinets_keep I (place plan) ≡ false → Err (PlanWriter 15) ≡ checked bytes plan
            unfolding plan_checked rules first_applying answered refusal
            cabinet_overfull e = sym (on_told ∙ simp (eq-eqb (length plan) I.r places, range, bars, e))

            -- the walk decides what is left
            pub by_walk : cabinets_keep I (place plan) ≡ true → walked I (place plan) ≡ checked bytes plan
            unfolding plan_checked rules first_applying walked
            by_walk e =
                sym (on_told ∙ simp (eq-eqb (length plan) I.r places, range, bars, e) (last (links_keep I (place plan)) (plan_cost I (place plan))))
