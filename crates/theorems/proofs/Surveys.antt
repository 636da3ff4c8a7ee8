-- The work behind the page on surveys that start at the other end.
use Prim.Native.Nat.{ℕ, zero, suc, ◌<◌}
use native.Mathlib.Omega.{arith}
use mathlib.Core.Logic.{inl, inr}
use mathlib.Core.Path.{◌≡◌, refl, sym, ap, ap₂, ◌∙◌}
use mathlib.Core.Bool.{Bool, ◌&&◌}
use mathlib.Core.List.{List, [], ◌∷◌, map}
use lib.Dec.{eqb}
use lib.ListN.{length, length-map}
use borrow.Author.Tests.{lt-ltb}
use Rattle.subsets.specs.Costs.{Cost, none, some}
use Rattle.subsets.proofs.Provided.{provided_some}
use Rattle.sheet.specs.Instance.{Instance, instance}
use Rattle.sheet.specs.Reading.{reading}
use Rattle.sheet.specs.declared.Sheet.{Sheet}
use Rattle.std.specs.Prelude.{Ok}
use Rattle.sheet.proofs.Promises.{well_formed, joints_by_capacity}
use Rattle.embedding.specs.Plan.{place, valid, plan_cost, worth, cheapest}
use Rattle.embedding.specs.Rehung.{Rehung}
use Rattle.embedding.specs.Splits.{weighed}
use Rattle.embedding.proofs.Services.{worth_ext}
use Rattle.embedding.proofs.Theorems.{plan_iff_mapping, rehung_mapping, rehung_cheapest}
use Rattle.checker.specs.Check.{checked}
use Rattle.checker.proofs.Answers.{accepted_iff}
use Rattle.lending.specs.declared.Span.{Span}
use Rattle.planner.specs.Answers.{Enough, solved, planned}
use Rattle.planner.proofs.Solved.{accepted_solved}
use Rattle.theorems.specs.Promised.{Maps, SameCost}

-- where the cheapest costs are the same, so are those answered
alike : (I J : Instance) (f : Cost) → SameCost I J (solved f (weighed I)) (solved f (weighed J))
alike I J none = inl (refl, refl)
alike I J (some k) = inr (k, refl, refl)

-- the cabinet of a service in a plan that is carried over
place_over : (σ : ℕ → ℕ) (plan : List ℕ) (i : ℕ) → i < length plan → place (map σ plan) i ≡ σ (place plan i)
place_over σ [] i k = absurd (omega arith)
place_over σ (c ∷ plan) zero k = refl
place_over σ (c ∷ plan) (suc i) k = place_over σ plan i (omega arith)

module _ (bytes : List ℕ) (h : Sheet) (reads : reading bytes ≡ Ok h)
    (others : List ℕ) (h' : Sheet) (reads' : reading others ≡ Ok h')
    (σ : ℕ → ℕ) (R : Rehung (instance bytes) (instance others) σ) where
  abbrev I : Instance
  I = instance bytes

  abbrev J : Instance
  J = instance others

  -- a mapping goes over
  pub mapping_over : (π : ℕ → ℕ) (k : ℕ) → Maps I π k → Maps J (λ i. σ (π i)) k
  mapping_over π k m =
      let n = rehung_mapping I J (well_formed bytes h reads) (well_formed others h' reads') σ R π m.0 m.1 m.2 in
      (n.0, n.1, n.2, n.3 ∙ m.3)

  -- the planner's answers
  pub same_cost : (output costs choices : ℕ) (span : Span) → Enough I output costs choices span →
      (output' costs' choices' : ℕ) (span' : Span) → Enough J output' costs' choices' span' →
      SameCost I J (planned bytes output costs choices span) (planned others output' costs' choices' span')
  same_cost output costs choices span enough output' costs' choices' span' enough' =
      let e = accepted_solved bytes output costs choices span record { sheet = h; reads = reads; enough = enough } in
      let e' = accepted_solved others output' costs' choices' span' record { sheet = h'; reads = reads'; enough = enough' } in
      let same = rehung_cheapest I J (well_formed bytes h reads) (well_formed others h' reads') σ R in
      rw (e, e' ∙ ap (λ (f : Cost). solved f (weighed J)) (sym same)) (alike I J (cheapest I))

  -- a plan that is accepted on the one, carried over, is accepted on the other
  pub plan_over : (plan : List ℕ) (k : ℕ) → checked bytes plan ≡ Ok k → checked others (map σ plan) ≡ Ok k
  unfolding worth
  plan_over plan k e =
      let W = well_formed bytes h reads in
      let X = well_formed others h' reads' in
      let a = (accepted_iff bytes h reads plan k).0 e in
      let l : length plan ≡ J.r = a.0 ∙ sym R.counts.0 in
      let v = (plan_iff_mapping J X (λ i. σ (place plan i)) k).1 (mapping_over (place plan) k ((plan_iff_mapping I W (place plan) k).0 (a.1, a.2))) in
      let same = worth_ext J X (place (map σ plan)) (λ i. σ (place plan i)) (λ i j. place_over σ plan i (omega arith)) in
      let p = (provided_some (valid J (place (map σ plan))) (plan_cost J (place (map σ plan))) k).0
      (same ∙ (provided_some (valid J (λ i. σ (place plan i))) (plan_cost J (λ i. σ (place plan i))) k).1 v) in
      (accepted_iff others h' reads' (map σ plan) k).1 (length-map plan σ ∙ l, p.0, p.1)

-- joints go along with capacities
pub joints_over : (bytes others : List ℕ) (σ : ℕ → ℕ) → (instance others).s ≡ (instance bytes).s →
    ((c : ℕ) → c < (instance bytes).s → σ c < (instance bytes).s) →
    ((c : ℕ) → c < (instance bytes).s → (instance others).capacity (σ c) ≡ (instance bytes).capacity c) →
    (c : ℕ) → c < (instance bytes).s → (instance others).joint (σ c) ≡ (instance bytes).joint c
joints_over bytes others σ e inside capacities c k =
    joints_by_capacity others (σ c)
    ∙ ap₂ (λ (t : Bool) (n : ℕ). t && eqb n 0) (lt-ltb (σ c) (instance others).s (omega (arith, inside c k)) ∙ sym (lt-ltb c (instance bytes).s k)) (capacities c k)
    ∙ sym (joints_by_capacity bytes c)
