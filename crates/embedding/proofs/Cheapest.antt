-- The least cost of a valid plan is the least cost of a feasible mapping, and the least charge of the whole tree.
use Prim.Native.Nat.{ℕ, ◌^◌, ◌≤◌}
use native.Mathlib.Omega.{arith}
use mathlib.Core.Logic.{◌↔◌}
use mathlib.Core.Path.{◌≡◌, refl, sym, ◌∙◌, subst}
use mathlib.Core.List.{List}
use Rattle.subsets.specs.Inner.Masks.{full}
use Rattle.subsets.specs.Costs.{Cost, none, some}
use Rattle.subsets.specs.Inner.Totals.{Le}
use Rattle.subsets.specs.Inner.Net.{Least}
use Rattle.subsets.proofs.Sets.{has_full}
use Rattle.subsets.proofs.Costs.{Le-antisym, least_low, least_high, least_met}
use Rattle.subsets.proofs.Provided.{provided_some}
use Rattle.sheet.specs.Instance.{Instance, WellFormed}
use Rattle.embedding.specs.Definition1.{Feasible, cost}
use Rattle.embedding.specs.Limits.{Limits}
use Rattle.embedding.specs.Road.{road}
use Rattle.embedding.specs.Plan.{valid, plan_cost, digit, worth, cheapest}
use Rattle.embedding.specs.Inner.Charge.{net}
use Rattle.embedding.proofs.Digits.{digit_lt, number}
use Rattle.embedding.proofs.Mappings.{InRange, plan_iff_mapping}
use Rattle.embedding.proofs.Services.{worth_ext}
use Rattle.embedding.proofs.Charges.{everywhere, charges}

module _ (I : Instance) (W : WellFormed I) where
  -- ---- the cheapest is the least of all plans in range

  -- no plan in range is worth less
  pub cheapest_low : (π : ℕ → ℕ) → InRange I π → Le (cheapest I) (worth I π)
  unfolding cheapest
  cheapest_low π p =
      let w = number I.s I.r π p in
      subst (Le (cheapest I)) (worth_ext I W (digit I.s w.0) π w.2) (least_low (I.s ^ I.r) (λ n. worth I (digit I.s n)) w.0 w.1)

  cheapest_high : (x : Cost) → ((π : ℕ → ℕ) → InRange I π → Le x (worth I π)) → Le x (cheapest I)
  unfolding cheapest
  cheapest_high x h = least_high (I.s ^ I.r) _ x (λ n k. h (digit I.s n) (λ i j. digit_lt I.s n i (omega (arith, W.some_cabinet))))

  -- ---- the least charge of the whole tree

  -- the least charge of the whole tree for all services is the cost of the cheapest plan
  pub cheapest_least : (f : Cost) → Least (net I) everywhere 0 (full I.r) f → f ≡ cheapest I
  unfolding Le
  cheapest_least f L = Le-antisym f (cheapest I) (cheapest_high f low) (high f L)
    where
      low : (π : ℕ → ℕ) → InRange I π → Le f (worth I π)
      low π p = subst (Le f) (charges I W π p) (L.low π (λ i k e. (refl, p i k)))

      high : (f : Cost) → Least (net I) everywhere 0 (full I.r) f → Le (cheapest I) f
      high none L = tt
      high (some k) L =
          let h = L.hit k refl in
          let p : InRange I h.0 = λ i j. (h.1 i j (has_full I.r i j)).1 in
          subst (Le (cheapest I)) (sym (charges I W h.0 p) ∙ h.2) (cheapest_low h.0 p)

  -- ---- the least feasible mapping

  worth_mapping : (π : ℕ → ℕ) (k : ℕ) → (worth I π ≡ some k) ↔ ((ρ : ℕ → List ℕ) × Feasible (road I) π ρ × Limits I π ρ × (cost (road I) π ρ ≡ k))
  unfolding worth
  worth_mapping π k = (
    λ e. (plan_iff_mapping I W π k).0 ((provided_some (valid I π) (plan_cost I π) k).0 e),
    λ m. (provided_some (valid I π) (plan_cost I π) k).1 ((plan_iff_mapping I W π k).1 m),
  )

  bound : (π : ℕ → ℕ) (ρ : ℕ → List ℕ) → Feasible (road I) π ρ → Limits I π ρ → Le (cheapest I) (some (cost (road I) π ρ))
  bound π ρ F L = subst (Le (cheapest I)) ((worth_mapping π (cost (road I) π ρ)).1 (ρ, F, L, refl)) (cheapest_low π F.valid.placed)

  -- the cheapest plan costs k exactly when a feasible mapping costs k and none costs less
  pub cheapest_mapping : (k : ℕ) → (cheapest I ≡ some k)
      ↔ (((π : ℕ → ℕ) × (ρ : ℕ → List ℕ) × Feasible (road I) π ρ × Limits I π ρ × (cost (road I) π ρ ≡ k))
      × ((π : ℕ → ℕ) (ρ : ℕ → List ℕ) → Feasible (road I) π ρ → Limits I π ρ → k ≤ cost (road I) π ρ))
  unfolding Le cheapest
  cheapest_mapping k = (
    λ e.
        let h = least_met (I.s ^ I.r) (λ n. worth I (digit I.s n)) k e in
        let m = (worth_mapping (digit I.s h.0) k).0 (h.2 ∙ e) in
        ((digit I.s h.0, m.0, m.1, m.2, m.3), λ π ρ F L. subst (λ (x : Cost). Le x (some (cost (road I) π ρ))) e (bound π ρ F L)),
    λ h. Le-antisym (cheapest I) (some k)
        (subst (λ (n : ℕ). Le (cheapest I) (some n)) h.0.4 (bound h.0.0 h.0.1 h.0.2 h.0.3))
        (cheapest_high (some k) (λ π p. go π h.1 (worth I π) refl)),
  )
    where
      go : (π : ℕ → ℕ) → ((π : ℕ → ℕ) (ρ : ℕ → List ℕ) → Feasible (road I) π ρ → Limits I π ρ → k ≤ cost (road I) π ρ) → (y : Cost) → worth I π ≡ y → Le (some k) y
      go π h none e = tt
      go π h (some n) e = let m = (worth_mapping π n).0 e in omega (arith, h π m.0 m.1 m.2, m.3)

  -- no plan is valid exactly when no mapping is feasible
  pub cheapest_none : (cheapest I ≡ none) ↔ ((π : ℕ → ℕ) (ρ : ℕ → List ℕ) → Feasible (road I) π ρ → Limits I π ρ → ⊥)
  unfolding Le
  cheapest_none = (
    λ e π ρ F L. subst (λ (x : Cost). Le x (some (cost (road I) π ρ))) e (bound π ρ F L),
    λ h. Le-antisym (cheapest I) none tt (cheapest_high none (λ π p. go π h (worth I π) refl)),
  )
    where
      go : (π : ℕ → ℕ) → ((π : ℕ → ℕ) (ρ : ℕ → List ℕ) → Feasible (road I) π ρ → Limits I π ρ → ⊥) → (y : Cost) → worth I π ≡ y → Le none y
      go π h none e = tt
      go π h (some n) e = let m = (worth_mapping π n).0 e in absurd (h π m.0 m.1 m.2)
