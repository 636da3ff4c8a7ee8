-- Laws of costs that hang on tests.
use Rattle.std.proofs.Common.{◌≡◌, ℕ, zero, suc, ◌+◌, ◌<◌, Bool, true, false, ◌&&◌, ◌↔◌, sym, refl, ap, ◌∙◌, ap₂, arith}
use Rattle.finite.specs.Below.{◌⇒◌, only, sum_below, all_below}
use Rattle.finite.proofs.Booleans.{clash}
use Rattle.subsets.specs.Costs.{Cost, some, provided}
use Rattle.subsets.specs.Inner.Totals.{◌⊕◌, total_below, charged}

-- two costs that hang on tests, added
pub provided_add : (a b : Bool) (x y : ℕ) → provided a x ⊕ provided b y ≡ provided (a && b) (x + y)
unfolding provided ◌⊕◌
provided_add true true x y = refl
provided_add true false x y = refl
provided_add false b x y = refl

-- a charge that hangs on a test
pub charged_provided : (t b : Bool) (x : ℕ) → charged t (provided b x) ≡ provided (t ⇒ b) (only t x)
unfolding provided charged only ◌⇒◌
charged_provided true b x = refl
charged_provided false b x = refl

-- a sum of costs that hang on tests
pub total_provided : (n : ℕ) (f : ℕ → Cost) (t : ℕ → Bool) (v : ℕ → ℕ) → ((c : ℕ) → c < n → f c ≡ provided (t c) (v c))
    → total_below n f ≡ provided (all_below n t) (sum_below n v)
unfolding total_below all_below sum_below provided
total_provided zero f t v h = refl
total_provided (suc n) f t v h =
    ap₂ ◌⊕◌ (total_provided n f t v (λ c k. h c (omega arith))) (h n (omega arith)) ∙ provided_add (all_below n t) (t n) (sum_below n v) (v n)

-- a cost that hangs on a test is k exactly when the test passes and the number is k
pub provided_some : (b : Bool) (n k : ℕ) → (provided b n ≡ some k) ↔ ((b ≡ true) × (n ≡ k))
unfolding provided
provided_some true n k = (λ e. (refl, (cc)), λ e. ap some e.1)
provided_some false n k = (λ e. absurd (let z : ◌≡◌ {A = ℕ} 0 1 = cc in omega arith), λ e. clash (sym e.0))
