-- The tests of a plan's places and of the cabinets' room, and the cabinets' part of the cost.
use Prim.Native.Nat.{ℕ, zero, suc, ◌+◌, ◌*◌, ◌^◌, ◌≤◌, ◌<◌}
use native.Mathlib.Omega.{arith}
use mathlib.Core.Path.{◌≡◌, refl, sym, ap, ◌∙◌}
use mathlib.Core.Bool.{Bool, true, ◌&&◌, and-true, and_assoc}
use mathlib.Core.List.{List, [], ◌∷◌}
use lib.Dec.{eqb, leb}
use lib.ListN.{length}
use Rattle.std.specs.List.{list_all}
use Rattle.finite.specs.Below.{only, sum_below, all_below}
use Rattle.finite.proofs.Sums.{sum_next, sum_part}
use Rattle.sheet.specs.Instance.{Instance, WellFormed}
use Rattle.embedding.specs.Plan.{place, demand_of, in_range, cabinets_cost, plan_cost}
use Rattle.embedding.proofs.Reckoning.{demand_sum, cabinets_cost_sum}
use Rattle.embedding.proofs.Bound.{demand_le}
use Rattle.embedding.proofs.Theorems.{cost_bound}

-- a test of the numbers below n + 1 asks first of 0
first_of : (n : ℕ) (p : ℕ → Bool) → all_below (suc n) p ≡ (p 0 && all_below n (λ i. p (suc i)))
unfolding all_below
first_of zero p = sym (and-true (p 0))
first_of (suc n) p = ap (λ (b : Bool). b && p (suc n)) (first_of n p) ∙ and_assoc (p 0) (all_below n (λ i. p (suc i))) (p (suc n))

-- a test of all places of a plan, in their order
pub all_of_places : (p : ℕ → Bool) (plan : List ℕ) → list_all p plan ≡ all_below (length plan) (λ i. p (place plan i))
unfolding all_below
all_of_places p [] = refl
all_of_places p (k ∷ plan) =
    ap (λ (b : Bool). p k && b) (all_of_places p plan) ∙ sym (first_of (length plan) (λ i. p (place (k ∷ plan) i)))

module _ (I : Instance) (π : ℕ → ℕ) where
  -- the demand that the plan puts on c
  abbrev pub placed : ℕ → ℕ
  placed c = demand_of I (λ i. eqb (π i) c)

  -- c is not overfull
  abbrev pub kept : ℕ → Bool
  kept c = leb (placed c) (I.capacity c)

  -- what service i puts on c
  abbrev pub put_on : ℕ → ℕ → ℕ
  put_on c i = only (eqb (π i) c) (I.demand i)

  -- what the first n services cost
  abbrev pub charged : ℕ → ℕ
  charged n = sum_below n (λ i. I.demand i * I.price (π i))

  -- one more service
  pub charged_next : (n : ℕ) → charged n + I.demand n * I.price (π n) ≡ charged (n + 1)
  charged_next n = sym (sum_next n (λ i. I.demand i * I.price (π i)))

  -- all services
  pub charged_all : (n : ℕ) → n ≤ I.r → I.r ≤ n → charged n ≡ cabinets_cost I π
  charged_all n h k = ap charged (let e : n ≡ I.r = omega arith in e) ∙ sym (cabinets_cost_sum I π)

  module _ (W : WellFormed I) where
    -- the demand that the plan puts on c, of the first n services
    pub placed_le : (c n : ℕ) → n ≤ I.r → sum_below n (put_on c) ≤ 100000
    placed_le c n h = omega (arith, demand_le I W (λ i. eqb (π i) c), demand_sum I (λ i. eqb (π i) c), sum_part n I.r (put_on c) h)

    -- what the first n services cost
    pub charged_low : in_range I π ≡ true → (n : ℕ) → n ≤ I.r → charged n < 10 ^ 15
    unfolding plan_cost
    charged_low range n h =
        omega (arith, cost_bound I W π range, cabinets_cost_sum I π, sum_part n I.r (λ i. I.demand i * I.price (π i)) h)
