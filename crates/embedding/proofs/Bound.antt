-- Every plan's cost, and every charge of a placing, is below 10^15, the largest number that a planner takes for a cost.
use Prim.Native.Nat.{ℕ, ◌*◌, ◌^◌, ◌≤◌, ◌<◌}
use native.Mathlib.Nat.{mul-le-mul, mul-le-mul_right}
use native.Mathlib.Omega.{arith}
use mathlib.Core.Path.{◌≡◌, sym, ◌∙◌}
use mathlib.Core.Bool.{Bool, true, ◌&&◌, not}
use lib.Dec.{ltb}
use Rattle.finite.specs.Below.{only, sum_below}
use Rattle.finite.proofs.Sums.{sum_le, only_le}
use Rattle.subsets.specs.Sets.{has}
use Rattle.subsets.specs.Tree.{under}
use Rattle.subsets.specs.Costs.{some}
use Rattle.subsets.specs.Inner.Net.{charge}
use Rattle.subsets.proofs.Provided.{provided_some}
use Rattle.subsets.proofs.Bound as bounds
use Rattle.sheet.specs.Instance.{Instance, WellFormed}
use Rattle.embedding.specs.Limits.{frames}
use Rattle.embedding.specs.Plan.{demand_of, toll, in_range, cabinets_cost, plan_cost}
use Rattle.embedding.specs.Inner.Charge.{leaving, entering, cabinet_charge, link_charge, net}
use Rattle.embedding.proofs.Reckoning.{demand_sum, cabinets_cost_sum, charge_by_demand, toll_by_price}
use Rattle.embedding.proofs.Mappings.{range_test}
use Rattle.embedding.proofs.Loads.{link_cost, links_cost_by_links}

-- up to k numbers of up to m each
some_of : (n k m : ℕ) (t : ℕ → Bool) (f : ℕ → ℕ) → n ≤ k → ((j : ℕ) → f j ≤ m) → sum_below n (λ j. only (t j) (f j)) ≤ k * m
some_of n k m t f h l =
    omega (arith, sum_le n m (λ j. only (t j) (f j)) (λ j _. omega (arith, only_le (t j) (f j), l j)), mul-le-mul_right m h)

module _ (I : Instance) (W : WellFormed I) where
  -- the demand of a set is at most 100,000
  pub demand_le : (x : ℕ → Bool) → demand_of I x ≤ 10 * 10000
  demand_le x = omega (arith, demand_sum I x, some_of I.r 10 10000 x I.demand W.services W.demands)

  -- a stream has one frame at most
  pub frames_le : (j : ℕ) → frames I j ≤ 1
  unfolding frames
  frames_le j = only_le _ 1

  -- what leaves a set, where f is at most m
  pub leaving_le : (m : ℕ) (f : ℕ → ℕ) → ((j : ℕ) → f j ≤ m) → (x : ℕ → Bool) → leaving I f x ≤ 100 * m
  unfolding leaving
  leaving_le m f h x = some_of I.q 100 m (λ j. x (I.from j) && not (x (I.to j))) f W.streams h

  -- what enters a set, where f is at most m
  pub entering_le : (m : ℕ) (f : ℕ → ℕ) → ((j : ℕ) → f j ≤ m) → (x : ℕ → Bool) → entering I f x ≤ 100 * m
  unfolding entering
  entering_le m f h x = some_of I.q 100 m (λ j. x (I.to j) && not (x (I.from j))) f W.streams h

  -- what a link charges for what leaves and enters a set
  tolls_le : (c : ℕ) (x : ℕ → Bool) → toll I c (leaving I I.load x) (entering I I.load x) ≤ 20000000000
  tolls_le c x = omega (
    arith,
    toll_by_price I c (leaving I I.load x) (entering I I.load x),
    mul-le-mul (leaving_le 10000 I.load W.loads x) (W.up_prices c),
    mul-le-mul (entering_le 10000 I.load W.loads x) (W.down_prices c),
  )

module _ (I : Instance) (W : WellFormed I) (π : ℕ → ℕ) where
  link_cost_le : (c : ℕ) → link_cost I π c ≤ 20000000000
  link_cost_le c = tolls_le I W c (λ i. under I.parent c (π i))

  cabinets_le : cabinets_cost I π ≤ 1000000000
  cabinets_le = omega (arith, W.services, cabinets_cost_sum I π, sum_le I.r 100000000 (λ i. I.demand i * I.price (π i)) (λ i k. mul-le-mul (W.demands i) (W.prices (π i))))

  links_le : sum_below I.s (λ c. only (ltb 0 c) (link_cost I π c)) ≤ 4000000000000
  links_le = omega (
    arith,
    W.cabinets,
    sum_le I.s 20000000000 (λ c. only (ltb 0 c) (link_cost I π c)) (λ c k. omega (arith, only_le (ltb 0 c) (link_cost I π c), link_cost_le c)),
  )

  -- the cost of a plan in range is below 10^15
  pub cost_bound : in_range I π ≡ true → plan_cost I π < 10 ^ 15
  unfolding plan_cost
  cost_bound h = omega (arith, cabinets_le, links_le, links_cost_by_links I W π ((range_test I π).0 h))

module _ (I : Instance) (W : WellFormed I) where
  -- what a cabinet charges for a set
  pub cabinet_charge_le : (c x n : ℕ) → cabinet_charge I c x ≡ some n → n ≤ 1000000000
  cabinet_charge_le c x n e =
      omega (arith, ((provided_some _ _ n).0 (sym (charge_by_demand I c x) ∙ e)).1, mul-le-mul (demand_le I W (has x)) (W.prices c))

  -- what a link charges for a set
  pub link_charge_le : (c x n : ℕ) → link_charge I c x ≡ some n → n ≤ 20000000000
  unfolding link_charge
  link_charge_le c x n e = omega (arith, ((provided_some _ _ n).0 e).1, tolls_le I W c (has x))

  -- the charge of a placing on a part is none or below 10^15
  pub charge_bound : (T : ℕ → Bool) (v x : ℕ) (π : ℕ → ℕ) (n : ℕ) → v < I.s → charge (net I) T v x π ≡ some n → n < 10 ^ 15
  charge_bound T v x π n h e = omega (
    arith,
    W.cabinets,
    bounds.charge_bound (net I) 20000000000 (λ c y k _ _ q. omega (arith, cabinet_charge_le c y k q)) (λ c y k _ _ q. link_charge_le c y k q) T v x n π h e,
  )
