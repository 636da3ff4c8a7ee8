-- Everything about a plan or a set depends only on the services below r.
use Prim.Native.Nat.{ℕ, ◌+◌, ◌*◌, ◌<◌}
use mathlib.Core.Path.{◌≡◌, ap, ap₂}
use mathlib.Core.Bool.{Bool, ◌&&◌, not}
use lib.Dec.{eqb, ltb, leb}
use Rattle.finite.specs.Below.{◌⇒◌, only, sum_over}
use Rattle.finite.proofs.Sums.{sum_ext}
use Rattle.finite.proofs.Tests.{all_ext}
use Rattle.subsets.specs.Tree.{under}
use Rattle.subsets.specs.Costs.{provided}
use Rattle.sheet.specs.Instance.{Instance, WellFormed}
use Rattle.embedding.specs.Definition1.{member}
use Rattle.embedding.specs.Road.{up, down, edge_price}
use Rattle.embedding.specs.Limits.{weight}
use Rattle.embedding.specs.Plan.{path, routes, demand_of, fits, unbarred, powered, admits, link_fits, fee, toll, carried, link_keeps, in_range, bars_keep, rooms_keep, joints_keep, cabinets_keep, links_keep, valid, cabinets_cost, links_cost, plan_cost, worth}
use Rattle.embedding.specs.Inner.Charge.{leaving, entering}
use Rattle.embedding.proofs.Loads.{link_cost}

module _ (I : Instance) (W : WellFormed I) where
  -- ---- sets of services
  module _ (x y : ℕ → Bool) (same : (i : ℕ) → i < I.r → x i ≡ y i) where
    -- what a set demands
    demand_ext : demand_of I x ≡ demand_of I y
    unfolding demand_of
    demand_ext = sum_ext I.r _ _ (λ i k. ap (λ (t : Bool). only t (I.demand i)) (same i k))

    -- what a cabinet has room for
    pub fits_ext : (c : ℕ) → fits I c x ≡ fits I c y
    unfolding fits
    fits_ext c = ap (λ (n : ℕ). leb n (I.capacity c)) demand_ext

    -- which services are barred from a cabinet
    unbarred_ext : (c : ℕ) → unbarred I c x ≡ unbarred I c y
    unfolding unbarred
    unbarred_ext c = all_ext I.r _ _ (λ i k. ap (λ (t : Bool). t ⇒ not (I.barred i c)) (same i k))

    -- which services a cabinet has power for
    powered_ext : (c : ℕ) → powered I c x ≡ powered I c y
    unfolding powered
    powered_ext c = all_ext I.r _ _ (λ i k. ap (λ (t : Bool). t ⇒ not (I.joint c)) (same i k))

    -- what a cabinet admits
    pub admits_ext : (c : ℕ) → admits I c x ≡ admits I c y
    unfolding admits
    admits_ext c = ap₂ ◌&&◌ (ap₂ ◌&&◌ (fits_ext c) (powered_ext c)) (unbarred_ext c)

    -- what leaves a set
    pub leaving_ext : (f : ℕ → ℕ) → leaving I f x ≡ leaving I f y
    unfolding leaving
    leaving_ext f = sum_ext I.q _ _ (λ j k. ap₂ (λ (s t : Bool). only (s && not t) (f j)) (same _ (W.from_service j k)) (same _ (W.to_service j k)))

    -- what enters a set
    pub entering_ext : (f : ℕ → ℕ) → entering I f x ≡ entering I f y
    unfolding entering
    entering_ext f = sum_ext I.q _ _ (λ j k. ap₂ (λ (s t : Bool). only (s && not t) (f j)) (same _ (W.to_service j k)) (same _ (W.from_service j k)))

  -- ---- plans
  module _ (π σ : ℕ → ℕ) (same : (i : ℕ) → i < I.r → π i ≡ σ i) where
    routes_ext : (j : ℕ) → j < I.q → routes I π j ≡ routes I σ j
    unfolding routes
    routes_ext j k = ap₂ (path I) (same (I.from j) (W.from_service j k)) (same (I.to j) (W.to_service j k))

    carried_ext : (e : ℕ) → carried I π e ≡ carried I σ e
    unfolding carried
    carried_ext e = sum_ext I.q _ _ (λ j k. ap (λ l. only (member e l) (weight I j)) (routes_ext j k))

    -- the test of a link
    pub link_keeps_ext : (c : ℕ) → link_keeps I π c ≡ link_keeps I σ c
    unfolding link_keeps
    link_keeps_ext c = ap₂ (link_fits I c) (carried_ext (up c)) (carried_ext (down c))

    -- what a link costs
    pub link_cost_ext : (c : ℕ) → link_cost I π c ≡ link_cost I σ c
    link_cost_ext c =
        ap₂ (toll I c)
        (leaving_ext (λ i. under I.parent c (π i)) (λ i. under I.parent c (σ i)) (λ i k. ap (under I.parent c) (same i k)) I.load)
        (entering_ext (λ i. under I.parent c (π i)) (λ i. under I.parent c (σ i)) (λ i k. ap (under I.parent c) (same i k)) I.load)

    cabinets_keep_ext : cabinets_keep I π ≡ cabinets_keep I σ
    unfolding cabinets_keep rooms_keep joints_keep
    cabinets_keep_ext =
        ap₂ ◌&&◌
        (all_ext I.s _ _ (λ c k. fits_ext (λ i. eqb (π i) c) (λ i. eqb (σ i) c) (λ i k. ap (λ (z : ℕ). eqb z c) (same i k)) c))
        (all_ext I.r _ _ (λ i k. ap (λ (z : ℕ). not (I.joint z)) (same i k)))

    valid_ext : valid I π ≡ valid I σ
    unfolding valid in_range bars_keep links_keep
    valid_ext =
        ap₂ ◌&&◌ (all_ext I.r _ _ (λ i k. ap (λ (z : ℕ). ltb z I.s) (same i k)))
        (ap₂ ◌&&◌ (all_ext I.r _ _ (λ i k. ap (λ (z : ℕ). not (I.barred i z)) (same i k)))
        (ap₂ ◌&&◌ cabinets_keep_ext
        (all_ext I.s _ _ (λ c k. ap (λ (t : Bool). ltb 0 c ⇒ t) (link_keeps_ext c)))))

    plan_cost_ext : plan_cost I π ≡ plan_cost I σ
    unfolding plan_cost cabinets_cost links_cost
    plan_cost_ext =
        ap₂ ◌+◌ (sum_ext I.r _ _ (λ i k. ap (λ (c : ℕ). fee I c i) (same i k)))
        (sum_ext I.q _ _ (λ j k. ap (sum_over (λ e. I.load j * edge_price I e)) (routes_ext j k)))

    -- the cost of a plan if it is valid
    pub worth_ext : worth I π ≡ worth I σ
    unfolding worth
    worth_ext = ap₂ provided valid_ext plan_cost_ext
