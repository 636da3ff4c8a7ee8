-- A plan is valid at a cost exactly when some mapping over it is feasible by Definition 1, keeps the limits, and has that cost.
use Prim.Native.Nat.{ℕ, ◌+◌, ◌*◌, ◌≤◌, ◌<◌}
use native.Mathlib.Nat.{zero-add}
use native.Mathlib.Omega.{arith}
use mathlib.Core.Logic.{◌↔◌, ◌⊎◌, inl, inr}
use mathlib.Core.Path.{◌≡◌, refl, sym, ap, ap₂, ◌∙◌, subst}
use mathlib.Core.Bool.{Bool, true, false, not}
use mathlib.Core.List.{List}
use lib.Dec.{eqb, ltb, leb}
use borrow.Author.Tests.{ltb-true, leb-true, lt-ltb, le-leb, not-true}
use Rattle.finite.specs.Below.{◌⇒◌, only, sum_below, all_below, sum_over}
use Rattle.finite.proofs.Booleans.{both, both_l, both_r, implies, implied}
use Rattle.finite.proofs.Sums.{sum_ext, sum_mono, sum_over_ext}
use Rattle.finite.proofs.Tests.{all_in, all_at}
use Rattle.sheet.specs.Instance.{Instance, WellFormed}
use Rattle.embedding.specs.Definition1.{member, SimplePath, node_load, edge_load, Feasible, cost}
use Rattle.embedding.specs.Limits.{weight, Limits}
use Rattle.embedding.specs.Road.{up, down, lower, by_way, edge_price, tree, road}
use Rattle.embedding.specs.Plan.{routes, demand_of, carried, link_keeps, in_range, bars_keep, rooms_keep, joints_keep, cabinets_keep, links_keep, valid, links_cost, plan_cost}
use Rattle.embedding.proofs.Edges.{which, lower_pos, edge_lower, up_edge, down_edge, at_up, at_down}
use Rattle.embedding.proofs.Paths.{path_simple, path_only}
use Rattle.embedding.proofs.Feasible.{sums_suffice}
use Rattle.embedding.proofs.Reckoning.{demand_sum, rooms_by_demand, cabinets_cost_sum, link_fits_by_capacity, load_le_weight}

-- every service has a cabinet of the road
abbrev pub InRange : Instance → (ℕ → ℕ) → Type 0
InRange I π = (i : ℕ) → i < I.r → π i < I.s

-- what validity tests beyond Definition 1, and the limits must give: the test of the bars, that of the links, where framing counts, and that of the joints
unfoldable pub Beyond : Instance → (ℕ → ℕ) → Type 0
Beyond I π = (bars_keep I π ≡ true) × (links_keep I π ≡ true) × (joints_keep I π ≡ true)

module _ (I : Instance) where
  -- ---- the tests of a plan, as facts

  -- the test of the range is that every service has a cabinet of the road
  pub range_test : (π : ℕ → ℕ) → (in_range I π ≡ true) ↔ InRange I π
  unfolding in_range
  range_test π = (
    λ h i k. ltb-true (π i) I.s (all_at I.r (λ i. ltb (π i) I.s) h i k),
    λ p. all_in I.r (λ i. ltb (π i) I.s) (λ i k. lt-ltb (π i) I.s (p i k)),
  )

  -- a test of every service that none is wrong
  none_wrong : (wrong : ℕ → Bool) → (all_below I.r (λ i. not (wrong i)) ≡ true) ↔ ((i : ℕ) → i < I.r → wrong i ≡ false)
  none_wrong wrong = (
    λ h i k. not-true (wrong i) (all_at I.r (λ i. not (wrong i)) h i k),
    λ p. all_in I.r (λ i. not (wrong i)) (λ i k. ap not (p i k)),
  )

  -- the test of the bars is that no service is barred from its cabinet
  pub bars_test : (π : ℕ → ℕ) → (bars_keep I π ≡ true) ↔ ((i : ℕ) → i < I.r → I.barred i (π i) ≡ false)
  unfolding bars_keep
  bars_test π = none_wrong (λ i. I.barred i (π i))

  -- the test of the joints is that no service is on one
  pub joints_test : (π : ℕ → ℕ) → (joints_keep I π ≡ true) ↔ ((i : ℕ) → i < I.r → I.joint (π i) ≡ false)
  unfolding joints_keep
  joints_test π = none_wrong (λ i. I.joint (π i))

  -- the test of the cabinets' room is the demand on each of them
  pub rooms_test : (π : ℕ → ℕ) → (rooms_keep I π ≡ true) ↔ ((c : ℕ) → c < I.s → demand_of I (λ i. eqb (π i) c) ≤ I.capacity c)
  rooms_test π = (
    λ h c k. leb-true _ _ (all_at I.s _ (sym (rooms_by_demand I π) ∙ h) c k),
    λ p. rooms_by_demand I π ∙ all_in I.s _ (λ c k. le-leb _ _ (p c k)),
  )

  -- the test of the links is the load of each of their directions
  pub links_test : (π : ℕ → ℕ) → (links_keep I π ≡ true)
      ↔ ((c : ℕ) → 0 < c → c < I.s → (carried I π (up c) ≤ I.up_capacity c) × (carried I π (down c) ≤ I.down_capacity c))
  unfolding links_keep link_keeps
  links_test π = (
    λ h c z k.
        let t = sym (link_fits_by_capacity I c (carried I π (up c)) (carried I π (down c)))
        ∙ implied (ltb 0 c) (link_keeps I π c) (all_at I.s (λ c. ltb 0 c ⇒ link_keeps I π c) h c k) (lt-ltb 0 c z) in
        (leb-true _ _ (both_l (leb (carried I π (up c)) (I.up_capacity c)) _ t), leb-true _ _ (both_r (leb (carried I π (up c)) (I.up_capacity c)) _ t)),
    λ p. all_in I.s (λ c. ltb 0 c ⇒ link_keeps I π c) (λ c k. implies (ltb 0 c) (link_keeps I π c) (λ z.
        link_fits_by_capacity I c (carried I π (up c)) (carried I π (down c))
        ∙ both _ _ (le-leb _ _ (p c (ltb-true 0 c z) k).0) (le-leb _ _ (p c (ltb-true 0 c z) k).1))),
  )

  -- which is that of each edge
  pub edges_test : (π : ℕ → ℕ) → (links_keep I π ≡ true) ↔ ((e : ℕ) → e < (tree I).edges → carried I π e ≤ (road I).edge_capacity e 0)
  edges_test π = (
    λ h e k. go e (edge_lower I e k) ((links_test π).0 h) (which e),
    λ p. (links_test π).1 (λ c z k. (
      omega (arith, p (up c) (up_edge I c z k), at_up I I.up_capacity I.down_capacity c z),
      omega (arith, p (down c) (down_edge I c z k), at_down I I.up_capacity I.down_capacity c z),
    )),
  )
    where
      Kept : ℕ → Type 0
      Kept e = carried I π e ≤ by_way e (I.up_capacity (lower e)) (I.down_capacity (lower e))

      go : (e : ℕ) → lower e < I.s
          → ((c : ℕ) → 0 < c → c < I.s → (carried I π (up c) ≤ I.up_capacity c) × (carried I π (down c) ≤ I.down_capacity c))
          → (e ≡ up (lower e)) ⊎ (e ≡ down (lower e)) → Kept e
      go e k l (inl q) = subst Kept (sym q) (omega (arith, (l (lower e) (lower_pos e) k).0, at_up I I.up_capacity I.down_capacity (lower e) (lower_pos e)))
      go e k l (inr q) = subst Kept (sym q) (omega (arith, (l (lower e) (lower_pos e) k).1, at_down I I.up_capacity I.down_capacity (lower e) (lower_pos e)))

  -- a plan is valid when it passes the tests of Definition 1, and what is tested beyond it
  pub valid_test : (π : ℕ → ℕ) → (valid I π ≡ true) ↔ ((in_range I π ≡ true) × (rooms_keep I π ≡ true) × Beyond I π)
  unfolding valid cabinets_keep Beyond
  valid_test π = (
    λ h.
        let k = both_r (in_range I π) _ h in
        let l = both_r (bars_keep I π) _ k in
        let c = both_l (cabinets_keep I π) (links_keep I π) l in (
          both_l (in_range I π) _ h,
          both_l (rooms_keep I π) (joints_keep I π) c,
          (both_l (bars_keep I π) _ k, both_r (cabinets_keep I π) (links_keep I π) l, both_r (rooms_keep I π) (joints_keep I π) c),
        ),
    λ p. both (in_range I π) _ p.0 (both (bars_keep I π) _ p.2.0
        (both (cabinets_keep I π) (links_keep I π) (both (rooms_keep I π) (joints_keep I π) p.1 p.2.2) p.2.1)),
  )

  -- ---- the sums of Definition 1 at one amount

  sum_1 : (f : ℕ → ℕ) → sum_below 1 f ≡ f 0
  unfolding sum_below
  sum_1 f = zero-add (f 0)

  -- the cost of Definition 1 along the computed paths is the cost of the plan
  pub cost_plan : (π : ℕ → ℕ) (ρ : ℕ → List ℕ) → ((j : ℕ) → j < I.q → ρ j ≡ routes I π j) → cost (road I) π ρ ≡ plan_cost I π
  unfolding cost plan_cost links_cost
  cost_plan π ρ e =
      ap₂ (λ (x y : ℕ). x + y)
      (sum_ext I.r _ _ (λ i k. sum_1 (λ t. I.demand i * I.price (π i))) ∙ sym (cabinets_cost_sum I π))
      (sum_ext I.q _ _ (λ j k.
      sum_over_ext (λ e. sum_below 1 (λ t. I.load j * edge_price I e)) (λ e. I.load j * edge_price I e) (λ e. sum_1 (λ t. I.load j * edge_price I e)) (ρ j)
      ∙ ap (sum_over (λ e. I.load j * edge_price I e)) (e j k)))

  node_load_plan : (π : ℕ → ℕ) (ρ : ℕ → List ℕ) (c t : ℕ) → node_load (road I) π ρ c t ≡ demand_of I (λ i. eqb (π i) c)
  unfolding node_load
  node_load_plan π ρ c t = sym (demand_sum I (λ i. eqb (π i) c))

  -- what the streams take of an edge along the computed paths is what the plan puts there
  weights_plan : (π : ℕ → ℕ) (ρ : ℕ → List ℕ) → ((j : ℕ) → j < I.q → ρ j ≡ routes I π j)
      → (e : ℕ) → sum_below I.q (λ j. only (member e (ρ j)) (weight I j)) ≡ carried I π e
  unfolding carried
  weights_plan π ρ r e = sum_ext I.q _ _ (λ j k. ap (λ (l : List ℕ). only (member e l) (weight I j)) (r j k))

  -- the demand on an edge is at most what the streams take of it
  edge_load_le : (π : ℕ → ℕ) (ρ : ℕ → List ℕ) (e t : ℕ) → edge_load (road I) π ρ e t ≤ sum_below I.q (λ j. only (member e (ρ j)) (weight I j))
  unfolding edge_load only
  edge_load_le π ρ e t = sum_mono I.q _ _ (λ j k. more (member e (ρ j)) j)
    where
      more : (b : Bool) (j : ℕ) → only b (I.load j) ≤ only b (weight I j)
      more true j = load_le_weight I j
      more false j = omega arith

module _ (I : Instance) (W : WellFormed I) where
  -- a mapping leaves no choice of paths
  pub route_only : (π : ℕ → ℕ) (ρ : ℕ → List ℕ) → Feasible (road I) π ρ → (j : ℕ) → j < I.q → ρ j ≡ routes I π j
  unfolding routes
  route_only π ρ F j k =
      path_only I W (π (I.from j)) (π (I.to j)) (F.valid.placed (I.from j) (W.from_service j k)) (F.valid.placed (I.to j) (W.to_service j k))
      (ρ j) (F.valid.paths j k)

  -- the computed paths of a plan are simple paths between the cabinets of its services
  pub route_simple : (π : ℕ → ℕ) → InRange I π → (j : ℕ) → j < I.q → SimplePath (tree I) (π (I.from j)) (routes I π j) (π (I.to j))
  unfolding routes
  route_simple π p j k = path_simple I W (π (I.from j)) (π (I.to j)) (p (I.from j) (W.from_service j k)) (p (I.to j) (W.to_service j k))

  -- ---- the limits: these two laws alone open them

  -- a valid plan keeps the limits along the computed paths
  pub valid_limits : (π : ℕ → ℕ) → valid I π ≡ true → Limits I π (routes I π)
  unfolding Beyond
  valid_limits π v =
      let b = ((valid_test I π).0 v).2 in
      record {
        bars = (bars_test I π).0 b.0;
        joints = (joints_test I π).0 b.2;
        framing = λ e k. omega (arith, weights_plan I π (routes I π) (λ j k. refl) e, (edges_test I π).0 b.1 e k);
      }

  -- a feasible mapping that keeps the limits passes what validity tests beyond Definition 1
  pub limits_beyond : (π : ℕ → ℕ) (ρ : ℕ → List ℕ) → Feasible (road I) π ρ → Limits I π ρ → Beyond I π
  unfolding Beyond
  limits_beyond π ρ F L = (
    (bars_test I π).1 L.bars,
    (edges_test I π).1 (λ e k. omega (arith, weights_plan I π ρ (route_only π ρ F) e, L.framing e k)),
    (joints_test I π).1 L.joints,
  )

  -- ---- validity and feasibility

  feasible_valid : (π : ℕ → ℕ) (ρ : ℕ → List ℕ) → Feasible (road I) π ρ → Limits I π ρ → valid I π ≡ true
  feasible_valid π ρ F L =
      (valid_test I π).1 (
        (range_test I π).1 F.valid.placed,
        (rooms_test I π).1 (λ c k. omega (arith, F.nodes_keep c k 0 (omega arith), node_load_plan I π ρ c 0)),
        limits_beyond π ρ F L,
      )

  -- the demand of the streams is within the capacities, since it is with the framing
  valid_feasible : (π : ℕ → ℕ) → valid I π ≡ true → Feasible (road I) π (routes I π)
  valid_feasible π v =
      let t = (valid_test I π).0 v in
      let p : InRange I π = (range_test I π).0 t.0 in
      sums_suffice (road I) π (routes I π) p (route_simple π p)
      (λ c k n _. omega (arith, (rooms_test I π).0 t.1 c k, node_load_plan I π (routes I π) c n))
      (λ e k n _. omega (arith, edge_load_le I π (routes I π) e n, (valid_limits π v).framing e k))

  -- a plan is valid at cost k exactly when some mapping over it is feasible, keeps the limits, and costs k
  pub plan_iff_mapping : (π : ℕ → ℕ) (k : ℕ) →
      ((valid I π ≡ true) × (plan_cost I π ≡ k))
      ↔ ((ρ : ℕ → List ℕ) × Feasible (road I) π ρ × Limits I π ρ × (cost (road I) π ρ ≡ k))
  plan_iff_mapping π k = (
    λ v. (routes I π, valid_feasible π v.0, valid_limits π v.0, cost_plan I π (routes I π) (λ j k. refl) ∙ v.1),
    λ m. (feasible_valid π m.0 m.1 m.2, sym (cost_plan I π m.0 (route_only π m.0 m.1)) ∙ m.3),
  )
