-- On a road written twice every mapping that is feasible and keeps the limits goes over from one to the other at the same cost.
use Prim.Native.Nat.{ℕ, ◌+◌, ◌*◌, ◌≤◌, ◌<◌}
use native.Mathlib.Omega.{arith}
use mathlib.Core.Logic.{◌⊎◌, inl, inr}
use mathlib.Core.Path.{◌≡◌, sym, ap, ap₂, ◌∙◌, subst}
use mathlib.Core.List.{List, map}
use lib.Dec.{eqb}
use Rattle.finite.specs.Below.{only, sum_below, sum_over}
use Rattle.finite.proofs.OneToOne.{OneToOne, eqb_over}
use Rattle.finite.proofs.Sums.{sum_ext}
use Rattle.sheet.specs.Instance.{Instance, WellFormed}
use Rattle.embedding.specs.Definition1.{member, SimplePath, node_load, edge_load, Feasible, cost}
use Rattle.embedding.specs.Road.{up, down, lower, edge_price, tree, road}
use Rattle.embedding.specs.Limits.{weight, Limits}
use Rattle.embedding.specs.Rehung.{link, turned, Connects, Rehung}
use Rattle.embedding.proofs.Edges.{which, lower_pos, edge_lower, at_up, at_down, source_up, target_up, source_down, target_down, price_up, price_down, ends_inside}
use Rattle.embedding.proofs.Feasible.{sums_suffice}
use Rattle.embedding.proofs.Reckoning.{weight_same}
use Rattle.embedding.proofs.Carry.{Within, sum_over_map, member_out, member_over, keeps_over, edges_within, simple_over}
use Rattle.embedding.proofs.Steps.{step, room, Leads, leads_same, turn, connected, same_ends}

-- the number of a cabinet over there is one of its cabinets
pub inside : {I J : Instance} {σ : ℕ → ℕ} → Rehung I J σ → (c : ℕ) → c < I.s → σ c < J.s
inside R c k = omega (arith, R.renumbers c k, R.counts.1)

-- the parent of a cabinet is a cabinet
pub parent_inside : {I : Instance} → WellFormed I → (c : ℕ) → 0 < c → c < I.s → I.parent c < I.s
parent_inside W c z k = omega (arith, W.parents c z)

module _ (I : Instance) (σ : ℕ → ℕ) where
  -- the edge over there
  unfoldable pub edge_over : ℕ → ℕ
  edge_over e = step (σ ((tree I).source e)) (σ ((tree I).target e))

  -- the services go where their cabinets went
  abbrev pub plan_over : (ℕ → ℕ) → ℕ → ℕ
  plan_over π i = σ (π i)

  -- the streams run along the edges over there
  abbrev pub routes_over : (ℕ → List ℕ) → ℕ → List ℕ
  routes_over ρ j = map edge_over (ρ j)

module _ (I J : Instance) (W : WellFormed I) (X : WellFormed J) (σ : ℕ → ℕ) (R : Rehung I J σ) where
  -- ---- edges go over with their ends, capacity and price

  -- what an edge of I is over there
  abbrev Over : ℕ → Type 0
  Over e = Leads J (edge_over I σ e) (σ ((tree I).source e)) (σ ((tree I).target e)) (room I e) (edge_price I e)

  -- every edge is that
  pub over : (e : ℕ) → e < (tree I).edges → Over e
  unfolding edge_over
  over e k = go (which e)
    where
      z : 0 < lower e
      z = lower_pos e

      l : lower e < I.s
      l = edge_lower I e k

      p : I.parent (lower e) < I.s
      p = parent_inside W (lower e) z l

      connects : Connects J (link I (lower e)) (σ (lower e)) (σ (I.parent (lower e)))
      connects = R.links (lower e) z l

      go : (e ≡ up (lower e)) ⊎ (e ≡ down (lower e)) → Over e
      go (inl q) = subst Over (sym q) (leads_same J (ap σ (sym (source_up I (lower e) z))) (ap σ (sym (target_up I (lower e) z)))
          (sym (at_up I I.up_capacity I.down_capacity (lower e) z)) (sym (price_up I (lower e) z))
          (connected J X (link I (lower e)) (σ (lower e)) (σ (I.parent (lower e))) connects (inside R (lower e) l) (inside R (I.parent (lower e)) p)))
      go (inr q) = subst Over (sym q) (leads_same J (ap σ (sym (source_down I (lower e) z))) (ap σ (sym (target_down I (lower e) z)))
          (sym (at_down I I.up_capacity I.down_capacity (lower e) z)) (sym (price_down I (lower e) z))
          (connected J X (turned (link I (lower e))) (σ (I.parent (lower e))) (σ (lower e)) (turn J connects) (inside R (I.parent (lower e)) p) (inside R (lower e) l)))

  -- two edges go over to two
  pub edge_one : OneToOne (tree I).edges (edge_over I σ)
  edge_one e f k l q =
      let x = over e k in
      let y = over f l in
      same_ends I W e f
      (R.one_to_one _ _ (ends_inside I W e k).0 (ends_inside I W f l).0 (sym x.source ∙ ap (tree J).source q ∙ y.source))
      (R.one_to_one _ _ (ends_inside I W e k).1 (ends_inside I W f l).1 (sym x.target ∙ ap (tree J).target q ∙ y.target))

  -- ---- a mapping goes over

  module _ (π : ℕ → ℕ) (ρ : ℕ → List ℕ) (F : Feasible (road I) π ρ) where
    -- the paths run along edges of I
    within : (j : ℕ) → j < I.q → Within (tree I).edges (ρ j)
    within j k = edges_within (tree I) _ _ (ρ j) (F.valid.paths j k).walk

    -- and simple ones go over to simple ones
    paths_over : (j : ℕ) → j < I.q → SimplePath (tree J) (σ (π (J.from j))) (routes_over I σ ρ j) (σ (π (J.to j)))
    paths_over j k =
        rw ((R.streams j k).0, (R.streams j k).1)
        (simple_over (tree I) (tree J) σ (edge_over I σ) (ends_inside I W) (λ e l. ((over e l).edge, (over e l).source, (over e l).target)) R.one_to_one
        (π (I.from j)) (π (I.to j)) (ρ j) (F.valid.placed (I.from j) (W.from_service j k)) (F.valid.paths j k))

    -- whatever the streams weigh, edges that keep their capacity here keep it there
    edges_keep_over : (w w' : ℕ → ℕ) → ((j : ℕ) → j < I.q → w' j ≡ w j) →
        ((e : ℕ) → e < (tree I).edges → sum_below I.q (λ j. only (member e (ρ j)) (w j)) ≤ room I e) →
        (e : ℕ) → sum_below J.q (λ j. only (member e (routes_over I σ ρ j)) (w' j)) ≤ room J e
    edges_keep_over w w' same keeps =
        keeps_over (tree I).edges (edge_over I σ) I.q J.q (λ e j. member e (ρ j)) (λ e j. member e (routes_over I σ ρ j)) w w' (room I) (room J)
        R.counts.2 same (λ e k. (over e k).capacity_is)
        (λ e k j l. member_over (tree I).edges (edge_over I σ) edge_one e k (ρ j) (within j l))
        (λ v h j l. member_out (tree I).edges (edge_over I σ) v h (ρ j) (within j l))
        keeps

    -- so do cabinets
    nodes_keep_over : (t : ℕ) → t < 1 → (v : ℕ) → sum_below J.r (λ i. only (eqb (σ (π i)) v) (J.demand i)) ≤ J.capacity v
    unfolding node_load
    nodes_keep_over t h =
        keeps_over I.s σ I.r J.r (λ c i. eqb (π i) c) (λ c i. eqb (σ (π i)) c) I.demand J.demand I.capacity J.capacity
        R.counts.0 R.services (λ c k. (R.cabinets c k).0)
        (λ c k i l. eqb_over I.s σ R.one_to_one (π i) c (F.valid.placed i l) k)
        (λ v out i l. out (π i) (F.valid.placed i l))
        (λ c k. F.nodes_keep c k t h)

    -- it is feasible there
    pub feasible_over : Feasible (road J) (plan_over I σ π) (routes_over I σ ρ)
    unfolding node_load edge_load
    feasible_over =
        sums_suffice (road J) (plan_over I σ π) (routes_over I σ ρ)
        (λ i k. inside R (π i) (F.valid.placed i (omega (arith, R.counts.0))))
        (λ j k. paths_over j (omega (arith, R.counts.2)))
        (λ v k t h. nodes_keep_over t h v)
        (λ e k t h. edges_keep_over I.load J.load (λ j l. (R.streams j l).2) (λ e l. F.edges_keep e l t h) e)

    -- keeps the limits there
    pub limits_over : Limits I π ρ → Limits J (plan_over I σ π) (routes_over I σ ρ)
    limits_over L = record {
      bars = λ i k. let l : i < I.r = omega (arith, R.counts.0) in R.bars i (π i) l (F.valid.placed i l) ∙ L.bars i l;
      joints = λ i k. let l : i < I.r = omega (arith, R.counts.0) in R.joints (π i) (F.valid.placed i l) ∙ L.joints i l;
      framing = λ e k. edges_keep_over (weight I) (weight J) (λ j l. weight_same I J j (R.streams j l).2) L.framing e;
    }

    -- and costs the same
    pub cost_over : cost (road J) (plan_over I σ π) (routes_over I σ ρ) ≡ cost (road I) π ρ
    unfolding cost
    cost_over =
        ap₂ (λ (x y : ℕ). x + y)
        (ap (λ (n : ℕ). sum_below n (λ i. sum_below 1 (λ t. J.demand i * J.price (σ (π i))))) R.counts.0
        ∙ sum_ext I.r _ _ (λ i k. ap₂ (λ (x y : ℕ). sum_below 1 (λ t. x * y)) (R.services i k) (R.cabinets (π i) (F.valid.placed i k)).1))
        (ap (λ (n : ℕ). sum_below n (λ j. sum_over (λ e. sum_below 1 (λ t. J.load j * edge_price J e)) (routes_over I σ ρ j))) R.counts.2
        ∙ sum_ext I.q _ _ (λ j k.
        sum_over_map (tree I).edges (edge_over I σ) (λ e. sum_below 1 (λ t. J.load j * edge_price J e)) (λ e. sum_below 1 (λ t. I.load j * edge_price I e))
        (λ e l. ap₂ (λ (x y : ℕ). sum_below 1 (λ t. x * y)) (R.streams j k).2 (over e l).price_is) (ρ j) (within j k)))
