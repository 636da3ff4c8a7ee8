-- A plan's loads and cost link by link: the streams on a link direction are those that leave, or enter, what is under the link, and the links' cost is the sum of load × price over all link directions.
use Prim.Native.Nat.{ℕ, zero, suc, ◌+◌, ◌-◌, ◌*◌, ◌<◌}
use native.Mathlib.Nat.{zero-mul, one-mul, add-mul, mul_assoc}
use native.Mathlib.Omega.{arith}
use mathlib.Core.Path.{◌≡◌, refl, sym, ap, ap₂, ◌∙◌}
use mathlib.Core.Bool.{Bool, true, false, ◌&&◌}
use mathlib.Core.List.{List, [], ◌∷◌}
use lib.Dec.{eqb, ltb, leb}
use borrow.Author.Tests.{eqb-true, lt-ltb, ltb-true}
use Rattle.finite.specs.Below.{only, sum_below, sum_over}
use Rattle.finite.proofs.Sums.{sum_ext, sum_add, sum_zero, sum_one, sum_mul, sum_swap}
use Rattle.subsets.specs.Tree.{under}
use Rattle.sheet.specs.Instance.{Instance, WellFormed}
use Rattle.embedding.specs.Definition1.{Graph, Walk}
use Rattle.embedding.specs.Road.{up, down, edge_price, tree}
use Rattle.embedding.specs.Limits.{weight}
use Rattle.embedding.specs.Plan.{routes, link_fits, toll, carried, link_keeps, links_cost}
use Rattle.embedding.specs.Inner.Charge.{leaving, entering}
use Rattle.embedding.proofs.Edges.{price_up, price_down}
use Rattle.embedding.proofs.Reckoning.{only_mul, link_fits_by_capacity, toll_by_price}
use Rattle.embedding.proofs.Mappings.{InRange, route_simple}
use Rattle.embedding.proofs.Cut.{times, member_times, leaves, cut}

only_once : (b : Bool) (x : ℕ) → only b 1 * x ≡ only b x
only_once b x = only_mul b 1 x ∙ ap (only b) (one-mul x)

-- a sum over the edges of a walk, by how often each edge of the graph is on it
histogram : (G : Graph) (f : ℕ → ℕ) (l : List ℕ) (a b : ℕ) → Walk G a l b → sum_over f l ≡ sum_below G.edges (λ e. times e l * f e)
unfolding sum_over only
histogram G f [] a b w = sym (sum_zero G.edges (λ e. 0 * f e) (λ e k. zero-mul (f e)))
histogram G f (g ∷ l) a b w =
    ap₂ (λ (x y : ℕ). x + y) (sym (sum_one G.edges g (f g) w.0)) (histogram G f l (G.target g) b w.2)
    ∙ sym (sum_add G.edges (λ e. only (eqb e g) (f g)) (λ e. times e l * f e))
    ∙ sum_ext G.edges _ _ (λ e k. at e (eqb e g) refl)
  where
    at : (e : ℕ) (t : Bool) → eqb e g ≡ t → only (eqb e g) (f g) + times e l * f e ≡ (only (eqb e g) 1 + times e l) * f e
    at e true h = rw h (omega (arith, add-mul 1 (times e l) (f e), ap f (eqb-true e g h)))
    at e false h = rw h (omega (arith, add-mul 0 (times e l) (f e)))

-- a sum over the edges of a road of n + 1 cabinets, by the cabinets
by_cabinets : (n : ℕ) (g : ℕ → ℕ) → sum_below (2 * n) g ≡ sum_below (suc n) (λ c. only (ltb 0 c) (g (up c) + g (down c)))
unfolding sum_below only up down
by_cabinets zero g = refl
by_cabinets (suc n) g =
    ap (λ (m : ℕ). sum_below m g) (let q : 2 * suc n ≡ suc (suc (2 * n)) = omega arith in q)
    ∙ omega (
      arith,
      by_cabinets n g,
      ap g (let q : 2 * (suc n - 1) ≡ 2 * n = omega arith in q),
      ap g (let q : 2 * (suc n - 1) + 1 ≡ suc (2 * n) = omega arith in q),
      ap (λ (t : Bool). only t (g (up (suc n)) + g (down (suc n)))) (lt-ltb 0 (suc n) (omega arith)),
    )

-- what the link above c costs under the plan π: load × price, in each direction
abbrev pub link_cost : Instance → (ℕ → ℕ) → ℕ → ℕ
link_cost I π c = toll I c (leaving I I.load (λ i. under I.parent c (π i))) (entering I I.load (λ i. under I.parent c (π i)))

module _ (I : Instance) (W : WellFormed I) (π : ℕ → ℕ) (placed : InRange I π) where
  cut_at : (c j : ℕ) → 0 < c → j < I.q
      → (times (up c) (routes I π j) ≡ only (leaves I.parent c (π (I.from j)) (π (I.to j))) 1)
      × (times (down c) (routes I π j) ≡ only (leaves I.parent c (π (I.to j)) (π (I.from j))) 1)
  unfolding routes
  cut_at c j z k = cut I W (π (I.from j)) (π (I.to j)) (placed _ (W.from_service j k)) (placed _ (W.to_service j k)) c z

  -- ---- loads

  -- the load of `up c` is the weight of what leaves the services under c
  pub carried_up : (c : ℕ) → 0 < c → carried I π (up c) ≡ leaving I (weight I) (λ i. under I.parent c (π i))
  unfolding carried leaving
  carried_up c z = sum_ext I.q _ _ (λ j k. ap (λ (t : Bool). only t (weight I j)) (member_times (up c) (routes I π j) _ (cut_at c j z k).0))

  -- the load of `down c` is the weight of what enters the services under c
  pub carried_down : (c : ℕ) → 0 < c → carried I π (down c) ≡ entering I (weight I) (λ i. under I.parent c (π i))
  unfolding carried entering
  carried_down c z = sum_ext I.q _ _ (λ j k. ap (λ (t : Bool). only t (weight I j)) (member_times (down c) (routes I π j) _ (cut_at c j z k).1))

  -- the test of a link, by what leaves and enters what is under it
  pub link_keeps_by_cut : (c : ℕ) → 0 < c → link_keeps I π c
      ≡ link_fits I c (leaving I (weight I) (λ i. under I.parent c (π i))) (entering I (weight I) (λ i. under I.parent c (π i)))
  unfolding link_keeps
  link_keeps_by_cut c z = ap₂ (link_fits I c) (carried_up c z) (carried_down c z)

  -- and by the capacities of its directions
  pub link_keeps_by_flows : (c : ℕ) → 0 < c → link_keeps I π c
      ≡ leb (leaving I (weight I) (λ i. under I.parent c (π i))) (I.up_capacity c)
      && leb (entering I (weight I) (λ i. under I.parent c (π i))) (I.down_capacity c)
  link_keeps_by_flows c z = link_keeps_by_cut c z ∙ link_fits_by_capacity I c _ _

  -- ---- cost

  -- the demand of all streams on the edge e
  running : ℕ → ℕ
  running e = sum_below I.q (λ j. times e (routes I π j) * I.load j)

  running_up : (c : ℕ) → 0 < c → running (up c) ≡ leaving I I.load (λ i. under I.parent c (π i))
  unfolding running leaving
  running_up c z = sum_ext I.q _ _ (λ j k. ap (λ (n : ℕ). n * I.load j) (cut_at c j z k).0 ∙ only_once _ (I.load j))

  running_down : (c : ℕ) → 0 < c → running (down c) ≡ entering I I.load (λ i. under I.parent c (π i))
  unfolding running entering
  running_down c z = sum_ext I.q _ _ (λ j k. ap (λ (n : ℕ). n * I.load j) (cut_at c j z k).1 ∙ only_once _ (I.load j))

  by_edges : links_cost I π ≡ sum_below (tree I).edges (λ e. running e * edge_price I e)
  unfolding links_cost running
  by_edges =
      sum_ext I.q _ _ (λ j k. histogram (tree I) (λ e. I.load j * edge_price I e) (routes I π j) _ _ (route_simple I W π placed j k).walk)
      ∙ sum_swap I.q (tree I).edges (λ j e. times e (routes I π j) * (I.load j * edge_price I e))
      ∙ sum_ext (tree I).edges _ _ (λ e k.
      sum_ext I.q _ _ (λ j h. sym (mul_assoc (times e (routes I π j)) (I.load j) (edge_price I e)))
      ∙ sym (sum_mul I.q (λ j. times e (routes I π j) * I.load j) (edge_price I e)))

  cost_at : (c : ℕ) (t : Bool) → ltb 0 c ≡ t → only t (running (up c) * edge_price I (up c) + running (down c) * edge_price I (down c)) ≡ only t (link_cost I π c)
  unfolding only
  cost_at c false h = refl
  cost_at c true h =
      let z : 0 < c = ltb-true 0 c h in
      ap₂ (λ (x y : ℕ). x + y)
      (ap₂ (λ (x y : ℕ). x * y) (running_up c z) (price_up I c z))
      (ap₂ (λ (x y : ℕ). x * y) (running_down c z) (price_down I c z))
      ∙ sym (toll_by_price I c _ _)

  -- the links' part of a plan's cost, link by link
  pub links_cost_by_links : links_cost I π ≡ sum_below I.s (λ c. only (ltb 0 c) (link_cost I π c))
  links_cost_by_links =
      by_edges ∙ by_cabinets (I.s - 1) (λ e. running e * edge_price I e)
      ∙ ap (λ (n : ℕ). sum_below n (λ c. only (ltb 0 c) (running (up c) * edge_price I (up c) + running (down c) * edge_price I (down c))))
      (let q : suc (I.s - 1) ≡ I.s = omega (arith, W.some_cabinet) in q)
      ∙ sum_ext I.s _ _ (λ c k. cost_at c (ltb 0 c) refl)
