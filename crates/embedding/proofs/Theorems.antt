-- The theorems about the rule, each by its statement alone. A reader needs specs/ and this page.
use Prim.Native.Nat.{ℕ, ◌+◌, ◌*◌, ◌^◌, ◌≤◌, ◌<◌}
use mathlib.Core.Logic.{◌↔◌}
use mathlib.Core.Path.{◌≡◌}
use mathlib.Core.Bool.{Bool, true, ◌&&◌, not}
use mathlib.Core.List.{List}
use lib.Dec.{eqb, ltb}
use Rattle.finite.specs.Below.{only, sum_below, sum_over}
use Rattle.subsets.specs.Inner.Masks.{full}
use Rattle.subsets.specs.Sets.{subset}
use Rattle.subsets.specs.Tree.{under, before}
use Rattle.subsets.specs.Order.{NotAfter}
use Rattle.subsets.specs.Costs.{Cost, none, some, is_some}
use Rattle.subsets.specs.Inner.Net.{charge, Least}
use Rattle.sheet.specs.Instance.{Instance, WellFormed}
use Rattle.embedding.specs.Definition1.{Input, AtMost, member, SimplePath, node_load, edge_load, Feasible, cost}
use Rattle.embedding.specs.Limits.{frames, weight, Limits}
use Rattle.embedding.specs.Road.{up, down, tree, road}
use Rattle.embedding.specs.Plan.{path, routes, toll, carried, in_range, valid, links_cost, plan_cost, cheapest}
use Rattle.embedding.specs.First.{first_plan}
use Rattle.embedding.specs.Splits.{keeps, placeable, weighed}
use Rattle.embedding.specs.Rehung.{Link, Connects, Rehung}
use Rattle.embedding.specs.Inner.Charge.{leaving, entering, net}
use Rattle.embedding.proofs.Feasible as feasible
use Rattle.embedding.proofs.Edges as edges
use Rattle.embedding.proofs.Paths.{path_simple, path_only}
use Rattle.embedding.proofs.Mappings as mappings
use Rattle.embedding.proofs.Mappings.{range_test}
use Rattle.embedding.proofs.Reckoning as reckoning
use Rattle.embedding.proofs.Cut as cuts
use Rattle.embedding.proofs.Loads as loads
use Rattle.embedding.proofs.Bound as bounds
use Rattle.embedding.proofs.Charges as charged
use Rattle.embedding.proofs.Splits as splits
use Rattle.embedding.proofs.Joints as jointed
use Rattle.embedding.proofs.Cheapest as least
use Rattle.embedding.proofs.First as firsts
use Rattle.embedding.proofs.Rehung as rehung
use Rattle.embedding.proofs.Surveys as surveys

-- On any graphs: a mapping along simple paths that keeps both sums keeps every single demand too, so it is feasible.
pub sums_suffice : (P : Input) (m : ℕ → ℕ) (p : ℕ → List ℕ) →
    ((w : ℕ) → w < P.request.nodes → m w < P.substrate.nodes) →
    ((j : ℕ) → j < P.request.edges → SimplePath P.substrate (m (P.request.source j)) (p j) (m (P.request.target j))) →
    ((v : ℕ) → v < P.substrate.nodes → AtMost P.amounts (node_load P m p v) (P.node_capacity v)) →
    ((e : ℕ) → e < P.substrate.edges → AtMost P.amounts (edge_load P m p e) (P.edge_capacity e)) → Feasible P m p
sums_suffice = feasible.sums_suffice

-- On the road of a well-formed sheet:
module _ (I : Instance) (W : WellFormed I) where
  -- The road is a graph: both ends of every edge are cabinets.
  pub graph : (e : ℕ) → e < (tree I).edges → ((tree I).source e < I.s) × ((tree I).target e < I.s)
  graph = edges.ends_inside I W

  -- The computed path is a simple path, and the only one.
  pub unique_path : (a b : ℕ) → a < I.s → b < I.s → (es : List ℕ) → SimplePath (tree I) a es b ↔ (es ≡ path I a b)
  unique_path a b ha hb es = (path_only I W a b ha hb es, λ e. rw e (path_simple I W a b ha hb))

  -- A plan is valid at cost k exactly when some mapping over it is feasible by Definition 1, keeps the limits, and costs k.
  pub plan_iff_mapping : (π : ℕ → ℕ) (k : ℕ) →
      ((valid I π ≡ true) × (plan_cost I π ≡ k))
      ↔ ((ρ : ℕ → List ℕ) × Feasible (road I) π ρ × Limits I π ρ × (cost (road I) π ρ ≡ k))
  plan_iff_mapping = mappings.plan_iff_mapping I W

  -- Such a mapping has no choice of paths.
  pub no_choice : (π : ℕ → ℕ) (ρ : ℕ → List ℕ) → Feasible (road I) π ρ → (j : ℕ) → j < I.q → ρ j ≡ routes I π j
  no_choice = mappings.route_only I W

  -- A path takes the link above c upwards once if it starts under c and ends elsewhere, else never; downwards the other way round.
  pub cut : (a b : ℕ) → a < I.s → b < I.s → (c : ℕ) → 0 < c →
      (sum_over (λ e. only (eqb (up c) e) 1) (path I a b) ≡ only (under I.parent c a && not (under I.parent c b)) 1)
      × (sum_over (λ e. only (eqb (down c) e) 1) (path I a b) ≡ only (under I.parent c b && not (under I.parent c a)) 1)
  cut = cuts.cut I W

  -- So a link direction is on a path exactly when the path leads out of, or into, what is under the link.
  pub cut_member : (a b : ℕ) → a < I.s → b < I.s → (c : ℕ) → 0 < c →
      (member (up c) (path I a b) ≡ under I.parent c a && not (under I.parent c b))
      × (member (down c) (path I a b) ≡ under I.parent c b && not (under I.parent c a))
  cut_member = cuts.cut_member I W

  -- The load of a link direction is the weight of the streams that leave, or enter, what is under the link.
  pub load_by_cut : (π : ℕ → ℕ) → in_range I π ≡ true → (c : ℕ) → 0 < c →
      (carried I π (up c) ≡ sum_below I.q (λ j. only (under I.parent c (π (I.from j)) && not (under I.parent c (π (I.to j)))) (weight I j)))
      × (carried I π (down c) ≡ sum_below I.q (λ j. only (under I.parent c (π (I.to j)) && not (under I.parent c (π (I.from j)))) (weight I j)))
  unfolding leaving entering
  load_by_cut π h c z = (loads.carried_up I W π ((range_test I π).0 h) c z, loads.carried_down I W π ((range_test I π).0 h) c z)

  -- The load of a link direction is the demand of the streams whose path has it, and 2 for each of them whose demand is above 0.
  pub framed_edge : (π : ℕ → ℕ) (e : ℕ) → carried I π e
      ≡ sum_below I.q (λ j. only (member e (routes I π j)) (I.load j))
      + 2 * sum_below I.q (λ j. only (member e (routes I π j) && ltb 0 (I.load j)) 1)
  framed_edge = reckoning.carried_framed I

  -- What a set of services takes of a link's capacity: the demand that leaves, or enters, the set, and 2 for each such stream of demand above 0.
  pub framed_load : (x : ℕ → Bool) →
      (leaving I (weight I) x ≡ leaving I I.load x + 2 * leaving I (frames I) x)
      × (entering I (weight I) x ≡ entering I I.load x + 2 * entering I (frames I) x)
  framed_load x = (reckoning.leaving_weight I x, reckoning.entering_weight I x)

  -- The links' part of the cost, link by link: the demand that leaves what is under the link, times the up price, and what enters it, times the down price.
  pub cost_by_links : (π : ℕ → ℕ) → in_range I π ≡ true →
      links_cost I π ≡ sum_below I.s (λ c. only (ltb 0 c)
      (leaving I I.load (λ i. under I.parent c (π i)) * I.up_price c + entering I I.load (λ i. under I.parent c (π i)) * I.down_price c))
  unfolding toll
  cost_by_links π h = loads.links_cost_by_links I W π ((range_test I π).0 h)

  -- No plan's cost reaches 10^15.
  pub cost_bound : (π : ℕ → ℕ) → in_range I π ≡ true → plan_cost I π < 10 ^ 15
  cost_bound = bounds.cost_bound I W

  -- No charge of a placing on a part of the tree reaches it either.
  pub charge_bound : (T : ℕ → Bool) (v x : ℕ) (π : ℕ → ℕ) (n : ℕ) → v < I.s → charge (net I) T v x π ≡ some n → n < 10 ^ 15
  charge_bound = bounds.charge_bound I W

  -- The charges of all cabinets and links sum to k exactly when the plan is valid at cost k.
  pub charges : (π : ℕ → ℕ) → in_range I π ≡ true → (k : ℕ) →
      (charge (net I) (λ d. true) 0 (full I.r) π ≡ some k) ↔ ((valid I π ≡ true) × (plan_cost I π ≡ k))
  charges π h = charged.charges_iff I W π ((range_test I π).0 h)

  -- A set can be placed on the part before c exactly when some placing of it there, of any kind, uses no barred pair and no joint and keeps the capacities.
  pub placeable_iff : (c a : ℕ) → 0 < c → c < I.s → (placeable I c a ≡ true) ↔ ((π : ℕ → ℕ) × (keeps I (before I.parent c) (I.parent c) a π ≡ true))
  placeable_iff = splits.placeable_iff I W

  -- The empty set can always be placed, also where there are joints only.
  pub empty_placeable : (c : ℕ) → placeable I c 0 ≡ true
  empty_placeable = jointed.empty_placeable I W

  -- A set can be placed exactly when the least charge there is a cost.
  pub placeable_least : (c a : ℕ) (f : Cost) → 0 < c → c < I.s → Least (net I) (before I.parent c) (I.parent c) a f → placeable I c a ≡ is_some f
  placeable_least = splits.placeable_least I W

  -- So the count of splits is the count of the costs among the least charges.
  pub weighed_rows : (F : ℕ → ℕ → Cost) → ((c a : ℕ) → 0 < c → c < I.s → a < 2 ^ I.r → Least (net I) (before I.parent c) (I.parent c) a (F c a)) →
      weighed I ≡ sum_below I.s (λ c. only (ltb 0 c)
      (sum_below (2 ^ I.r) (λ x. sum_below (2 ^ I.r) (λ a. only (subset I.r a x && is_some (F c a)) 1))))
  weighed_rows = splits.weighed_rows I W

  -- The least charge of the whole tree for all services is the cost of the cheapest plan.
  pub cheapest_least : (f : Cost) → Least (net I) (λ d. true) 0 (full I.r) f → f ≡ cheapest I
  cheapest_least = least.cheapest_least I W

  -- The cheapest plan costs k exactly when a feasible mapping that keeps the limits costs k and none costs less.
  pub cheapest_mapping : (k : ℕ) → (cheapest I ≡ some k)
      ↔ (((π : ℕ → ℕ) × (ρ : ℕ → List ℕ) × Feasible (road I) π ρ × Limits I π ρ × (cost (road I) π ρ ≡ k))
      × ((π : ℕ → ℕ) (ρ : ℕ → List ℕ) → Feasible (road I) π ρ → Limits I π ρ → k ≤ cost (road I) π ρ))
  cheapest_mapping = least.cheapest_mapping I W

  -- There is no cheapest plan exactly when there is no feasible mapping that keeps the limits.
  pub cheapest_none : (cheapest I ≡ none) ↔ ((π : ℕ → ℕ) (ρ : ℕ → List ℕ) → Feasible (road I) π ρ → Limits I π ρ → ⊥)
  cheapest_none = least.cheapest_none I W

  -- Where the cheapest plan costs k, a mapping over the first plan is feasible, keeps the limits, and costs k.
  pub first_feasible : (k : ℕ) → cheapest I ≡ some k
      → (ρ : ℕ → List ℕ) × Feasible (road I) (first_plan I) ρ × Limits I (first_plan I) ρ × (cost (road I) (first_plan I) ρ ≡ k)
  first_feasible = firsts.first_feasible I W

  -- And the first plan is not after the plan of any feasible mapping that keeps the limits and costs k.
  pub first_mapping : (k : ℕ) → cheapest I ≡ some k
      → (π : ℕ → ℕ) (ρ : ℕ → List ℕ) → Feasible (road I) π ρ → Limits I π ρ → cost (road I) π ρ ≡ k → NotAfter I.r (first_plan I) π
  first_mapping = firsts.first_mapping I W

-- A road is itself rehung and renumbered, with every number as it was.
pub rehung_itself : (I : Instance) → Rehung I I (λ c. c)
rehung_itself = surveys.rehung_itself

-- Where a second road is a first one rehung, and a third one the second, the third is the first one rehung.
pub rehung_on : (I J K : Instance) → WellFormed I → (σ τ : ℕ → ℕ) → Rehung I J σ → Rehung J K τ → Rehung I K (λ c. τ (σ c))
rehung_on = surveys.rehung_on

-- On the roads of two well-formed sheets, the second of them the first rehung and renumbered:
module _ (I J : Instance) (W : WellFormed I) (X : WellFormed J) (σ : ℕ → ℕ) (R : Rehung I J σ) where
  -- The first is the second rehung, by numbers that undo the others.
  pub rehung_back : (τ : ℕ → ℕ) × Rehung J I τ × ((c : ℕ) → c < I.s → τ (σ c) ≡ c)
  rehung_back = (surveys.back I σ, surveys.rehung_back I J W X σ R, surveys.back_over I J W X σ R)

  -- A link connects two cabinets of the first exactly when it connects them in the second: neither has a link that the other has not.
  pub rehung_links : (l : Link) (a b : ℕ) → a < I.s → b < I.s → Connects I l a b ↔ Connects J l (σ a) (σ b)
  rehung_links = surveys.rehung_links I J W X σ R

  -- A mapping that is feasible and keeps the limits on the first goes over to one on the second, with each service where its cabinet went, at the same cost.
  pub rehung_mapping : (π : ℕ → ℕ) (ρ : ℕ → List ℕ) → Feasible (road I) π ρ → Limits I π ρ →
      (ρ' : ℕ → List ℕ) × Feasible (road J) (λ i. σ (π i)) ρ' × Limits J (λ i. σ (π i)) ρ' × (cost (road J) (λ i. σ (π i)) ρ' ≡ cost (road I) π ρ)
  rehung_mapping π ρ F L =
      (rehung.routes_over I σ ρ, rehung.feasible_over I J W X σ R π ρ F, rehung.limits_over I J W X σ R π ρ F L, rehung.cost_over I J W X σ R π ρ F)

  -- So both have the same cheapest cost, or neither has a valid plan.
  pub rehung_cheapest : cheapest I ≡ cheapest J
  rehung_cheapest = surveys.rehung_cheapest I J W X σ R
