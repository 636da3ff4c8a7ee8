-- Small roads, by computation: 02's barred pairs, the first of the cheapest plans, 02's joints and framing, what 01's measured roads leave open, and that the theorems have instances.
use Prim.Native.Nat.{ℕ, zero, suc, ◌≤◌, ◌<◌}
use native.Mathlib.Omega.{arith}
use mathlib.Core.Bool.{Bool, true, false, ◌&&◌}
use mathlib.Core.List.{List, [], ◌∷◌}
use mathlib.Core.Path.{◌≡◌, refl, sym}
use lib.Dec.{eqb, ltb}
use lib.ListN.{length, get_or}
use Rattle.finite.specs.Below.{◌⇒◌, only, sum_below, all_below, any_below, sum_over}
use Rattle.finite.proofs.Booleans.{clash}
use Rattle.subsets.specs.Sets.{has, subset}
use Rattle.subsets.specs.Inner.Masks.{keep}
use Rattle.subsets.specs.Tree.{climb, under, part}
use Rattle.subsets.specs.Costs.{Cost, none, some, lesser, least_below, provided}
use Rattle.subsets.specs.Inner.Totals.{◌⊕◌, total_below, charged}
use Rattle.subsets.specs.Inner.Net as nets
use Rattle.subsets.specs.Inner.Net.{charge}
use Rattle.sheet.specs.Instance.{Instance, Amounts, WellFormed}
use Rattle.embedding.specs.Definition1.{member, Feasible, cost}
use Rattle.embedding.specs.Limits.{frames, weight, Limits}
use Rattle.embedding.specs.Road.{up, down, lower, by_way, edge_price, road}
use Rattle.embedding.specs.Plan.{place, path_within, path, routes, demand_of, fits, unbarred, powered, admits, link_fits, fee, toll, carried, link_keeps, in_range, bars_keep, rooms_keep, joints_keep, cabinets_keep, links_keep, valid, cabinets_cost, links_cost, plan_cost, digit, worth, cheapest}
use Rattle.embedding.specs.First.{nth_plan, first_from, equals, places, is_cheapest, first_number, first_plan}
use Rattle.embedding.specs.Splits.{stands, keeps, placeable, weighed}
use Rattle.embedding.specs.Inner.Charge.{leaving, entering, cabinet_charge, link_charge, net}
use Rattle.embedding.proofs.Mappings.{plan_iff_mapping}

-- field k of record n
abbrev field : List (List ℕ) → ℕ → ℕ → ℕ
field l k n = get_or (get_or l n []) k 0

-- the instance with these services, cabinets and streams, and with these services barred from these cabinets; a cabinet of capacity 0 is a joint
abbrev barring : List (List ℕ) → List (List ℕ) → List (List ℕ) → (ℕ → ℕ → Bool) → Instance
barring d c s b = record {
  r = length d;
  s = length c;
  q = length s;
  demand = field d 0;
  parent = field c 0;
  capacity = field c 1;
  price = field c 2;
  up_capacity = field c 3;
  up_price = field c 4;
  down_capacity = field c 5;
  down_price = field c 6;
  from = field s 0;
  to = field s 1;
  load = field s 2;
  barred = b;
  joint = λ n. ltb n (length c) && eqb (field c 1 n) 0;
}

-- the instance with these services, cabinets and streams, and with nothing barred
abbrev instance : List (List ℕ) → List (List ℕ) → List (List ℕ) → Instance
instance d c s = barring d c s (λ i c. false)

-- the cabinets of M, with this capacity of the root
abbrev rooted : ℕ → List (List ℕ)
rooted root = (65535 ∷ root ∷ 5 ∷ 0 ∷ 0 ∷ 0 ∷ 0 ∷ []) ∷ (0 ∷ 3 ∷ 1 ∷ 6 ∷ 2 ∷ 6 ∷ 1 ∷ []) ∷ (0 ∷ 3 ∷ 2 ∷ 2 ∷ 1 ∷ 6 ∷ 1 ∷ []) ∷ []

-- the cabinets of M
abbrev cabinets : List (List ℕ)
cabinets = rooted 4

-- M with these services barred from these cabinets
abbrev m_barring : (ℕ → ℕ → Bool) → Instance
m_barring b = barring ((2 ∷ []) ∷ (2 ∷ []) ∷ []) cabinets ((0 ∷ 1 ∷ 3 ∷ []) ∷ []) b

abbrev M : Instance
M = m_barring (λ i c. false)

-- ---- barred pairs

-- M with service 0 barred from cabinet 0
abbrev m_one : Instance
m_one = m_barring (λ i c. eqb i 0 && eqb c 0)

-- M with service 0 barred from every cabinet
abbrev m_every : Instance
m_every = m_barring (λ i c. eqb i 0 && ltb c 3)

-- the cost of the cheapest plan, and the count of splits
abbrev measured : Instance → Cost × ℕ
measured I = (cheapest I, weighed I)

-- 15 and 15 where one cabinet is barred; no plan and 12 where every one is
measures_barred : measured m_one ∷ measured m_every ∷ [] ≡ (some 15, 15) ∷ (none, 12) ∷ []
unfolding worth cheapest lesser least_below digit ◌⇒◌ only sum_below all_below any_below sum_over member up down lower by_way edge_price path_within path routes demand_of fits unbarred powered admits fee frames weight carried link_fits link_keeps in_range bars_keep rooms_keep joints_keep cabinets_keep links_keep valid cabinets_cost links_cost plan_cost provided has subset climb under part stands keeps placeable weighed
measures_barred = refl

-- where cabinet 0 is barred the plan (1,2) is valid at 15, and (0,1) is not valid
plans_barred : worth m_one (place (1 ∷ 2 ∷ [])) ∷ worth m_one (place (0 ∷ 1 ∷ [])) ∷ [] ≡ some 15 ∷ none ∷ []
unfolding worth ◌⇒◌ only sum_below all_below sum_over member up down lower by_way edge_price path_within path routes demand_of fits fee frames weight carried link_fits link_keeps in_range bars_keep rooms_keep joints_keep cabinets_keep links_keep valid cabinets_cost links_cost plan_cost provided
plans_barred = refl

-- and no mapping over (0,1) keeps the limits
limits_barred : (ρ : ℕ → List ℕ) → Limits m_one (place (0 ∷ 1 ∷ [])) ρ → ⊥
limits_barred ρ L = clash (L.bars 0 (omega arith))

-- ---- the first of the cheapest

-- M0: M with a joint as its root
abbrev M0 : Instance
M0 = instance ((2 ∷ []) ∷ (2 ∷ []) ∷ []) (rooted 0) ((0 ∷ 1 ∷ 3 ∷ []) ∷ [])

-- Z: M0 with a third service of demand 0, and streams of 3 from it to each of the others
abbrev Z : Instance
Z = instance ((2 ∷ []) ∷ (2 ∷ []) ∷ (0 ∷ []) ∷ []) (rooted 0) ((2 ∷ 0 ∷ 3 ∷ []) ∷ (2 ∷ 1 ∷ 3 ∷ []) ∷ [])

-- two services that may change places: each of the two cabinets has room for one of them, at the same price
abbrev either_way : Instance
either_way = instance ((1 ∷ []) ∷ (1 ∷ []) ∷ []) ((65535 ∷ 1 ∷ 1 ∷ 0 ∷ 0 ∷ 0 ∷ 0 ∷ []) ∷ (0 ∷ 1 ∷ 1 ∷ 0 ∷ 0 ∷ 0 ∷ 0 ∷ []) ∷ []) []

-- the first of the cheapest plans, as a list
abbrev first_of : Instance → List ℕ
first_of I = places I.r (first_plan I)

-- (0,1) on M, where (1,2) costs the same; (1,2) on M0; the lower cabinet for service 0, not for service 1; and (1,2) on M where service 0 is barred from cabinet 0
firsts : first_of M ∷ first_of M0 ∷ first_of either_way ∷ first_of m_one ∷ [] ≡ (0 ∷ 1 ∷ []) ∷ (1 ∷ 2 ∷ []) ∷ (0 ∷ 1 ∷ []) ∷ (1 ∷ 2 ∷ []) ∷ []
unfolding first_plan first_number first_from nth_plan equals places is_cheapest worth cheapest lesser least_below digit ◌⇒◌ only sum_below all_below sum_over member up down lower by_way edge_price path_within path routes demand_of fits fee frames weight carried link_fits link_keeps in_range bars_keep rooms_keep joints_keep cabinets_keep links_keep valid cabinets_cost links_cost plan_cost provided
firsts = refl

-- (1,2,1) on Z
first_of_Z : first_of Z ≡ 1 ∷ 2 ∷ 1 ∷ []
unfolding first_plan first_number first_from nth_plan equals places is_cheapest worth cheapest lesser least_below digit ◌⇒◌ only sum_below all_below sum_over member up down lower by_way edge_price path_within path routes demand_of fits fee frames weight carried link_fits link_keeps in_range bars_keep rooms_keep joints_keep cabinets_keep links_keep valid cabinets_cost links_cost plan_cost provided
first_of_Z = refl

-- ---- joints

-- Z: 15 and 28
measures_Z : measured Z ≡ (some 15, 28)
unfolding worth cheapest lesser least_below digit ◌⇒◌ only sum_below all_below any_below sum_over member up down lower by_way edge_price path_within path routes demand_of fits unbarred powered admits fee frames weight carried link_fits link_keeps in_range bars_keep rooms_keep joints_keep cabinets_keep links_keep valid cabinets_cost links_cost plan_cost provided has subset climb under part stands keeps placeable weighed
measures_Z = refl

-- (1,2,1) is valid at 15; (1,2,0) has the service of demand 0 on the root, a joint, and is not valid
plans_Z : worth Z (place (1 ∷ 2 ∷ 1 ∷ [])) ∷ worth Z (place (1 ∷ 2 ∷ 0 ∷ [])) ∷ [] ≡ some 15 ∷ none ∷ []
unfolding worth ◌⇒◌ only sum_below all_below sum_over member up down lower by_way edge_price path_within path routes demand_of fits fee frames weight carried link_fits link_keeps in_range bars_keep rooms_keep joints_keep cabinets_keep links_keep valid cabinets_cost links_cost plan_cost provided
plans_Z = refl

-- and no mapping over (1,2,0) keeps the limits
limits_Z : (ρ : ℕ → List ℕ) → Limits Z (place (1 ∷ 2 ∷ 0 ∷ [])) ρ → ⊥
limits_Z ρ L = clash (L.joints 2 (omega arith))

-- two joints, and a service of demand 0: no plan, but the empty set can be placed on the root
abbrev joints_only : Instance
joints_only = instance ((0 ∷ []) ∷ []) ((65535 ∷ 0 ∷ 0 ∷ 0 ∷ 0 ∷ 0 ∷ 0 ∷ []) ∷ (0 ∷ 0 ∷ 0 ∷ 0 ∷ 0 ∷ 0 ∷ 0 ∷ []) ∷ []) []

measures_joints : measured joints_only ≡ (none, 2)
unfolding worth cheapest lesser least_below digit ◌⇒◌ only sum_below all_below any_below sum_over member up down lower by_way edge_price path_within path routes demand_of fits unbarred powered admits fee frames weight carried link_fits link_keeps in_range bars_keep rooms_keep joints_keep cabinets_keep links_keep valid cabinets_cost links_cost plan_cost provided has subset climb under part stands keeps placeable weighed
measures_joints = refl

-- ---- framing

-- M with this up capacity of cabinet 1, and these streams
abbrev m_streams : ℕ → List (List ℕ) → Instance
m_streams up streams =
    instance ((2 ∷ []) ∷ (2 ∷ []) ∷ [])
    ((65535 ∷ 4 ∷ 5 ∷ 0 ∷ 0 ∷ 0 ∷ 0 ∷ []) ∷ (0 ∷ 3 ∷ 1 ∷ up ∷ 2 ∷ 6 ∷ 1 ∷ []) ∷ (0 ∷ 3 ∷ 2 ∷ 2 ∷ 1 ∷ 6 ∷ 1 ∷ []) ∷ []) streams

-- the plan (1,0) with these streams keeps the links of M with this up capacity of cabinet 1
abbrev lets_through : ℕ → List (List ℕ) → Bool
lets_through up streams = links_keep (m_streams up streams) (place (1 ∷ 0 ∷ []))

-- streams of 1 and 2 of one pair take 7, not 6; with one of them the other way the two directions are apart; a stream of 1 takes 3, not 2; one of demand 0 takes nothing
framed :
    lets_through 7 ((0 ∷ 1 ∷ 1 ∷ []) ∷ (0 ∷ 1 ∷ 2 ∷ []) ∷ []) ∷ lets_through 6 ((0 ∷ 1 ∷ 1 ∷ []) ∷ (0 ∷ 1 ∷ 2 ∷ []) ∷ [])
    ∷ lets_through 3 ((0 ∷ 1 ∷ 1 ∷ []) ∷ (1 ∷ 0 ∷ 2 ∷ []) ∷ []) ∷ lets_through 2 ((0 ∷ 1 ∷ 1 ∷ []) ∷ (1 ∷ 0 ∷ 2 ∷ []) ∷ [])
    ∷ lets_through 0 ((0 ∷ 1 ∷ 0 ∷ []) ∷ []) ∷ []
    ≡ true ∷ false ∷ true ∷ false ∷ true ∷ []
unfolding ◌⇒◌ only sum_below all_below member up down path_within path routes frames weight carried link_fits link_keeps links_keep
framed = refl

-- the price is that of the demand: (1,0) costs 2 × 1 + 2 × 5 in cabinets, and 3 × 2 for the stream
price_of_demand : plan_cost M (place (1 ∷ 0 ∷ [])) ≡ 18
unfolding ◌⇒◌ only sum_below all_below sum_over member up down lower by_way edge_price path_within path routes fee frames weight carried cabinets_cost links_cost plan_cost
price_of_demand = refl

-- ---- what 01's roads leave open

-- two streams of one pair count together: each fits the link above cabinet 1, both do not
abbrev two_streams : Instance
two_streams = instance ((2 ∷ []) ∷ (2 ∷ []) ∷ []) cabinets ((0 ∷ 1 ∷ 3 ∷ []) ∷ (0 ∷ 1 ∷ 4 ∷ []) ∷ [])

streams_add_up : links_keep two_streams (place (1 ∷ 0 ∷ [])) ≡ false
unfolding ◌⇒◌ only sum_below all_below member up down path_within path routes frames weight carried link_fits link_keeps links_keep
streams_add_up = refl

-- the part before cabinet 2 holds cabinet 3, which is under cabinet 1 and alone has room
abbrev late_child : Instance
late_child =
    instance ((3 ∷ []) ∷ [])
    ((65535 ∷ 0 ∷ 0 ∷ 0 ∷ 0 ∷ 0 ∷ 0 ∷ []) ∷ (0 ∷ 0 ∷ 0 ∷ 0 ∷ 0 ∷ 0 ∷ 0 ∷ []) ∷ (0 ∷ 0 ∷ 0 ∷ 0 ∷ 0 ∷ 0 ∷ 0 ∷ []) ∷ (1 ∷ 3 ∷ 0 ∷ 0 ∷ 0 ∷ 0 ∷ 0 ∷ []) ∷ []) []

part_has_descendants : placeable late_child 2 1 ≡ true
unfolding digit ◌⇒◌ only sum_below all_below any_below member up down path_within path routes demand_of fits unbarred powered admits frames weight carried link_fits link_keeps has climb under part stands keeps placeable
part_has_descendants = refl

-- the charges of the plans (0,1), (1,0) and (2,0) for M
charges_of_M : charge (net M) (λ d. true) 0 3 (place (0 ∷ 1 ∷ [])) ∷ charge (net M) (λ d. true) 0 3 (place (1 ∷ 0 ∷ [])) ∷ charge (net M) (λ d. true) 0 3 (place (2 ∷ 0 ∷ [])) ∷ [] ≡ some 15 ∷ some 18 ∷ none ∷ []
unfolding ◌⇒◌ only sum_below all_below ◌⊕◌ charged provided total_below has keep climb under nets.charge demand_of fits unbarred powered admits fee toll frames weight leaving entering link_fits cabinet_charge link_charge
charges_of_M = refl

-- ---- the theorems have instances: M is well formed, so by Definition 1 the plan (1,0) has a feasible mapping of cost 18, and (2,0) has none

-- column k holds only amounts
abbrev Small : List (List ℕ) → ℕ → Type 0
Small [] k = Unit {0}
Small (x ∷ xs) k = (get_or x k 0 ≤ 10000) × Small xs k

small : (l : List (List ℕ)) (k : ℕ) → Small l k → Amounts (field l k)
small [] k h n = omega arith
small (x ∷ xs) k h zero = h.0
small (x ∷ xs) k h (suc n) = small xs k h.1 n

m_well_formed : WellFormed M
m_well_formed = record {
  services = omega arith;
  some_cabinet = omega arith;
  cabinets = omega arith;
  streams = omega arith;
  demands = small ((2 ∷ []) ∷ (2 ∷ []) ∷ []) 0 (omega arith);
  parents = parents;
  capacities = small cabinets 1 (omega arith);
  prices = small cabinets 2 (omega arith);
  up_capacities = small cabinets 3 (omega arith);
  up_prices = small cabinets 4 (omega arith);
  down_capacities = small cabinets 5 (omega arith);
  down_prices = small cabinets 6 (omega arith);
  loads = small ((0 ∷ 1 ∷ 3 ∷ []) ∷ []) 2 (omega arith);
  from_service = λ j k. (only_stream j k).0;
  to_service = λ j k. (only_stream j k).1;
  ends_differ = λ j k. (only_stream j k).2;
  root_links = (refl, refl, refl, refl);
  bars = λ i c e. clash (sym e);
}
  where
    parents : (c : ℕ) → 0 < c → field cabinets 0 c < c
    parents zero z = absurd (omega arith)
    parents (suc zero) z = omega arith
    parents (suc (suc zero)) z = omega arith
    parents (suc (suc (suc c))) z = omega arith

    only_stream : (j : ℕ) → j < 1 →
        (field ((0 ∷ 1 ∷ 3 ∷ []) ∷ []) 0 j < 2) × (field ((0 ∷ 1 ∷ 3 ∷ []) ∷ []) 1 j < 2) × (field ((0 ∷ 1 ∷ 3 ∷ []) ∷ []) 0 j ≡ field ((0 ∷ 1 ∷ 3 ∷ []) ∷ []) 1 j → ⊥)
    only_stream zero k = (omega arith, omega arith, λ e. omega arith)
    only_stream (suc j) k = absurd (omega arith)

feasible_on_M : (ρ : ℕ → List ℕ) × Feasible (road M) (place (1 ∷ 0 ∷ [])) ρ × Limits M (place (1 ∷ 0 ∷ [])) ρ × (cost (road M) (place (1 ∷ 0 ∷ [])) ρ ≡ 18)
unfolding ◌⇒◌ only sum_below all_below sum_over member up down lower by_way edge_price path_within path routes demand_of fits fee frames weight carried link_fits link_keeps in_range bars_keep rooms_keep joints_keep cabinets_keep links_keep valid cabinets_cost links_cost plan_cost
feasible_on_M = (plan_iff_mapping M m_well_formed (place (1 ∷ 0 ∷ [])) 18).0 (refl, refl)

none_on_M : (ρ : ℕ → List ℕ) → Feasible (road M) (place (2 ∷ 0 ∷ [])) ρ → Limits M (place (2 ∷ 0 ∷ [])) ρ → ⊥
unfolding ◌⇒◌ only sum_below all_below member up down path_within path routes demand_of fits frames weight carried link_fits link_keeps in_range bars_keep rooms_keep joints_keep cabinets_keep links_keep valid
none_on_M ρ F L = clash (sym ((plan_iff_mapping M m_well_formed (place (2 ∷ 0 ∷ [])) (cost (road M) (place (2 ∷ 0 ∷ [])) ρ)).1 (ρ, F, L, refl)).0)
