-- 01, "A valid plan and its cost", with the barred pairs of 02 (a), the framing of 02 (e) and the joints of 02 (i). A plan π gives each service i the cabinet π i.
use Rattle.std.specs.Prelude.{ℕ, zero, suc, ◌+◌, ◌*◌, ◌/◌, ◌%◌, ◌^◌, Bool, true, false, ◌&&◌, not, List, [], ◌∷◌, ◌++◌, eqb, ltb, leb, get_or}
use Rattle.finite.specs.Below.{◌⇒◌, only, sum_below, all_below, sum_over}
use Rattle.subsets.specs.Costs.{Cost, provided, least_below}
use Rattle.sheet.specs.Instance.{Instance}
use Rattle.embedding.specs.Definition1.{member}
use Rattle.embedding.specs.Road.{up, down, edge_price}
use Rattle.embedding.specs.Limits.{weight}

-- the cabinet that a plan, written as a list, gives service i
abbrev pub place : List ℕ → ℕ → ℕ
place plan i = get_or plan i 0

-- The path from a to b: while the ends differ, the end with the larger number moves to its parent. This takes at most a + b moves.
unfoldable pub path_within : (ℕ → ℕ) → ℕ → ℕ → ℕ → List ℕ
path_within parent zero a b = []
path_within parent (suc n) a b =
    elim (eqb a b) [
      | true ↦ []
      | false ↦ elim (ltb b a) [ true ↦ up a ∷ path_within parent n (parent a) b | false ↦ path_within parent n a (parent b) ++ (down b ∷ []) ]
    ]

-- digit i of n to the base s, digit 0 the last; the digits of the numbers below s ^ r are all plans of r services on s cabinets
unfoldable pub digit : ℕ → ℕ → ℕ → ℕ
digit s n zero = n % s
digit s n (suc i) = digit s (n / s) i

module _ (I : Instance) where
  -- the path from cabinet a to cabinet b
  unfoldable pub path : ℕ → ℕ → List ℕ
  path a b = path_within I.parent (a + b) a b

  -- the path of stream j, from the cabinet of its one service to that of the other
  unfoldable pub routes : (ℕ → ℕ) → ℕ → List ℕ
  routes π j = path (π (I.from j)) (π (I.to j))

  -- the demand of the services for which x holds: the sum of their demands
  unfoldable pub demand_of : (ℕ → Bool) → ℕ
  demand_of x = sum_below I.r (λ i. only (x i) (I.demand i))

  -- cabinet c has room for the services for which x holds: their demand is at most its capacity
  unfoldable pub fits : ℕ → (ℕ → Bool) → Bool
  fits c x = leb (demand_of x) (I.capacity c)

  -- none of the services for which x holds is barred from cabinet c
  unfoldable pub unbarred : ℕ → (ℕ → Bool) → Bool
  unbarred c x = all_below I.r (λ i. x i ⇒ not (I.barred i c))

  -- cabinet c has power for the services for which x holds: it is no joint, or there is no such service
  unfoldable pub powered : ℕ → (ℕ → Bool) → Bool
  powered c x = all_below I.r (λ i. x i ⇒ not (I.joint c))

  -- cabinet c admits the services for which x holds: it has room and power for them, and none of them is barred from it
  unfoldable pub admits : ℕ → (ℕ → Bool) → Bool
  admits c x = (fits c x && powered c x) && unbarred c x

  -- the link above c lets through m upwards and n downwards: each is at most the capacity of its direction
  unfoldable pub link_fits : ℕ → ℕ → ℕ → Bool
  link_fits c m n = leb m (I.up_capacity c) && leb n (I.down_capacity c)

  -- what cabinet c charges for service i
  unfoldable pub fee : ℕ → ℕ → ℕ
  fee c i = I.demand i * I.price c

  -- what the link above c charges for a demand of m upwards and n downwards: each at the price of its direction
  unfoldable pub toll : ℕ → ℕ → ℕ → ℕ
  toll c m n = m * I.up_price c + n * I.down_price c

  -- what all streams that run along the edge e take of its capacity
  unfoldable pub carried : (ℕ → ℕ) → ℕ → ℕ
  carried π e = sum_below I.q (λ j. only (member e (routes π j)) (weight I j))

  -- neither direction of the link above c is overfull
  unfoldable pub link_keeps : (ℕ → ℕ) → ℕ → Bool
  link_keeps π c = link_fits c (carried π (up c)) (carried π (down c))

  -- every service has a cabinet of the road
  unfoldable pub in_range : (ℕ → ℕ) → Bool
  in_range π = all_below I.r (λ i. ltb (π i) I.s)

  -- no service sits on a cabinet that it is barred from
  unfoldable pub bars_keep : (ℕ → ℕ) → Bool
  bars_keep π = all_below I.r (λ i. not (I.barred i (π i)))

  -- no cabinet is overfull
  unfoldable pub rooms_keep : (ℕ → ℕ) → Bool
  rooms_keep π = all_below I.s (λ c. fits c (λ i. eqb (π i) c))

  -- no service sits on a joint
  unfoldable pub joints_keep : (ℕ → ℕ) → Bool
  joints_keep π = all_below I.r (λ i. not (I.joint (π i)))

  -- no cabinet is overfull, and none that is a joint has a service
  unfoldable pub cabinets_keep : (ℕ → ℕ) → Bool
  cabinets_keep π = rooms_keep π && joints_keep π

  -- no link is overfull in either direction
  unfoldable pub links_keep : (ℕ → ℕ) → Bool
  links_keep π = all_below I.s (λ c. ltb 0 c ⇒ link_keeps π c)

  -- a plan is valid when it passes the four tests; source document 000, which bars and frames nothing and knows no joints, says feasible
  unfoldable pub valid : (ℕ → ℕ) → Bool
  valid π = in_range π && (bars_keep π && (cabinets_keep π && links_keep π))

  -- what the cabinets charge for the services: for each service, demand × the price of its cabinet
  unfoldable pub cabinets_cost : (ℕ → ℕ) → ℕ
  cabinets_cost π = sum_below I.r (λ i. fee (π i) i)

  -- what the links charge for the streams: for each stream and each link of its path, demand × the price of the direction taken
  unfoldable pub links_cost : (ℕ → ℕ) → ℕ
  links_cost π = sum_below I.q (λ j. sum_over (λ e. I.load j * edge_price I e) (routes π j))

  -- the cost of a plan
  unfoldable pub plan_cost : (ℕ → ℕ) → ℕ
  plan_cost π = cabinets_cost π + links_cost π

  -- the cost of a plan if it is valid
  unfoldable pub worth : (ℕ → ℕ) → Cost
  worth π = provided (valid π) (plan_cost π)

  -- the least cost of a valid plan, all plans tried; none where no plan is valid
  unfoldable pub cheapest : Cost
  cheapest = least_below (I.s ^ I.r) (λ n. worth (digit I.s n))
