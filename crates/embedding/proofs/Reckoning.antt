-- What cabinets and links admit and charge, reckoned with sums of demands and loads, and with numbers whose digits are a set of services and the services barred from a cabinet. A proof that needs the numbers behind these names cites a law of this page.
use Prim.Native.Nat.{ℕ, zero, suc, ◌+◌, ◌*◌, ◌≤◌, ◌<◌}
use native.Mathlib.Omega.{arith}
use mathlib.Core.Path.{◌≡◌, refl, sym, ap, ap₂, ◌∙◌}
use mathlib.Core.Bool.{Bool, true, false, ◌&&◌, not}
use lib.Bits.{bit_and, and_le_l, and_le_r}
use lib.Dec.{eqb, ltb, leb}
use Rattle.finite.specs.Below.{◌⇒◌, only, sum_below, all_below}
use Rattle.finite.proofs.Sums.{sum_ext, sum_mul}
use Rattle.finite.proofs.Booleans.{implies}
use Rattle.finite.proofs.Tests.{all_in, all_ext}
use Rattle.subsets.specs.Sets.{has}
use Rattle.subsets.specs.Costs.{provided}
use Rattle.subsets.specs.Inner.Masks.{full}
use Rattle.subsets.proofs.Sets.{has_full, full_lt, and_full, has_and_full, apart_and}
use Rattle.sheet.specs.Instance.{Instance}
use Rattle.embedding.specs.Definition1.{member}
use Rattle.embedding.specs.Limits.{frames, weight}
use Rattle.embedding.specs.Plan.{routes, demand_of, fits, unbarred, powered, admits, link_fits, fee, toll, carried, rooms_keep, cabinets_cost}
use Rattle.embedding.specs.Inner.Charge.{leaving, entering, cabinet_charge, link_charge}

-- a number that a test lets through, and a factor
pub only_mul : (t : Bool) (m n : ℕ) → only t m * n ≡ only t (m * n)
unfolding only
only_mul true m n = refl
only_mul false m n = omega arith

-- a number that two tests let through, one after the other
only_only : (s t : Bool) (n : ℕ) → only s (only t n) ≡ only (s && t) n
unfolding only
only_only true t n = refl
only_only false t n = refl

-- a sum of numbers that a test lets through, each with 2 more for all that g counts
framed_sum : (n : ℕ) (t : ℕ → Bool) (f g : ℕ → ℕ)
    → sum_below n (λ j. only (t j) (f j + 2 * g j)) ≡ sum_below n (λ j. only (t j) (f j)) + 2 * sum_below n (λ j. only (t j) (g j))
unfolding sum_below only
framed_sum zero t f g = refl
framed_sum (suc n) t f g = omega (arith, framed_sum n t f g, at (t n))
  where
    at : (b : Bool) → only b (f n + 2 * g n) ≡ only b (f n) + 2 * only b (g n)
    at true = refl
    at false = refl

-- streams of the same demand have the same weight, on any roads
pub weight_same : (I J : Instance) (j : ℕ) → J.load j ≡ I.load j → weight J j ≡ weight I j
unfolding frames weight
weight_same I J j = ap (λ (n : ℕ). n + 2 * only (ltb 0 n) 1)

module _ (I : Instance) where
  -- ---- cabinets

  -- the demand of a set, service by service
  pub demand_sum : (x : ℕ → Bool) → demand_of I x ≡ sum_below I.r (λ i. only (x i) (I.demand i))
  unfolding demand_of
  demand_sum x = refl

  -- what a cabinet has room for, by demand
  pub fits_by_demand : (c : ℕ) (x : ℕ → Bool) → fits I c x ≡ leb (demand_of I x) (I.capacity c)
  unfolding fits
  fits_by_demand c x = refl

  -- what a cabinet admits, by demand, power and bars
  pub admits_by_demand : (c : ℕ) (x : ℕ → Bool) → admits I c x ≡ (leb (demand_of I x) (I.capacity c) && powered I c x) && unbarred I c x
  unfolding admits
  admits_by_demand c x = ap (λ (t : Bool). (t && powered I c x) && unbarred I c x) (fits_by_demand c x)

  -- the test of the cabinets' room, by the demand on each of them
  pub rooms_by_demand : (π : ℕ → ℕ) → rooms_keep I π ≡ all_below I.s (λ c. leb (demand_of I (λ i. eqb (π i) c)) (I.capacity c))
  unfolding rooms_keep
  rooms_by_demand π = all_ext I.s _ _ (λ c k. fits_by_demand c (λ i. eqb (π i) c))

  -- what the cabinets charge for a plan, service by service
  pub cabinets_cost_sum : (π : ℕ → ℕ) → cabinets_cost I π ≡ sum_below I.r (λ i. I.demand i * I.price (π i))
  unfolding cabinets_cost fee
  cabinets_cost_sum π = refl

  -- the fees of a set are its demand at the cabinet's price
  fees_by_demand : (c : ℕ) (x : ℕ → Bool) → sum_below I.r (λ i. only (x i) (fee I c i)) ≡ demand_of I x * I.price c
  unfolding fee demand_of
  fees_by_demand c x = sym (sum_mul I.r (λ i. only (x i) (I.demand i)) (I.price c) ∙ sum_ext I.r _ _ (λ i k. only_mul (x i) (I.demand i) (I.price c)))

  -- what a cabinet charges for a set, by demand, power and bars
  pub charge_by_demand : (c x : ℕ) → cabinet_charge I c x
      ≡ provided ((leb (demand_of I (has x)) (I.capacity c) && powered I c (has x)) && unbarred I c (has x)) (demand_of I (has x) * I.price c)
  unfolding cabinet_charge
  charge_by_demand c x = ap₂ provided (admits_by_demand c (has x)) (fees_by_demand c (has x))

  -- a cabinet has power for a set exactly when it is no joint or none of the services of the set is there
  powered_by_digits : (c x : ℕ) → powered I c (has x) ≡ I.joint c ⇒ eqb (bit_and x (full I.r)) 0
  unfolding powered ◌⇒◌
  powered_by_digits c x = go (I.joint c)
    where
      y : ℕ
      y = bit_and x (full I.r)

      go : (t : Bool) → all_below I.r (λ i. has x i ⇒ not t) ≡ t ⇒ eqb (bit_and x (full I.r)) 0
      go false = all_in I.r (λ i. has x i ⇒ true) (λ i k. implies (has x i) true (λ e. refl))
      go true =
          all_ext I.r _ _ (λ i k. ap₂ (λ (s t : Bool). s ⇒ not t) (sym (has_and_full I.r x i k)) (sym (has_full I.r i k)))
          ∙ apart_and I.r y (full I.r) (omega (arith, and_le_l y (full I.r), and_le_r x (full I.r), full_lt I.r))
          ∙ ap (λ (z : ℕ). eqb z 0) (and_full I.r y (omega (arith, and_le_r x (full I.r), full_lt I.r)))

  -- ---- cabinets, where the digits of the number w are the services barred from cabinet c
  module _ (c w : ℕ) (word : (i : ℕ) → i < I.r → has w i ≡ I.barred i c) where
    -- none of a set is barred exactly when those of its services that are there and w have no digit in common
    unbarred_by_digits : (x : ℕ) → unbarred I c (has x) ≡ eqb (bit_and (bit_and x (full I.r)) w) 0
    unfolding unbarred
    unbarred_by_digits x =
        let y = bit_and x (full I.r) in
        all_ext I.r _ _ (λ i k. ap₂ (λ (s t : Bool). s ⇒ not t) (sym (has_and_full I.r x i k)) (sym (word i k)))
        ∙ apart_and I.r y w (omega (arith, and_le_l y w, and_le_r x (full I.r), full_lt I.r))

    -- what a cabinet charges for a set, by demand and digits
    pub charge_by_digits : (x : ℕ) → cabinet_charge I c x
        ≡ provided ((leb (demand_of I (has x)) (I.capacity c) && (I.joint c ⇒ eqb (bit_and x (full I.r)) 0)) && eqb (bit_and (bit_and x (full I.r)) w) 0)
        (demand_of I (has x) * I.price c)
    charge_by_digits x =
        charge_by_demand c x
        ∙ ap₂ (λ (s t : Bool). provided ((leb (demand_of I (has x)) (I.capacity c) && s) && t) (demand_of I (has x) * I.price c))
        (powered_by_digits c x) (unbarred_by_digits x)

  -- ---- links

  -- what a link lets through, by its capacities
  pub link_fits_by_capacity : (c m n : ℕ) → link_fits I c m n ≡ leb m (I.up_capacity c) && leb n (I.down_capacity c)
  unfolding link_fits
  link_fits_by_capacity c m n = refl

  -- what a link charges, by its prices
  pub toll_by_price : (c m n : ℕ) → toll I c m n ≡ m * I.up_price c + n * I.down_price c
  unfolding toll
  toll_by_price c m n = refl

  -- a stream takes no less of a link's capacity than its demand
  pub load_le_weight : (j : ℕ) → I.load j ≤ weight I j
  unfolding weight
  load_le_weight j = omega arith

  -- what leaves a set takes the demand that leaves it, and 2 for each frame
  pub leaving_weight : (x : ℕ → Bool) → leaving I (weight I) x ≡ leaving I I.load x + 2 * leaving I (frames I) x
  unfolding leaving weight
  leaving_weight x = framed_sum I.q (λ j. x (I.from j) && not (x (I.to j))) I.load (frames I)

  -- and so does what enters it
  pub entering_weight : (x : ℕ → Bool) → entering I (weight I) x ≡ entering I I.load x + 2 * entering I (frames I) x
  unfolding entering weight
  entering_weight x = framed_sum I.q (λ j. x (I.to j) && not (x (I.from j))) I.load (frames I)

  -- what a plan's streams take of an edge: the demand of those that run along it, and 2 for each of them whose demand is above 0
  pub carried_framed : (π : ℕ → ℕ) (e : ℕ) → carried I π e
      ≡ sum_below I.q (λ j. only (member e (routes I π j)) (I.load j))
      + 2 * sum_below I.q (λ j. only (member e (routes I π j) && ltb 0 (I.load j)) 1)
  unfolding carried weight frames
  carried_framed π e =
      framed_sum I.q (λ j. member e (routes I π j)) I.load (frames I)
      ∙ ap (λ (n : ℕ). sum_below I.q (λ j. only (member e (routes I π j)) (I.load j)) + 2 * n)
      (sum_ext I.q _ _ (λ j k. only_only (member e (routes I π j)) (ltb 0 (I.load j)) 1))

  -- what a link charges for the set under it, by the demand and the frames that leave and enter the set
  pub charge_by_flows : (c x : ℕ) → link_charge I c x
      ≡ provided (leb (leaving I I.load (has x) + 2 * leaving I (frames I) (has x)) (I.up_capacity c)
      && leb (entering I I.load (has x) + 2 * entering I (frames I) (has x)) (I.down_capacity c))
      (leaving I I.load (has x) * I.up_price c + entering I I.load (has x) * I.down_price c)
  unfolding link_charge
  charge_by_flows c x =
      ap₂ provided
      (link_fits_by_capacity c _ _ ∙ ap₂ (λ (m n : ℕ). leb m (I.up_capacity c) && leb n (I.down_capacity c)) (leaving_weight (has x)) (entering_weight (has x)))
      (toll_by_price c (leaving I I.load (has x)) (entering I I.load (has x)))
