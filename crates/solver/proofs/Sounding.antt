-- What the tests of soundness give.
use Rattle.std.specs.Prelude.{◌≡◌, ℕ, ◌-◌, ◌*◌, ◌^◌, ◌<◌, ◌≤◌, Bool, true, not, ◌&&◌, eqb, ltb, leb, List, get_or}
use native.Mathlib.Omega.{arith}
use native.Mathlib.Nat.{mul-le-mul, pow-le-pow_right}
use mathlib.Core.Path.{refl, sym, ap, ◌∙◌}
use lib.Bits.{bit_and}
use borrow.Author.Tests.{eqb-true, eq-eqb, leb-true, ltb-true, lt-ltb}
use Rattle.finite.specs.Below.{◌⇒◌, only}
use Rattle.finite.proofs.Booleans.{clash, both_l, both_r}
use Rattle.finite.proofs.Tests.{all_at}
use Rattle.subsets.specs.Inner.Masks.{full}
use Rattle.subsets.specs.Inner.Net.{Falls}
use Rattle.subsets.specs.Costs.{some}
use Rattle.subsets.specs.Figures.{limit}
use Rattle.subsets.proofs.Provided.{provided_some}
use Rattle.rows.specs.Cabinets as records
use Rattle.rows.specs.Cabinets.{field, parent_of, own_of, falling}
use Rattle.rows.proofs.Guards.{field_all, parent_lt}
use Rattle.solver.specs.Sound.{amounts, between, running, rooted, cabinets_sound, fields_sound, sound}
use Rattle.solver.specs.Sums.{demand_in, flow_out}
use Rattle.solver.specs.Tables.{netted}
use Rattle.records.specs.Flows.{load_of}
use Rattle.records.specs.declared.Records.{Records}

-- a field that is there, and one that is not
pub field_in : (n : ℕ) (l : List ℕ) (i : ℕ) → i < n → field n l i ≡ get_or l i 0
unfolding only
field_in n l i h = rw (lt-ltb i n h) refl

-- sound records
pub record Good (k : Records) : Type 0 where
  pub services : k.services ≤ 10
  pub some_cabinet : 1 ≤ k.cabinets
  pub cabinets : k.cabinets ≤ 200
  pub streams : k.streams ≤ 100
  pub demands : (i : ℕ) → field k.services k.demand i ≤ 10000
  pub parents : (c : ℕ) → 0 < c → parent_of k c < c
  pub capacities : (c : ℕ) → field k.cabinets k.capacity c ≤ 10000
  pub prices : (c : ℕ) → field k.cabinets k.price c ≤ 10000
  pub up_capacities : (c : ℕ) → field k.cabinets k.up_capacity c ≤ 10000
  pub up_prices : (c : ℕ) → field k.cabinets k.up_price c ≤ 10000
  pub down_capacities : (c : ℕ) → field k.cabinets k.down_capacity c ≤ 10000
  pub down_prices : (c : ℕ) → field k.cabinets k.down_price c ≤ 10000
  pub loads : (j : ℕ) → field k.streams k.load j ≤ 10000
  pub ends : (j : ℕ) → j < k.streams → (get_or k.from j 0 < k.services) × (get_or k.to j 0 < k.services) × (get_or k.from j 0 ≡ get_or k.to j 0 → ⊥)
  pub root : (get_or k.up_capacity 0 0 ≡ 0) × (get_or k.up_price 0 0 ≡ 0) × (get_or k.down_capacity 0 0 ≡ 0) × (get_or k.down_price 0 0 ≡ 0)

amount_le : (n : ℕ) (l : List ℕ) → amounts n l ≡ true → (i : ℕ) → field n l i ≤ 10000
unfolding amounts
amount_le n l e i = field_all (λ v. v ≤ 10000) n l i (omega arith) (λ h. leb-true (get_or l i 0) 10000 (all_at n (λ d. leb (get_or l d 0) 10000) e i h))

ends_of : (r from to : ℕ) → between r from to ≡ true → (from < r) × (to < r) × (from ≡ to → ⊥)
unfolding between
ends_of r from to e =
    let b = both_r (ltb from r) _ e in
    (ltb-true from r (both_l (ltb from r) _ e), ltb-true to r (both_l (ltb to r) _ b), λ q. clash (sym (both_r (ltb to r) _ b) ∙ ap not (eq-eqb from to q)))

four : (a b d e : Bool) → ((a && b) && d) && e ≡ true → (a ≡ true) × (b ≡ true) × (d ≡ true) × (e ≡ true)
four a b d e h =
    let i = both_l ((a && b) && d) e h in
    let j = both_l (a && b) d i in
    (both_l a b j, both_r a b j, both_r (a && b) d i, both_r ((a && b) && d) e h)

six : (a b d e f g : Bool) → ((((a && b) && d) && e) && f) && g ≡ true → (a ≡ true) × (b ≡ true) × (d ≡ true) × (e ≡ true) × (f ≡ true) × (g ≡ true)
six a b d e f g h =
    let i = both_l ((((a && b) && d) && e) && f) g h in
    let j = four a b d e (both_l (((a && b) && d) && e) f i) in
    (j.0, j.1, j.2, j.3, both_r (((a && b) && d) && e) f i, both_r ((((a && b) && d) && e) && f) g h)

-- the parents of sound records fall
pub parents_fall : (k : Records) → sound k ≡ true → falling k.cabinets k.parent ≡ true
unfolding sound fields_sound
parents_fall k e =
    let a = both_r (leb k.services 10) _ e in
    let b = both_r (leb 1 k.cabinets) _ a in
    let d = both_r (leb k.cabinets 200) _ b in
    (six (amounts k.services k.demand) (falling k.cabinets k.parent) (cabinets_sound k) (amounts k.streams k.load)
    (running k.services k.streams k.from k.to) (rooted k) (both_r (leb k.streams 100) _ d)).1

pub good : (k : Records) → sound k ≡ true → Good k
unfolding sound fields_sound cabinets_sound rooted running
good k e =
    let a = both_r (leb k.services 10) _ e in
    let b = both_r (leb 1 k.cabinets) _ a in
    let d = both_r (leb k.cabinets 200) _ b in
    let f = six (amounts k.services k.demand) (falling k.cabinets k.parent) (cabinets_sound k) (amounts k.streams k.load)
    (running k.services k.streams k.from k.to) (rooted k) (both_r (leb k.streams 100) _ d) in
    let g = six (amounts k.cabinets k.capacity) (amounts k.cabinets k.price) (amounts k.cabinets k.up_capacity)
    (amounts k.cabinets k.up_price) (amounts k.cabinets k.down_capacity) (amounts k.cabinets k.down_price) f.2 in
    let h = four (eqb (get_or k.up_capacity 0 0) 0) (eqb (get_or k.up_price 0 0) 0) (eqb (get_or k.down_capacity 0 0) 0) (eqb (get_or k.down_price 0 0) 0) f.5 in
    record {
      services = leb-true _ _ (both_l (leb k.services 10) _ e);
      some_cabinet = leb-true _ _ (both_l (leb 1 k.cabinets) _ a);
      cabinets = leb-true _ _ (both_l (leb k.cabinets 200) _ b);
      streams = leb-true _ _ (both_l (leb k.streams 100) _ d);
      demands = amount_le _ _ f.0;
      parents = parent_lt _ _ (parents_fall k e);
      capacities = amount_le _ _ g.0;
      prices = amount_le _ _ g.1;
      up_capacities = amount_le _ _ g.2;
      up_prices = amount_le _ _ g.3;
      down_capacities = amount_le _ _ g.4;
      down_prices = amount_le _ _ g.5;
      loads = amount_le _ _ f.3;
      ends = λ j l. ends_of k.services (get_or k.from j 0) (get_or k.to j 0) (all_at k.streams _ f.4 j l);
      root = (eqb-true _ _ h.0, eqb-true _ _ h.1, eqb-true _ _ h.2, eqb-true _ _ h.3);
    }

pub few_services : (k : Records) → sound k ≡ true → k.services ≤ 10
few_services k e = (good k e).services

pub few_entries : (k : Records) → sound k ≡ true → k.cabinets * 2 ^ k.services ≤ 204800
few_entries k e =
    let G = good k e in
    omega (arith, mul-le-mul G.cabinets (pow-le-pow_right {n = 2} (omega arith) G.services))

-- a product of two amounts
product_le : (a m n : ℕ) → a ≤ m → m ≤ 10000 → n ≤ 10000 → a * n ≤ 100000000
product_le a m n h i j = omega (arith, mul-le-mul (let z : a ≤ 10000 = omega arith in z) j)

module _ (k : Records) (G : Good k) where
  pub falls : Falls (parent_of k)
  falls = G.parents

  pub sets_le : 2 ^ k.services ≤ 1024
  sets_le = pow-le-pow_right {n = 2} (omega arith) G.services

  -- a bound of every single charge
  pub nodes : (c x n : ℕ) → c < k.cabinets → x < 2 ^ k.services → (netted k).node c x ≡ some n → n ≤ 200000000
  unfolding records.own_of
  nodes c x n hc hx e =
      let w = (provided_some _ _ n).0 e in
      let d = demand_in k.demand k.services x in
      let room = leb d (field k.cabinets k.capacity c) in
      let fits : room ≡ true = both_l room _ (both_l (room && ((own_of k c).joint ⇒ eqb (bit_and x (full k.services)) 0)) _ w.0) in
      omega (arith, w.1, product_le d (field k.cabinets k.capacity c) (field k.cabinets k.price c) (leb-true _ _ fits) (G.capacities c) (G.prices c))

  pub links : (c x n : ℕ) → c < k.cabinets → x < 2 ^ k.services → (netted k).link c x ≡ some n → n ≤ 200000000
  unfolding records.link_of
  links c x n hc hx e =
      let w = (provided_some _ _ n).0 e in
      let o = flow_out k.from k.to k.load k.streams x in
      let i = flow_out k.to k.from k.load k.streams x in
      let u : load_of o ≤ field k.cabinets k.up_capacity c = leb-true _ _ (both_l (leb (load_of o) (field k.cabinets k.up_capacity c)) _ w.0) in
      let d : load_of i ≤ field k.cabinets k.down_capacity c = leb-true _ _ (both_r (leb (load_of o) (field k.cabinets k.up_capacity c)) _ w.0) in
      omega (
        arith,
        w.1,
        product_le o.demand (field k.cabinets k.up_capacity c) (field k.cabinets k.up_price c) (omega (arith, u)) (G.up_capacities c) (G.up_prices c),
        product_le i.demand (field k.cabinets k.down_capacity c) (field k.cabinets k.down_price c) (omega (arith, d)) (G.down_capacities c) (G.down_prices c),
      )

  -- so no sum is above the limit
  pub small : (2 * k.cabinets - 1) * 200000000 ≤ limit
  small = omega (arith, G.cabinets)
