-- When two instances are the same: their counts, the fields of the records that are there, what they bar and their joints are; and there is nothing else.
use Prim.Native.Nat.{ℕ, ◌≤◌, ◌<◌}
use native.Mathlib.Omega.{arith}
use mathlib.Core.Path.{◌≡◌, refl, sym, ap, ap₂, ◌∙◌, fun_ext}
use mathlib.Core.Bool.{Bool, true, false, ◌&&◌}
use lib.Dec.{eqb, ltb}
use borrow.Author.Tests.{ltb-true, ltb-false, le-ltb}
use Rattle.finite.specs.Below.{only}
use Rattle.sheet.specs.Instance.{Instance, of_records}
use Rattle.sheet.specs.Said.{Ends, Padded, ByCapacity}
use Rattle.sheet.specs.declared.Service.{Service}
use Rattle.sheet.specs.declared.Cabinet.{Cabinet}
use Rattle.sheet.specs.declared.Stream.{Stream}

-- the same counts, the same fields in every record that is there, the same barred pairs, and the same joints
pub record Alike (I J : Instance) : Type 0 where
  pub r : I.r ≡ J.r
  pub s : I.s ≡ J.s
  pub q : I.q ≡ J.q
  pub demand : (i : ℕ) → i < I.r → I.demand i ≡ J.demand i
  pub parent : (c : ℕ) → c < I.s → I.parent c ≡ J.parent c
  pub capacity : (c : ℕ) → c < I.s → I.capacity c ≡ J.capacity c
  pub price : (c : ℕ) → c < I.s → I.price c ≡ J.price c
  pub up_capacity : (c : ℕ) → c < I.s → I.up_capacity c ≡ J.up_capacity c
  pub up_price : (c : ℕ) → c < I.s → I.up_price c ≡ J.up_price c
  pub down_capacity : (c : ℕ) → c < I.s → I.down_capacity c ≡ J.down_capacity c
  pub down_price : (c : ℕ) → c < I.s → I.down_price c ≡ J.down_price c
  pub from : (j : ℕ) → j < I.q → I.from j ≡ J.from j
  pub to : (j : ℕ) → j < I.q → I.to j ≡ J.to j
  pub load : (j : ℕ) → j < I.q → I.load j ≡ J.load j
  pub barred : (i c : ℕ) → I.barred i c ≡ J.barred i c
  pub joint : (c : ℕ) → I.joint c ≡ J.joint c

-- two fields that agree below the count and end there
throughout : (n m : ℕ) (f g : ℕ → ℕ) → n ≡ m → ((d : ℕ) → d < n → f d ≡ g d) → Ends n f → Ends m g → f ≡ g
throughout n m f g e h y z = fun_ext (λ d. go d (ltb d n) refl)
  where
    go : (d : ℕ) (t : Bool) → ltb d n ≡ t → f d ≡ g d
    go d true q = h d (ltb-true d n q)
    go d false q = let l : n ≤ d = ltb-false d n q in y d l ∙ sym (z d (omega arith))

-- two that are alike and have no fields but those of their records are the same
pub same_instance : (I J : Instance) → Alike I J → Padded I → Padded J → I ≡ J
same_instance I J A P Q =
    let r = A.r in
    let s = A.s in
    let q = A.q in
    let demand = throughout I.r J.r I.demand J.demand r A.demand P.demand Q.demand in
    let parent = throughout I.s J.s I.parent J.parent s A.parent P.parent Q.parent in
    let capacity = throughout I.s J.s I.capacity J.capacity s A.capacity P.capacity Q.capacity in
    let price = throughout I.s J.s I.price J.price s A.price P.price Q.price in
    let up_capacity = throughout I.s J.s I.up_capacity J.up_capacity s A.up_capacity P.up_capacity Q.up_capacity in
    let up_price = throughout I.s J.s I.up_price J.up_price s A.up_price P.up_price Q.up_price in
    let down_capacity = throughout I.s J.s I.down_capacity J.down_capacity s A.down_capacity P.down_capacity Q.down_capacity in
    let down_price = throughout I.s J.s I.down_price J.down_price s A.down_price P.down_price Q.down_price in
    let from = throughout I.q J.q I.from J.from q A.from P.from Q.from in
    let to = throughout I.q J.q I.to J.to q A.to P.to Q.to in
    let load = throughout I.q J.q I.load J.load q A.load P.load Q.load in
    let barred = fun_ext (λ i. fun_ext (λ c. A.barred i c)) in
    let joint = fun_ext A.joint in
    λ k. record {
      r = r k;
      s = s k;
      q = q k;
      demand = demand k;
      parent = parent k;
      capacity = capacity k;
      price = price k;
      up_capacity = up_capacity k;
      up_price = up_price k;
      down_capacity = down_capacity k;
      down_price = down_price k;
      from = from k;
      to = to k;
      load = load k;
      barred = barred k;
      joint = joint k;
    }

-- two whose joints are told by their capacities have the same joint where they have the same capacity
pub same_joint : (I J : Instance) → ByCapacity I → ByCapacity J → I.s ≡ J.s → (c : ℕ) → (c < I.s → I.capacity c ≡ J.capacity c) → I.joint c ≡ J.joint c
same_joint I J B C s c e = B c ∙ go (ltb c I.s) refl ∙ sym (C c)
  where
    go : (t : Bool) → ltb c I.s ≡ t → ltb c I.s && eqb (I.capacity c) 0 ≡ ltb c J.s && eqb (J.capacity c) 0
    go true q = ap₂ (λ (n m : ℕ). ltb c n && eqb m 0) s (e (ltb-true c I.s q))
    go false q = ap (λ (t : Bool). t && eqb (I.capacity c) 0) q ∙ sym (ap (λ (t : Bool). t && eqb (J.capacity c) 0) (sym (ap (ltb c) s) ∙ q))

-- ---- instances of records

-- a field that is read only below a count ends there
past : (n : ℕ) (f : ℕ → ℕ) → Ends n (λ d. only (ltb d n) (f d))
unfolding only
past n f d k = rw (le-ltb d n k)

-- an instance that is made of records has nothing else
pub records_padded : (r s q : ℕ) (service : ℕ → Service) (cabinet : ℕ → Cabinet) (stream : ℕ → Stream) (barred : ℕ → ℕ → Bool) (joint : ℕ → Bool)
    → Padded (of_records r s q service cabinet stream barred joint)
records_padded r s q service cabinet stream barred joint =
    record {
      demand = past _ _;
      parent = past _ _;
      capacity = past _ _;
      price = past _ _;
      up_capacity = past _ _;
      up_price = past _ _;
      down_capacity = past _ _;
      down_price = past _ _;
      from = past _ _;
      to = past _ _;
      load = past _ _;
    }
