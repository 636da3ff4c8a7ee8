-- The charges of cabinets and links, summed over a part of the tree, are a number exactly when the placing uses no barred pair and no joint and keeps the part's capacities. Over the whole tree and for all services that number is the plan's cost.
use Prim.Native.Nat.{ℕ, zero, suc, ◌+◌, ◌≤◌, ◌<◌}
use native.Mathlib.Omega.{arith}
use mathlib.Core.Logic.{◌≢◌, ◌↔◌}
use mathlib.Core.Path.{◌≡◌, refl, sym, ap, ap₂, ◌∙◌}
use mathlib.Core.Bool.{Bool, true, false, ◌&&◌, not, and-true, and-false, and_assoc, and_comm}
use lib.Dec.{eqb, ltb}
use borrow.Author.Tests.{eqb-true, eqb-false, eq-eqb, ne_eqb, lt-ltb, le-ltb, not-true}
use Rattle.finite.specs.Below.{◌⇒◌, only, sum_below, all_below}
use Rattle.finite.proofs.Booleans.{both, both_l, both_r, same_test, implies, implied}
use Rattle.finite.proofs.Sums.{sum_ext, sum_one, sum_swap}
use Rattle.finite.proofs.Tests.{all_in, all_at, all_ext, all_both}
use Rattle.subsets.specs.Sets.{has}
use Rattle.subsets.specs.Inner.Masks.{full}
use Rattle.subsets.specs.Tree.{under}
use Rattle.subsets.specs.Costs.{some, provided}
use Rattle.subsets.specs.Inner.Totals.{◌⊕◌, charged}
use Rattle.subsets.specs.Inner.Net as nets
use Rattle.subsets.specs.Inner.Net.{on, below, charge, Sits}
use Rattle.subsets.proofs.Tree.{under_small}
use Rattle.sheet.specs.Instance.{Instance, WellFormed}
use Rattle.embedding.specs.Limits.{weight}
use Rattle.embedding.specs.Plan.{fits, unbarred, powered, admits, link_fits, fee, toll, link_keeps, in_range, bars_keep, rooms_keep, joints_keep, cabinets_keep, links_keep, valid, cabinets_cost, plan_cost, worth}
use Rattle.embedding.specs.Splits.{stands, keeps}
use Rattle.embedding.specs.Inner.Charge.{cabinet_charge, link_charge, net}
use Rattle.subsets.proofs.Sets.{has_keep, has_full}
use Rattle.subsets.proofs.Provided.{provided_add, charged_provided, total_provided, provided_some}
use Rattle.embedding.proofs.Mappings.{InRange}
use Rattle.embedding.proofs.Loads.{link_cost, link_keeps_by_cut, links_cost_by_links}
use Rattle.embedding.proofs.Services.{admits_ext, leaving_ext, entering_ext, link_keeps_ext, link_cost_ext}

-- the whole tree, as a part
abbrev pub everywhere : ℕ → Bool
everywhere d = true

-- T is a part of the tree with the top v: v has its smallest number, and the parent of every other cabinet of T is in T too
pub record Part (I : Instance) (T : ℕ → Bool) (v : ℕ) : Type 0 where
  pub top : v < I.s
  pub least : (c : ℕ) → T c ≡ true → v ≤ c
  pub closed : (c : ℕ) → T c ≡ true → c ≢ v → T (I.parent c) ≡ true

-- the link above c is between cabinets of the part
abbrev pub inner : Instance → (ℕ → Bool) → ℕ → Bool
inner I T c = T c && (ltb 0 c && T (I.parent c))

-- what c charges for the services of x that π puts there
abbrev pub fees : Instance → ℕ → (ℕ → ℕ) → ℕ → ℕ
fees I x π c = sum_below I.r (λ i. only (has x i && eqb (π i) c) (fee I c i))

-- what a placing costs on a part
unfoldable pub part_cost : Instance → (ℕ → Bool) → ℕ → ℕ → (ℕ → ℕ) → ℕ
part_cost I T v x π = sum_below I.s (λ c. only (T c) (fees I x π c)) + sum_below I.s (λ c. only (inner I T c) (link_cost I (stands I x v π) c))

module _ (I : Instance) (W : WellFormed I) (T : ℕ → Bool) (v : ℕ) (P : Part I T v) where
  -- ---- the links between cabinets of the part are those above all but the top

  -- the parent of the top is outside, if it has one
  top_root : (c : ℕ) → c ≡ v → T (I.parent c) ≡ true → c ≤ 0
  top_root zero e r = omega arith
  top_root (suc c) e r = absurd (omega (arith, W.parents (suc c) (omega arith), P.least (I.parent (suc c)) r))

  inner_not_top : (c : ℕ) → T c && not (eqb c v) ≡ inner I T c
  inner_not_top c = go (T c) refl (eqb c v) refl (T (I.parent c)) refl
    where
      go : (t : Bool) → T c ≡ t → (e : Bool) → eqb c v ≡ e → (u : Bool) → T (I.parent c) ≡ u → t && not e ≡ t && (ltb 0 c && u)
      go false p e q u r = refl
      go true p true q false r = sym (and-false (ltb 0 c))
      go true p true q true r = ap (λ (z : Bool). z && true) (sym (le-ltb 0 c (top_root c (eqb-true c v q) r)))
      go true p false q u r =
          let w : c ≢ v = eqb-false c v q in
          let l : v ≤ c = P.least c p in
          ap₂ ◌&&◌ (sym (lt-ltb 0 c (omega arith))) (sym (P.closed c p w) ∙ r)

  inner_above : (c : ℕ) → inner I T c ≡ true → v < c
  inner_above c i =
      let h : T c && not (eqb c v) ≡ true = inner_not_top c ∙ i in
      let w : c ≢ v = eqb-false c v (not-true (eqb c v) (both_r (T c) (not (eqb c v)) h)) in
      let l : v ≤ c = P.least c (both_l (T c) (not (eqb c v)) h) in
      omega arith

  module _ (x : ℕ) (π : ℕ → ℕ) (sits : Sits (net I) T x π) where
    -- every service stands on a cabinet of the road, placed or not
    pub stands_placed : InRange I (stands I x v π)
    unfolding stands
    stands_placed i k = go (has x i) refl
      where
        go : (t : Bool) → has x i ≡ t → (elim t as (λ (_ : Bool). ℕ) [ true ↦ π i | false ↦ v ]) < I.s
        go true e = (sits i k e).1
        go false e = P.top

    -- ---- a cabinet

    has_on : (c i : ℕ) → i < I.r → has (on (net I) π x c) i ≡ has x i && eqb (π i) c
    has_on c = has_keep I.r (λ i. eqb (π i) c) x

    cabinet_charge_on : (c : ℕ) → cabinet_charge I c (on (net I) π x c) ≡ provided (admits I c (λ i. has x i && eqb (π i) c)) (fees I x π c)
    unfolding cabinet_charge
    cabinet_charge_on c =
        ap₂ provided (admits_ext I W (has (on (net I) π x c)) (λ i. has x i && eqb (π i) c) (has_on c) c)
        (sum_ext I.r _ _ (λ i k. ap (λ (t : Bool). only t (fee I c i)) (has_on c i k)))

    -- ---- a link

    has_below : (c : ℕ) → v < c → (i : ℕ) → i < I.r → has (below (net I) π x c) i ≡ under I.parent c (stands I x v π i)
    unfolding stands
    has_below c l i k = has_keep I.r (λ i. under I.parent c (π i)) x i k ∙ go (has x i)
      where
        go : (t : Bool) → t && under I.parent c (π i) ≡ under I.parent c (elim t as (λ (_ : Bool). ℕ) [ true ↦ π i | false ↦ v ])
        go true = refl
        go false = sym (under_small I.parent W.parents c v l)

    link_charge_below : (c : ℕ) → v < c → link_charge I c (below (net I) π x c) ≡ provided (link_keeps I (stands I x v π) c) (link_cost I (stands I x v π) c)
    unfolding link_charge
    link_charge_below c l =
        let y : ℕ → Bool = has (below (net I) π x c) in
        let z : ℕ → Bool = λ i. under I.parent c (stands I x v π i) in
        let e : (i : ℕ) → i < I.r → y i ≡ z i = has_below c l in
        ap₂ provided
        (ap₂ (link_fits I c) (leaving_ext I W y z e (weight I)) (entering_ext I W y z e (weight I))
        ∙ sym (link_keeps_by_cut I W (stands I x v π) stands_placed c (omega arith)))
        (ap₂ (toll I c) (leaving_ext I W y z e I.load) (entering_ext I W y z e I.load))

    link_charged : (c : ℕ) → charged (T c && not (eqb c v)) (link_charge I c (below (net I) π x c))
        ≡ provided (inner I T c ⇒ link_keeps I (stands I x v π) c) (only (inner I T c) (link_cost I (stands I x v π) c))
    unfolding charged only ◌⇒◌ provided
    link_charged c = ap (λ (b : Bool). charged b (link_charge I c (below (net I) π x c))) (inner_not_top c) ∙ go (inner I T c) refl
      where
        go : (b : Bool) → inner I T c ≡ b → charged b (link_charge I c (below (net I) π x c))
            ≡ provided (b ⇒ link_keeps I (stands I x v π) c) (only b (link_cost I (stands I x v π) c))
        go true i = link_charge_below c (inner_above c i)
        go false i = refl

    -- ---- all of them

    Sat : ℕ → Bool
    Sat i = has x i ⇒ T (π i) && ltb (π i) I.s

    sits_test : all_below I.r Sat ≡ true
    unfolding Sat
    sits_test = all_in I.r (λ i. has x i ⇒ T (π i) && ltb (π i) I.s) (λ i k.
        implies (has x i) (T (π i) && ltb (π i) I.s) (λ e. both _ _ (sits i k e).0 (lt-ltb (π i) I.s (sits i k e).1)))

    -- the charge of a placing on a part is its cost there if it uses no barred pair and no joint and keeps the capacities, else none
    pub part_charges : charge (net I) T v x π ≡ provided (keeps I T v x π) (part_cost I T v x π)
    unfolding nets.charge keeps part_cost Sat
    part_charges =
        let C : ℕ → Bool = λ c. T c ⇒ admits I c (λ i. has x i && eqb (π i) c) in
        let L : ℕ → Bool = λ c. inner I T c ⇒ link_keeps I (stands I x v π) c in
        ap₂ ◌⊕◌
        (total_provided I.s _ C (λ c. only (T c) (fees I x π c)) (λ c k. ap (charged (T c)) (cabinet_charge_on c) ∙ charged_provided (T c) _ _))
        (total_provided I.s _ L (λ c. only (inner I T c) (link_cost I (stands I x v π) c)) (λ c k. link_charged c))
        ∙ provided_add (all_below I.s C) (all_below I.s L) _ _
        ∙ ap (λ (t : Bool). provided (t && (all_below I.s C && all_below I.s L)) (part_cost I T v x π)) (sym sits_test)

-- ---- the whole tree and all services: a plan

module _ (I : Instance) (W : WellFormed I) (π : ℕ → ℕ) (placed : InRange I π) where
  stands_all : (i : ℕ) → i < I.r → stands I (full I.r) 0 π i ≡ π i
  unfolding stands
  stands_all i k = rw (has_full I.r i k, stands)

  on_all : (c i : ℕ) → i < I.r → has (full I.r) i && eqb (π i) c ≡ eqb (π i) c
  on_all c i k = ap (λ (t : Bool). t && eqb (π i) c) (has_full I.r i k)

  -- no cabinet holds a service that is wrong there exactly when no service is wrong on its cabinet
  by_services : (wrong : ℕ → ℕ → Bool)
      → all_below I.s (λ c. all_below I.r (λ i. eqb (π i) c ⇒ not (wrong i c))) ≡ all_below I.r (λ i. not (wrong i (π i)))
  by_services wrong =
      same_test (all_below I.s (λ c. all_below I.r (λ i. eqb (π i) c ⇒ not (wrong i c)))) (all_below I.r (λ i. not (wrong i (π i))))
      (λ h. all_in I.r (λ i. not (wrong i (π i))) (λ i k.
      implied (eqb (π i) (π i)) (not (wrong i (π i)))
      (all_at I.r (λ j. eqb (π j) (π i) ⇒ not (wrong j (π i)))
      (all_at I.s (λ c. all_below I.r (λ j. eqb (π j) c ⇒ not (wrong j c))) h (π i) (placed i k)) i k)
      (eq-eqb (π i) (π i) refl)))
      (λ h. all_in I.s (λ c. all_below I.r (λ i. eqb (π i) c ⇒ not (wrong i c))) (λ c _.
      all_in I.r (λ i. eqb (π i) c ⇒ not (wrong i c)) (λ i k.
      implies (eqb (π i) c) (not (wrong i c)) (λ e.
      ap (λ (z : ℕ). not (wrong i z)) (sym (eqb-true (π i) c e)) ∙ all_at I.r (λ i. not (wrong i (π i))) h i k))))

  -- so with the bars
  unbarred_all : all_below I.s (λ c. unbarred I c (λ i. eqb (π i) c)) ≡ bars_keep I π
  unfolding unbarred bars_keep
  unbarred_all = by_services I.barred

  -- and with the joints
  powered_all : all_below I.s (λ c. powered I c (λ i. eqb (π i) c)) ≡ joints_keep I π
  unfolding powered joints_keep
  powered_all = by_services (λ i c. I.joint c)

  -- every cabinet has room and power for what a plan puts there exactly when the plan passes the test of the cabinets
  houses_all : all_below I.s (λ c. fits I c (λ i. eqb (π i) c) && powered I c (λ i. eqb (π i) c)) ≡ cabinets_keep I π
  unfolding cabinets_keep rooms_keep
  houses_all =
      all_both I.s (λ c. fits I c (λ i. eqb (π i) c)) (λ c. powered I c (λ i. eqb (π i) c))
      ∙ ap (λ (t : Bool). rooms_keep I π && t) powered_all

  -- every cabinet admits what a plan puts there exactly when the plan uses no barred pair and passes the test of the cabinets
  admits_all : all_below I.s (λ c. admits I c (λ i. eqb (π i) c)) ≡ bars_keep I π && cabinets_keep I π
  unfolding admits
  admits_all =
      all_both I.s (λ c. fits I c (λ i. eqb (π i) c) && powered I c (λ i. eqb (π i) c)) (λ c. unbarred I c (λ i. eqb (π i) c))
      ∙ ap₂ ◌&&◌ houses_all unbarred_all
      ∙ and_comm (cabinets_keep I π) (bars_keep I π)

  keeps_all : keeps I everywhere 0 (full I.r) π ≡ valid I π
  unfolding keeps valid in_range links_keep ◌⇒◌
  keeps_all =
      ap₂ ◌&&◌ (all_ext I.r _ _ (λ i k. ap (λ (t : Bool). t ⇒ ltb (π i) I.s) (has_full I.r i k)))
      (ap₂ ◌&&◌
      (all_ext I.s _ _ (λ c k. admits_ext I W (λ i. has (full I.r) i && eqb (π i) c) (λ i. eqb (π i) c) (on_all c) c) ∙ admits_all)
      (all_ext I.s _ _ (λ c k. ap₂ ◌⇒◌ (and-true (ltb 0 c)) (link_keeps_ext I W (stands I (full I.r) 0 π) π stands_all c)))
      ∙ and_assoc (bars_keep I π) (cabinets_keep I π) (links_keep I π))

  -- only the cabinet where it is charges a service
  seat : (i c : ℕ) → only (eqb (π i) c) (fee I c i) ≡ only (eqb c (π i)) (fee I (π i) i)
  unfolding only
  seat i c = go (eqb (π i) c) refl
    where
      go : (t : Bool) → eqb (π i) c ≡ t → only t (fee I c i) ≡ only (eqb c (π i)) (fee I (π i) i)
      go true e = let q : π i ≡ c = eqb-true (π i) c e in rw (eq-eqb c (π i) (sym q)) (ap (λ (z : ℕ). fee I z i) (sym q))
      go false e = let q : π i ≢ c = eqb-false (π i) c e in rw (ne_eqb c (π i) (λ e. omega arith)) refl

  cabinets_all : sum_below I.s (λ c. fees I (full I.r) π c) ≡ cabinets_cost I π
  unfolding cabinets_cost
  cabinets_all =
      sum_swap I.s I.r (λ c i. only (has (full I.r) i && eqb (π i) c) (fee I c i))
      ∙ sum_ext I.r _ _ (λ i k.
      sum_ext I.s _ _ (λ c h. ap (λ (t : Bool). only t (fee I c i)) (on_all c i k) ∙ seat i c)
      ∙ sum_one I.s (π i) (fee I (π i) i) (placed i k))

  cost_all : part_cost I everywhere 0 (full I.r) π ≡ plan_cost I π
  unfolding part_cost plan_cost only
  cost_all =
      ap₂ ◌+◌ cabinets_all
      (sum_ext I.s _ _ (λ c k. ap₂ only (and-true (ltb 0 c)) (link_cost_ext I W (stands I (full I.r) 0 π) π stands_all c))
      ∙ sym (links_cost_by_links I W π placed))

  whole : Part I everywhere 0
  whole = record { top = omega (arith, W.some_cabinet); least = λ c e. omega arith; closed = λ c e n. refl }

  -- over the whole tree and for all services the charge is the cost of the plan if it is valid, else none
  pub charges : charge (net I) everywhere 0 (full I.r) π ≡ worth I π
  unfolding worth
  charges = part_charges I W everywhere 0 whole (full I.r) π (λ i k e. (refl, placed i k)) ∙ ap₂ provided keeps_all cost_all

  -- the charge is k exactly when the plan is valid at cost k
  pub charges_iff : (k : ℕ) → (charge (net I) everywhere 0 (full I.r) π ≡ some k) ↔ ((valid I π ≡ true) × (plan_cost I π ≡ k))
  unfolding worth
  charges_iff k = rw charges (provided_some (valid I π) (plan_cost I π) k)
