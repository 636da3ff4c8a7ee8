-- Joints and the sets that can be placed: no set is placed with a service on a joint, and the empty set can always be placed.
use Prim.Native.Nat.{ℕ, zero, suc, ◌+◌, ◌^◌, ◌<◌}
use native.Mathlib.Nat.{one-le-pow}
use native.Mathlib.Omega.{arith}
use mathlib.Core.Path.{◌≡◌, refl, sym, ap, ◌∙◌}
use mathlib.Core.Bool.{Bool, true, false, ◌&&◌, not}
use mathlib.Core.List.{[]}
use lib.Dec.{eqb, ltb, leb}
use borrow.Author.Tests.{ltb-true, eq-eqb, le-leb, not-true}
use Rattle.finite.specs.Below.{◌⇒◌, only, all_below}
use Rattle.finite.proofs.Booleans.{clash, both, both_l, both_r, implies, implied}
use Rattle.finite.proofs.Sums.{sum_zero}
use Rattle.finite.proofs.Tests.{all_in, all_at, any_in}
use Rattle.subsets.specs.Sets.{has}
use Rattle.subsets.specs.Tree.{before}
use Rattle.subsets.proofs.Sets.{has_zero}
use Rattle.sheet.specs.Instance.{Instance, WellFormed}
use Rattle.embedding.specs.Definition1.{member}
use Rattle.embedding.specs.Limits.{weight}
use Rattle.embedding.specs.Road.{up, down}
use Rattle.embedding.specs.Plan.{digit, path_within, path, routes, demand_of, fits, powered, unbarred, admits, carried, link_fits, link_keeps}
use Rattle.embedding.specs.Splits.{stands, keeps, placeable}
use Rattle.embedding.proofs.Services.{admits_ext, link_keeps_ext}

-- no number is below 0
none_leb : (n m : ℕ) → n ≡ 0 → leb n m ≡ true
none_leb n m e = le-leb n m (omega (arith, e))

module _ (I : Instance) where
  -- a service that a cabinet admits is on no joint
  admitted_off : (c : ℕ) (x : ℕ → Bool) → admits I c x ≡ true → (i : ℕ) → i < I.r → x i ≡ true → I.joint c ≡ false
  unfolding admits powered
  admitted_off c x h i k e =
      let p = both_r (fits I c x) (powered I c x) (both_l (fits I c x && powered I c x) (unbarred I c x) h) in
      not-true (I.joint c) (implied (x i) (not (I.joint c)) (all_at I.r (λ i. x i ⇒ not (I.joint c)) p i k) e)

  -- nor is a service of a set that is placed on a part
  pub placed_off : (T : ℕ → Bool) (p a : ℕ) (π : ℕ → ℕ) → keeps I T p a π ≡ true → (i : ℕ) → i < I.r → has a i ≡ true
      → (π i < I.s) × (I.joint (π i) ≡ false)
  unfolding keeps
  placed_off T p a π h i k e =
      let sits = all_below I.r (λ i. has a i ⇒ T (π i) && ltb (π i) I.s) in
      let on : ℕ → Bool = λ c. T c ⇒ admits I c (λ i. has a i && eqb (π i) c) in
      let s = implied (has a i) _ (all_at I.r (λ i. has a i ⇒ T (π i) && ltb (π i) I.s) (both_l sits _ h) i k) e in
      let l : π i < I.s = ltb-true (π i) I.s (both_r (T (π i)) _ s) in
      let t = all_at I.s on (both_l (all_below I.s on) _ (both_r sits _ h)) (π i) l in
      let m = implied (T (π i)) (admits I (π i) (λ j. has a j && eqb (π j) (π i))) t (both_l (T (π i)) _ s) in
      (l, admitted_off (π i) (λ j. has a j && eqb (π j) (π i)) m i k (both (has a i) _ e (eq-eqb (π i) (π i) refl)))

  -- every cabinet admits no service, a joint too
  none_admitted : (c : ℕ) → admits I c (λ i. false) ≡ true
  unfolding admits fits demand_of powered unbarred only ◌⇒◌
  none_admitted c =
      both _ _
      (both _ _ (none_leb _ (I.capacity c) (sum_zero I.r (λ i. 0) (λ i k. refl))) (all_in I.r (λ i. true) (λ i k. refl)))
      (all_in I.r (λ i. true) (λ i k. refl))

  -- a path from a cabinet to itself has no link
  path_stays : (n p : ℕ) → path_within I.parent n p p ≡ []
  unfolding path_within
  path_stays zero p = refl
  path_stays (suc n) p = rw (path_within, eq-eqb p p refl) refl

  -- where all services stand on one cabinet no link carries anything
  none_carried : (p e : ℕ) → carried I (λ i. p) e ≡ 0
  unfolding carried routes path member only
  none_carried p e = sum_zero I.q _ (λ j k. ap (λ l. only (member e l) (weight I j)) (path_stays (p + p) p))

  none_kept : (p c : ℕ) → link_keeps I (λ i. p) c ≡ true
  unfolding link_keeps link_fits
  none_kept p c = both _ _ (none_leb _ (I.up_capacity c) (none_carried p (up c))) (none_leb _ (I.down_capacity c) (none_carried p (down c)))

module _ (I : Instance) (W : WellFormed I) where
  -- while nothing is placed all services stand on the top
  all_stay : (p : ℕ) (π : ℕ → ℕ) (i : ℕ) → stands I 0 p π i ≡ p
  unfolding stands
  all_stay p π i = rw (stands, has_zero i) refl

  -- any placing places the empty set on any part
  empty_kept : (T : ℕ → Bool) (p : ℕ) (π : ℕ → ℕ) → keeps I T p 0 π ≡ true
  unfolding keeps
  empty_kept T p π =
      both _ _ (all_in I.r _ (λ i k. implies (has 0 i) _ (λ e. clash (sym e ∙ has_zero i))))
      (both _ _
      (all_in I.s _ (λ c k. implies (T c) _ (λ _.
      admits_ext I W (λ i. has 0 i && eqb (π i) c) (λ i. false) (λ i k. ap (λ (t : Bool). t && eqb (π i) c) (has_zero i)) c ∙ none_admitted I c)))
      (all_in I.s _ (λ c k. implies _ _ (λ _. link_keeps_ext I W (stands I 0 p π) (λ i. p) (λ i k. all_stay p π i) c ∙ none_kept I p c))))

  -- so it can always be placed, also where there are joints only
  pub empty_placeable : (c : ℕ) → placeable I c 0 ≡ true
  unfolding placeable
  empty_placeable c =
      any_in (I.s ^ I.r) _ 0 (one-le-pow I.r I.s W.some_cabinet) (empty_kept (before I.parent c) (I.parent c) (digit I.s 0))
