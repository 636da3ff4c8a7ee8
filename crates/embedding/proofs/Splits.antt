-- A set can be placed on the part before c exactly when the least charge there is a cost, so a planner's rows decide the count.
use Prim.Native.Nat.{ℕ, ◌^◌, ◌≤◌, ◌<◌}
use native.Mathlib.Omega.{arith}
use mathlib.Core.Logic.{◌≢◌, ◌↔◌, ◌⊎◌, inl, inr}
use mathlib.Core.Path.{◌≡◌, refl, sym, ap, ap₂, ◌∙◌, subst}
use mathlib.Core.Bool.{Bool, true, false, ◌&&◌}
use lib.Dec.{eqb, ltb}
use borrow.Author.Tests.{eqb-true, eq-eqb, ltb-true, lt-ltb}
use Rattle.finite.specs.Below.{◌⇒◌, only, sum_below, all_below, any_below}
use Rattle.finite.proofs.Booleans.{both, both_l, both_r, either, either_l, either_r, implied}
use Rattle.finite.proofs.Sums.{sum_ext}
use Rattle.finite.proofs.Tests.{all_ext, all_at, any_in, any_at}
use Rattle.subsets.specs.Sets.{has, subset}
use Rattle.subsets.specs.Tree.{under, part, before}
use Rattle.subsets.specs.Costs.{Cost, none, some, is_some}
use Rattle.subsets.specs.Inner.Totals.{Le}
use Rattle.subsets.specs.Inner.Net.{charge, Sits, Least}
use Rattle.subsets.proofs.Tree.{under_le, under_cases}
use Rattle.sheet.specs.Instance.{Instance, WellFormed}
use Rattle.embedding.specs.Plan.{digit}
use Rattle.embedding.specs.Splits.{stands, keeps, placeable, weighed}
use Rattle.embedding.specs.Inner.Charge.{net}
use Rattle.embedding.proofs.Digits.{number}
use Rattle.subsets.proofs.Provided.{provided_some}
use Rattle.embedding.proofs.Services.{admits_ext, link_keeps_ext}
use Rattle.embedding.proofs.Charges.{Part, inner, part_cost, stands_placed, part_charges}

-- d is p, or under a child of p numbered below k
abbrev Joined : (ℕ → ℕ) → ℕ → ℕ → ℕ → Type 0
Joined parent p k d = (d ≡ p) ⊎ ((b : ℕ) × (b < k) × (0 < b) × (parent b ≡ p) × (under parent b d ≡ true))

child : (ℕ → ℕ) → ℕ → ℕ → ℕ → Bool
child parent p d b = ltb 0 b && (eqb (parent b) p && under parent b d)

part_cases : (parent : ℕ → ℕ) (p k d : ℕ) → part parent p k d ≡ true → Joined parent p k d
unfolding part child
part_cases parent p k d e = go (either (eqb d p) (any_below k (child parent p d)) e)
  where
    go : (eqb d p ≡ true) ⊎ (any_below k (child parent p d) ≡ true) → Joined parent p k d
    go (inl q) = inl (eqb-true d p q)
    go (inr q) =
        let w = any_at k (child parent p d) q in
        let b : ℕ = w.0 in
        let m : eqb (parent b) p && under parent b d ≡ true = both_r (ltb 0 b) _ w.2 in
        inr (b, w.1, ltb-true 0 b (both_l (ltb 0 b) _ w.2), eqb-true _ _ (both_l (eqb (parent b) p) _ m), both_r (eqb (parent b) p) _ m)

part_in : (parent : ℕ → ℕ) (p k d : ℕ) → Joined parent p k d → part parent p k d ≡ true
unfolding part child
part_in parent p k d (inl e) = either_l (eqb d p) (any_below k (child parent p d)) (eq-eqb d p e)
part_in parent p k d (inr w) =
    either_r (eqb d p) (any_below k (child parent p d)) (any_in k (child parent p d) w.0 w.1
    (both _ _ (lt-ltb 0 w.0 w.2) (both _ _ (eq-eqb (parent w.0) p w.3) w.4)))

module _ (I : Instance) (W : WellFormed I) where
  -- ---- the part before c is a part

  -- p, some of its children and all under those are a part with the top p
  pub part_part : (p k : ℕ) → p < I.s → Part I (part I.parent p k) p
  part_part p k h = record {
    top = h;
    least = λ d e. least d (part_cases I.parent p k d e);
    closed = λ d e n. part_in I.parent p k (I.parent d) (closed d n (part_cases I.parent p k d e));
  }
    where
      least : (d : ℕ) → Joined I.parent p k d → p ≤ d
      least d (inl e) = omega arith
      least d (inr w) = omega (arith, W.parents w.0 w.2, under_le I.parent W.parents w.0 d w.4, w.3)

      closed : (d : ℕ) → d ≢ p → Joined I.parent p k d → Joined I.parent p k (I.parent d)
      closed d n (inl e) = absurd (n e)
      closed d n (inr w) = go (under_cases I.parent W.parents w.0 d w.4)
        where
          go : (d ≡ w.0) ⊎ ((w.0 < d) × (under I.parent w.0 (I.parent d) ≡ true)) → Joined I.parent p k (I.parent d)
          go (inl e) = inl (ap I.parent e ∙ w.3)
          go (inr u) = inr (w.0, w.1, w.2, w.3, u.1)

  -- ---- what a placing keeps depends only on the placed services
  module _ (T : ℕ → Bool) (v a : ℕ) (π σ : ℕ → ℕ) (same : (i : ℕ) → i < I.r → has a i ≡ true → π i ≡ σ i) where
    -- whatever is read of the cabinet only where the service is in the set
    agree : {A : Type 0} (f : Bool → ℕ → A) → ((m n : ℕ) → f false m ≡ f false n) → (i : ℕ) → i < I.r → f (has a i) (π i) ≡ f (has a i) (σ i)
    agree f h i k = go (has a i) refl
      where
        go : (t : Bool) → has a i ≡ t → f t (π i) ≡ f t (σ i)
        go true e = ap (f true) (same i k e)
        go false e = h (π i) (σ i)

    stands_ext : (i : ℕ) → i < I.r → stands I a v π i ≡ stands I a v σ i
    unfolding stands
    stands_ext = agree (λ t m. elim t [ true ↦ m | false ↦ v ]) (λ m n. refl)

    keeps_ext : keeps I T v a π ≡ keeps I T v a σ
    unfolding keeps ◌⇒◌
    keeps_ext =
        ap₂ ◌&&◌ (all_ext I.r _ _ (agree (λ t m. t ⇒ T m && ltb m I.s) (λ m n. refl)))
        (ap₂ ◌&&◌
        (all_ext I.s _ _ (λ c k. ap (λ (t : Bool). T c ⇒ t) (admits_ext I W (λ i. has a i && eqb (π i) c) (λ i. has a i && eqb (σ i) c) (agree (λ t m. t && eqb m c) (λ m n. refl)) c)))
        (all_ext I.s _ _ (λ c k. ap (λ (t : Bool). inner I T c ⇒ t) (link_keeps_ext I W (stands I a v π) (stands I a v σ) stands_ext c))))

  stands_in : (a v : ℕ) (π : ℕ → ℕ) (i : ℕ) → has a i ≡ true → stands I a v π i ≡ π i
  unfolding stands
  stands_in a v π i e = rw (e, stands)

  keeps_sits : (T : ℕ → Bool) (v a : ℕ) (π : ℕ → ℕ) → keeps I T v a π ≡ true → Sits (net I) T a π
  unfolding keeps
  keeps_sits T v a π h i k e =
      let S : ℕ → Bool = λ i. has a i ⇒ T (π i) && ltb (π i) I.s in
      let u : T (π i) && ltb (π i) I.s ≡ true = implied (has a i) (T (π i) && ltb (π i) I.s) (all_at I.r S (both_l (all_below I.r S) _ h) i k) e in
      (both_l (T (π i)) _ u, ltb-true (π i) I.s (both_r (T (π i)) _ u))

  -- ---- the placings tried by number are all placings

  -- some placing of the services of a keeps
  Keeping : (ℕ → Bool) → ℕ → ℕ → Type 0
  Keeping T v a = (π : ℕ → ℕ) × (keeps I T v a π ≡ true)

  tried : (T : ℕ → Bool) (v a : ℕ) → Part I T v → (any_below (I.s ^ I.r) (λ n. keeps I T v a (digit I.s n)) ≡ true) ↔ Keeping T v a
  unfolding Keeping
  tried T v a P = (forth, back)
    where
      forth : any_below (I.s ^ I.r) (λ n. keeps I T v a (digit I.s n)) ≡ true → Keeping T v a
      forth e = let w = any_at (I.s ^ I.r) (λ n. keeps I T v a (digit I.s n)) e in (digit I.s w.0, w.2)

      back : Keeping T v a → any_below (I.s ^ I.r) (λ n. keeps I T v a (digit I.s n)) ≡ true
      back p =
          let w = number I.s I.r (stands I a v p.0) (stands_placed I W T v P a p.0 (keeps_sits T v a p.0 p.1)) in
          any_in (I.s ^ I.r) (λ n. keeps I T v a (digit I.s n)) w.0 w.1
          (keeps_ext T v a (digit I.s w.0) p.0 (λ i k e. w.2 i k ∙ stands_in a v p.0 i e) ∙ p.1)

  Placing : (ℕ → Bool) → ℕ → ℕ → Type 0
  Placing T v a = (π : ℕ → ℕ) × Sits (net I) T a π × (k : ℕ) × (charge (net I) T v a π ≡ some k)

  -- a placing keeps exactly when it has a charge
  kept_charged : (T : ℕ → Bool) (v a : ℕ) → Part I T v → Keeping T v a ↔ Placing T v a
  unfolding Keeping Placing
  kept_charged T v a P = (
    λ w.
        let s = keeps_sits T v a w.0 w.1 in
        (w.0, s, part_cost I T v a w.0, part_charges I W T v P a w.0 s ∙ (provided_some (keeps I T v a w.0) (part_cost I T v a w.0) (part_cost I T v a w.0)).1 (w.1, refl)),
    λ p. (p.0, ((provided_some (keeps I T v a p.0) (part_cost I T v a p.0) p.2).0 (sym (part_charges I W T v P a p.0 p.1) ∙ p.3)).0),
  )

  -- the part before c is a part
  part_before : (c : ℕ) → 0 < c → c < I.s → Part I (before I.parent c) (I.parent c)
  part_before c z k = part_part (I.parent c) c (omega (arith, W.parents c z))

  -- a set can be placed on the part before c exactly when some placing, of any kind, uses no barred pair and keeps its capacities
  pub placeable_iff : (c a : ℕ) → 0 < c → c < I.s → (placeable I c a ≡ true) ↔ ((π : ℕ → ℕ) × (keeps I (before I.parent c) (I.parent c) a π ≡ true))
  unfolding placeable Keeping
  placeable_iff c a z k = tried (before I.parent c) (I.parent c) a (part_before c z k)

  -- ---- so the least charge decides

  decides : (T : ℕ → Bool) (v a : ℕ) (b : Bool) → ((b ≡ true) ↔ Placing T v a) → (f : Cost) → Least (net I) T v a f → b ≡ is_some f
  unfolding Placing Le
  decides T v a b iff none M = go b refl
    where
      go : (t : Bool) → b ≡ t → b ≡ false
      go false e = e
      go true e = let p = iff.0 e in absurd (subst (Le none) p.3 (M.low p.0 p.1))
  decides T v a b iff (some n) M = let h = M.hit n refl in iff.1 (h.0, h.1, n, h.2)

  -- a set can be placed on the part before c exactly when the least charge there is a cost
  pub placeable_least : (c a : ℕ) (f : Cost) → 0 < c → c < I.s → Least (net I) (before I.parent c) (I.parent c) a f → placeable I c a ≡ is_some f
  unfolding Keeping
  placeable_least c a f z k =
      let T = before I.parent c in
      let t = placeable_iff c a z k in
      let p = kept_charged T (I.parent c) a (part_before c z k) in
      decides T (I.parent c) a (placeable I c a) (λ e. p.0 (t.0 e), λ w. t.1 (p.1 w)) f

  -- the count, from the rows of least charges
  pub weighed_rows : (F : ℕ → ℕ → Cost) → ((c a : ℕ) → 0 < c → c < I.s → a < 2 ^ I.r → Least (net I) (before I.parent c) (I.parent c) a (F c a))
      → weighed I ≡ sum_below I.s (λ c. only (ltb 0 c)
      (sum_below (2 ^ I.r) (λ x. sum_below (2 ^ I.r) (λ a. only (subset I.r a x && is_some (F c a)) 1))))
  unfolding weighed only
  weighed_rows F M = sum_ext I.s _ _ (λ c k. go c k (ltb 0 c) refl)
    where
      go : (c : ℕ) → c < I.s → (t : Bool) → ltb 0 c ≡ t
          → only t (sum_below (2 ^ I.r) (λ x. sum_below (2 ^ I.r) (λ a. only (subset I.r a x && placeable I c a) 1)))
          ≡ only t (sum_below (2 ^ I.r) (λ x. sum_below (2 ^ I.r) (λ a. only (subset I.r a x && is_some (F c a)) 1)))
      go c k true e =
          let z : 0 < c = ltb-true 0 c e in
          sum_ext (2 ^ I.r) _ _ (λ x j. sum_ext (2 ^ I.r) _ _ (λ a h.
          ap (λ (b : Bool). only (subset I.r a x && b) 1) (placeable_least c a (F c a) z k (M c a z k h))))
      go c k false e = refl
