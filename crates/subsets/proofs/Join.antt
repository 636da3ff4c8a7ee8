-- The join theorem: the least charge of a part with the subtree of one more child joined to it is the least over splits.
use Rattle.std.proofs.Common.{◌≡◌, ℕ, ◌-◌, ◌^◌, ◌<◌, Bool, true, false, cond, not, ◌&&◌, ◌||◌, eqb, sym, refl, ap, ◌∙◌, ap₂, arith, ne_eqb, eqb-true}
use Rattle.finite.proofs.Booleans.{clash, both_l, both_r, either_l, either_r}
use Rattle.subsets.specs.Sets.{has}
use Rattle.subsets.specs.Inner.Masks.{keep}
use Rattle.subsets.specs.Costs.{Cost, some}
use Rattle.subsets.specs.Inner.Totals.{◌⊕◌, Le, charged, total_below}
use Rattle.subsets.specs.Inner.Net.{Falls}
use Rattle.subsets.specs.Tree.{under}
use Rattle.subsets.specs.Inner.Net.{Net, on, below, charge, Sits, Least}
use Rattle.subsets.specs.Inner.Join.{joined, Beside}
use Rattle.subsets.specs.Inner.Splits.{split_charge, least_split}
use Rattle.subsets.proofs.Costs.{total_ext, total_add, total_one, ⊕-assoc, ⊕-left-comm, ⊕-zero, zero_⊕, Le-refl, Le-trans, Le-⊕, ⊕-parts}
use Rattle.subsets.proofs.Sets.{Sub, keep_ext, keep_keep, keep_is, keep_rest, has_keep, keep_lt, sub_has, sub_keep, sub_le, has_minus}
use Rattle.subsets.proofs.Subsets.{subset_low, subset_met}
use Rattle.subsets.proofs.Charges.{charge_ext}
use Rattle.subsets.proofs.Tree.{under_refl, under_trans}

-- ---- one place of the sums

-- of the nodes' charges
node_place : (t u : Bool) (x a b : Cost) → (t ≡ true → u ≡ false) → (t ≡ true → x ≡ a) → (u ≡ true → x ≡ b)
    → charged (t || u) x ≡ charged t a ⊕ charged u b
unfolding charged ◌⊕◌
node_place true true x a b d p q = clash (d refl)
node_place true false x a b d p q = p refl ∙ sym (⊕-zero a)
node_place false true x a b d p q = q refl ∙ sym (zero_⊕ b)
node_place false false x a b d p q = refl

-- of the links' charges: `ev` is whether it is v, and `ec` whether it is c
link_place : (t u ev ec : Bool) (x a b l : Cost) → (t ≡ true → u ≡ false) → (ec ≡ true → u ≡ true) → (u ≡ true → ev ≡ false)
    → (t ≡ true → ev ≡ false → x ≡ a) → (u ≡ true → ec ≡ false → x ≡ b) → (ec ≡ true → x ≡ l)
    → charged ((t || u) && not ev) x ≡ (charged (t && not ev) a ⊕ charged (u && not ec) b) ⊕ charged ec l
unfolding charged ◌⊕◌
link_place true true ev ec x a b l d cu uv p q s = clash (d refl)
link_place true false true true x a b l d cu uv p q s = clash (sym (cu refl))
link_place true false false true x a b l d cu uv p q s = clash (sym (cu refl))
link_place true false true false x a b l d cu uv p q s = refl
link_place true false false false x a b l d cu uv p q s = p refl refl ∙ sym (⊕-zero a) ∙ sym (⊕-zero (a ⊕ some 0))
link_place false true true ec x a b l d cu uv p q s = clash (uv refl)
link_place false true false true x a b l d cu uv p q s = s refl ∙ sym (zero_⊕ l)
link_place false true false false x a b l d cu uv p q s = q refl refl ∙ sym (zero_⊕ b) ∙ sym (⊕-zero (some 0 ⊕ b))
link_place false false ev true x a b l d cu uv p q s = clash (sym (cu refl))
link_place false false ev false x a b l d cu uv p q s = refl

-- ---- the charge of a placing on the joined part, taken apart

and_imp : (q p : Bool) → (p ≡ true → q ≡ true) → q && p ≡ p
and_imp true p e = refl
and_imp false true e = e refl
and_imp false false e = refl

off : (t u : Bool) → (t ≡ true → u ≡ false) → u ≡ true → not t ≡ true
off true u d e = sym (d refl) ∙ e
off false u d e = refl

cover : (t u : Bool) → (t ≡ true → u ≡ false) → t || u ≡ true → u ≡ not t
cover true u d e = d refl
cover false u d e = e

rest : (t u : Bool) → t || u ≡ true → not t ≡ true → u ≡ true
rest true u e n = clash (sym n)
rest false u e n = e

out : (t u : Bool) → (t ≡ true → u ≡ false) → u ≡ true → t ≡ false
out true u d e = clash (sym e ∙ d refl)
out false u d e = refl

not_r : (s t : Bool) → s && not t ≡ true → t ≡ false
not_r true true e = sym e
not_r true false e = refl
not_r false t e = clash (sym e)

-- the services of x that π puts in T, and the others
abbrev here : Net → (ℕ → Bool) → ℕ → (ℕ → ℕ) → ℕ
here N T x π = keep N.r (λ i. T (π i)) x

abbrev there : Net → (ℕ → Bool) → ℕ → (ℕ → ℕ) → ℕ
there N T x π = keep N.r (λ i. not (T (π i))) x

-- one placing for the services of a, and another for the others
abbrev pub mix : ℕ → (ℕ → ℕ) → (ℕ → ℕ) → ℕ → ℕ
mix a π₁ π₂ i = cond (has a i) (π₁ i) (π₂ i)

module _ (N : Net) (falls : Falls N.parent) (T : ℕ → Bool) (v c : ℕ) (B : Beside N T v c) where
  module _ (x : ℕ) (π : ℕ → ℕ) where
    on_here : (d : ℕ) → T d ≡ true → on N π x d ≡ on N π (here N T x π) d
    on_here d h =
        sym (keep_keep N.r _ _ _ x (λ i k m. and_imp (T (π i)) (eqb (π i) d) (λ e. ap T (eqb-true (π i) d e) ∙ h)))

    on_there : (d : ℕ) → under N.parent c d ≡ true → on N π x d ≡ on N π (there N T x π) d
    on_there d h =
        sym (keep_keep N.r _ _ _ x (λ i k m. and_imp (not (T (π i))) (eqb (π i) d)
        (λ e. ap (λ (z : ℕ). not (T z)) (eqb-true (π i) d e) ∙ off (T d) (under N.parent c d) (B.apart d) h)))

    below_here : (d : ℕ) → T d ≡ true → eqb d v ≡ false → below N π x d ≡ below N π (here N T x π) d
    below_here d h n =
        sym (keep_keep N.r _ _ _ x (λ i k m. and_imp (T (π i)) (under N.parent d (π i)) (λ e. B.closed d (π i) h n e)))

    below_there : (d : ℕ) → under N.parent c d ≡ true → below N π x d ≡ below N π (there N T x π) d
    below_there d h =
        sym (keep_keep N.r _ _ _ x (λ i k m. and_imp (not (T (π i))) (under N.parent d (π i))
        (λ e. off (T (π i)) (under N.parent c (π i)) (B.apart (π i)) (under_trans N.parent falls c d (π i) h e))))

    module _ (si : Sits N (joined N T c) x π) where
      below_c : below N π x c ≡ there N T x π
      below_c = keep_ext N.r _ _ x (λ i k m. cover (T (π i)) (under N.parent c (π i)) (B.apart (π i)) (si i k m).0)

      node_sum : total_below N.s (λ d. charged (joined N T c d) (N.node d (on N π x d)))
          ≡ total_below N.s (λ d. charged (T d) (N.node d (on N π (here N T x π) d)))
          ⊕ total_below N.s (λ d. charged (under N.parent c d) (N.node d (on N π (there N T x π) d)))
      node_sum =
          total_ext N.s _ (λ d. charged (T d) (N.node d (on N π (here N T x π) d)) ⊕ charged (under N.parent c d) (N.node d (on N π (there N T x π) d)))
          (λ d k. node_place (T d) (under N.parent c d) _ _ _ (B.apart d) (λ h. ap (N.node d) (on_here d h)) (λ h. ap (N.node d) (on_there d h)))
          ∙ total_add N.s _ _

      link_sum : total_below N.s (λ d. charged (joined N T c d && not (eqb d v)) (N.link d (below N π x d)))
          ≡ (total_below N.s (λ d. charged (T d && not (eqb d v)) (N.link d (below N π (here N T x π) d)))
          ⊕ total_below N.s (λ d. charged (under N.parent c d && not (eqb d c)) (N.link d (below N π (there N T x π) d)))) ⊕ N.link c (there N T x π)
      link_sum =
          total_ext N.s _ (λ d. (charged (T d && not (eqb d v)) (N.link d (below N π (here N T x π) d)) ⊕ charged (under N.parent c d && not (eqb d c)) (N.link d (below N π (there N T x π) d))) ⊕ charged (eqb d c) (N.link c (there N T x π)))
          (λ d k. link_place (T d) (under N.parent c d) (eqb d v) (eqb d c) _ _ _ _ (B.apart d)
          (λ e. ap (under N.parent c) (eqb-true d c e) ∙ under_refl N.parent c)
          (λ h. ne_eqb d v (λ e. clash (sym h ∙ B.apart d (ap T e ∙ B.top))))
          (λ h n. ap (N.link d) (below_here d h n))
          (λ h n. ap (N.link d) (below_there d h))
          (λ e. ap (λ (z : ℕ). N.link z (below N π x z)) (eqb-true d c e) ∙ ap (N.link c) below_c))
          ∙ total_add N.s _ _ ∙ ap₂ (λ (a b : Cost). a ⊕ b) (total_add N.s _ _) (total_one N.s c (N.link c (there N T x π)) B.inside)

      apart_charge : charge N (joined N T c) v x π ≡ (charge N T v (here N T x π) π ⊕ charge N (under N.parent c) c (there N T x π) π) ⊕ N.link c (there N T x π)
      unfolding charge
      apart_charge = ap₂ (λ (a b : Cost). a ⊕ b) node_sum link_sum ∙ simp (⊕-assoc, ⊕-left-comm)

  -- ---- a placing of a on T and one of the rest under c make one of x on the joined part

  module _ (x : ℕ) (hx : x < 2 ^ N.r) (a : ℕ) (sa : Sub a x) (π₁ π₂ : ℕ → ℕ) (s₁ : Sits N T a π₁) (s₂ : Sits N (under N.parent c) (x - a) π₂) where
    others : (i : ℕ) → i < N.r → has (x - a) i ≡ has x i && not (has a i)
    others i k = has_minus N.r x a i hx sa k

    -- it puts every service of x on the joined part
    pub mix_sits : Sits N (joined N T c) x (mix a π₁ π₂)
    mix_sits i k m = go (has a i) refl
      where
        go : (t : Bool) → has a i ≡ t → (joined N T c (mix a π₁ π₂ i) ≡ true) × (mix a π₁ π₂ i < N.s)
        go true e = rw e (either_l (T (π₁ i)) (under N.parent c (π₁ i)) (s₁ i k e).0, (s₁ i k e).1)
        go false e =
            let h : has (x - a) i ≡ true = others i k ∙ ap₂ (λ (p q : Bool). p && not q) m e in
            rw e (either_r (T (π₂ i)) (under N.parent c (π₂ i)) (s₂ i k h).0, (s₂ i k h).1)

    mix_here : here N T x (mix a π₁ π₂) ≡ a
    mix_here = keep_is N.r _ x a (omega (arith, sub_le a x sa)) (λ i k. go i k (has a i) (has x i) refl refl)
      where
        go : (i : ℕ) → i < N.r → (t u : Bool) → has a i ≡ t → has x i ≡ u → has x i && T (mix a π₁ π₂ i) ≡ has a i
        go i k true u e d = rw (e, sub_has a x i sa e) (s₁ i k e).0
        go i k false false e d = rw (e, d)
        go i k false true e d =
            let h : has (x - a) i ≡ true = others i k ∙ ap₂ (λ (p q : Bool). p && not q) d e in
            rw (e, d) (out (T (π₂ i)) (under N.parent c (π₂ i)) (B.apart (π₂ i)) (s₂ i k h).0)

    mix_there : there N T x (mix a π₁ π₂) ≡ x - a
    mix_there = sym (keep_rest N.r _ x hx) ∙ ap (λ (z : ℕ). x - z) mix_here

    -- and its charge is that of the split
    pub mix_charge : charge N (joined N T c) v x (mix a π₁ π₂) ≡ split_charge (λ b. charge N T v b π₁) (λ b. charge N (under N.parent c) c b π₂) (N.link c) x a
    mix_charge =
        apart_charge x (mix a π₁ π₂) mix_sits
        ∙ rw (mix_here, mix_there)
        (ap₂ (λ (p q : Cost). (p ⊕ q) ⊕ N.link c (x - a))
        (charge_ext N T v a (mix a π₁ π₂) π₁ (λ i k m. ap (λ (t : Bool). cond t (π₁ i) (π₂ i)) m))
        (charge_ext N (under N.parent c) c (x - a) (mix a π₁ π₂) π₂ (λ i k m. ap (λ (t : Bool). cond t (π₁ i) (π₂ i)) (not_r (has x i) (has a i) (sym (others i k) ∙ m)))))

  -- ---- the theorem

  module _ (f g : ℕ → Cost) (hf : (a : ℕ) → a < 2 ^ N.r → Least N T v a (f a)) (hg : (b : ℕ) → b < 2 ^ N.r → Least N (under N.parent c) c b (g b))
      (x : ℕ) (hx : x < 2 ^ N.r) where
    abbrev total : ℕ → Cost
    total = split_charge f g (N.link c) x

    below_all : (π : ℕ → ℕ) → Sits N (joined N T c) x π → Le (total (here N T x π)) (charge N (joined N T c) v x π)
    below_all π si =
        rw (apart_charge x π si, keep_rest N.r (λ i. T (π i)) x hx)
        (Le-⊕ _ _ _ _
        (Le-⊕ _ _ _ _
        ((hf _ (keep_lt N.r _ x)).low π (λ i k m.
        let h : has x i && T (π i) ≡ true = sym (has_keep N.r (λ i. T (π i)) x i k) ∙ m in
        (both_r (has x i) (T (π i)) h, (si i k (both_l (has x i) (T (π i)) h)).1)))
        ((hg _ (keep_lt N.r _ x)).low π (λ i k m.
        let h : has x i && not (T (π i)) ≡ true = sym (has_keep N.r (λ i. not (T (π i))) x i k) ∙ m in
        let j : (joined N T c (π i) ≡ true) × (π i < N.s) = si i k (both_l (has x i) (not (T (π i))) h) in
        (rest (T (π i)) (under N.parent c (π i)) j.0 (both_r (has x i) (not (T (π i))) h), j.1))))
        (Le-refl _))

    reach : (n : ℕ) (m : Cost) → m ≡ some n → (a : ℕ) × Sub a x × (total a ≡ m) → (π : ℕ → ℕ) × Sits N (joined N T c) x π × (charge N (joined N T c) v x π ≡ m)
    reach n m e h =
        let p = ⊕-parts _ _ n (h.2 ∙ e) in
        let q = ⊕-parts _ _ p.0 p.2 in
        back h.0 h.1 m h.2
        ((hf h.0 (omega (arith, sub_le h.0 x h.1))).hit q.0 q.2)
        ((hg (x - h.0) (omega arith)).hit q.1 q.3)
      where
        back : (a : ℕ) (sa : Sub a x) (m : Cost) → total a ≡ m → (π : ℕ → ℕ) × Sits N T a π × (charge N T v a π ≡ f a)
            → (π : ℕ → ℕ) × Sits N (under N.parent c) (x - a) π × (charge N (under N.parent c) c (x - a) π ≡ g (x - a))
            → (π : ℕ → ℕ) × Sits N (joined N T c) x π × (charge N (joined N T c) v x π ≡ m)
        back a sa m e P Q = (
          mix a P.0 Q.0,
          mix_sits x hx a sa P.0 Q.0 P.1 Q.1,
          mix_charge x hx a sa P.0 Q.0 P.1 Q.1 ∙ ap₂ (λ (y z : Cost). (y ⊕ z) ⊕ N.link c (x - a)) P.2 Q.2 ∙ e,
        )

    -- The join theorem. For any charges whatever of nodes and links: where f is the least charge on T and g that under c,
    -- the least charge on T joined with the subtree of c is the least over splits.
    pub join : Least N (joined N T c) v x (least_split f g (N.link c) x)
    join = record {
      low = λ π si. Le-trans _ _ _ (subset_low total x _ (sub_keep N.r (λ i. T (π i)) x)) (below_all π si);
      hit = λ n e. reach n _ e (subset_met total x n e);
    }
