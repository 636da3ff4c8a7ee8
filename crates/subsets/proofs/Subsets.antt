-- The least over the subsets of a set: it is at most each, it is met, and nothing else is both; and the subset that wins.
use Rattle.std.proofs.Common.{◌≡◌, ℕ, zero, suc, ◌<◌, Bool, true, false, ◌&&◌, eqb, ◌⊎◌, sym, refl, ap, ◌∙◌, subst, ap₂, inl, inr, arith, eq-eqb, eqb-true}
use lib.Bits.{bit_and, and_zero_l}
use borrow.Author.Tests.{eqb-false}
use Rattle.finite.proofs.Booleans.{clash, both, both_l, both_r, is_false}
use Rattle.subsets.specs.Inner.Masks.{within}
use Rattle.subsets.specs.Costs.{Cost, none, some, least_below}
use Rattle.subsets.specs.Inner.Totals.{Le}
use Rattle.subsets.specs.Inner.Splits.{least_subset, largest_below, same_cost, winner}
use Rattle.subsets.proofs.Costs.{Le-antisym, Le-none, least_low, least_met}
use Rattle.subsets.proofs.Sets.{Sub, sub_le}

module _ (F : ℕ → Cost) (x : ℕ) where
  term : ℕ → Cost
  term a = elim (within a x) [ true ↦ F a | false ↦ none ]

  term_sub : (a : ℕ) → Sub a x → term a ≡ F a
  unfolding term
  term_sub a s = rw (eq-eqb (bit_and a x) a s, term)

  -- the least is at most the charge of each subset
  pub subset_low : (a : ℕ) → Sub a x → Le (least_subset F x) (F a)
  unfolding least_subset term
  subset_low a s = subst (Le (least_below (suc x) term)) (term_sub a s) (least_low (suc x) term a (omega (arith, sub_le a x s)))

  -- a least that is a number is the charge of some subset
  pub subset_met : (n : ℕ) → least_subset F x ≡ some n → (a : ℕ) × Sub a x × (F a ≡ least_subset F x)
  unfolding least_subset term
  subset_met n e = go (least_met (suc x) term n e)
    where
      go : (d : ℕ) × (d < suc x) × (term d ≡ least_below (suc x) term) → (a : ℕ) × Sub a x × (F a ≡ least_below (suc x) term)
      go w = at (within w.0 x) refl w.2
        where
          at : (t : Bool) → within w.0 x ≡ t → elim t [ true ↦ F w.0 | false ↦ none ] ≡ least_below (suc x) term → (a : ℕ) × Sub a x × (F a ≡ least_below (suc x) term)
          at true q h = (w.0, eqb-true _ _ q, h)
          at false q h = absurd (let k : none ≡ some n = h ∙ e in let z : ◌≡◌ {A = ℕ} 0 1 = cc in omega arith)

  -- and nothing else is both
  pub subset_least : (m : Cost) → ((a : ℕ) → Sub a x → Le m (F a)) → ((n : ℕ) → m ≡ some n → (a : ℕ) × Sub a x × (F a ≡ m)) → m ≡ least_subset F x
  subset_least m low hit = Le-antisym m (least_subset F x) (above (least_subset F x) refl) (under_m m refl)
    where
      above : (k : Cost) → least_subset F x ≡ k → Le m (least_subset F x)
      above none e = rw e (Le-none m)
      above (some n) e = let w = subset_met n e in subst (Le m) w.2 (low w.0 w.1)

      under_m : (k : Cost) → m ≡ k → Le (least_subset F x) m
      under_m none e = rw e (Le-none (least_subset F x))
      under_m (some n) e = let w = hit n e in subst (Le (least_subset F x)) w.2 (subset_low w.0 w.1)

-- it depends only on the charges of the subsets
pub subset_ext : (F G : ℕ → Cost) (x : ℕ) → ((a : ℕ) → Sub a x → F a ≡ G a) → least_subset F x ≡ least_subset G x
subset_ext F G x e =
    subset_least G x (least_subset F x)
    (λ a s. subst (Le (least_subset F x)) (e a s) (subset_low F x a s))
    (λ n q. let w = subset_met F x n q in (w.0, w.1, sym (e w.0 w.1) ∙ w.2))

-- ---- the subset that wins

largest_is : (n : ℕ) (p : ℕ → Bool) (d : ℕ) → d < n → p d ≡ true → ((e : ℕ) → d < e → e < n → p e ≡ false) → largest_below n p ≡ d
unfolding largest_below
largest_is zero p d h q k = absurd (omega arith)
largest_is (suc n) p d h q k = go (eqb d n) refl (λ l. largest_is n p d l q (λ e i j. k e i (omega arith)))
  where
    go : (t : Bool) → eqb d n ≡ t → (d < n → largest_below n p ≡ d) → largest_below (suc n) p ≡ d
    go true e ih =
        let z : d ≡ n = eqb-true d n e in
        rw (ap p (sym z) ∙ q, largest_below) (sym z)
    go false e ih =
        let z : (d ≡ n → ⊥) = eqb-false d n e in
        rw (k n (omega arith) (omega arith), largest_below) (ih (omega arith))

largest_none : (n : ℕ) (p : ℕ → Bool) → ((d : ℕ) → d < n → p d ≡ false) → largest_below n p ≡ 0
unfolding largest_below
largest_none zero p h = refl
largest_none (suc n) p h = rw (h n (omega arith), largest_below) (largest_none n p (λ d k. h d (omega arith)))

largest_ext : (n : ℕ) (p q : ℕ → Bool) → ((d : ℕ) → d < n → p d ≡ q d) → largest_below n p ≡ largest_below n q
unfolding largest_below
largest_ext zero p q h = refl
largest_ext (suc n) p q h = go (q n) refl (largest_ext n p q (λ d k. h d (omega arith)))
  where
    go : (t : Bool) → q n ≡ t → largest_below n p ≡ largest_below n q → largest_below (suc n) p ≡ largest_below (suc n) q
    go true e ih = rw (h n (omega arith) ∙ e, largest_below, e, largest_below)
    go false e ih = rw (h n (omega arith) ∙ e, largest_below, e, largest_below) ih

largest_cases : (n : ℕ) (p : ℕ → Bool) → ((d : ℕ) → d < n → p d ≡ false) ⊎ ((d : ℕ) × (p d ≡ true) × (largest_below n p ≡ d))
unfolding largest_below
largest_cases zero p = inl (λ d h. absurd (omega arith))
largest_cases (suc n) p = go (p n) refl (largest_cases n p)
  where
    go : (t : Bool) → p n ≡ t → ((d : ℕ) → d < n → p d ≡ false) ⊎ ((d : ℕ) × (p d ≡ true) × (largest_below n p ≡ d))
        → ((d : ℕ) → d < suc n → p d ≡ false) ⊎ ((d : ℕ) × (p d ≡ true) × (largest_below (suc n) p ≡ d))
    go true e ih = inr (n, e, rw (e, largest_below))
    go false e (inl h) = inl (λ d k. last d k (eqb d n) refl)
      where
        last : (d : ℕ) → d < suc n → (t : Bool) → eqb d n ≡ t → p d ≡ false
        last d k true q = ap p (eqb-true d n q) ∙ e
        last d k false q = let z : (d ≡ n → ⊥) = eqb-false d n q in h d (omega arith)
    go false e (inr w) = inr (w.0, w.1, rw (e, largest_below) w.2)

same_cost_refl : (n : ℕ) → same_cost (some n) (some n) ≡ true
same_cost_refl n = eq-eqb n n refl

same_cost_none : (f : Cost) → same_cost f none ≡ false
same_cost_none none = refl
same_cost_none (some n) = refl

same_cost_true : (f : Cost) (n : ℕ) → same_cost f (some n) ≡ true → f ≡ some n
same_cost_true none n e = clash (sym e)
same_cost_true (some m) n e = ap some (eqb-true m n e)

module _ (F : ℕ → Cost) (x : ℕ) where
  -- the winner is the one subset that has the least while no larger one has
  pub winner_is : (a n : ℕ) → Sub a x → least_subset F x ≡ some n → F a ≡ some n → ((b : ℕ) → Sub b x → a < b → F b ≡ some n → ⊥) → winner F x ≡ a
  unfolding winner
  winner_is a n s l e k =
      largest_is (suc x) _ a (omega (arith, sub_le a x s))
      (both (within a x) _ (eq-eqb (bit_and a x) a s) (rw (e, l) (same_cost_refl n)))
      (λ b h j. is_false (within b x && same_cost (F b) (least_subset F x)) (λ t.
      k b (eqb-true (bit_and b x) b (both_l (within b x) _ t)) h
      (same_cost_true (F b) n (subst (λ (f : Cost). same_cost (F b) f ≡ true) l (both_r (within b x) _ t)))))

  -- where no subset has a cost it is the empty set
  pub winner_none : least_subset F x ≡ none → winner F x ≡ 0
  unfolding winner
  winner_none l =
      largest_none (suc x) _ (λ b j. is_false (within b x && same_cost (F b) (least_subset F x)) (λ t.
      clash (sym (both_r (within b x) _ t) ∙ ap (same_cost (F b)) l ∙ same_cost_none (F b))))

  -- it is a subset of x
  pub winner_sub : Sub (winner F x) x
  unfolding winner
  winner_sub = go (largest_cases (suc x) test)
    where
      test : ℕ → Bool
      test a = within a x && same_cost (F a) (least_subset F x)

      go : ((d : ℕ) → d < suc x → test d ≡ false) ⊎ ((d : ℕ) × (test d ≡ true) × (largest_below (suc x) test ≡ d)) → Sub (largest_below (suc x) test) x
      go (inl h) = rw (largest_none (suc x) test h) (and_zero_l x)
      go (inr w) = rw w.2 (eqb-true _ _ (both_l (within w.0 x) _ w.1))

  -- and where the least is a cost it has it
  pub winner_wins : (n : ℕ) → least_subset F x ≡ some n → F (winner F x) ≡ least_subset F x
  unfolding winner
  winner_wins n l = go (largest_cases (suc x) test) (subset_met F x n l)
    where
      test : ℕ → Bool
      test a = within a x && same_cost (F a) (least_subset F x)

      go : ((d : ℕ) → d < suc x → test d ≡ false) ⊎ ((d : ℕ) × (test d ≡ true) × (largest_below (suc x) test ≡ d))
          → (a : ℕ) × Sub a x × (F a ≡ least_subset F x) → F (largest_below (suc x) test) ≡ least_subset F x
      go (inl h) w =
          clash (sym (both (within w.0 x) (same_cost (F w.0) (least_subset F x)) (eq-eqb _ _ w.1) (rw (w.2 ∙ l, l) (same_cost_refl n)))
          ∙ h w.0 (omega (arith, sub_le w.0 x w.1)))
      go (inr w) u =
          rw w.2 (same_cost_true (F w.0) n (subst (λ (f : Cost). same_cost (F w.0) f ≡ true) l (both_r (within w.0 x) _ w.1)) ∙ sym l)

-- it depends only on the charges of the subsets
pub winner_ext : (F G : ℕ → Cost) (x : ℕ) → ((a : ℕ) → Sub a x → F a ≡ G a) → winner F x ≡ winner G x
unfolding winner
winner_ext F G x e = largest_ext (suc x) _ _ (λ a k. go a (within a x) refl)
  where
    go : (a : ℕ) (t : Bool) → within a x ≡ t → t && same_cost (F a) (least_subset F x) ≡ t && same_cost (G a) (least_subset G x)
    go a true q = ap₂ same_cost (e a (eqb-true (bit_and a x) a q)) (subset_ext F G x e)
    go a false q = refl
