-- Laws of trees: who is under whom.
use Rattle.std.proofs.Common.{◌≡◌, ℕ, zero, suc, ◌<◌, ◌≤◌, true, false, ◌||◌, eqb, ◌⊎◌, sym, refl, subst, inl, inr, le_refl, arith, eq-eqb, eqb-true}
use native.Mathlib.Decide.{le_ind}
use Rattle.finite.proofs.Booleans.{either, either_l, either_r, is_false, same_test}
use Rattle.subsets.specs.Inner.Net.{Falls}
use Rattle.subsets.specs.Tree.{step, climb, under}

module _ (p : ℕ → ℕ) where
  climb_more : (k c d : ℕ) → climb p k c d ≡ true → climb p (suc k) c d ≡ true
  unfolding climb
  climb_more zero c d h = either_l (eqb d c) (eqb (step p d) c) h
  climb_more (suc k) c d h = go (either (eqb d c) (climb p k c (step p d)) h) (climb_more k c (step p d))
    where
      go : (eqb d c ≡ true) ⊎ (climb p k c (step p d) ≡ true) → (climb p k c (step p d) ≡ true → eqb (step p d) c || climb p k c (step p (step p d)) ≡ true)
          → eqb d c || (eqb (step p d) c || climb p k c (step p (step p d))) ≡ true
      go (inl e) f = either_l (eqb d c) _ e
      go (inr e) f = either_r (eqb d c) _ (f e)

  climb_le : (k m c d : ℕ) → k ≤ m → climb p k c d ≡ true → climb p m c d ≡ true
  climb_le k m c d l h = le_ind (λ (n : ℕ). climb p n c d ≡ true) h (λ n j e. climb_more n c d e) m l

  pub under_refl : (c : ℕ) → under p c c ≡ true
  unfolding under climb
  under_refl zero = refl
  under_refl (suc c) = either_l (eqb (suc c) (suc c)) _ (eq-eqb (suc c) (suc c) refl)

  module _ (falls : Falls p) where
    -- what a parent is under, its child is under
    pub under_up : (c d : ℕ) → 0 < d → under p c (p d) ≡ true → under p c d ≡ true
    unfolding under climb
    under_up c zero z h = absurd (omega arith)
    under_up c (suc d) z h = either_r (eqb (suc d) c) _ (climb_le (p (suc d)) d c (p (suc d)) (omega (arith, falls (suc d) z)) h)

    -- what holds of c, and of each d of whose parent it holds, holds of all that is under c
    climb_ind : (c : ℕ) (P : ℕ → Type 0) → P c → ((d : ℕ) → 0 < d → P (p d) → P d) → (k d : ℕ) → climb p k c d ≡ true → P d
    unfolding climb
    climb_ind c P base step zero d h = subst P (sym (eqb-true d c h)) base
    climb_ind c P base step (suc k) zero h = go (either (eqb 0 c) (climb p k c 0) h) (climb_ind c P base step k 0)
      where
        go : (eqb 0 c ≡ true) ⊎ (climb p k c 0 ≡ true) → (climb p k c 0 ≡ true → P 0) → P 0
        go (inl e) f = subst P (sym (eqb-true 0 c e)) base
        go (inr e) f = f e
    climb_ind c P base step (suc k) (suc d) h = go (either (eqb (suc d) c) (climb p k c (p (suc d))) h) (climb_ind c P base step k (p (suc d)))
      where
        go : (eqb (suc d) c ≡ true) ⊎ (climb p k c (p (suc d)) ≡ true) → (climb p k c (p (suc d)) ≡ true → P (p (suc d))) → P (suc d)
        go (inl e) f = subst P (sym (eqb-true (suc d) c e)) base
        go (inr e) f = step (suc d) (omega arith) (f e)

    -- what holds of c, and of each node whose parent is under c where it holds of the parent, holds of all under c
    pub under_ind : (c : ℕ) (P : ℕ → Type 0) → P c → ((d : ℕ) → 0 < d → under p c (p d) ≡ true → P (p d) → P d) → (d : ℕ) → under p c d ≡ true → P d
    unfolding under
    under_ind c P base step d h =
        (climb_ind c (λ (e : ℕ). (under p c e ≡ true) × P e) (under_refl c, base) (λ e z q. (under_up c e z q.0, step e z q.0 q.1)) d d h).1

    -- under what is under
    pub under_trans : (c d e : ℕ) → under p c d ≡ true → under p d e ≡ true → under p c e ≡ true
    under_trans c d e h = under_ind d (λ (e : ℕ). under p c e ≡ true) h (λ e z u q. under_up c e z q) e

    -- what is under c has no smaller number
    pub under_le : (c d : ℕ) → under p c d ≡ true → c ≤ d
    under_le c = under_ind c (λ (d : ℕ). c ≤ d) (le_refl c) (λ d z u q. omega (arith, falls d z))

    -- under c is c itself, or one whose parent is under c
    pub under_cases : (c d : ℕ) → under p c d ≡ true → (d ≡ c) ⊎ ((c < d) × (under p c (p d) ≡ true))
    under_cases c = under_ind c (λ (d : ℕ). (d ≡ c) ⊎ ((c < d) × (under p c (p d) ≡ true))) (inl refl)
        (λ d z u q. inr (omega (arith, falls d z, under_le c (p d) u), u))

    -- two that are above one are above one another
    pub under_line : (c w d : ℕ) → under p c d ≡ true → under p w d ≡ true → c ≤ w → under p c w ≡ true
    under_line c w d h k l =
        under_ind c (λ (d : ℕ). under p w d ≡ true → under p c w ≡ true)
        (λ k. subst (λ (z : ℕ). under p c z ≡ true) (let q : c ≡ w = omega (arith, under_le w c k) in q) (under_refl c))
        (λ d z u ih k. go d (under_up c d z u) ih (under_cases w d k)) d h k
      where
        go : (d : ℕ) → under p c d ≡ true → (under p w (p d) ≡ true → under p c w ≡ true) → (d ≡ w) ⊎ ((w < d) × (under p w (p d) ≡ true)) → under p c w ≡ true
        go d u ih (inl e) = subst (λ (z : ℕ). under p c z ≡ true) e u
        go d u ih (inr q) = ih q.1

    -- all is under 0
    pub under_root : (d : ℕ) → under p 0 d ≡ true
    under_root d = below d d (le_refl d)
      where
        below : (k d : ℕ) → d ≤ k → under p 0 d ≡ true
        below zero d h = subst (λ (z : ℕ). under p 0 z ≡ true) (let q : 0 ≡ d = omega arith in q) (under_refl 0)
        below (suc k) zero h = under_refl 0
        below (suc k) (suc d) h = under_up 0 (suc d) (omega arith) (below k (p (suc d)) (omega (arith, falls (suc d) (omega arith))))

    -- what is under c is numbered c or more
    pub under_small : (c d : ℕ) → d < c → under p c d ≡ false
    under_small c d h = is_false (under p c d) (λ u. omega (arith, under_le c d u))

    -- whether d is under c, by its parent
    pub under_step : (c d : ℕ) → 0 < d → under p c d ≡ eqb d c || under p c (p d)
    under_step c d z = same_test (under p c d) (eqb d c || under p c (p d)) (λ u. forth (under_cases c d u)) (λ e. back (either (eqb d c) (under p c (p d)) e))
      where
        forth : (d ≡ c) ⊎ ((c < d) × (under p c (p d) ≡ true)) → eqb d c || under p c (p d) ≡ true
        forth (inl e) = either_l (eqb d c) (under p c (p d)) (eq-eqb d c e)
        forth (inr q) = either_r (eqb d c) (under p c (p d)) q.1

        back : (eqb d c ≡ true) ⊎ (under p c (p d) ≡ true) → under p c d ≡ true
        back (inl e) = subst (λ (z : ℕ). under p c z ≡ true) (sym (eqb-true d c e)) (under_refl c)
        back (inr u) = under_up c d z u
