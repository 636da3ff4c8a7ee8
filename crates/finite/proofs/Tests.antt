-- Laws of tests over the numbers below n.
use Prim.Native.Nat.{ℕ, zero, suc, ◌+◌, ◌≤◌, ◌<◌}
use native.Mathlib.Numerals.{add-one}
use native.Mathlib.Omega.{arith}
use mathlib.Core.Path.{◌≡◌, refl, sym, ap, ap₂, ◌∙◌}
use mathlib.Core.Bool.{Bool, true, false, ◌&&◌, ◌||◌, or-true}
use lib.Dec.{eqb}
use borrow.Author.Tests.{eqb-true, eqb-false}
use Rattle.finite.specs.Below.{all_below, any_below}
use Rattle.finite.proofs.Booleans.{clash, both, both_l, both_r, neither, neither_l, neither_r, is_false, same_test}

pub all_in : (n : ℕ) (p : ℕ → Bool) → ((d : ℕ) → d < n → p d ≡ true) → all_below n p ≡ true
unfolding all_below
all_in zero p h = refl
all_in (suc n) p h = both (all_below n p) (p n) (all_in n p (λ d k. h d (omega arith))) (h n (omega arith))

pub all_at : (n : ℕ) (p : ℕ → Bool) → all_below n p ≡ true → (d : ℕ) → d < n → p d ≡ true
unfolding all_below
all_at zero p h d k = absurd (omega arith)
all_at (suc n) p h d k = go (eqb d n) refl (all_at n p (both_l (all_below n p) (p n) h) d)
  where
    go : (t : Bool) → eqb d n ≡ t → (d < n → p d ≡ true) → p d ≡ true
    go true e ih = ap p (eqb-true d n e) ∙ both_r (all_below n p) (p n) h
    go false e ih = let q : (d ≡ n → ⊥) = eqb-false d n e in ih (omega arith)

pub all_ext : (n : ℕ) (p q : ℕ → Bool) → ((d : ℕ) → d < n → p d ≡ q d) → all_below n p ≡ all_below n q
unfolding all_below
all_ext zero p q h = refl
all_ext (suc n) p q h = ap₂ (λ (a b : Bool). a && b) (all_ext n p q (λ d k. h d (omega arith))) (h n (omega arith))

-- two tests of every number are one test of both
pub all_both : (n : ℕ) (p q : ℕ → Bool) → all_below n (λ d. p d && q d) ≡ all_below n p && all_below n q
all_both n p q =
    same_test (all_below n (λ d. p d && q d)) (all_below n p && all_below n q)
    (λ h. both _ _
    (all_in n p (λ d k. both_l (p d) (q d) (all_at n (λ d. p d && q d) h d k)))
    (all_in n q (λ d k. both_r (p d) (q d) (all_at n (λ d. p d && q d) h d k))))
    (λ h. all_in n (λ d. p d && q d) (λ d k. both _ _
    (all_at n p (both_l (all_below n p) (all_below n q) h) d k)
    (all_at n q (both_r (all_below n p) (all_below n q) h) d k)))

pub any_ext : (n : ℕ) (p q : ℕ → Bool) → ((d : ℕ) → d < n → p d ≡ q d) → any_below n p ≡ any_below n q
unfolding any_below
any_ext zero p q h = refl
any_ext (suc n) p q h = ap₂ ◌||◌ (any_ext n p q (λ d k. h d (omega arith))) (h n (omega arith))

pub any_in : (n : ℕ) (p : ℕ → Bool) (d : ℕ) → d < n → p d ≡ true → any_below n p ≡ true
unfolding any_below
any_in zero p d k e = absurd (omega arith)
any_in (suc n) p d k e = go (eqb d n) refl (λ l. any_in n p d l e)
  where
    go : (t : Bool) → eqb d n ≡ t → (d < n → any_below n p ≡ true) → any_below n p || p n ≡ true
    go true q ih = ap (λ (b : Bool). any_below n p || b) (ap p (sym (eqb-true d n q)) ∙ e) ∙ or-true (any_below n p)
    go false q ih = let w : (d ≡ n → ⊥) = eqb-false d n q in ap (λ (b : Bool). b || p n) (ih (omega arith))

pub any_at : (n : ℕ) (p : ℕ → Bool) → any_below n p ≡ true → (d : ℕ) × (d < n) × (p d ≡ true)
unfolding any_below
any_at zero p e = clash (sym e)
any_at (suc n) p e = go (any_below n p) refl e (any_at n p)
  where
    go : (t : Bool) → any_below n p ≡ t → t || p n ≡ true → (any_below n p ≡ true → (d : ℕ) × (d < n) × (p d ≡ true)) → (d : ℕ) × (d < suc n) × (p d ≡ true)
    go true q e ih = let w = ih q in (w.0, (let l : w.0 < n = w.1 in omega arith), w.2)
    go false q e ih = (n, omega arith, e)

-- p holds of no number below n
pub any_none : (n : ℕ) (p : ℕ → Bool) → ((d : ℕ) → d < n → p d ≡ false) → any_below n p ≡ false
unfolding any_below
any_none zero p h = refl
any_none (suc n) p h = neither (any_below n p) (p n) (any_none n p (λ d k. h d (omega arith))) (h n (omega arith))

pub none_at : (n : ℕ) (p : ℕ → Bool) → any_below n p ≡ false → (d : ℕ) → d < n → p d ≡ false
unfolding any_below
none_at zero p h d k = absurd (omega arith)
none_at (suc n) p h d k = go (eqb d n) refl (none_at n p (neither_l (any_below n p) (p n) h) d)
  where
    go : (t : Bool) → eqb d n ≡ t → (d < n → p d ≡ false) → p d ≡ false
    go true e ih = ap p (eqb-true d n e) ∙ neither_r (any_below n p) (p n) h
    go false e ih = let q : (d ≡ n → ⊥) = eqb-false d n e in ih (omega arith)

-- a search that has passed n numbers without success, and then one more
pub any_start : (p : ℕ → Bool) → any_below 0 p ≡ false
unfolding any_below
any_start p = refl

pub any_next : (n : ℕ) (p : ℕ → Bool) → any_below n p ≡ false → p n ≡ false → any_below (n + 1) p ≡ false
unfolding any_below
any_next n p h e = rw add-one (neither (any_below n p) (p n) h e)

-- a search that has passed all n numbers
pub any_end : (n i : ℕ) (p : ℕ → Bool) → i ≤ n → n ≤ i → any_below i p ≡ false → false ≡ any_below n p
any_end n i p h k e = sym (ap (λ (m : ℕ). any_below m p) (let q : n ≡ i = omega arith in q) ∙ e)

-- a test that has held of n numbers, and then of one more
pub all_start : (p : ℕ → Bool) → all_below 0 p ≡ true
unfolding all_below
all_start p = refl

pub all_next : (n : ℕ) (p : ℕ → Bool) → all_below n p ≡ true → p n ≡ true → all_below (n + 1) p ≡ true
unfolding all_below
all_next n p h e = rw add-one (both (all_below n p) (p n) h e)

-- a test that has held of all n numbers
pub all_end : (n i : ℕ) (p : ℕ → Bool) → i ≤ n → n ≤ i → all_below i p ≡ true → true ≡ all_below n p
all_end n i p h k e = sym (ap (λ (m : ℕ). all_below m p) (let q : n ≡ i = omega arith in q) ∙ e)

-- a test that fails of one of the numbers
pub all_stop : (n : ℕ) (p : ℕ → Bool) (d : ℕ) → d < n → p d ≡ false → false ≡ all_below n p
all_stop n p d k e = sym (is_false (all_below n p) (λ h. clash (sym (all_at n p h d k) ∙ e)))
