-- The count weighed: it is the number of triples whose set can be placed, it may be summed parent by parent, and it is at most (s - 1) × 3^r.
use Rattle.std.proofs.Common.{◌≡◌, ℕ, zero, suc, ◌+◌, ◌-◌, ◌*◌, ◌^◌, ◌<◌, ◌≤◌, Bool, true, false, ◌&&◌, eqb, ltb, ◌↔◌, sym, refl, ap, ◌∙◌, subst, add-zero, arith, ltb-true, eq-eqb, eqb-true}
use Rattle.finite.specs.Below.{only, sum_below}
use Rattle.finite.proofs.Booleans.{clash, same_test}
use Rattle.finite.proofs.Sums.{sum_ext, sum_zero, sum_one, sum_swap, sum_mono, only_le, only_both_l, only_ext}
use Rattle.subsets.specs.Sets.{subset}
use Rattle.subsets.specs.Costs.{Cost, none, some, is_some}
use Rattle.subsets.specs.Inner.Totals.{Le}
use Rattle.subsets.specs.Inner.Net.{Falls}
use Rattle.subsets.specs.Tree.{before}
use Rattle.subsets.specs.Inner.Net.{Net, Least}
use Rattle.subsets.specs.Inner.Rows.{child}
use Rattle.subsets.specs.Inner.Count.{Placed, pairs, triples, flagged, weighed, joins}
use Rattle.subsets.proofs.Loop.{subset_count, three}
use Rattle.subsets.proofs.Rows.{row_before}

-- ---- what a count depends on

-- the pairs depend on the test only at sets of r services
pub pairs_ext : (r : ℕ) (t u : ℕ → Bool) → ((a : ℕ) → a < 2 ^ r → t a ≡ u a) → pairs r t ≡ pairs r u
unfolding pairs
pairs_ext r t u h = sum_ext (2 ^ r) _ _ (λ x j. sum_ext (2 ^ r) _ _ (λ a k. ap (λ (b : Bool). only (subset r a x && b) 1) (h a k)))

-- and the triples on it only at nodes but the root
pub triples_ext : (r s : ℕ) (t u : ℕ → ℕ → Bool) → ((c a : ℕ) → 0 < c → c < s → a < 2 ^ r → t c a ≡ u c a) → triples r s t ≡ triples r s u
unfolding triples
triples_ext r s t u h =
    sum_ext s _ _ (λ c k. only_ext (ltb 0 c) _ _ (λ e. pairs_ext r (t c) (u c) (λ a l. h c a (ltb-true 0 c e) k l)))

-- ---- a set can be placed exactly where its least charge is a cost

-- a placing with a charge exists exactly where the least charge is a cost
pub placed_least : (N : Net) (T : ℕ → Bool) (v a : ℕ) (f : Cost) → Least N T v a f → (is_some f ≡ true) ↔ Placed N T v a
unfolding Le
placed_least N T v a none L = (λ e. clash (sym e), λ p. absurd (subst (Le none) p.3 (L.low p.0 p.1)))
placed_least N T v a (some n) L = (λ e. let h = L.hit n refl in (h.0, h.1, n, h.2), λ p. refl)

module _ (N : Net) (falls : Falls N.parent) where
  -- the flag at (c, X, A): A can be placed on the part before c
  pub flagged_placed : (c a : ℕ) → 0 < c → c < N.s → a < 2 ^ N.r → (flagged N c a ≡ true) ↔ Placed N (before N.parent c) (N.parent c) a
  flagged_placed c a z k h = placed_least N (before N.parent c) (N.parent c) a _ (row_before N falls c a z k h)

  -- The sum of the flags is the number of triples whose set can be placed, however that is tested.
  pub weighed_placed : (t : ℕ → ℕ → Bool) → ((c a : ℕ) → 0 < c → c < N.s → a < 2 ^ N.r → (t c a ≡ true) ↔ Placed N (before N.parent c) (N.parent c) a)
      → triples N.r N.s t ≡ weighed N
  weighed_placed t h =
      triples_ext N.r N.s t (flagged N) (λ c a z k l.
      same_test (t c a) (flagged N c a) (λ e. (flagged_placed c a z k l).1 ((h c a z k l).0 e)) (λ e. (h c a z k l).1 ((flagged_placed c a z k l).0 e)))

  -- ---- parent by parent

  one_parent : (c m : ℕ) → c < N.s → sum_below N.s (λ p. only (child N p c) m) ≡ only (ltb 0 c) m
  unfolding only
  one_parent c m k = go (ltb 0 c) refl
    where
      turned : (p : ℕ) → eqb (N.parent c) p ≡ eqb p (N.parent c)
      turned p =
          same_test (eqb (N.parent c) p) (eqb p (N.parent c))
          (λ e. eq-eqb p (N.parent c) (sym (eqb-true (N.parent c) p e))) (λ e. eq-eqb (N.parent c) p (sym (eqb-true p (N.parent c) e)))

      go : (t : Bool) → ltb 0 c ≡ t → sum_below N.s (λ p. only (t && eqb (N.parent c) p) m) ≡ only t m
      go true e =
          let l : N.parent c < c = falls c (ltb-true 0 c e) in
          sum_ext N.s _ (λ p. only (eqb p (N.parent c)) m) (λ p j. ap (λ (b : Bool). only b m) (turned p))
          ∙ sum_one N.s (N.parent c) m (omega arith)
      go false e = sum_zero N.s _ (λ p j. refl)

  -- a sum over the nodes but the root is one over parents and their children
  pub by_parent : (f : ℕ → ℕ) → sum_below N.s (λ p. sum_below N.s (λ c. only (child N p c) (f c))) ≡ sum_below N.s (λ c. only (ltb 0 c) (f c))
  by_parent f = sum_swap N.s N.s (λ p c. only (child N p c) (f c)) ∙ sum_ext N.s _ _ (λ c k. one_parent c (f c) k)

  -- The flags summed parent by parent, as the planner meets them, are the count.
  pub joins_weighed : sum_below N.s (λ p. joins N p N.s) ≡ weighed N
  unfolding joins triples
  joins_weighed = by_parent (λ c. pairs N.r (flagged N c))

-- one parent's count, child by child
pub joins_none : (N : Net) (p : ℕ) → joins N p 0 ≡ 0
unfolding joins sum_below
joins_none N p = refl

-- a child adds its pairs
pub joins_child : (N : Net) (p c : ℕ) → child N p c ≡ true → joins N p (suc c) ≡ joins N p c + pairs N.r (flagged N c)
unfolding joins sum_below only
joins_child N p c e = rw e

-- another's child adds nothing
pub joins_pass : (N : Net) (p c : ℕ) → child N p c ≡ false → joins N p (suc c) ≡ joins N p c
unfolding joins sum_below only
joins_pass N p c e = rw e (add-zero _)

-- ---- the bound

-- at most 3^r pairs
pub pairs_le : (r : ℕ) (t : ℕ → Bool) → pairs r t ≤ 3 ^ r
unfolding pairs
pairs_le r t =
    subst (λ (m : ℕ). sum_below (2 ^ r) (λ x. sum_below (2 ^ r) (λ a. only (subset r a x && t a) 1)) ≤ m) (three r)
    (sum_mono (2 ^ r) _ _ (λ x j.
    subst (λ (m : ℕ). sum_below (2 ^ r) (λ a. only (subset r a x && t a) 1) ≤ m) (subset_count r x)
    (sum_mono (2 ^ r) _ _ (λ a k. only_both_l (subset r a x) (t a) 1))))

but_root : (s m : ℕ) (f : ℕ → ℕ) → ((c : ℕ) → f c ≤ m) → sum_below s (λ c. only (ltb 0 c) (f c)) ≤ (s - 1) * m
unfolding sum_below only
but_root zero m f h = omega arith
but_root (suc zero) m f h = omega arith
but_root (suc (suc s)) m f h =
    let e : (suc (suc s) - 1) * m ≡ suc s * m = ap (λ (n : ℕ). n * m) (let q : suc (suc s) - 1 ≡ suc s = omega arith in q) in
    let d : (suc s - 1) * m ≡ s * m = ap (λ (n : ℕ). n * m) (let q : suc s - 1 ≡ s = omega arith in q) in
    omega (arith, e, d, but_root (suc s) m f h, h (suc s), only_le (ltb 0 (suc s)) (f (suc s)))

-- At most (s - 1) × 3^r triples.
pub triples_le : (r s : ℕ) (t : ℕ → ℕ → Bool) → triples r s t ≤ (s - 1) * 3 ^ r
unfolding triples
triples_le r s t = but_root s (3 ^ r) (λ c. pairs r (t c)) (λ c. pairs_le r (t c))
