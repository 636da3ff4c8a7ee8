-- The parts of a node p as its children are joined in rising order: p alone, then one child's subtree more each time, at last all that is under p.
use Rattle.std.proofs.Common.{◌≡◌, ℕ, suc, ◌<◌, Bool, true, false, ◌&&◌, ◌||◌, eqb, ltb, ◌≢◌, ◌⊎◌, sym, refl, ap, ◌∙◌, subst, inl, inr, arith, ltb-true, lt-ltb, eq-eqb, eqb-true}
use mathlib.Core.Bool.{or_assoc, or-false, or-true}
use borrow.Author.Tests.{eqb-false}
use Rattle.finite.specs.Below.{any_below}
use Rattle.finite.proofs.Booleans.{both, both_l, both_r, either, is_false, same_test}
use Rattle.finite.proofs.Tests.{any_in, any_at}
use Rattle.subsets.specs.Inner.Net.{Falls}
use Rattle.subsets.specs.Tree.{under, part, before}
use Rattle.subsets.specs.Inner.Net.{Net}
use Rattle.subsets.specs.Inner.Join.{joined, Beside}
use Rattle.subsets.proofs.Tree.{under_refl, under_trans, under_up, under_le, under_cases, under_line, under_ind, under_root}

-- d is p, or under a child of p below k
abbrev pub InPart : (ℕ → ℕ) → ℕ → ℕ → ℕ → Type 0
InPart parent p k d = (d ≡ p) ⊎ ((b : ℕ) × (b < k) × (0 < b) × (parent b ≡ p) × (under parent b d ≡ true))

module _ (parent : ℕ → ℕ) where
  pub part_cases : (p k d : ℕ) → part parent p k d ≡ true → InPart parent p k d
  unfolding part
  part_cases p k d e = go (either (eqb d p) (any_below k member) e)
    where
      member : ℕ → Bool
      member b = ltb 0 b && (eqb (parent b) p && under parent b d)

      go : (eqb d p ≡ true) ⊎ (any_below k member ≡ true) → InPart parent p k d
      go (inl q) = inl (eqb-true d p q)
      go (inr q) =
          let w = any_at k member q in
          let b : ℕ = w.0 in
          let m : eqb (parent b) p && under parent b d ≡ true = both_r (ltb 0 b) _ w.2 in
          inr (b, w.1, ltb-true 0 b (both_l (ltb 0 b) _ w.2), eqb-true _ _ (both_l (eqb (parent b) p) _ m), both_r (eqb (parent b) p) _ m)

  pub part_in : (p k d : ℕ) → InPart parent p k d → part parent p k d ≡ true
  unfolding part
  part_in p k d (inl e) = ap (λ (t : Bool). t || any_below k (λ b. ltb 0 b && (eqb (parent b) p && under parent b d))) (eq-eqb d p e)
  part_in p k d (inr w) =
      ap (λ (t : Bool). eqb d p || t)
      (any_in k (λ b. ltb 0 b && (eqb (parent b) p && under parent b d)) w.0 w.1
      (both _ _ (lt-ltb 0 w.0 w.2) (both _ _ (eq-eqb (parent w.0) p w.3) w.4)))
      ∙ or-true (eqb d p)

  -- with no child it is p alone
  pub part_alone : (p d : ℕ) → part parent p 0 d ≡ eqb d p
  unfolding part any_below
  part_alone p d = or-false (eqb d p)

  -- another's child, or the root, leaves it
  pub part_other : (p c d : ℕ) → ltb 0 c && eqb (parent c) p ≡ false → part parent p (suc c) d ≡ part parent p c d
  unfolding part any_below
  part_other p c d n = rw (gone (ltb 0 c) (eqb (parent c) p) (under parent c d) n) (ap (λ (t : Bool). eqb d p || t) (or-false _))
    where
      gone : (s t u : Bool) → s && t ≡ false → s && (t && u) ≡ false
      gone true true u e = absurd (let z : ◌≡◌ {A = ℕ} 0 1 = cc in omega arith)
      gone true false u e = refl
      gone false t u e = refl

-- a child's subtree is joined to it
pub part_child : (N : Net) (c d : ℕ) → 0 < c → part N.parent (N.parent c) (suc c) d ≡ joined N (part N.parent (N.parent c) c) c d
unfolding part any_below
part_child N c d z = rw (lt-ltb 0 c z, eq-eqb (N.parent c) (N.parent c) refl) (sym (or_assoc (eqb d (N.parent c)) _ _))

module _ (parent : ℕ → ℕ) (falls : Falls parent) where
  -- with all children it is all that is under p
  pub part_whole : (s p d : ℕ) → d < s → part parent p s d ≡ under parent p d
  part_whole s p d k = same_test (part parent p s d) (under parent p d) (λ e. down (part_cases parent p s d e)) (λ e. part_in parent p s d (back d e k))
    where
      down : InPart parent p s d → under parent p d ≡ true
      down (inl e) = rw e (under_refl parent p)
      down (inr w) =
          under_trans parent falls p w.0 d
          (under_up parent falls p w.0 w.2 (subst (λ (z : ℕ). under parent p z ≡ true) (sym w.3) (under_refl parent p))) w.4

      step : (d : ℕ) → 0 < d → (parent d < s → InPart parent p s (parent d)) → d < s → InPart parent p s d
      step d z ih k = go (ih (omega (arith, falls d z)))
        where
          go : InPart parent p s (parent d) → InPart parent p s d
          go (inl e) = inr (d, k, z, e, under_refl parent d)
          go (inr w) = inr (w.0, w.1, w.2, w.3, under_up parent falls w.0 d z w.4)

      back : (d : ℕ) → under parent p d ≡ true → d < s → InPart parent p s d
      back = under_ind parent falls p (λ (d : ℕ). d < s → InPart parent p s d) (λ k. inl refl) (λ d z u. step d z)

  -- the root's whole part is everything
  pub part_root : (s d : ℕ) → d < s → part parent 0 s d ≡ true
  part_root s d k = part_whole s 0 d k ∙ under_root parent falls d

-- c stands beside the part before it
pub beside : (N : Net) → Falls N.parent → (c : ℕ) → 0 < c → c < N.s → Beside N (before N.parent c) (N.parent c) c
beside N falls c z k = record {
  inside = k;
  top = part_in N.parent (N.parent c) c (N.parent c) (inl refl);
  apart = λ d h. is_false (under N.parent c d) (λ u. apart d u (part_cases N.parent (N.parent c) c d h));
  closed = λ d e h n u. closed d e (eqb-false d (N.parent c) n) u (part_cases N.parent (N.parent c) c d h);
}
  where
    no_two : (b : ℕ) → b < c → 0 < b → N.parent b ≡ N.parent c → (c ≡ b) ⊎ ((b < c) × (under N.parent b (N.parent c) ≡ true)) → ⊥
    no_two b l z e (inl q) = omega arith
    no_two b l z e (inr q) = omega (arith, under_le N.parent falls b (N.parent c) q.1, falls b z)

    apart : (d : ℕ) → under N.parent c d ≡ true → InPart N.parent (N.parent c) c d → ⊥
    apart d u (inl e) = omega (arith, under_le N.parent falls c d u, falls c z)
    apart d u (inr w) =
        let l : w.0 < c = w.1 in
        no_two w.0 l w.2 w.3 (under_cases N.parent falls w.0 c (under_line N.parent falls w.0 c d w.4 u (omega arith)))

    closed : (d e : ℕ) → d ≢ N.parent c → under N.parent d e ≡ true → InPart N.parent (N.parent c) c d → before N.parent c e ≡ true
    closed d e n u (inl q) = absurd (n q)
    closed d e n u (inr w) = part_in N.parent (N.parent c) c e (inr (w.0, w.1, w.2, w.3, under_trans N.parent falls w.0 d e w.4 u))
