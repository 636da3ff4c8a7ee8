-- Weighing read as figures: the lesser of the best so far and the sum of the three, as costs.
use Rattle.std.proofs.Common.{◌≡◌, ℕ, ◌+◌, ◌<◌, ◌≤◌, min, Bool, true, false, ◌&&◌, sym, refl, ap, ◌∙◌, arith, le-leb, leb-false, leb-true}
use native.Mathlib.Nat.{min-eq_left, min-eq_right}
use borrow.Author.Tests.{lt-leb}
use Rattle.finite.specs.Below.{only}
use Rattle.finite.proofs.Booleans.{both_l, both_r}
use Rattle.finite.proofs.Sums.{only_le}
use Rattle.subsets.specs.Costs.{Cost, none, some, lesser, provided, is_some}
use Rattle.subsets.specs.Inner.Totals.{◌⊕◌}
use Rattle.subsets.specs.Figures.{limit, is_cost, read, capped, lesser_figure, weighing}
use Rattle.subsets.specs.Inner.Encoded.{nothing, figure}
use Rattle.subsets.proofs.Costs.{lesser_none, ⊕-none}

-- a number up to the limit is a cost
pub read_cost : (n : ℕ) → n ≤ limit → read n ≡ some n
unfolding read provided
read_cost n h = rw (le-leb n limit h)

-- a number above it is 'none'
pub read_none : (n : ℕ) → limit < n → read n ≡ none
unfolding read provided
read_none n h = rw (lt-leb n limit h)

-- a figure that reads as a cost is that cost
pub read_some : (n k : ℕ) → read n ≡ some k → (n ≡ k) × (n ≤ limit)
unfolding read provided
read_some n k e = go (is_cost n) refl e
  where
    go : (t : Bool) → is_cost n ≡ t → provided t n ≡ some k → (n ≡ k) × (n ≤ limit)
    go true q e = (cc, leb-true n limit q)
    go false q e = absurd (let z : ◌≡◌ {A = ℕ} 0 1 = cc in omega arith)

-- the figure of a cost reads as that cost, where it is at most the limit
pub read_figure : (f : Cost) → ((n : ℕ) → f ≡ some n → n ≤ limit) → read (figure f) ≡ f
unfolding figure
read_figure none h = read_none nothing (omega arith)
read_figure (some n) h = read_cost n (h n refl)

-- a cost, or the planner's own 'none', is the figure of what it reads as
pub figure_read : (n : ℕ) → n ≤ nothing → figure (read n) ≡ n
unfolding figure
figure_read n h = go (is_cost n) refl
  where
    go : (t : Bool) → is_cost n ≡ t → figure (read n) ≡ n
    go true e = rw (read_cost n (leb-true n limit e))
    go false e = rw (read_none n (leb-false n limit e)) (omega (arith, leb-false n limit e))

-- a figure is a cost where it reads as one
pub read_is : (n : ℕ) → is_some (read n) ≡ is_cost n
unfolding read provided
read_is n = go (is_cost n)
  where
    go : (t : Bool) → is_some (provided t n) ≡ t
    go true = refl
    go false = refl

-- the lesser of two numbers reads as the lesser of two figures
read_min : (a b : ℕ) → read (min a b) ≡ lesser (read a) (read b)
unfolding lesser
read_min a b = go (is_cost a) (is_cost b) refl refl
  where
    go : (s t : Bool) → is_cost a ≡ s → is_cost b ≡ t → read (min a b) ≡ lesser (read a) (read b)
    go true true p q =
        let h : a ≤ limit = leb-true a limit p in
        let k : b ≤ limit = leb-true b limit q in
        rw (read_cost a h, read_cost b k) (read_cost (min a b) (omega arith))
    go true false p q =
        let h : a ≤ limit = leb-true a limit p in
        let k : limit < b = leb-false b limit q in
        rw (min-eq_left (let z : a ≤ b = omega arith in z), read_cost a h, read_none b k)
    go false true p q =
        let h : limit < a = leb-false a limit p in
        let k : b ≤ limit = leb-true b limit q in
        rw (min-eq_right (let z : b ≤ a = omega arith in z), read_cost b k, read_none a h)
    go false false p q =
        let h : limit < a = leb-false a limit p in
        let k : limit < b = leb-false b limit q in
        rw (read_none a h, read_none b k) (read_none (min a b) (omega arith))

-- the sum of three figures
pub read_sum : (p q l : ℕ) (t : Bool) → is_cost p && (is_cost q && is_cost l) ≡ t → read p ⊕ read q ⊕ read l ≡ provided t (p + q + l)
unfolding ◌⊕◌ provided
read_sum p q l true e =
    let f : is_cost q && is_cost l ≡ true = both_r (is_cost p) _ e in
    rw (read_cost p (leb-true p limit (both_l (is_cost p) _ e)), read_cost q (leb-true q limit (both_l (is_cost q) (is_cost l) f)), read_cost l (leb-true l limit (both_r (is_cost q) (is_cost l) f)))
read_sum p q l false e = go (is_cost p) (is_cost q) (is_cost l) refl refl refl
  where
    go : (s t u : Bool) → is_cost p ≡ s → is_cost q ≡ t → is_cost l ≡ u → read p ⊕ read q ⊕ read l ≡ none
    go false t u a b c = rw (read_none p (leb-false p limit a))
    go true false u a b c = rw (read_none q (leb-false q limit b), ⊕-none (read p))
    go true true false a b c = rw (read_none l (leb-false l limit c), ⊕-none (read p ⊕ read q))
    go true true true a b c =
        let z : true ≡ false = sym (rw (a, b, c)) ∙ e in absurd (let z : ◌≡◌ {A = ℕ} 0 1 = cc in omega arith)

-- 01's sentence: the lesser of the first figure and the sum of the other three, 'none' if one of them is; a sum above the limit is itself 'none'
pub read_weighing : (best placed rest link : ℕ) → read (weighing best placed rest link).best ≡ lesser (read best) (capped (read placed ⊕ read rest ⊕ read link))
unfolding weighing
read_weighing best placed rest link = go (is_cost placed && (is_cost rest && is_cost link)) refl
  where
    go : (t : Bool) → is_cost placed && (is_cost rest && is_cost link) ≡ t
        → read (lesser_figure best placed rest link) ≡ lesser (read best) (capped (read placed ⊕ read rest ⊕ read link))
    go true e = rw (read_sum placed rest link true e) (unfold lesser_figure provided capped in rw e (read_min best (placed + rest + link)))
    go false e = rw (read_sum placed rest link false e) (unfold lesser_figure provided capped in rw e (sym (lesser_none (read best))))

-- the flag: 1 or 0 as the figure of the set placed is a cost or 'none'
pub counted_weighing : (best placed rest link : ℕ) → (weighing best placed rest link).counted ≡ only (is_some (read placed)) 1
unfolding weighing
counted_weighing best placed rest link = ap (λ (t : Bool). only t 1) (sym (read_is placed))

-- so it is at most 1
pub counted_le : (best placed rest link : ℕ) → (weighing best placed rest link).counted ≤ 1
unfolding weighing
counted_le best placed rest link = only_le (is_cost placed) 1
