-- The fold over subsets that the planner's join makes, for any figures whatever: its steps, what it depends on, and its count, which is the number
-- of subsets whose figure is a cost.
use Rattle.std.proofs.Common.{◌≡◌, ℕ, zero, suc, ◌+◌, ◌-◌, ◌^◌, ◌<◌, ◌≤◌, min, Bool, true, false, cond, ◌&&◌, ◌||◌, ltb, sym, refl, ap, ◌∙◌, subst, ap₂, arith, eq-eqb, ne_eqb, eqb-true}
use native.Mathlib.Decide.{le_ind}
use lib.Bits.{bit_and, and_zero_l}
use Rattle.finite.specs.Below.{only, sum_below}
use Rattle.finite.proofs.Sums.{sum_ext, sum_more, sum_le, only_le}
use Rattle.subsets.specs.Inner.Masks.{within}
use Rattle.subsets.specs.Costs.{Cost, is_some}
use Rattle.subsets.specs.Figures.{is_cost, read, lesser_figure, weighing}
use Rattle.subsets.specs.Inner.Encoded.{nothing}
use Rattle.subsets.specs.Inner.Splits.{split_charge}
use Rattle.subsets.specs.Inner.Count.{pairs}
use Rattle.subsets.specs.Inner.Folds.{earlier, is_tie, tried, scan, start, best_split, counted_below}
use Rattle.subsets.specs.declared.Best.{Best}
use Rattle.subsets.proofs.Figures.{read_is}
use Rattle.subsets.proofs.Sets.{Sub, sub_le, subset_within}
use Rattle.subsets.proofs.Loop.{next_below, next_largest}

-- ---- how ties are settled changes neither the cost nor the count

same_scan : (lower lower₁ : ℕ → ℕ → Bool) (row child link : ℕ → ℕ) (x n : ℕ) (b d : Best) → b.cost ≡ d.cost → b.counted ≡ d.counted
    → ((scan lower row child link x n b).cost ≡ (scan lower₁ row child link x n d).cost) × ((scan lower row child link x n b).counted ≡ (scan lower₁ row child link x n d).counted)
unfolding scan
same_scan lower lower₁ row child link x zero b d e f = (e, f)
same_scan lower lower₁ row child link x (suc a) b d e f =
    same_scan lower lower₁ row child link x a _ _ (go (within a x)).0 (go (within a x)).1
  where
    p : ℕ
    p = row a

    q : ℕ
    q = child (x - a)

    l : ℕ
    l = link (x - a)

    go : (t : Bool) → ((cond t (tried lower b a p q l) b).cost ≡ (cond t (tried lower₁ d a p q l) d).cost) × ((cond t (tried lower b a p q l) b).counted ≡ (cond t (tried lower₁ d a p q l) d).counted)
    go true = (ap (λ (z : ℕ). (weighing z p q l).best) e, ap₂ (λ (y z : ℕ). y + (weighing z p q l).counted) f e)
    go false = (e, f)

pub any_cost : (lower lower₁ : ℕ → ℕ → Bool) (row child link : ℕ → ℕ) (x : ℕ) → (best_split lower row child link x).cost ≡ (best_split lower₁ row child link x).cost
unfolding best_split
any_cost lower lower₁ row child link x = (same_scan lower lower₁ row child link x (suc x) start start refl refl).0

pub any_count : (lower lower₁ : ℕ → ℕ → Bool) (row child link : ℕ → ℕ) (x : ℕ) → (best_split lower row child link x).counted ≡ (best_split lower₁ row child link x).counted
unfolding best_split
any_count lower lower₁ row child link x = (same_scan lower lower₁ row child link x (suc x) start start refl refl).1

-- ---- the steps of a scan, as the loop `a = (a - 1) & x` makes them

module _ (lower : ℕ → ℕ → Bool) (row child link : ℕ → ℕ) (x : ℕ) where
  -- the split that places a, tried
  abbrev pub try_at : Best → ℕ → Best
  try_at b a = tried lower b a (row a) (child (x - a)) (link (x - a))

  -- a subset is tried
  pub scan_at : (b : Best) (a : ℕ) → Sub a x → scan lower row child link x (suc a) b ≡ scan lower row child link x a (try_at b a)
  unfolding scan
  scan_at b a s = simp (eq-eqb (bit_and a x) a s)

  -- any other number is passed over
  pub scan_pass : (b : Best) (a : ℕ) → (Sub a x → ⊥) → scan lower row child link x (suc a) b ≡ scan lower row child link x a b
  unfolding scan
  scan_pass b a n = simp (ne_eqb (bit_and a x) a n)

  -- so the next to be tried is (a - 1) & x
  pub scan_next : (b : Best) (a : ℕ) → Sub a x → 0 < a → scan lower row child link x a b ≡ scan lower row child link x (suc (bit_and (a - 1) x)) b
  scan_next b a s z =
      le_ind (λ (m : ℕ). m ≤ a → scan lower row child link x m b ≡ scan lower row child link x (suc (bit_and (a - 1) x)) b)
      (λ h. refl)
      (λ m l ih h. scan_pass b m (λ t. omega (arith, next_largest a x m s t (omega arith))) ∙ ih (omega arith)) a (omega (arith, next_below a x z)) (omega arith)

  -- and the empty set is the last
  pub scan_end : (b : Best) (a : ℕ) → a ≡ 0 → scan lower row child link x (suc a) b ≡ try_at b a
  unfolding scan
  scan_end b a z = subst (λ (a : ℕ). scan lower row child link x (suc a) b ≡ try_at b a) (sym z) (scan_at b 0 (and_zero_l x))

  -- the choice stays a subset of x
  pub tried_sub : (b : Best) (a : ℕ) → Sub a x → Sub b.chosen x → Sub (try_at b a).chosen x
  tried_sub b a s t = go ((lower a b.chosen && is_tie b.cost (row a) (child (x - a)) (link (x - a))) || ltb (try_at b a).cost b.cost)
    where
      go : (u : Bool) → Sub (cond u a b.chosen) x
      go true = s
      go false = t

  pub scan_sub : (n : ℕ) (b : Best) → Sub b.chosen x → Sub (scan lower row child link x n b).chosen x
  unfolding scan
  scan_sub zero b s = s
  scan_sub (suc a) b s = scan_sub a _ (go (within a x) refl)
    where
      go : (t : Bool) → within a x ≡ t → Sub (cond t (try_at b a) b).chosen x
      go true e = tried_sub b a (eqb-true (bit_and a x) a e) s
      go false e = s

  -- the choice is a subset of x
  pub best_sub : Sub (best_split lower row child link x).chosen x
  unfolding best_split
  best_sub = scan_sub (suc x) start (and_zero_l x)

-- a scan of x depends on all three figures only up to x, and on how ties between subsets of x are settled
scan_ext : (lower lower₁ : ℕ → ℕ → Bool) (row row₁ child child₁ link link₁ : ℕ → ℕ) (x n : ℕ) (b : Best) → n ≤ suc x → Sub b.chosen x
    → ((a d : ℕ) → Sub a x → Sub d x → lower a d ≡ lower₁ a d) → ((k : ℕ) → k ≤ x → row k ≡ row₁ k) → ((k : ℕ) → k ≤ x → child k ≡ child₁ k)
    → ((k : ℕ) → k ≤ x → link k ≡ link₁ k) → scan lower row child link x n b ≡ scan lower₁ row₁ child₁ link₁ x n b
unfolding scan
scan_ext lower lower₁ row row₁ child child₁ link link₁ x zero b l s o f g h = refl
scan_ext lower lower₁ row row₁ child child₁ link link₁ x (suc a) b l s o f g h =
    go (within a x) refl (λ d t. scan_ext lower lower₁ row row₁ child child₁ link link₁ x a d (omega arith) t o f g h)
  where
    go : (t : Bool) → within a x ≡ t → ((d : Best) → Sub d.chosen x → scan lower row child link x a d ≡ scan lower₁ row₁ child₁ link₁ x a d)
        → scan lower row child link x a (cond t (try_at lower row child link x b a) b) ≡ scan lower₁ row₁ child₁ link₁ x a (cond t (try_at lower₁ row₁ child₁ link₁ x b a) b)
    go true e ih =
        let u : Sub a x = eqb-true (bit_and a x) a e in
        ih (try_at lower row child link x b a) (tried_sub lower row child link x b a u s)
        ∙ ap (scan lower₁ row₁ child₁ link₁ x a) (same u)
      where
        same : Sub a x → try_at lower row child link x b a ≡ try_at lower₁ row₁ child₁ link₁ x b a
        same u = rw (f a (omega arith), g (x - a) (omega arith), h (x - a) (omega arith), o a b.chosen u s)
    go false e ih = ih b s

-- the best split of x depends on the figures up to x only
pub best_ext : (lower lower₁ : ℕ → ℕ → Bool) (row row₁ child child₁ link link₁ : ℕ → ℕ) (x : ℕ) → ((a d : ℕ) → Sub a x → Sub d x → lower a d ≡ lower₁ a d)
    → ((k : ℕ) → k ≤ x → row k ≡ row₁ k) → ((k : ℕ) → k ≤ x → child k ≡ child₁ k)
    → ((k : ℕ) → k ≤ x → link k ≡ link₁ k) → best_split lower row child link x ≡ best_split lower₁ row₁ child₁ link₁ x
unfolding best_split
best_ext lower lower₁ row row₁ child child₁ link link₁ x o f g h = scan_ext lower lower₁ row row₁ child child₁ link link₁ x (suc x) start (omega arith) (and_zero_l x) o f g h

-- so a row can be updated in place from the last set down
pub best_row : (lower : ℕ → ℕ → Bool) (row row₁ child link : ℕ → ℕ) (x : ℕ) → ((k : ℕ) → k ≤ x → row k ≡ row₁ k) → best_split lower row child link x ≡ best_split lower row₁ child link x
best_row lower row row₁ child link x h = best_ext lower lower row row₁ child child link link x (λ a d s t. refl) h (λ k l. refl) (λ k l. refl)

-- so do the counts of the sets below n on the figures below n
pub counted_ext : (row row₁ child child₁ link link₁ : ℕ → ℕ) (n : ℕ) → ((k : ℕ) → k < n → row k ≡ row₁ k) → ((k : ℕ) → k < n → child k ≡ child₁ k)
    → ((k : ℕ) → k < n → link k ≡ link₁ k) → counted_below row child link n ≡ counted_below row₁ child₁ link₁ n
unfolding counted_below
counted_ext row row₁ child child₁ link link₁ n f g h =
    sum_ext n _ _ (λ x l. ap (λ (b : Best). b.counted)
    (best_ext earlier earlier row row₁ child child₁ link link₁ x (λ a d s t. refl) (λ k m. f k (omega arith)) (λ k m. g k (omega arith)) (λ k m. h k (omega arith))))

-- ---- one weighing

-- a weighing leaves the best or makes it less
pub lesser_le : (best p q l : ℕ) → lesser_figure best p q l ≤ best
unfolding lesser_figure
lesser_le best p q l = go (is_cost p && (is_cost q && is_cost l))
  where
    go : (t : Bool) → cond t (min best (p + q + l)) best ≤ best
    go true = omega arith
    go false = omega arith

-- ---- for any lists whatever

module _ (row child link : ℕ → ℕ) (x : ℕ) where
  -- the split that places a, as costs
  abbrev pub costs : ℕ → Cost
  costs = split_charge (λ a. read (row a)) (λ a. read (child a)) (λ a. read (link a)) x

  -- 1 where a is a subset of x whose figure is a cost
  abbrev pub flag : ℕ → ℕ
  flag a = only (within a x && is_some (read (row a))) 1

module _ (lower : ℕ → ℕ → Bool) (row child link : ℕ → ℕ) (x : ℕ) where
  -- the cost stays a cost or the planner's own 'none'
  pub scan_top : (n : ℕ) (b : Best) → b.cost ≤ nothing → (scan lower row child link x n b).cost ≤ nothing
  unfolding scan
  scan_top zero b h = h
  scan_top (suc a) b h = scan_top a _ (go (within a x))
    where
      go : (t : Bool) → (cond t (try_at lower row child link x b a) b).cost ≤ nothing
      go true = unfold weighing in omega (arith, lesser_le b.cost (row a) (child (x - a)) (link (x - a)))
      go false = h

  -- the count grows by the flags
  pub scan_count : (n : ℕ) (b : Best) → (scan lower row child link x n b).counted ≡ b.counted + sum_below n (flag row child link x)
  unfolding scan sum_below
  scan_count zero b = omega arith
  scan_count (suc a) b = omega (arith, scan_count a (cond (within a x) (try_at lower row child link x b a) b), go (within a x))
    where
      go : (t : Bool) → (cond t (try_at lower row child link x b a) b).counted ≡ b.counted + only (t && is_some (read (row a))) 1
      go true = unfold weighing in rw (read_is (row a))
      go false = unfold only in omega arith

  -- by one a subset at most
  pub scan_count_le : (n : ℕ) (b : Best) → (scan lower row child link x n b).counted ≤ b.counted + n
  scan_count_le n b = omega (arith, scan_count n b, sum_le n 1 (flag row child link x) (λ a k. only_le (within a x && is_some (read (row a))) 1))

  -- the cost is a cost, or the planner's own 'none'
  pub best_top : (best_split lower row child link x).cost ≤ nothing
  unfolding best_split
  best_top = scan_top (suc x) start (omega arith)

  -- The count is the number of subsets of x whose figure is a cost.
  pub best_count : (best_split lower row child link x).counted ≡ sum_below (suc x) (flag row child link x)
  unfolding best_split
  best_count = scan_count (suc x) start ∙ (let q : 0 + sum_below (suc x) (flag row child link x) ≡ sum_below (suc x) (flag row child link x) = omega arith in q)

-- The counts of a join over all sets of r services sum to the pairs (X, A) where A's figure is a cost.
pub counted_pairs : (row child link : ℕ → ℕ) (r : ℕ) → counted_below row child link (2 ^ r) ≡ pairs r (λ a. is_some (read (row a)))
unfolding counted_below pairs
counted_pairs row child link r =
    sum_ext (2 ^ r) _ _ (λ x k.
    best_count earlier row child link x
    ∙ sym (sum_more (suc x) (2 ^ r) (flag row child link x) k (λ a l m. outside x a l))
    ∙ sum_ext (2 ^ r) _ _ (λ a l. ap (λ (t : Bool). only (t && is_some (read (row a))) 1) (sym (subset_within r a x l))))
  where
    outside : (x a : ℕ) → suc x ≤ a → flag row child link x a ≡ 0
    outside x a h =
        ap (λ (t : Bool). only (t && is_some (read (row a))) 1) (ne_eqb (bit_and a x) a (λ s. omega (arith, sub_le a x s))) ∙ unfold only in refl
