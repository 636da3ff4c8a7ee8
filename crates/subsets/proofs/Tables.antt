-- One join of the planner, over lists that hold the figures of the rows: the best splits are the figures of the next row, and the counts are the flags.
-- All of it while no sum can pass the limit.
use Rattle.std.proofs.Common.{◌≡◌, ℕ, suc, ◌-◌, ◌*◌, ◌^◌, ◌<◌, ◌≤◌, Bool, true, sym, ap, ◌∙◌, ap₂, mul-le-mul_right, arith}
use Rattle.subsets.specs.Costs.{Cost, some, is_some}
use Rattle.subsets.specs.Inner.Totals.{◌⊕◌}
use Rattle.subsets.specs.Figures.{limit, read}
use Rattle.subsets.specs.Inner.Encoded.{figure}
use Rattle.subsets.specs.Inner.Net.{Falls, Net}
use Rattle.subsets.specs.Inner.Splits.{least_subset, split_charge}
use Rattle.subsets.specs.Inner.Rows.{child, row_at}
use Rattle.subsets.specs.Inner.Count.{pairs, flagged}
use Rattle.subsets.specs.Inner.Folds.{best_split, counted_below, Holds}
use Rattle.subsets.proofs.Sets.{Sub, sub_le}
use Rattle.subsets.proofs.Subsets.{subset_ext}
use Rattle.subsets.proofs.Figures.{read_figure}
use Rattle.subsets.proofs.Rows.{child_parent, row_join}
use Rattle.subsets.proofs.Count.{pairs_ext}
use Rattle.subsets.proofs.Bound.{row_bound, split_bound}
use Rattle.subsets.proofs.Folds.{costs, counted_pairs}
use Rattle.subsets.proofs.Ties.{Fits, best_figure}

-- a list that holds the figures of costs reads as those costs
pub holds_read : (n : ℕ) (f : ℕ → Cost) (l : ℕ → ℕ) → Holds n f l → ((a k : ℕ) → a < n → f a ≡ some k → k ≤ limit) → (a : ℕ) → a < n → read (l a) ≡ f a
holds_read n f l h small a k = ap read (h a k) ∙ read_figure (f a) (λ m e. small a m k e)

module _ (N : Net) (falls : Falls N.parent) (B : ℕ)
    (nodes : (c x k : ℕ) → c < N.s → x < 2 ^ N.r → N.node c x ≡ some k → k ≤ B)
    (links : (c x k : ℕ) → c < N.s → x < 2 ^ N.r → N.link c x ≡ some k → k ≤ B)
    (small : (2 * N.s - 1) * B ≤ limit)
    (p c : ℕ) (is_child : child N p c ≡ true) (hc : c < N.s) (row kid link : ℕ → ℕ)
    (hr : Holds (2 ^ N.r) (row_at N p c) row) (hk : Holds (2 ^ N.r) (row_at N c N.s) kid) (hl : Holds (2 ^ N.r) (N.link c) link) where
  above : p < c
  above = let w = child_parent N p c is_child in omega (arith, falls c w.0, w.1)

  once : B ≤ (2 * N.s - 1) * B
  once = omega (arith, mul-le-mul_right {m = 1} {n = 2 * N.s - 1} B (omega arith))

  row_read : (a : ℕ) → a < 2 ^ N.r → read (row a) ≡ row_at N p c a
  row_read = holds_read (2 ^ N.r) (row_at N p c) row hr (λ a k h e. omega (arith, small, row_bound N B nodes links falls p c a k (omega (arith, above)) (omega arith) h e))

  kid_read : (a : ℕ) → a < 2 ^ N.r → read (kid a) ≡ row_at N c N.s a
  kid_read = holds_read (2 ^ N.r) (row_at N c N.s) kid hk (λ a k h e. omega (arith, small, row_bound N B nodes links falls c N.s a k hc (omega arith) h e))

  link_read : (a : ℕ) → a < 2 ^ N.r → read (link a) ≡ N.link c a
  link_read = holds_read (2 ^ N.r) (N.link c) link hl (λ a k h e. omega (arith, small, once, links c a k hc h e))

  module _ (x : ℕ) (hx : x < 2 ^ N.r) where
    -- the splits read as those of the rows
    pub split_read : (a : ℕ) → Sub a x → costs row kid link x a ≡ split_charge (row_at N p c) (row_at N c N.s) (N.link c) x a
    split_read a s =
        ap₂ (λ (y z : Cost). y ⊕ z) (ap₂ (λ (y z : Cost). y ⊕ z) (row_read a (omega (arith, sub_le a x s))) (kid_read (x - a) (omega arith))) (link_read (x - a) (omega arith))

    -- and no sum passes the limit
    pub split_fits : Fits row kid link x
    split_fits a n s e = omega (arith, small, split_bound N B nodes links falls p c x a n is_child hc hx s (sym (split_read a s) ∙ e))

    least : least_subset (costs row kid link x) x ≡ row_at N p (suc c) x
    least = subset_ext (costs row kid link x) (split_charge (row_at N p c) (row_at N c N.s) (N.link c) x) x split_read ∙ sym (row_join N falls p c x is_child hc)

    -- The best split's cost is the figure of the row after c is joined.
    pub next_figure : (lower : ℕ → ℕ → Bool) → (best_split lower row kid link x).cost ≡ figure (row_at N p (suc c) x)
    next_figure lower = best_figure row kid link x split_fits lower ∙ ap figure least

  -- The counts of the join over all sets are the flags of c.
  pub next_count : counted_below row kid link (2 ^ N.r) ≡ pairs N.r (flagged N c)
  next_count =
      counted_pairs row kid link N.r
      ∙ pairs_ext N.r _ _ (λ a h. ap is_some (row_read a h ∙ ap (λ (v : ℕ). row_at N v c a) (sym (child_parent N p c is_child).1)))
