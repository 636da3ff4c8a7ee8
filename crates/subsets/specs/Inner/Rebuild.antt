-- A row rebuilt from figures and keys of any kind: its own, then those of each child joined to it, in rising order. Nothing is asked of them.
use Rattle.std.specs.Prelude.{ℕ, zero, suc, Bool, true, false, cond, ◌==◌}
use Rattle.finite.specs.Below.{only, sum_below}
use Rattle.subsets.specs.Inner.Folds.{earlier, split_key, by_key, best_split, counted_below}
use Rattle.subsets.specs.declared.Best.{Best}
use Rattle.subsets.specs.declared.Key.{Key}

-- what a row is rebuilt from: its own figures, which numbers are its children, for each the figures of its row and of its link, and the keys of
-- the row's own node and of each child
pub record Source : Type 0 where
  pub own : ℕ → ℕ
  pub child : ℕ → Bool
  pub row : ℕ → ℕ → ℕ
  pub link : ℕ → ℕ → ℕ
  pub own_key : ℕ → Key
  pub key : ℕ → ℕ → Key

-- the row after the children below k are joined; how ties are settled does not matter for it
unfoldable pub rebuilt_row : Source → ℕ → ℕ → ℕ
rebuilt_row S zero x = S.own x
rebuilt_row S (suc c) x = elim (S.child c) [ true ↦ (best_split earlier (rebuilt_row S c) (S.row c) (S.link c) x).cost | false ↦ rebuilt_row S c x ]

-- the best split of x when the child c is joined to a row with these keys
abbrev pub best_join : Source → (ℕ → Key) → ℕ → ℕ → Best
best_join S keys c x = best_split (by_key keys (S.key c) x) (rebuilt_row S c) (S.row c) (S.link c) x

-- the keys after the children below k are joined: each is that of the best split
unfoldable pub rebuilt_key : Source → ℕ → ℕ → Key
rebuilt_key S zero x = S.own_key x
rebuilt_key S (suc c) x =
    elim (S.child c) [ true ↦ split_key (rebuilt_key S c) (S.key c) x (best_join S (rebuilt_key S c) c x).chosen | false ↦ rebuilt_key S c x ]

-- the subset of x that stays when the child c is joined
unfoldable pub rebuilt_choice : Source → ℕ → ℕ → ℕ
rebuilt_choice S c x = (best_join S (rebuilt_key S c) c x).chosen

-- the splits counted, over rows of so many sets, when the child c is joined
unfoldable pub join_count : Source → ℕ → ℕ → ℕ
join_count S size c = counted_below (rebuilt_row S c) (S.row c) (S.link c) size

-- the entry of the choice table when the child c is joined: the subset that stays, and for the empty set, which none asks for, the count
unfoldable pub rebuilt_entry : Source → ℕ → ℕ → ℕ → ℕ
rebuilt_entry S size c x = cond (x == 0) (join_count S size c) (rebuilt_choice S c x)

-- the splits counted for the children below k
unfoldable pub rebuilt_count : Source → ℕ → ℕ → ℕ
rebuilt_count S size k = sum_below k (λ c. only (S.child c) (join_count S size c))
