-- The planner's rows: for each node p and set x, the least charge of x on p with those of its children that have been joined.
use Rattle.std.specs.Prelude.{ℕ, zero, suc, Bool, true, false, ◌&&◌, ◌==◌, nat_lt}
use Rattle.subsets.specs.Costs.{Cost, none}
use Rattle.subsets.specs.Inner.Net.{Net}
use Rattle.subsets.specs.Inner.Splits.{split_charge, least_split, winner}

-- c is a child of p
abbrev pub child : Net → ℕ → ℕ → Bool
child N p c = nat_lt 0 c && N.parent c == p

-- the row of p after its children below k are joined in rising order, where `done c` is the whole row of a child c
unfoldable pub grown : Net → (ℕ → ℕ → Cost) → ℕ → ℕ → ℕ → Cost
grown N done p zero x = N.node p x
grown N done p (suc k) x = elim (child N p k) [ true ↦ least_split (grown N done p k) (done k) (N.link k) x | false ↦ grown N done p k x ]

-- the whole row of c, with at most n generations below it
unfoldable pub whole : Net → ℕ → ℕ → ℕ → Cost
whole N zero c x = none
whole N (suc n) c x = grown N (whole N n) c N.s x

-- the row of p after its children below k are joined; no node has more generations below it than there are nodes
unfoldable pub row_at : Net → ℕ → ℕ → ℕ → Cost
row_at N p k x = grown N (whole N N.s) p k x

-- the entry of the choice table for the child c and the set x: the subset that stays when c is joined to its parent
unfoldable pub choice_at : Net → ℕ → ℕ → ℕ
choice_at N c x = winner (split_charge (row_at N (N.parent c) c) (row_at N c N.s) (N.link c) x) x
