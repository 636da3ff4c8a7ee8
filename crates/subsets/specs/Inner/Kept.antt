-- What a choice table has once it is kept: winning splits, and beside them the counts of the joins.
use Rattle.std.specs.Prelude.{ℕ, cond, ◌==◌}
use Rattle.subsets.specs.Inner.Net.{Net}
use Rattle.subsets.specs.Inner.Rows.{choice_at}
use Rattle.subsets.specs.Inner.Count.{pairs, flagged}
use Rattle.subsets.specs.Inner.Keys.{ordered}

-- what a kept choice table has for the child c and the set x: the subset that stays, ties settled by keys to the base b; and for the empty set, which no
-- read-back asks for, the count of the splits of c's join
unfoldable pub kept_choice : ℕ → Net → ℕ → ℕ → ℕ
kept_choice b N c x = cond (x == 0) (pairs N.r (flagged N c)) (choice_at (ordered b N) c x)
