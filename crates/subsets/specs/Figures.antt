-- Figures: a cost or 'none', as one 64-bit number; and what weighing one split answers.
use Rattle.std.specs.Prelude.{ℕ, ◌+◌, min, Bool, cond, ◌&&◌, nat_le}
use Rattle.finite.specs.Below.{only}
use Rattle.subsets.specs.Costs.{Cost, none, some, provided}
use Rattle.subsets.specs.declared.Weighed.{Weighed}

-- the largest figure that is a cost: 10^15
abbrev pub limit : ℕ
limit = 1000000000000000

-- the figure n is a cost
abbrev pub is_cost : ℕ → Bool
is_cost n = nat_le n limit

-- what the figure n says: a number above the limit is taken as 'none'
unfoldable pub read : ℕ → Cost
read n = provided (is_cost n) n

-- a cost that no figure can hold is none
unfoldable pub capped : Cost → Cost
capped none = none
capped (some n) = read n

-- the lesser of the first number and the sum of the other three; the sum counts only where all three are costs
unfoldable pub lesser_figure : ℕ → ℕ → ℕ → ℕ → ℕ
lesser_figure best placed rest link =
    cond (is_cost placed && (is_cost rest && is_cost link)) (min best (placed + rest + link)) best

-- weighing one split: the best figure now, and 1 or 0 as the figure of the set placed is a cost or 'none'
unfoldable pub weighing : ℕ → ℕ → ℕ → ℕ → Weighed
weighing best placed rest link = record { best = lesser_figure best placed rest link; counted = only (is_cost placed) 1 }
