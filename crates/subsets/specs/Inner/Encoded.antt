-- How a cost is written as a figure.
use Rattle.std.specs.Prelude.{ℕ}
use Rattle.subsets.specs.Costs.{Cost, none, some}

-- the figure that stands for 'none' where no other is given
abbrev pub nothing : ℕ
nothing = 1000000000000001

-- the figure for a cost
unfoldable pub figure : Cost → ℕ
figure none = nothing
figure (some n) = n
