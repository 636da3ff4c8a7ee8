-- The numbers of an answer: 01, "A refusal carries its group and its number". The cost is 0 in every refusal.
use Rattle.std.specs.Prelude.{ℕ, Ok, Err}
use Rattle.sheet.specs.Refusals.{number_of, group_of}
use Rattle.checker.specs.Check.{Checked}

-- the refusal's number; 0 where the plan is accepted
abbrev pub number : Checked → ℕ
number (Ok k) = 0
number (Err f) = number_of f

-- the refusal's group; 0 where the plan is accepted
abbrev pub group : Checked → ℕ
group (Ok k) = 0
group (Err f) = group_of f

-- the plan's cost; 0 in a refusal
abbrev pub cost : Checked → ℕ
cost (Ok k) = k
cost (Err f) = 0
