-- The call that gives the bound of the count: 01's section "Splits weighed".
use Rattle.std.specs.Prelude.{ℕ, ◌-◌, ◌*◌, ◌^◌, cond, ◌&&◌, nat_le, Result, Ok, Err}
use Rattle.sheet.specs.Limits.{max_services, max_cabinets}
use Rattle.sheet.specs.Refusals.{refusal, number_of, group_of}
use Rattle.sheet.specs.declared.Refusal.{Refusal}

-- at most so many splits are weighed, or a refusal
abbrev pub SplitBound : Type 0
SplitBound = Result ℕ Refusal

-- (s - 1) × 3^r within the sheet's limits, refusal 2 outside
unfoldable pub split_bound : ℕ → ℕ → SplitBound
split_bound r s = cond (nat_le r max_services && (nat_le 1 s && nat_le s max_cabinets)) (Ok ((s - 1) * 3 ^ r)) (Err (refusal 2))

-- an answer's number; 0 with a bound
abbrev pub number : SplitBound → ℕ
number (Ok n) = 0
number (Err f) = number_of f

-- its group; 0 with a bound
abbrev pub group : SplitBound → ℕ
group (Ok n) = 0
group (Err f) = group_of f

-- the bound of the count; 0 in a refusal
abbrev pub bound : SplitBound → ℕ
bound (Ok n) = n
bound (Err f) = 0
