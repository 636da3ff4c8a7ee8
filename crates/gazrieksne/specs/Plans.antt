-- The entry points of the planner and of the bound: numbers in place of answers.
use Rattle.std.specs.Prelude.{ℕ, List, [], ◌∷◌, length}
use Rattle.lending.specs.Spans.{whole}
use Rattle.lending.specs.declared.Span.{Span}
use Rattle.planner.specs.Answers.{Planned, group, cost, count, planned}
use Rattle.planner.specs.Bounds as bounds
use Rattle.planner.specs.Bounds.{SplitBound}

-- the span of the calls without one: all of the shorter table
abbrev pub whole_of : List ℕ → List ℕ → Span
whole_of costs choices = whole (length costs) (length choices)

-- the planner's answer with this output and these tables
abbrev pub answer_with : List ℕ → List ℕ → List ℕ → List ℕ → Span → Planned
answer_with bytes output costs choices span = planned bytes (length output) (length costs) (length choices) span

-- the calls that plan, keep and edit write group, cost and count
abbrev pub plan_answer : Planned → List ℕ
plan_answer a = group a ∷ cost a ∷ count a ∷ []

-- gz_bound writes group and bound
abbrev pub bound_answer : SplitBound → List ℕ
bound_answer b = bounds.group b ∷ bounds.bound b ∷ []
