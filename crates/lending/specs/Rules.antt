-- The lender's refusals: 01's section "Who can cause a refusal", and 02 (h).
use Rattle.std.specs.Prelude.{ℕ, zero, suc, ◌||◌, List, [], ◌∷◌, ltb, Result, Ok, Err}
use Rattle.sheet.specs.Refusals.{Rule, refusal}
use Rattle.sheet.specs.declared.Refusal.{Refusal}
use Rattle.lending.specs.Spans.{runs_past}
use Rattle.lending.specs.declared.Span.{Span}

-- the lender's refusals, in the order in which they are tried, for a plan that needs so many places and entries, with an output and tables of these
-- lengths: 11 is measured on the span
abbrev pub lender_rules : ℕ → ℕ → ℕ → ℕ → ℕ → Span → List Rule
lender_rules places entries output costs choices span =
    record { number = 10; applies = ltb output places }
    ∷ record { number = 24; applies = runs_past span costs || runs_past span choices }
    ∷ record { number = 11; applies = ltb span.number entries }
    ∷ []

-- whether the memory lent is enough, or the lender's refusal
abbrev pub Measured : Type 0
Measured = Result (Unit {0}) Refusal

-- the lender's refusal of a number, where 0 stands for none
abbrev pub room : ℕ → Measured
room zero = Ok tt
room (suc n) = Err (refusal (suc n))
