-- A call on a pair of tables, and what a planning and a keeping call answer and leave.
use Rattle.std.specs.Prelude.{◌≡◌, ℕ, List, length, replicate}
use Rattle.sheet.specs.Instance.{Instance, instance}
use Rattle.lending.specs.declared.Span.{Span}
use Rattle.planner.specs.Answers.{Planned, entries, planned}
use Rattle.planner.specs.Lent.{front_after, OutputAfter}
use Rattle.planner.specs.Kept.{kept_costs, kept_choices}

-- a call on a pair of tables as it was made, and what came of it: primes mark what is there after it
pub record Call : Type 0 where
  pub sheet : List ℕ
  -- the cabinet that an edit names; no other call takes one
  pub cabinet : ℕ
  pub output : List ℕ
  pub costs : List ℕ
  pub choices : List ℕ
  pub span : Span
  pub answer : Planned
  pub output' : List ℕ
  pub costs' : List ℕ
  pub choices' : List ℕ

-- the call of these arguments, with this answer and what they are after it
abbrev pub called : List ℕ → ℕ → List ℕ → List ℕ → List ℕ → Span → Planned → List ℕ → List ℕ → List ℕ → Call
called sheet e o t u span a o' t' u' =
    record { sheet = sheet; cabinet = e; output = o; costs = t; choices = u; span = span; answer = a; output' = o'; costs' = t'; choices' = u' }

-- the instance of its sheet
abbrev pub asked : Call → Instance
asked d = instance d.sheet

-- all memory lent is as it was
pub record Untouched (d : Call) : Type 0 where
  pub output : d.output' ≡ d.output
  pub costs : d.costs' ≡ d.costs
  pub choices : d.choices' ≡ d.choices

-- answer, output and both tables are those of a call on the sheet that leaves these entries in front of the span, if it uses the tables
pub record Leaves (d : Call) (costs choices : List ℕ) : Type 0 where
  pub answer : d.answer ≡ planned d.sheet (length d.output) (length d.costs) (length d.choices) d.span
  pub output : OutputAfter (asked d) d.answer d.output d.output'
  pub costs_after : d.costs' ≡ front_after (asked d) d.answer d.span costs d.costs
  pub choices_after : d.choices' ≡ front_after (asked d) d.answer d.span choices d.choices

-- what a planning call answers and leaves, and what a keeping call does
abbrev pub Plans : Call → Type 0
Plans d = Leaves d (replicate (entries (asked d)) 0) (replicate (entries (asked d)) 0)

abbrev pub Keeps : Call → Type 0
Keeps d = Leaves d (kept_costs (asked d)) (kept_choices (asked d))
