-- What it comes to that a sheet is read and memory of these lengths is measured for it.
use Rattle.std.specs.Prelude.{◌≡◌, ℕ, ◌+◌, ◌≤◌, List, Result, Ok, Err}
use Rattle.sheet.specs.Instance.{Instance, instance}
use Rattle.sheet.specs.Reading.{reading}
use Rattle.sheet.specs.Refusals.{first_applying}
use Rattle.sheet.specs.declared.Sheet.{Sheet}
use Rattle.sheet.specs.declared.Refusal.{Refusal}
use Rattle.sheet.specs.Reading.{Reading}
use Rattle.records.specs.Told.{told}
use Rattle.lending.specs.Rules.{lender_rules, Measured, room}
use Rattle.lending.specs.declared.Span.{Span}
use Rattle.planner.specs.Answers.{entries, Enough}
use Rattle.planner.specs.declared.Prepared.{Prepared}

-- the reader's refusal is handed on; for an accepted sheet the memory is measured
abbrev pub measured : Reading → Instance → ℕ → ℕ → ℕ → Span → Measured
measured (Err f) I output costs choices span = Err f
measured (Ok h) I output costs choices span = room (first_applying (lender_rules I.r (entries I) output costs choices span))

-- the records are those of a sheet that the reader accepts, the memory is enough, and the rows stand in the span from its first entry on; so all that
-- is lent on is there
pub record Stands (bytes : List ℕ) (output costs choices : ℕ) (span : Span) (p : Prepared) : Type 0 where
  pub sheet : Sheet
  pub reads : reading bytes ≡ Ok sheet
  pub tells : told p.records ≡ instance bytes
  pub enough : Enough (instance bytes) output costs choices span
  pub first : p.first ≡ span.first
  pub end : p.end ≡ span.first + entries (instance bytes)
  pub places : p.records.services ≤ output
  pub order : p.first ≤ p.end
  pub costs_end : p.end ≤ costs
  pub choices_end : p.end ≤ choices

-- what is prepared stands so, and else the refusal is the reader's or the lender's
abbrev pub Prepares : List ℕ → ℕ → ℕ → ℕ → Span → Result Prepared Refusal → Type 0
Prepares bytes output costs choices span (Ok p) = Stands bytes output costs choices span p
Prepares bytes output costs choices span (Err f) = measured (reading bytes) (instance bytes) output costs choices span ≡ Err f
