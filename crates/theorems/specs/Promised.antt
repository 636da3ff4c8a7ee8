-- The words of the demands: a refusal as it is given, a mapping of least cost, and memory after a call.
use Rattle.bill.specs.Answers.{bill_of, Billed}
use Rattle.std.specs.Prelude.{ℕ, ◌+◌, ◌≤◌, ◌<◌, ◌⊎◌, ◌≡◌, true, false, List, length, get_or, take, drop, replicate, Err, Ok}
use Rattle.sheet.specs.Refusals.{one_of, refusal, number_of}
use Rattle.sheet.specs.Instance.{Instance}
use Rattle.sheet.specs.declared.Refusal.{Refusal}
use Rattle.embedding.specs.Definition1.{Feasible, cost}
use Rattle.embedding.specs.Limits.{Limits}
use Rattle.embedding.specs.Road.{road}
use Rattle.embedding.specs.Splits.{weighed}
use Rattle.lending.specs.Spans.{within}
use Rattle.lending.specs.declared.Span.{Span}
use Rattle.planner.specs.Answers.{Planned, plan_of, unplanned, entries}
use Rattle.planner.specs.Lent.{used}
use Rattle.planner.specs.Kept.{Kept}
use Rattle.bill.specs.Lines.{line_count, line}
use Rattle.bill.specs.declared.tariff.Tariff.{Tariff}
use Rattle.tidy.specs.Answers as tidy

-- the refusal stands in the group of its number, and the number is one of these
pub record Given (numbers : List ℕ) (f : Refusal) : Type 0 where
  pub grouped : f ≡ refusal (number_of f)
  pub listed : one_of numbers (number_of f) ≡ true

-- with some paths, of any make, π is a mapping that is feasible by Definition 1, keeps the limits, and costs k
abbrev pub Maps : Instance → (ℕ → ℕ) → ℕ → Type 0
Maps I π k = (ρ : ℕ → List ℕ) × Feasible (road I) π ρ × Limits I π ρ × (cost (road I) π ρ ≡ k)

-- no rival costs less than k: no mapping at all that is feasible and keeps the limits
abbrev pub NoneCheaper : Instance → ℕ → Type 0
NoneCheaper I k = (π : ℕ → ℕ) (ρ : ℕ → List ℕ) → Feasible (road I) π ρ → Limits I π ρ → k ≤ cost (road I) π ρ

-- no mapping is feasible and keeps the limits
abbrev pub NoMapping : Instance → Type 0
NoMapping I = (π : ℕ → ℕ) (ρ : ℕ → List ℕ) → Feasible (road I) π ρ → Limits I π ρ → ⊥

-- the answer is a plan at the least cost of all mappings, or 12 where there is none; its count is that of the splits weighed
abbrev pub Best : Instance → Planned → Type 0
Best I a =
    ((k : ℕ) × (a ≡ plan_of k (weighed I)) × ((π : ℕ → ℕ) × Maps I π k) × NoneCheaper I k)
    ⊎ ((a ≡ unplanned (refusal 12) (weighed I)) × NoMapping I)

-- two answers of the planner, each with the count of its own road: 12 twice, or plans of one cost
abbrev pub SameCost : Instance → Instance → Planned → Planned → Type 0
SameCost I J a b =
    ((a ≡ unplanned (refusal 12) (weighed I)) × (b ≡ unplanned (refusal 12) (weighed J)))
    ⊎ ((k : ℕ) × (a ≡ plan_of k (weighed I)) × (b ≡ plan_of k (weighed J)))

-- all entries of a table stay but the n from this first one on
pub record Stays (first n : ℕ) (table table' : List ℕ) : Type 0 where
  pub there : first + n ≤ length table
  pub length_stays : length table' ≡ length table
  pub others : (i : ℕ) → (i < first) ⊎ (first + n ≤ i) → get_or table' i 0 ≡ get_or table i 0

-- all entries of a table outside a span stay, also of a span that runs past it
pub record OutsideStays (span : Span) (table table' : List ℕ) : Type 0 where
  pub length_stays : length table' ≡ length table
  pub others : (i : ℕ) → (i < span.first) ⊎ (span.first + span.number ≤ i) → get_or table' i 0 ≡ get_or table i 0

-- all entries stay but the n from the first one on, which are 0 now
pub record Cleared (first n : ℕ) (table table' : List ℕ) : Type 0 where
  pub zeros : take n (drop first table') ≡ replicate n 0
  pub stays : Stays first n table table'

-- the first n places of the output may be written, and all others stay
pub record Written (n : ℕ) (output output' : List ℕ) : Type 0 where
  pub there : n ≤ length output
  pub length_stays : length output' ≡ length output
  pub rest : (i : ℕ) → n ≤ i → get_or output' i 0 ≡ get_or output i 0

-- what a planning call leaves in the memory lent, by its answer: the tables are used with a plan and with 12
pub record Left (I : Instance) (a : Planned) (span : Span) (output costs choices output' costs' choices' : List ℕ) : Type 0 where
  pub cleared : used a ≡ true → Cleared span.first (entries I) costs costs' × Cleared span.first (entries I) choices choices'
  pub untouched : used a ≡ false → (costs' ≡ costs) × (choices' ≡ choices)
  pub planned : (k n : ℕ) → a ≡ plan_of k n → Written I.r output output'
  pub refused : (f : Refusal) (n : ℕ) → a ≡ unplanned f n → output' ≡ output

-- what a keeping call leaves in the memory lent, by its answer: with a plan and with 12 the entries of the span are kept of the instance
pub record KeptLeft (I : Instance) (a : Planned) (span : Span) (output costs choices output' costs' choices' : List ℕ) : Type 0 where
  pub kept : used a ≡ true
      → Kept I (within span costs') (within span choices') × Stays span.first (entries I) costs costs' × Stays span.first (entries I) choices choices'
  pub untouched : used a ≡ false → (costs' ≡ costs) × (choices' ≡ choices)
  pub planned : (k n : ℕ) → a ≡ plan_of k n → Written I.r output output'
  pub refused : (f : Refusal) (n : ℕ) → a ≡ unplanned f n → output' ≡ output

-- what a call that writes a sheet leaves in its output, by its answer: these bytes at the front, and all else as it was
pub record SheetLeft (sheet : List ℕ) (a : tidy.Written) (output output' : List ℕ) : Type 0 where
  pub written : (n : ℕ) → a ≡ Ok n → (n ≡ length sheet) × (take n output' ≡ sheet) × Written n output output'
  pub refused : (f : Refusal) → a ≡ Err f → output' ≡ output

-- what a call that makes a bill leaves in the places lent for its lines, by its answer: with a bill place n has line n, and all places behind stay
pub record LinesLeft (I : Instance) (π : ℕ → ℕ) (t : Tariff) (a : Billed) (lines lines' : List ℕ) : Type 0 where
  pub billed : (net tax total : ℕ) → a ≡ bill_of net tax total →
      Written (line_count I) lines lines' × ((n : ℕ) → n < line_count I → get_or lines' n 0 ≡ line I π t n)
  pub refused : (f : Refusal) → a ≡ Err f → lines' ≡ lines
