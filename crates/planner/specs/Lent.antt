-- What the planner leaves in the memory lent to it, by its answer.
use Rattle.std.specs.Prelude.{◌≡◌, ℕ, Bool, true, cond, List, ◌++◌, drop, replicate, ◌==◌, Ok, Err}
use Rattle.sheet.specs.Instance.{Instance}
use Rattle.embedding.specs.First.{first_plan, places}
use Rattle.lending.specs.Spans.{within, replaced}
use Rattle.lending.specs.declared.Span.{Span}
use Rattle.planner.specs.Answers.{Planned, number, entries}

-- the tables were used: the answer is a plan or 12
abbrev pub used : Planned → Bool
used (Ok p) = true
used (Err u) = number (Err u) == 12

-- the entries of the span after a call: where they were used these are the first s × 2^r of them, and all others stay
abbrev pub part_after : Instance → Planned → List ℕ → List ℕ → List ℕ
part_after I answer front part = cond (used answer) (front ++ drop (entries I) part) part

-- a table after a call: what is in the span is as the answer says, and all that is outside it stays, whatever the answer is
abbrev pub front_after : Instance → Planned → Span → List ℕ → List ℕ → List ℕ
front_after I answer span front table = replaced span (part_after I answer front (within span table)) table

-- a table after a planning call: the first s × 2^r entries of the span are 0 where they were used
abbrev pub table_after : Instance → Planned → Span → List ℕ → List ℕ
table_after I answer span table = front_after I answer span (replicate (entries I) 0) table

-- the output after the call: with a plan its first r places are the first of the cheapest plans, and all other places stay; with a refusal all places
-- stay
abbrev pub OutputAfter : Instance → Planned → List ℕ → List ℕ → Type 0
OutputAfter I (Ok p) output output' = output' ≡ places I.r (first_plan I) ++ drop I.r output
OutputAfter I (Err u) output output' = output' ≡ output
