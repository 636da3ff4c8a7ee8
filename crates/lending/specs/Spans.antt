-- 02 (h): the span of both tables that a call may use.
use Rattle.std.specs.Prelude.{ℕ, ◌+◌, ◌≤◌, ◌<◌, Bool, cond, List, ◌++◌, ltb, take, drop}
use Rattle.lending.specs.declared.Span.{Span}

-- the span of this first entry and this number of entries
abbrev pub span_of : ℕ → ℕ → Span
span_of first number = record { first = first; number = number }

-- all of the shorter of two tables of so many entries
abbrev pub whole : ℕ → ℕ → Span
whole costs choices = span_of 0 (cond (ltb choices costs) choices costs)

-- first entry plus number of entries is above the length of a table
abbrev pub runs_past : Span → ℕ → Bool
runs_past s table = ltb table (s.first + s.number)

-- the entries of a table in the span
abbrev pub within : Span → List ℕ → List ℕ
within s table = take s.number (drop s.first table)

-- the table with these entries in place of those in the span: all before the span and all behind it stay
abbrev pub replaced : Span → List ℕ → List ℕ → List ℕ
replaced s part table = take s.first table ++ (part ++ drop s.number (drop s.first table))

-- entry i stands in the span
abbrev pub Inside : Span → ℕ → Type 0
Inside s i = (s.first ≤ i) × (i < s.first + s.number)

-- two spans do not overlap: no entry stands in both
abbrev pub Apart : Span → Span → Type 0
Apart a b = (i : ℕ) → Inside a i → Inside b i → ⊥
