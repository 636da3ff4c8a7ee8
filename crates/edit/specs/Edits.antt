-- What an edit answers and leaves, for any tables; and for tables kept of an instance that differs in the one cabinet alone.
use Rattle.std.specs.Prelude.{◌≡◌, ℕ, ◌+◌, ◌*◌, ◌^◌, ◌<◌, ◌≤◌, false, ◌⊎◌, List, [], ◌∷◌, ◌++◌, length, take, drop, ◌≢◌, nat_le, slice_index, Ok, Err}
use Rattle.subsets.specs.Tree.{under}
use Rattle.sheet.specs.Instance.{Instance, instance}
use Rattle.sheet.specs.Reading as reader
use Rattle.sheet.specs.Refusals.{Rule, first_applying, refusal}
use Rattle.checker.specs.Check.{checked}
use Rattle.lending.specs.Spans.{within}
use Rattle.lending.specs.Rules.{lender_rules}
use Rattle.lending.specs.declared.Span.{Span}
use Rattle.planner.specs.Answers.{Planned, unplanned, entries, plan_numbers}
use Rattle.planner.specs.Kept.{Kept}
use Rattle.edit.specs.Calls.{Call, asked, Untouched, Keeps}
use Rattle.edit.specs.Changed.{Changed}

-- the refusals that an edit gives before it touches a table, in the order in which they are tried
abbrev pub rules_before : List ℕ → ℕ → ℕ → ℕ → ℕ → Span → List Rule
rules_before bytes e output costs choices span =
    reader.rules bytes
    ++ (lender_rules (instance bytes).r (entries (instance bytes)) output costs choices span
    ++ (record { number = 14; applies = nat_le (instance bytes).s e } ∷ []))

-- the numbers of all refusals that an edit can give: the planner's, and two of its own
abbrev pub edit_numbers : List ℕ
edit_numbers = plan_numbers ++ (14 ∷ 23 ∷ [])

module _ (d : Call) where
  -- the number of the first of those refusals that applies, 0 where none does
  abbrev pub number_before : ℕ
  number_before = first_applying (rules_before d.sheet d.cabinet (length d.output) (length d.costs) (length d.choices) d.span)

  -- cabinet c is off the path from the edited one to the root
  abbrev pub off_path : ℕ → Type 0
  off_path c = under (asked d).parent c d.cabinet ≡ false

  -- the place of entry x of row c in a table: the rows stand in the span from its first entry on
  abbrev pub entry_place : ℕ → ℕ → ℕ
  entry_place c x = d.span.first + (c * 2 ^ (asked d).r + x)

-- what comes of any tables: the check accepts the plan in the first r places of the output at the cost answered, and all other places stay; or it is
-- 12, or 23 without a count, and all of the output stays. Which of these it is, and the count, are free.
abbrev pub Outcome : Call → Planned → Type 0
Outcome d (Ok p) =
    (checked d.sheet (take (asked d).r d.output') ≡ Ok p.cost) × (d.output' ≡ take (asked d).r d.output' ++ drop (asked d).r d.output)
Outcome d (Err u) = ((u.refusal ≡ refusal 12) ⊎ ((u.refusal ≡ refusal 23) × (u.count ≡ 0))) × (d.output' ≡ d.output)

-- an entry is the same before and after
abbrev pub stays : List ℕ → List ℕ → ℕ → Type 0
stays table table' i = slice_index table' i ≡ slice_index table i

-- the rows that stay, whatever the tables hold: the cost rows off the path, the choice rows of the root and of the cabinets whose parents are off the
-- path, and all that is before the rows or behind them. The other rows are free.
pub record RowsStay (d : Call) : Type 0 where
  pub costs_length : length d.costs' ≡ length d.costs
  pub choices_length : length d.choices' ≡ length d.choices
  pub costs : (c x : ℕ) → c < (asked d).s → off_path d c → x < 2 ^ (asked d).r → stays d.costs d.costs' (entry_place d c x)
  pub choices : (c x : ℕ) → c < (asked d).s → (0 < c → off_path d ((asked d).parent c)) → x < 2 ^ (asked d).r
      → stays d.choices d.choices' (entry_place d c x)
  pub others : (i : ℕ) → (i < d.span.first) ⊎ (d.span.first + entries (asked d) ≤ i)
      → stays d.costs d.costs' i × stays d.choices d.choices' i

-- what an edit answers and leaves
pub record Edits (d : Call) : Type 0 where
  -- a refusal given before a table is touched has no count, and leaves all memory
  pub refused : (n : ℕ) → (n ≢ 0) → number_before d ≡ n → (d.answer ≡ unplanned (refusal n) 0) × Untouched d
  -- else, for any tables
  pub outcome : number_before d ≡ 0 → Outcome d d.answer
  pub rows : number_before d ≡ 0 → RowsStay d
  -- and where the span's entries are kept of an instance that differs in that cabinet's record alone, its parent excepted: what a keeping call does
  pub in_rule : number_before d ≡ 0 → (I : Instance) → Kept I (within d.span d.costs) (within d.span d.choices) → Changed d.cabinet I (asked d)
      → Keeps d
