-- What a keeping call leaves in both tables: every entry is a function of the instance alone. Nothing that is promised of plans depends on which.
use Rattle.std.specs.Prelude.{◌≡◌, ℕ, ◌/◌, ◌%◌, ◌^◌, List, take}
use Rattle.sheet.specs.Instance.{Instance}
use Rattle.embedding.specs.First.{places}
use Rattle.planner.specs.Answers.{entries}
use Rattle.planner.specs.Inner.Tables.{cost_entry, choice_entry}

-- a row of 2^r entries for each cabinet, in cabinet order: f p x for cabinet p and the set x
abbrev pub table_of : Instance → (ℕ → ℕ → ℕ) → List ℕ
table_of I f = places (entries I) (λ i. f (i / 2 ^ I.r) (i % 2 ^ I.r))

-- the first s × 2^r entries of the span in the cost table: the least charge of each set on each cabinet and all under it
unfoldable pub kept_costs : Instance → List ℕ
kept_costs I = table_of I (cost_entry I)

-- those of the span in the choice table: the services that stay with the parent, and for the empty set the count of the splits
unfoldable pub kept_choices : Instance → List ℕ
kept_choices I = table_of I (choice_entry I)

-- these entries of a span, of the cost table and of the choice table, are kept of the instance
pub record Kept (I : Instance) (costs choices : List ℕ) : Type 0 where
  pub of_costs : take (entries I) costs ≡ kept_costs I
  pub of_choices : take (entries I) choices ≡ kept_choices I
