-- What the code relies on of marks.
use Rattle.std.specs.Prelude.{ℕ, ◌≡◌, Bool, false, List, length, get_or}
use Rattle.sheet.specs.Limits.{max_cabinets}
use Rattle.sheet.specs.Instance.{Instance}
use Rattle.checker.specs.Loads.{is_under}

-- the marks of the cabinets that are under c; past the marks there are none
pub record Marked (I : Instance) (c : ℕ) (marks : List Bool) : Type 0 where
  pub size : length marks ≡ max_cabinets
  pub mark : (d : ℕ) → get_or marks d false ≡ is_under I c d
