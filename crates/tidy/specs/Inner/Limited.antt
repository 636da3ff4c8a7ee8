-- Counts within the limits of a sheet: no offset of a copy is too large for a word.
use Rattle.std.specs.Prelude.{ℕ, ◌≤◌}
use Rattle.sheet.specs.Limits.{max_services, max_cabinets, max_streams}

pub record Limited (r s q : ℕ) : Type 0 where
  pub services : r ≤ max_services
  pub cabinets : s ≤ max_cabinets
  pub streams : q ≤ max_streams
