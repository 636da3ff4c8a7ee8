-- The counts of an instance's copy.
use Rattle.std.specs.Prelude.{ℕ, ◌≡◌}
use Rattle.sheet.specs.Instance.{Instance}
use Rattle.tidy.specs.Copy.{pair_count}

pub record Counted (I : Instance) (r s q n : ℕ) : Type 0 where
  pub services : r ≡ I.r
  pub cabinets : s ≡ I.s
  pub streams : q ≡ I.q
  pub pairs : n ≡ pair_count I
