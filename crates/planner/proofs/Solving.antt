-- The root's row decides.
use Rattle.std.proofs.Common.{◌≡◌}
use Rattle.subsets.specs.Inner.Masks.{full}
use Rattle.subsets.specs.Inner.Rows.{row_at}
use Rattle.subsets.proofs.Sets.{full_lt}
use Rattle.subsets.proofs.Rows.{row_root}
use Rattle.sheet.specs.Instance.{Instance, WellFormed}
use Rattle.embedding.specs.Plan.{cheapest}
use Rattle.embedding.specs.Inner.Charge.{net}
use Rattle.embedding.proofs.Theorems.{cheapest_least}

-- the root's row at the full set
pub root_cheapest : (I : Instance) → WellFormed I → row_at (net I) 0 I.s (full I.r) ≡ cheapest I
root_cheapest I W = cheapest_least I W _ (row_root (net I) W.parents (full I.r) W.some_cabinet (full_lt I.r))
