-- `Own::of` meets its contract.
use Rattle.rows.proofs.Rebuilding.{own_there}
use Rattle.rows.proofs.charges.Own.of.Goals as goal

pub returns : goal.returns
returns c = own_there _ _ c.requires.0
