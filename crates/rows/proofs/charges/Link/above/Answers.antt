-- `Link::above` meets its contract.
use Rattle.rows.proofs.Rebuilding.{link_there}
use Rattle.rows.proofs.charges.Link.above.Goals as goal

pub returns : goal.returns
returns c = link_there _ _ c.requires.0
