-- What is outside a span stays: the work behind the demands.
use Rattle.edit.specs.Calls.{Call}
use Rattle.edit.specs.Lists.{Kind, Does}
use Rattle.edit.proofs.Lists.{does_lengths, does_outside}
use Rattle.theorems.specs.Promised.{OutsideStays}

pub outside : (k : Kind) (d : Call) → Does k d → OutsideStays d.span d.costs d.costs' × OutsideStays d.span d.choices d.choices'
outside k d D = (
  record { length_stays = (does_lengths k d D).0; others = λ i h. (does_outside k d D i h).0 },
  record { length_stays = (does_lengths k d D).1; others = λ i h. (does_outside k d D i h).1 },
)
