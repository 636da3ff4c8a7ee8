-- `services_of` meets its contract: an accepted sheet has at most 10 services, and a refused one gives 0.
use native.Mathlib.Omega.{arith}
use mathlib.Core.Path.{sym, ap, ◌∙◌}
use Rattle.sheet.specs.Reading.{services}
use Rattle.sheet.proofs.Promises.{well_formed, counts}
use Rattle.report.proofs.services_of.Goals as goal

pub returns-in-Ok : goal.returns-in-Ok
returns-in-Ok c =
    let e = sym c.read.ensures ∙ c.in-Ok.is in (
      omega (arith, c.services.ensures, (counts _ _ e).0, (well_formed _ _ e).services),
      c.services.ensures ∙ sym (ap services e),
    )
