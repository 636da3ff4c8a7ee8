-- `cabinets_cost` meets its contract. The invariant: the cost is that of the services passed.
use mathlib.Core.Path.{◌≡◌}
use Rattle.records.specs.Told.{told}
use Rattle.embedding.specs.Plan.{place}
use Rattle.checker.proofs.Placing.{charged}
use Rattle.checker.proofs.places.Placing.cabinets_cost.Given as goal

abbrev pub invariant-loop-i : goal.invariant-loop-i
invariant-loop-i l = l.cost ≡ charged (told l.self.records.now) (place l.self.plan.now) l.i
