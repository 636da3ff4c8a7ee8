-- `placed_demand` meets its contract. The invariant: the sum is that of the services passed.
use mathlib.Core.Path.{◌≡◌}
use Rattle.finite.specs.Below.{sum_below}
use Rattle.records.specs.Told.{told}
use Rattle.embedding.specs.Plan.{place}
use Rattle.checker.proofs.Placing.{put_on}
use Rattle.checker.proofs.places.Placing.placed_demand.Given as goal

abbrev pub invariant-loop-i : goal.invariant-loop-i
invariant-loop-i l = l.sum ≡ sum_below l.i (put_on (told l.self.records.now) (place l.self.plan.now) l.c)
