-- `link_loads` meets its contract. The invariant: the flows are those of the streams passed, and small.
use mathlib.Core.Path.{◌≡◌}
use Rattle.records.specs.Told.{told}
use Rattle.embedding.specs.Plan.{place}
use Rattle.checker.specs.Inner.Flows.{Few}
use Rattle.checker.proofs.Flows.{flows_of}
use Rattle.checker.proofs.loads.link_loads.Given as goal

abbrev pub invariant-loop-j : goal.invariant-loop-j
invariant-loop-j l = (l.flows ≡ flows_of (told l.records) (place l.plan) l.c l.j) × Few l.j l.flows
