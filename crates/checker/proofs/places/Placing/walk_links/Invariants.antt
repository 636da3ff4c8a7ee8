-- `walk_links` meets its contract. The invariants are Passed, between two links, and Counting, between two streams of a link.
use Rattle.records.specs.Told.{told}
use Rattle.embedding.specs.Plan.{place}
use Rattle.checker.proofs.Walking.{Passed, Counting}
use Rattle.checker.proofs.places.Placing.walk_links.Given as goal

abbrev pub invariant-loop-c : goal.invariant-loop-c
invariant-loop-c l = Passed (told l.self.records.now) (place l.self.plan.now) l.c l.cost

abbrev pub invariant-loop-j : goal.invariant-loop-j
invariant-loop-j l = Counting (told l.self.records.now) (place l.self.plan.now) l.c l.flows l.j
