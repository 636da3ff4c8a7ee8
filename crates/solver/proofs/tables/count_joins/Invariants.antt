-- `count_joins` meets its contract.
use Rattle.std.specs.Prelude.{◌≡◌, ◌*◌, ◌≤◌}
use Rattle.solver.proofs.Counting.{counted}
use Rattle.solver.proofs.tables.count_joins.Given as goal

abbrev pub invariant-loop-c : goal.invariant-loop-c
invariant-loop-c l = (l.count ≡ counted l.size l.choices l.c) × (l.count ≤ l.c * 65536)
