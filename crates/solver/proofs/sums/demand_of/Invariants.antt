-- `demand_of` meets its contract.
use Rattle.std.specs.Prelude.{◌≡◌, ◌*◌, ◌≤◌}
use Rattle.solver.specs.Sums.{demand_in}
use Rattle.solver.proofs.sums.demand_of.Given as goal

abbrev pub invariant-loop-i : goal.invariant-loop-i
invariant-loop-i l = (l.sum ≤ l.i * 65536) × (l.sum ≡ demand_in l.demand l.i l.x)
