-- `flow_of` meets its contract: both sums grow stream by stream.
use Rattle.std.specs.Prelude.{◌≡◌, ◌*◌, ◌≤◌}
use Rattle.solver.specs.Sums.{flow_out}
use Rattle.solver.proofs.sums.flow_of.Given as goal

abbrev pub invariant-loop-j : goal.invariant-loop-j
invariant-loop-j l = (l.flow.demand ≤ l.j * 65536) × (l.flow.frames ≤ l.j * 65536) × (l.flow ≡ flow_out l.from l.to l.load l.j l.x)
