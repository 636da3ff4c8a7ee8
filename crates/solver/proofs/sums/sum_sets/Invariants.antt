-- `sum_sets` meets its contract.
use Rattle.solver.specs.Sums.{SumsOf}
use Rattle.solver.proofs.sums.sum_sets.Given as goal

abbrev pub invariant-loop-x : goal.invariant-loop-x
invariant-loop-x l = SumsOf l.records l.x l.of
