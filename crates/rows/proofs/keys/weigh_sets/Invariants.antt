-- `weigh_sets` meets its contract.
use Rattle.rows.specs.Reads.{Weighted}
use Rattle.rows.proofs.keys.weigh_sets.Given as goal

abbrev pub invariant-loop-x : goal.invariant-loop-x
invariant-loop-x l = Weighted l.r l.x l.weights
