-- `weight_in` meets its contract.
use mathlib.Core.Path.{◌≡◌}
use Rattle.rows.proofs.Weighing.{weight_below}
use Rattle.rows.proofs.keys.weight_in.Given as goal

abbrev pub invariant-loop-i : goal.invariant-loop-i
invariant-loop-i l = l.sum ≡ weight_below l.r l.x l.i
