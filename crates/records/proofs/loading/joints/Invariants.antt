-- `joints` meets its contract: each cabinet is marked by its capacity.
use Rattle.records.specs.Inner.Loading.{Jointed}
use Rattle.records.proofs.loading.joints.Given as goal

abbrev pub invariant-loop-c : goal.invariant-loop-c
invariant-loop-c l = Jointed l.capacity l.c l.marks
