-- `children_of` meets its contract.
use Rattle.rows.proofs.Linking.{Begun}
use Rattle.rows.proofs.children.children_of.Given as goal

abbrev pub invariant-loop-c : goal.invariant-loop-c
invariant-loop-c l = Begun l.n l.parent l.lists l.c
