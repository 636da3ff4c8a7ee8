-- `join` meets its contract, from the last set down.
use Rattle.rows.proofs.Joining.{Partly}
use Rattle.rows.proofs.joins.join.Given as goal

abbrev pub invariant-loop-x : goal.invariant-loop-x
invariant-loop-x l = Partly l.initial.row l.child.row.now l.child.link.now l.initial.keys l.child.keys.now l.x l.row l.choice l.keys l.count
