-- `put_all` meets its contract. The invariants: the pairs passed stand there, and the next place is behind them.
use Rattle.records.specs.Told.{told}
use Rattle.tidy.proofs.Putting.{Through, Within}
use Rattle.tidy.proofs.pairs.put_all.Given as goal

abbrev pub invariant-loop-i : goal.invariant-loop-i
invariant-loop-i l = Through (told l.records) l.initial.out l.at l.i l.next l.out

abbrev pub invariant-loop-c : goal.invariant-loop-c
invariant-loop-c l = Within (told l.records) l.initial.out l.initial.next l.i l.c l.next l.out
