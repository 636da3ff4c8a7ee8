-- `mark_under` meets its contract. The invariant is Marking: the cabinets passed have their marks, the others none.
use Rattle.records.specs.Told.{told}
use Rattle.checker.proofs.Marks.{Marking}
use Rattle.checker.proofs.loads.mark_under.Given as goal

abbrev pub invariant-loop-d : goal.invariant-loop-d
invariant-loop-d l = Marking (told l.records) l.c l.marks l.d
