-- `rebuild` meets its contract.
use Rattle.rows.specs.Rebuilds.{source}
use Rattle.rows.proofs.Rebuilding.{JoinedBelow}
use Rattle.rows.proofs.rebuild.Given as goal

abbrev pub invariant-loop-d : goal.invariant-loop-d
invariant-loop-d l =
    JoinedBelow (source l.from.records.now l.from.size l.p l.from.sums.now l.initial.costs l.initial.choices) l.from.size l.p l.q l.d l.from.records.now.cabinets l.initial.costs l.costs l.initial.choices l.choices l.initial.room.keys l.room.keys l.count
