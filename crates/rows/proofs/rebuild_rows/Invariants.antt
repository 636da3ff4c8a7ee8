-- `rebuild_rows` meets its contract.
use Prim.Native.Nat.{◌/◌}
use mathlib.Core.Path.{◌≡◌}
use lib.ListN.{length}
use Rattle.rows.proofs.Slots.{key_places}
use Rattle.rows.proofs.Climbing.{Going}
use Rattle.rows.proofs.rebuild_rows.Given as goal

abbrev pub invariant-loop-q : goal.invariant-loop-q
invariant-loop-q l =
    (length l.room.keys ≡ key_places)
    × Going l.records l.size l.sums (key_places / l.size) l.first l.whole l.near l.q l.initial.costs l.costs l.initial.choices l.choices l.room.keys l.count

abbrev pub decreases-loop-q : goal.decreases-loop-q
decreases-loop-q l = l.q
