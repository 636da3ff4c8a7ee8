-- `Placings::key` meets its contract, step by step; what is read for itself is a smaller set, which is a measure.
use Prim.Native.Nat.{ℕ}
use Rattle.subsets.specs.Inner.Net.{Net}
use Rattle.rows.specs.Reads.{Reads, Started}
use Rattle.rows.proofs.Reading.{Going, to_walk}
use Rattle.rows.proofs.keys.Placings.+key.Given as goal

abbrev pub decreases-key : goal.decreases-key
decreases-key l = l.x

abbrev pub invariant-loop-next : goal.invariant-loop-next
invariant-loop-next l =
    (N : Net) (k : ℕ) → Reads N l.self → Started N l.self.size k l.p l.c l.x → Going N l.self.choices.now l.self.size k l.p l.x l.sum.high l.sum.low l.here l.next l.set

abbrev pub decreases-loop-next : goal.decreases-loop-next
decreases-loop-next l = to_walk l.here l.next
