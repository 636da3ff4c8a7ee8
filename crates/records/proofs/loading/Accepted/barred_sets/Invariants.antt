-- `barred_sets` meets its contract: each pair adds its service to the set of its cabinet.
use Rattle.records.specs.Inner.Loading.{Barring}
use Rattle.records.proofs.loading.Accepted.barred_sets.Given as goal

abbrev pub invariant-loop-n : goal.invariant-loop-n
invariant-loop-n l = Barring l.self.sheet l.self.bytes.now l.n l.sets
