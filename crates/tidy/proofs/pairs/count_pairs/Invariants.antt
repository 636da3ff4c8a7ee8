-- `count_pairs` meets its contract. The invariant: the count is that of the services passed.
use mathlib.Core.Path.{◌≡◌}
use Rattle.finite.specs.Below.{sum_below}
use Rattle.records.specs.Told.{told}
use Rattle.tidy.specs.Copy.{service_count}
use Rattle.tidy.proofs.pairs.count_pairs.Given as goal

abbrev pub invariant-loop-i : goal.invariant-loop-i
invariant-loop-i l = l.count ≡ sum_below l.i (service_count (told l.records))
