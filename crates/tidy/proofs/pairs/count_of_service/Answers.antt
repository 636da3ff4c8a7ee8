-- `count_of_service` meets its contract: a cabinet is counted where the service is barred from it.
use Prim.Native.Nat.{ℕ}
use native.Mathlib.Omega.{arith}
use mathlib.Core.Path.{ap, ◌∙◌}
use mathlib.Core.Bool.{Bool}
use Rattle.std.proofs.Common.{rules, tests}
use Rattle.std.proofs.lemmas.Iterator.{YieldsList-from_range}
use Rattle.std.proofs.lemmas.Iterator.Consumers.{count_from_yields_List, YieldsList-from_filter}
use Rattle.finite.specs.Below.{only}
use Rattle.finite.proofs.Sums.{sum_ext}
use Rattle.records.specs.Told.{told}
use Rattle.records.proofs.Bars.{set_barred}
use lib.Dec.{ltb}
use lib.ListN.{get_or}
use Rattle.subsets.specs.Sets.{has}
use Rattle.tidy.specs.Copy.{service_count}
use Rattle.tidy.proofs.Counts.{count_of_numbers}
use Rattle.tidy.proofs.pairs.count_of_service.Goals as goal

pub returns : goal.returns
unfolding told service_count
returns c =
    let k = c.args.records.now in
    let n = k.cabinets in
    let test = λ (d : ℕ). has (only (ltb d n) (get_or k.barred d 0)) c.args.i in
    count_from_yields_List c.filter.result _ c.count.ensures.ran
    (YieldsList-from_filter _ test (YieldsList-from_range 0 n n (cc) (omega arith)) c.filter.ensures.closure (λ x r q k. search (rules, tests)))
    ∙ count_of_numbers n test
    ∙ sum_ext n (λ d. only (test d) 1) _ (λ d l. ap (λ (t : Bool). only t 1) (set_barred k c.args.i d c.requires))
