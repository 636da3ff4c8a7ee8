-- `is_in_range` meets its contract: it asks of each place of the plan, in their order, whether it is in range.
use mathlib.Core.Path.{◌∙◌}
use lib.Dec.{ltb}
use Rattle.std.proofs.Common.{rules, tests}
use Rattle.std.proofs.lemmas.Iterator.{YieldsList-from_slice}
use Rattle.std.proofs.lemmas.Iterator.Search.{all_from_yields_List}
use Rattle.checker.proofs.Placing.{all_of_places}
use Rattle.checker.proofs.places.is_in_range.Goals as goal

pub returns : goal.returns
returns c =
    let a = c.args in
    all_from_yields_List (λ k. ltb k a.cabinets) _ _ _ c.all.ensures.ran (YieldsList-from_slice a.plan.now cc) (λ x b q k. search (rules, tests))
    ∙ all_of_places (λ k. ltb k a.cabinets) a.plan.now
