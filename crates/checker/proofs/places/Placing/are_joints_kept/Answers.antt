-- `are_joints_kept` meets its contract: it asks of each service whether its cabinet is a joint.
use mathlib.Core.Bool.{not}
use Rattle.std.proofs.Common.{rules, tests}
use Rattle.finite.proofs.Ranges.{all_in_range}
use Rattle.records.specs.Told.{told}
use Rattle.embedding.specs.Plan.{place, joints_keep}
use Rattle.checker.proofs.places.Placing.are_joints_kept.Goals as goal

pub returns : goal.returns
unfolding told joints_keep
returns c =
    let a = c.args in
    all_in_range _ (λ i. not ((told a.self.now.records.now).joint (place a.self.now.plan.now i))) c.all.ensures.ran (λ x b q k. search (rules, tests))
