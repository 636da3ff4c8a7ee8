-- `are_rooms_kept` meets its contract: it asks of each cabinet whether its capacity is enough for the demand put on it.
use mathlib.Core.Path.{sym, ◌∙◌}
use Rattle.std.proofs.Common.{rules, tests}
use Rattle.finite.proofs.Ranges.{all_in_range}
use Rattle.records.specs.Told.{told}
use Rattle.embedding.specs.Plan.{place}
use Rattle.embedding.proofs.Reckoning.{rooms_by_demand}
use Rattle.checker.proofs.Placing.{kept}
use Rattle.checker.proofs.places.Placing.are_rooms_kept.Goals as goal

pub returns : goal.returns
unfolding told
returns c =
    let a = c.args in
    all_in_range _ (kept (told a.self.now.records.now) (place a.self.now.plan.now)) c.all.ensures.ran (λ x b q k. search (rules, tests))
    ∙ sym (rooms_by_demand (told a.self.now.records.now) (place a.self.now.plan.now))
