-- `running` meets its contract.
use Rattle.std.specs.Prelude.{get_or}
use Rattle.std.proofs.Common.{rules, tests}
use Rattle.finite.proofs.Ranges.{all_in_range}
use Rattle.solver.specs.Sound as sounds
use Rattle.solver.proofs.sound.running.Goals as goal

pub returns : goal.returns
unfolding sounds.running
returns c = all_in_range _ (λ j. sounds.between c.args.r (get_or c.args.from.now j 0) (get_or c.args.to.now j 0)) c.all.ensures.ran (λ x b q k. search (rules, tests))
