-- `amounts` meets its contract.
use Rattle.std.specs.Prelude.{leb}
use Rattle.std.proofs.Common.{rules, tests, take}
use mathlib.Core.Path.{◌∙◌}
use Rattle.std.proofs.lemmas.Iterator.{YieldsList-from_slice}
use Rattle.std.proofs.lemmas.Iterator.Search.{all_from_yields_List}
use Rattle.solver.specs.Sound as sounds
use Rattle.solver.proofs.Testing.{all_of_first}
use Rattle.solver.proofs.sound.amounts.Goals as goal

pub returns : goal.returns
unfolding sounds.amounts
returns c =
    all_from_yields_List (λ a. leb a 10000) _ _ _ c.all.ensures.ran (YieldsList-from_slice (take c.args.n c.args.l.now) cc) (λ x b q k. search (rules, tests))
    ∙ all_of_first c.args.n c.args.l.now (λ a. leb a 10000) c.requires
