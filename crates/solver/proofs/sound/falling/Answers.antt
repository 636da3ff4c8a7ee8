-- `falling` meets its contract.
use Rattle.std.specs.Prelude.{◌-◌, ltb, get_or}
use Rattle.std.proofs.Common.{rules, tests}
use mathlib.Core.Path.{refl, ◌∙◌}
use Rattle.std.proofs.lemmas.Iterator.{YieldsList-from_range}
use Rattle.std.proofs.lemmas.Iterator.Search.{all_from_yields_List}
use Rattle.rows.specs.Cabinets as cabinets
use Rattle.solver.proofs.Testing.{all_from_one}
use Rattle.solver.proofs.sound.falling.Goals as goal

pub returns : goal.returns
unfolding cabinets.falling
returns c =
    all_from_yields_List (λ d. ltb (get_or c.args.parent.now d 0) d) _ _ _ c.all.ensures.ran (YieldsList-from_range 1 c.args.n (c.args.n - 1) refl refl) (λ x b q k. search (rules, tests))
    ∙ all_from_one c.args.n (λ d. ltb (get_or c.args.parent.now d 0) d)
