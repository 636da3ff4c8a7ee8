-- `put_service` meets its contract: the word of its line is the service's number.
use Prim.Native.Nat.{ℕ}
use mathlib.Core.Path.{ap, ◌∙◌}
use mathlib.Core.List.{List, ◌++◌}
use lib.ListN.{take}
use Rattle.report.specs.Text.{line}
use Rattle.report.proofs.Numbers.{fewest_digits}
use Rattle.report.proofs.lines.put_service.Goals as goal

pub returns-clause-text : goal.returns-clause-text
returns-clause-text c =
    let a = c.args in
    let d = c.decimal-k.ensures in
    c.put_line.ensures.text ∙ ap (λ (l : List ℕ). take a.at a.text.now ++ line l a.c) (d.digits ∙ fewest_digits _ _ d.len)
