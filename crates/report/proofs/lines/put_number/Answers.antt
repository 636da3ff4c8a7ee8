-- `put_number` meets its contract: the digits are the fewest, and those are the number's decimal.
use Prim.Native.Nat.{ℕ}
use mathlib.Core.Path.{ap, ◌∙◌}
use mathlib.Core.List.{List, ◌++◌}
use lib.ListN.{take}
use Rattle.report.proofs.Numbers.{fewest_digits}
use Rattle.report.proofs.lines.put_number.Goals as goal

pub returns-clause-text : goal.returns-clause-text
returns-clause-text c =
    let a = c.args in
    let d = c.decimal-k.ensures in
    c.put.ensures.text ∙ ap (λ (l : List ℕ). take a.at a.text.now ++ l) (d.digits ∙ fewest_digits _ _ d.len)
