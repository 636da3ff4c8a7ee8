-- `put_services` meets its contract: what was put and the lines that are left are the whole.
use Prim.Native.Nat.{ℕ}
use native.Mathlib.Omega.{arith}
use mathlib.Core.Path.{ap, ◌∙◌}
use mathlib.Core.List.{◌++◌}
use borrow.Author.Rules.{rules}
use lib.ListN.{take}
use Rattle.report.specs.Text.{decimal, line}
use Rattle.report.proofs.Pieces.{one_service, no_service}
use Rattle.report.proofs.lines.put_services.Goals as goal

pub loop-i-preserved : goal.loop-i-preserved
loop-i-preserved c =
    let l = c.loop-i in
    let so_far = take l.end l.text in (
      search rules,
      one_service so_far _ c.args.plan.now _ l.i (omega arith)
          (c.put_service-end.ensures.text ∙ ap (λ (n : ℕ). so_far ++ line (decimal l.i) n) c.from.ensures) l.invariant.1,
    )

pub returns-clause-text : goal.returns-clause-text
returns-clause-text c =
    let l = c.loop-i in
    no_service (take l.end l.text) c.args.plan.now _ l.i (omega arith) l.invariant.1
