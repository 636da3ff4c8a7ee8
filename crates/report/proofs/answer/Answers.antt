-- `answer` meets its contract: the span is both tables as a whole, and the output that was written gives the text.
use mathlib.Core.Path.{◌≡◌, subst}
use Rattle.sheet.specs.Limits.{max_services}
use Rattle.lending.specs.declared.Span.{Span}
use Rattle.planner.specs.Answers.{planned}
use Rattle.report.specs.Text.{table_entries}
use Rattle.report.proofs.Answering.{answered}
use Rattle.report.proofs.answer.Goals as goal

pub returns-clause-text : goal.returns-clause-text
returns-clause-text c =
    let p = c.plan-planned in
    let s = c.services_of-r in
    let sheet = c.args.sheet.now in
    let e = subst (λ (span : Span). p.result ≡ planned sheet max_services table_entries table_entries span) c.whole-span.ensures p.ensures.answer in
    answered sheet p.new.output _ p.result s.result e p.ensures.output s.ensures.1 c.put_answer.ensures.text
