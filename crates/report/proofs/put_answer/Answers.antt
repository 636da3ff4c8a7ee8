-- `put_answer` meets its contract, for a plan and for a refusal.
use Prim.Native.Nat.{ℕ}
use mathlib.Core.Path.{sym, ap, ◌∙◌}
use Rattle.planner.specs.Answers.{Planned}
use Rattle.report.specs.Text.{refused_word, line, answer_text}
use Rattle.report.proofs.Answering.{plan_put}
use Rattle.report.proofs.put_answer.Goals as goal

pub returns-in-Ok-clause-text : goal.returns-in-Ok-clause-text
returns-in-Ok-clause-text c =
    let plan = c.args.plan.now in
    plan_put _ _ _ plan _ _ c.put_line-weighed.ensures.text c.put_line-services.ensures.text c.put_services.ensures.text ∙ sym (ap (λ (x : Planned). answer_text x plan) c.in-Ok.is)

pub returns-in-Err-clause-text : goal.returns-in-Err-clause-text
unfolding answer_text
returns-in-Err-clause-text c =
    let plan = c.args.plan.now in
    c.put_line.ensures.text ∙ ap (λ (n : ℕ). line refused_word n) (c.from.ensures ∙ c.number.ensures) ∙ sym (ap (λ (x : Planned). answer_text x plan) c.in-Err.is)
