-- `plan` meets its contract: the parts that are lent on come back in their places, and the core's answer is the instance's.
use Rattle.std.proofs.Common.{replicate}
use Rattle.std.proofs.lemmas.Result.{err_from_is_err_and}
use Rattle.sheet.specs.Instance.{instance}
use Rattle.planner.specs.Answers.{entries}
use Rattle.planner.proofs.Kept.{solves_instance}
use Rattle.planner.proofs.Preparing.{called_refused, whole, places_lent, costs_lent, choices_lent, called}
use Rattle.planner.proofs.plan.Goals as goal

pub returns-in_err-prepared : goal.returns-in_err-prepared
returns-in_err-prepared c =
    let a = c.args in
    let p = err_from_is_err_and c.from_residual.result c.from_residual.ensures.1 in
    let C = called_refused a.sheet.now a.output.now a.costs.now a.choices.now a.span (replicate (entries (instance a.sheet.now)) 0) (replicate (entries (instance a.sheet.now)) 0) _ c.in_err-prepared.ensures in
    rw (p.1, p.2) record { answer = C.answer; output = C.output_after; costs = C.costs_after; choices = C.choices_after }

pub returns : goal.returns
returns c =
    let a = c.args in
    let k = c.solve in
    let S = c.in_ok-prepared.ensures in
    let L = solves_instance c.in_ok-prepared.prepared.records _ _ _ _ _ _ k.result (whole _ _ _ _ _ _ S) (places_lent _ _ _ _ _ _ S) (costs_lent _ _ _ _ _ _ S) (choices_lent _ _ _ _ _ _ S) k.auto.output k.ensures in
    let C = called a.sheet.now a.output.now a.costs.now a.choices.now a.span c.in_ok-prepared.prepared S (λ I. replicate (entries I) 0) (λ I. replicate (entries I) 0) k.result _ _ _ L in
    rw c.answer_of.ensures record { answer = C.answer; output = C.output_after; costs = C.costs_after; choices = C.choices_after }
