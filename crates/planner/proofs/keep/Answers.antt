-- `keep` meets its contract: the parts that are lent on come back in their places, and the core's answer is the instance's.
use Rattle.std.proofs.lemmas.Result.{err_from_is_err_and}
use Rattle.sheet.specs.Instance.{instance}
use Rattle.planner.specs.Kept.{kept_costs, kept_choices}
use Rattle.planner.proofs.Kept.{keeps_instance}
use Rattle.planner.proofs.Preparing.{called_refused, whole, places_lent, costs_lent, choices_lent, called}
use Rattle.planner.proofs.keep.Goals as goal

pub returns-in_err-prepared : goal.returns-in_err-prepared
returns-in_err-prepared c =
    let a = c.args in
    let p = err_from_is_err_and c.from_residual.result c.from_residual.ensures.1 in
    let C = called_refused a.sheet.now a.output.now a.costs.now a.choices.now a.span (kept_costs (instance a.sheet.now)) (kept_choices (instance a.sheet.now)) _ c.in_err-prepared.ensures in
    rw (p.1, p.2) record { answer = C.answer; output = C.output_after; costs = C.costs_after; choices = C.choices_after }

pub returns : goal.returns
returns c =
    let a = c.args in
    let k = c.keep in
    let S = c.in_ok-prepared.ensures in
    let L = keeps_instance c.in_ok-prepared.prepared.records _ _ _ _ _ _ k.result (whole _ _ _ _ _ _ S) (places_lent _ _ _ _ _ _ S) (costs_lent _ _ _ _ _ _ S) (choices_lent _ _ _ _ _ _ S) k.auto.output k.auto.costs k.auto.choices k.ensures in
    let C = called a.sheet.now a.output.now a.costs.now a.choices.now a.span c.in_ok-prepared.prepared S kept_costs kept_choices k.result _ _ _ L in
    rw c.answer_of.ensures record { answer = C.answer; output = C.output_after; costs = C.costs_after; choices = C.choices_after }
