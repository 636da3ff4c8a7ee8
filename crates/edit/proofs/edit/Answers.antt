-- `edit` meets its contract: a refusal given beforehand is handed on, and the parts that are lent on come back in their places.
use Rattle.std.proofs.Common.{arith}
use Rattle.std.proofs.lemmas.Result.{err_from_is_err_and}
use Rattle.sheet.specs.Refusals.{refusal}
use Rattle.records.specs.Told.{told}
use Rattle.planner.proofs.Preparing.{cabinets_is, places_lent, costs_lent, choices_lent}
use Rattle.edit.proofs.Lifting.{refused_with, before_refused, no_cabinet, lifted_prepared}
use Rattle.edit.proofs.edit.Goals as goal

pub returns-in_err-prepared : goal.returns-in_err-prepared
returns-in_err-prepared c =
    let a = c.args in
    let p = err_from_is_err_and c.from_residual.result c.from_residual.ensures.1 in
    rw (p.1, p.2) (before_refused a.sheet.now a.cabinet a.output.now a.costs.now a.choices.now a.span _ c.in_err-prepared.ensures)

pub returns-then-records-cabinet : goal.returns-then-records-cabinet
unfolding refusal
returns-then-records-cabinet c =
    let a = c.args in
    let S = c.in_ok-prepared.ensures in
    rw c.from.ensures
    (refused_with a.sheet.now a.cabinet a.output.now a.costs.now a.choices.now a.span 13
    (no_cabinet a.sheet.now S.sheet S.reads a.cabinet _ _ _ a.span S.enough (omega (arith, c.if-records-cabinet.true, cabinets_is _ _ _ _ _ _ S))))

pub rework-requires : goal.rework-requires
unfolding told
rework-requires c =
    let S = c.in_ok-prepared.ensures in record {
      loaded = record { sheet = S.sheet; reads = S.reads; tells = S.tells };
      parts = record {
        cabinet = c.if-records-cabinet.false;
        places = places_lent _ _ _ _ _ _ S;
        costs = costs_lent _ _ _ _ _ _ S;
        choices = choices_lent _ _ _ _ _ _ S;
      };
    }

pub returns : goal.returns
returns c =
    let a = c.args in
    let R = c.rework in
    lifted_prepared a.sheet.now a.cabinet a.output.now a.costs.now a.choices.now a.span c.in_ok-prepared.prepared c.in_ok-prepared.ensures c.if-records-cabinet.false
    R.result R.new.output R.new.costs R.new.choices R.auto.output R.auto.costs R.auto.choices R.ensures
