-- `prepare` meets its contract: a refusal of the reader is handed on, and what is measured is what the sheet's instance needs.
use Rattle.std.specs.Prelude.{Ok}
use Rattle.std.proofs.Common.{◌≡◌, ℕ, ◌+◌, ◌*◌, ◌≤◌, ◌^◌, List, sym, refl, ap, ◌∙◌, subst, ap₂, mul-le-mul, arith}
use Rattle.std.proofs.lemmas.Result.{err_from_is_err_and}
use Rattle.sheet.specs.Instance.{Instance, WellFormed, instance}
use Rattle.sheet.specs.Refusals.{first_applying}
use Rattle.sheet.specs.Reading.{reading}
use Rattle.sheet.specs.declared.Sheet.{Sheet}
use Rattle.sheet.specs.Reading.{Reading}
use Rattle.sheet.proofs.Promises.{well_formed}
use Rattle.records.specs.Told.{told}
use Rattle.records.specs.declared.Records.{Records}
use Rattle.records.proofs.Taken.{refused, accepts, same}
use Rattle.lending.specs.Rules.{lender_rules, room}
use Rattle.lending.specs.declared.Span.{Span}
use Rattle.lending.proofs.Rules.{enough_iff, room_enough}
use Rattle.planner.specs.Answers.{entries, Enough}
use Rattle.planner.specs.Inner.Prepared.{measured}
use Rattle.planner.proofs.Lending.{sets_le}
use Rattle.planner.proofs.prepare.Goals as goal

-- a reader's refusal, and what is measured for an accepted sheet
read_as : (bytes : List ℕ) (output costs choices : ℕ) (span : Span) (r : Reading) → reading bytes ≡ r
    → measured (reading bytes) (instance bytes) output costs choices span ≡ measured r (instance bytes) output costs choices span
read_as bytes output costs choices span r e = ap (λ (x : Reading). measured x (instance bytes) output costs choices span) e

module _ (bytes : List ℕ) (k : Records) {h : Sheet} (reads : reading bytes ≡ Ok h) (tells : told k ≡ instance bytes) where
  whole : WellFormed (told k)
  whole = subst WellFormed (sym tells) (well_formed bytes h reads)

  few : k.services ≤ 10
  unfolding told
  few = whole.services

  sets_low : 2 ^ k.services ≤ 2 ^ 10
  unfolding told
  sets_low = sets_le (told k) whole

  -- as many entries as the code reckons, m being the number of sets
  module _ (m : ℕ) (sets : m ≡ 2 ^ k.services) where
    entries_is : k.cabinets * m ≡ entries (instance bytes)
    unfolding told
    entries_is = ap (λ (n : ℕ). k.cabinets * n) sets ∙ ap entries tells

    entries_low : k.cabinets * m ≤ 200 * 2 ^ 10
    unfolding told
    entries_low =
        let z : k.cabinets * 2 ^ k.services ≤ 200 * 2 ^ 10 = mul-le-mul whole.cabinets sets_low in
        omega (arith, ap (λ (n : ℕ). k.cabinets * n) sets, z)

  services_is : k.services ≡ (instance bytes).r
  unfolding told
  services_is = ap (λ (I : Instance). I.r) tells

  -- what `measure` answers, for the sheet's instance
  measured_is : (m : ℕ) → m ≡ 2 ^ k.services → (output costs choices : ℕ) (span : Span)
      → room (first_applying (lender_rules k.services (k.cabinets * m) output costs choices span))
      ≡ room (first_applying (lender_rules (instance bytes).r (entries (instance bytes)) output costs choices span))
  measured_is m sets output costs choices span =
      ap₂ (λ (r j : ℕ). room (first_applying (lender_rules r j output costs choices span))) services_is (entries_is m sets)

  -- where it answers that the memory is enough, it is
  enough_is : (m : ℕ) → m ≡ 2 ^ k.services → (output costs choices : ℕ) (span : Span)
      → Ok tt ≡ room (first_applying (lender_rules k.services (k.cabinets * m) output costs choices span))
      → Enough (instance bytes) output costs choices span
  enough_is m sets output costs choices span e = room_enough _ (e ∙ measured_is m sets output costs choices span)

pub returns-in_default : goal.returns-in_default
returns-in_default c =
    let a = c.args in
    read_as a.sheet.now a.output a.costs a.choices a.span _ (refused _ c.load-answer.ensures.answer _ c.unwrap_err.ensures)

pub overflow_mul-entries : goal.overflow_mul-entries
overflow_mul-entries c =
    let e = accepts _ c.load-answer.ensures.answer c.in-Ok.is in
    let t = same _ c.load-answer.ensures.answer c.in-Ok.is c.load-answer.ensures.records in
    omega (arith, entries_low _ _ e t _ (c.sets_of.ensures.power (omega (arith, few _ _ e t))))

pub returns-in_err-measure : goal.returns-in_err-measure
returns-in_err-measure c =
    let a = c.args in
    let e = accepts _ c.load-answer.ensures.answer c.in-Ok.is in
    let t = same _ c.load-answer.ensures.answer c.in-Ok.is c.load-answer.ensures.records in
    let p = err_from_is_err_and c.from_residual.result c.from_residual.ensures.1 in
    rw (p.1, p.2)
    (read_as a.sheet.now a.output a.costs a.choices a.span _ e
    ∙ sym (measured_is _ _ e t _ (c.sets_of.ensures.power (omega (arith, few _ _ e t))) a.output a.costs a.choices a.span) ∙ sym c.measure.ensures ∙ c.in_err-measure.was)

pub overflow_add-result : goal.overflow_add-result
overflow_add-result c =
    let a = c.args in
    let e = accepts _ c.load-answer.ensures.answer c.in-Ok.is in
    let t = same _ c.load-answer.ensures.answer c.in-Ok.is c.load-answer.ensures.records in
    let E = (enough_iff _ _ a.output a.costs a.choices a.span).0 (enough_is _ _ e t _ (c.sets_of.ensures.power (omega (arith, few _ _ e t))) a.output a.costs a.choices a.span (sym c.in_ok-measure.was ∙ c.measure.ensures)) in
    omega (arith, entries_is _ _ e t _ (c.sets_of.ensures.power (omega (arith, few _ _ e t))), E.1, E.3)

pub returns : goal.returns
returns c =
    let a = c.args in
    let e = accepts _ c.load-answer.ensures.answer c.in-Ok.is in
    let t = same _ c.load-answer.ensures.answer c.in-Ok.is c.load-answer.ensures.records in
    let enough = enough_is _ _ e t _ (c.sets_of.ensures.power (omega (arith, few _ _ e t))) a.output a.costs a.choices a.span (sym c.in_ok-measure.was ∙ c.measure.ensures) in
    let E = (enough_iff _ _ a.output a.costs a.choices a.span).0 enough in
    record {
      sheet = _;
      reads = e;
      tells = t;
      enough = enough;
      first = refl;
      end = ap (λ (n : ℕ). a.span.first + n) (entries_is _ _ e t _ (c.sets_of.ensures.power (omega (arith, few _ _ e t))));
      places = omega (arith, services_is _ _ e t, E.0);
      order = omega arith;
      costs_end = omega (arith, entries_is _ _ e t _ (c.sets_of.ensures.power (omega (arith, few _ _ e t))), E.1, E.3);
      choices_end = omega (arith, entries_is _ _ e t _ (c.sets_of.ensures.power (omega (arith, few _ _ e t))), E.2, E.3);
    }
