-- The first of the cheapest plans is accepted by the check, at the cheapest cost.
use Rattle.std.proofs.Common.{◌≡◌, ℕ, List, length, get_or, ap, ◌∙◌}
use Rattle.subsets.specs.Costs.{some}
use Rattle.subsets.proofs.Provided.{provided_some}
use Rattle.sheet.specs.Instance.{instance}
use Rattle.sheet.specs.Reading.{reading}
use Rattle.sheet.specs.declared.Sheet.{Sheet}
use Rattle.std.specs.Prelude.{Ok}
use Rattle.sheet.proofs.Promises.{well_formed}
use Rattle.embedding.specs.Plan as plans
use Rattle.embedding.specs.Plan.{place, valid, plan_cost, cheapest}
use Rattle.embedding.specs.First.{first_plan, places}
use Rattle.embedding.proofs.First.{places_length, places_at, first_valid}
use Rattle.embedding.proofs.Services.{worth_ext}
use Rattle.checker.specs.Check.{checked}
use Rattle.checker.proofs.Answers.{accepted_iff}

pub first_accepted : (bytes : List ℕ) (h : Sheet) → reading bytes ≡ Ok h → (k : ℕ) → cheapest (instance bytes) ≡ some k
    → (plan : List ℕ) → plan ≡ places (instance bytes).r (first_plan (instance bytes)) → checked bytes plan ≡ Ok k
unfolding plans.worth
first_accepted bytes h reads k e plan is =
    let I = instance bytes in
    let W = well_formed bytes h reads in
    let same = worth_ext I W (place plan) (first_plan I) (λ i l. ap (λ (list : List ℕ). get_or list i 0) is ∙ places_at I.r (first_plan I) i l) in
    let p = (provided_some (valid I (place plan)) (plan_cost I (place plan)) k).0 (same ∙ (provided_some (valid I (first_plan I)) (plan_cost I (first_plan I)) k).1 (first_valid I W k e)) in
    (accepted_iff bytes h reads plan k).1 (ap length is ∙ places_length I.r (first_plan I), p.0, p.1)
