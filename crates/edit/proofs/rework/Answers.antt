-- `rework` meets its contract: the records are a sheet's, and the memory is what they need, so the tables are made over.
use Rattle.std.proofs.Common.{◌≡◌, ℕ, ◌≤◌, List, [], ◌∷◌, length, take, sym, ap, ◌∙◌, subst, length-take-le}
use Rattle.sheet.specs.Instance.{WellFormed}
use Rattle.sheet.proofs.Promises.{well_formed}
use Rattle.records.specs.Told.{told}
use Rattle.records.specs.declared.Records.{Records}
use Rattle.checker.specs.Check.{checked}
use Rattle.edit.specs.Inner.Parts.{Loaded, handed, output_of}
use Rattle.std.proofs.lemmas.Result.{err_from_is_err_and}
use Rattle.edit.proofs.Reworking.{front_room, front_plan, reworked_found, reworked_refused}
use Rattle.edit.proofs.rework.Goals as goal

-- there are no more services than there are places
few : (bytes : List ℕ) (k : Records) → Loaded bytes k → k.services ≤ 10
unfolding told
few bytes k L = (subst WellFormed (sym L.tells) (well_formed bytes L.sheet L.reads)).services

plan_length : (bytes : List ℕ) (k : Records) → Loaded bytes k → length {A = ℕ} (take k.services (0 ∷ 0 ∷ 0 ∷ 0 ∷ 0 ∷ 0 ∷ 0 ∷ 0 ∷ 0 ∷ 0 ∷ [])) ≡ (told k).r
unfolding told
plan_length bytes k L = length-take-le _ _ (few bytes k L)

pub slice_bounds-plan-end : goal.slice_bounds-plan-end
slice_bounds-plan-end c = few _ _ c.requires.loaded

pub slice_bounds-update-end : goal.slice_bounds-update-end
slice_bounds-update-end c = sym (length-take-le _ _ (few _ _ c.requires.loaded))

-- the plan that the tables give has a place for each service
pub slice_bounds-plan-end-2 : goal.slice_bounds-plan-end-2
unfolding told
slice_bounds-plan-end-2 c =
    let U = c.update-kept in
    front_room c.args.records.now.services U.new.output _ (U.auto.output ∙ plan_length _ _ c.requires.loaded)

pub slice_bounds-hand_out-end : goal.slice_bounds-hand_out-end
unfolding told
slice_bounds-hand_out-end c =
    let U = c.update-kept in
    sym (length-take-le _ _ (front_room c.args.records.now.services U.new.output _ (U.auto.output ∙ plan_length _ _ c.requires.loaded)))

pub hand_out-requires : goal.hand_out-requires
unfolding told
hand_out-requires c =
    let U = c.update-kept in
    let e = U.auto.output ∙ plan_length _ _ c.requires.loaded in
    c.requires.parts.places ∙ sym (ap length (front_plan c.args.records.now.services U.new.output _ e) ∙ e)

pub returns-in_err-found : goal.returns-in_err-found
returns-in_err-found c =
    let a = c.args in
    let U = c.update-kept in
    let p = err_from_is_err_and c.from_residual.result c.from_residual.ensures.1 in
    rw (p.1, p.2)
    (reworked_refused a.sheet.now a.records.now c.requires.loaded a.cabinet a.output.now a.costs.now a.choices.now c.requires.parts _ U.new.output U.new.costs U.new.choices U.result (plan_length _ _ c.requires.loaded) U.auto.output U.auto.costs U.auto.choices U.ensures _
    (sym c.answer_of.ensures ∙ c.in_err-found.was))

pub returns : goal.returns
unfolding told
returns c =
    let a = c.args in
    let U = c.update-kept in
    let H = c.hand_out in
    let found = c.in_ok-found.found in
    let p = plan_length _ _ c.requires.loaded in
    let f = front_plan a.records.now.services U.new.output _ (U.auto.output ∙ p) in
    reworked_found a.sheet.now a.records.now c.requires.loaded a.cabinet a.output.now a.costs.now a.choices.now c.requires.parts _ U.new.output U.new.costs U.new.choices U.result p U.auto.output U.auto.costs U.auto.choices U.ensures found (sym c.answer_of.ensures ∙ c.in_ok-found.was) H.result H.new.output
    (H.ensures.answer ∙ ap (λ (plan : List ℕ). handed (checked a.sheet.now plan) found.cost found.count) f) (H.ensures.output ∙ ap (λ (plan : List ℕ). output_of H.result plan a.output.now) f)
