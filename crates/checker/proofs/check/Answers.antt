-- `check` meets its contract: each test decides, or leaves what the next one needs.
use Prim.Native.Nat.{ℕ}
use mathlib.Core.Path.{◌≡◌, refl, sym, ◌∙◌}
use lib.ListN.{length}
use lib.Dec.{ltb}
use mathlib.Core.Bool.{Bool, true}
use mathlib.Core.List.{List}
use Rattle.finite.specs.Below.{all_below}
use Rattle.records.specs.declared.Records.{Records}
use Rattle.records.specs.Told.{told}
use Rattle.records.proofs.Taken.{refused, accepts, same, well}
use Rattle.embedding.specs.Plan.{place, in_range}
use Rattle.checker.proofs.Deciding as deciding
use Rattle.checker.proofs.check.Goals as goal

-- what the tests of the length and of the range have shown of a plan for the records k, t being the test that the code has
module _ (k : Records) (plan : List ℕ) {t : Bool} (length_is : length plan ≡ k.services) (test_is : t ≡ all_below (length plan) (λ i. ltb (place plan i) k.cabinets)) where
  places : length plan ≡ (told k).r
  unfolding told
  places = length_is

  range_is : t ≡ in_range (told k) (place plan)
  unfolding told
  range_is = test_is ∙ deciding.range_is (told k) plan k.cabinets length_is refl

  fits : t ≡ true → (length plan ≡ (told k).r) × (in_range (told k) (place plan) ≡ true)
  fits e = (places, sym range_is ∙ e)

pub returns-in_default : goal.returns-in_default
returns-in_default c = deciding.handed_on c.args.bytes.now c.args.plan.now _ (refused _ c.load-answer.ensures.answer _ c.unwrap_err.ensures)

pub returns-then-plan-records : goal.returns-then-plan-records
unfolding told
returns-then-plan-records c =
    let o = c.load-answer.ensures in
    deciding.wrong_length c.args.bytes.now c.args.plan.now _ (accepts _ o.answer c.in-Ok.is) _ (same _ o.answer c.in-Ok.is o.records) c.if-plan-records.true

pub returns-then-not-is_in_range : goal.returns-then-not-is_in_range
returns-then-not-is_in_range c =
    let plan = c.args.plan.now in
    let k = c.in-Ok.loaded.records in
    let o = c.load-answer.ensures in
    deciding.out_of_range c.args.bytes.now plan _ (accepts _ o.answer c.in-Ok.is) _ (same _ o.answer c.in-Ok.is o.records)
    (places k plan c.if-plan-records.false c.is_in_range.ensures)
    (sym (range_is k plan c.if-plan-records.false c.is_in_range.ensures) ∙ c.if-not-is_in_range.true)

pub invariant_of-placing : goal.invariant_of-placing
invariant_of-placing c =
    let o = c.load-answer.ensures in
    let p = fits c.in-Ok.loaded.records c.args.plan.now c.if-plan-records.false c.is_in_range.ensures c.if-not-is_in_range.false in
    record { well_formed = well _ o.answer c.in-Ok.is o.records; places = p.0; range = p.1 }

pub returns-then-not-are_bars_kept : goal.returns-then-not-are_bars_kept
returns-then-not-are_bars_kept c =
    let plan = c.args.plan.now in
    let o = c.load-answer.ensures in
    let s = same _ o.answer c.in-Ok.is o.records in
    let p = fits c.in-Ok.loaded.records plan c.if-plan-records.false c.is_in_range.ensures c.if-not-is_in_range.false in
    deciding.barred_place c.args.bytes.now plan _ (accepts _ o.answer c.in-Ok.is) _ s p.0 p.1 (sym c.are_bars_kept.ensures ∙ c.if-not-are_bars_kept.true)

pub returns-then-not-are_cabinets_kept : goal.returns-then-not-are_cabinets_kept
returns-then-not-are_cabinets_kept c =
    let plan = c.args.plan.now in
    let o = c.load-answer.ensures in
    let s = same _ o.answer c.in-Ok.is o.records in
    let p = fits c.in-Ok.loaded.records plan c.if-plan-records.false c.is_in_range.ensures c.if-not-is_in_range.false in
    deciding.cabinet_overfull c.args.bytes.now plan _ (accepts _ o.answer c.in-Ok.is) _ s p.0 p.1 (sym c.are_bars_kept.ensures ∙ c.if-not-are_bars_kept.false)
    (sym c.are_cabinets_kept.ensures ∙ c.if-not-are_cabinets_kept.true)

pub returns : goal.returns
returns c =
    let plan = c.args.plan.now in
    let o = c.load-answer.ensures in
    let s = same _ o.answer c.in-Ok.is o.records in
    let p = fits c.in-Ok.loaded.records plan c.if-plan-records.false c.is_in_range.ensures c.if-not-is_in_range.false in
    c.walk_links.ensures
    ∙ deciding.by_walk c.args.bytes.now plan _ (accepts _ o.answer c.in-Ok.is) _ s p.0 p.1 (sym c.are_bars_kept.ensures ∙ c.if-not-are_bars_kept.false)
    (sym c.are_cabinets_kept.ensures ∙ c.if-not-are_cabinets_kept.false)
