-- Which refusal the planner gives: the first of its rules that applies, in the order of giving.
use Rattle.std.proofs.Common.{◌≡◌, ℕ, zero, suc, true, cond, not, leb, List, ◌++◌, sym, refl, ap, ◌∙◌}
use Rattle.subsets.specs.Costs.{Cost, none, some, is_some}
use Rattle.sheet.specs.Instance.{Instance, instance}
use Rattle.sheet.specs.Refusals.{Rule, first_applying, giving, in_order}
use Rattle.sheet.specs.Reading as reader
use Rattle.sheet.specs.Reading.{Reading}
use Rattle.sheet.proofs.Groups.{number_refusal, listed}
use Rattle.sheet.proofs.Order.{first_none, first_some, after_reader}
use Rattle.embedding.specs.Plan.{cheapest}
use Rattle.embedding.specs.Splits.{weighed}
use Rattle.lending.specs.Rules.{lender_rules}
use Rattle.lending.specs.declared.Span.{Span}
use Rattle.planner.specs.Answers.{number, entries, road_rules, all_rules, solved, lent, answered, planned}

solved_number : (f : Cost) (n : ℕ) → number (solved f n) ≡ cond (not (is_some f)) 12 0
solved_number none n = number_refusal 12
solved_number (some k) n = refl

-- on an accepted sheet: the lender's rules, then the road's
lent_first : (I : Instance) (rules : List Rule) → listed (leb 1) rules ≡ true → number (lent (first_applying rules) I) ≡ first_applying (rules ++ road_rules I)
unfolding first_applying
lent_first I rules l = go (first_applying rules) refl
  where
    road : number (solved (cheapest I) (weighed I)) ≡ first_applying (road_rules I)
    road = solved_number (cheapest I) (weighed I)

    go : (m : ℕ) → first_applying rules ≡ m → number (lent m I) ≡ first_applying (rules ++ road_rules I)
    go zero e = road ∙ sym (first_none rules (road_rules I) l e)
    go (suc n) e = number_refusal (suc n) ∙ sym (first_some rules (road_rules I) n e)

module _ (bytes : List ℕ) (output costs choices : ℕ) (span : Span) where
  -- the lender's rules for the sheet
  abbrev lenders : List Rule
  lenders = lender_rules (instance bytes).r (entries (instance bytes)) output costs choices span

  -- the number of an answer is that of the first rule that applies
  pub plan_first : number (planned bytes output costs choices span) ≡ first_applying (all_rules bytes output costs choices span)
  unfolding planned
  plan_first =
      after_reader bytes (lenders ++ road_rules (instance bytes)) (number (planned bytes output costs choices span))
      (λ h e. ap (λ (r : Reading). number (answered r (instance bytes) output costs choices span)) e ∙ lent_first (instance bytes) lenders refl)
      (λ f e. ap (λ (r : Reading). number (answered r (instance bytes) output costs choices span)) e)

  -- the planner's rules stand in the order of giving
  pub plan_order : in_order giving (all_rules bytes output costs choices span) ≡ true
  unfolding reader.rules in_order
  plan_order = refl
