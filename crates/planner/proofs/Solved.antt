-- When the planner comes to plan: the reader accepts the sheet, and the memory is enough.
use Rattle.std.proofs.Common.{◌≡◌, ℕ, zero, suc, true, List, sym, refl, ap, ◌∙◌, eqb-true}
use Rattle.finite.proofs.Booleans.{clash}
use Rattle.sheet.specs.Instance.{instance}
use Rattle.sheet.specs.Refusals.{Rule, one_of, first_applying, refusal, number_of}
use Rattle.sheet.specs.Reading.{reader_numbers, reading}
use Rattle.sheet.specs.declared.Sheet.{Sheet}
use Rattle.sheet.specs.Reading.{Reading}
use Rattle.std.specs.Prelude.{Ok, Err}
use Rattle.sheet.proofs.Groups.{number_refusal, reading_number}
use Rattle.embedding.specs.Plan.{cheapest}
use Rattle.embedding.specs.Splits.{weighed}
use Rattle.lending.specs.Spans.{runs_past}
use Rattle.lending.specs.Rules.{lender_rules}
use Rattle.lending.specs.declared.Span.{Span}
use Rattle.lending.proofs.Rules.{lender_numbers, lender_listed, lender_past}
use Rattle.planner.specs.Answers.{entries, Enough, solved, lent, answered, planned}
use Rattle.planner.specs.Lent.{used}

-- the reader accepts, and the memory is enough
pub record Solved (bytes : List ℕ) (output costs choices : ℕ) (span : Span) : Type 0 where
  pub sheet : Sheet
  pub reads : reading bytes ≡ Ok sheet
  pub enough : Enough (instance bytes) output costs choices span

module _ (bytes : List ℕ) (output costs choices : ℕ) (span : Span) where
  -- then the cheapest cost decides
  pub accepted_solved : Solved bytes output costs choices span → planned bytes output costs choices span ≡ solved (cheapest (instance bytes)) (weighed (instance bytes))
  unfolding planned
  accepted_solved S =
      ap (λ (r : Reading). answered r (instance bytes) output costs choices span) S.reads ∙ ap (λ (m : ℕ). lent m (instance bytes)) S.enough

  -- a plan and 12 come of nothing else
  pub used_solved : used (planned bytes output costs choices span) ≡ true → Solved bytes output costs choices span
  unfolding planned
  used_solved u = go (reading bytes) refl u
    where
      lender : (h : Sheet) → reading bytes ≡ Ok h → (m : ℕ) → first_applying (lender_rules (instance bytes).r (entries (instance bytes)) output costs choices span) ≡ m
          → used (lent m (instance bytes)) ≡ true → Solved bytes output costs choices span
      lender h e zero q u = record { sheet = h; reads = e; enough = q }
      lender h e (suc n) q u =
          clash (sym (lender_listed (instance bytes).r (entries (instance bytes)) output costs choices span n q)
          ∙ ap (one_of lender_numbers) (sym (number_refusal (suc n)) ∙ eqb-true (number_of (refusal (suc n))) 12 u))

      go : (r : Reading) → reading bytes ≡ r → used (answered r (instance bytes) output costs choices span) ≡ true → Solved bytes output costs choices span
      go (Ok h) e u = lender h e (first_applying (lender_rules (instance bytes).r (entries (instance bytes)) output costs choices span)) refl u
      go (Err f) e u = clash (sym (reading_number bytes f e) ∙ ap (one_of reader_numbers) (eqb-true (number_of f) 12 u))

-- of the lengths of both tables the answer counts only whether the span runs past them
pub planned_past : (bytes : List ℕ) (output : ℕ) (span : Span) (costs choices costs₂ choices₂ : ℕ)
    → runs_past span costs ≡ runs_past span costs₂ → runs_past span choices ≡ runs_past span choices₂
    → planned bytes output costs choices span ≡ planned bytes output costs₂ choices₂ span
unfolding planned
planned_past bytes output span costs choices costs₂ choices₂ c u = go (reading bytes)
  where
    go : (r : Reading) → answered r (instance bytes) output costs choices span ≡ answered r (instance bytes) output costs₂ choices₂ span
    go (Ok h) =
        ap (λ (rules : List Rule). lent (first_applying rules) (instance bytes))
        (lender_past (instance bytes).r (entries (instance bytes)) output span costs choices costs₂ choices₂ c u)
    go (Err f) = refl
