-- The refusals that an edit gives beforehand: where none applies, and the order in which they are given.
use Rattle.std.proofs.Common.{◌≡◌, ℕ, zero, suc, ◌<◌, Bool, true, false, cond, leb, List, [], ◌∷◌, ◌++◌, sym, refl, ap, ◌∙◌, arith, leb-false}
use Rattle.sheet.specs.Instance.{instance}
use Rattle.sheet.specs.Refusals.{Rule, one_of, first_applying, giving, in_order}
use Rattle.sheet.specs.Layout.{header}
use Rattle.sheet.specs.Reading as reader
use Rattle.sheet.specs.Reading.{reading, answered}
use Rattle.sheet.specs.declared.Sheet.{Sheet}
use Rattle.std.specs.Prelude.{Ok}
use Rattle.sheet.proofs.Groups.{listed, first_listed}
use Rattle.sheet.proofs.Order.{first_none, first_some}
use Rattle.lending.specs.Rules.{lender_rules}
use Rattle.lending.specs.declared.Span.{Span}
use Rattle.planner.specs.Answers.{entries, Enough}
use Rattle.edit.specs.Edits.{rules_before, edit_numbers}

-- the numbers of the refusals that are given beforehand
abbrev pub before_numbers : List ℕ
before_numbers = reader.reader_numbers ++ (10 ∷ 24 ∷ 11 ∷ 14 ∷ [])

-- where none of two lists' rules applies, none of the first does, and none of the second
pub none_of_both : (xs ys : List Rule) → listed (leb 1) xs ≡ true → first_applying (xs ++ ys) ≡ 0 → (first_applying xs ≡ 0) × (first_applying ys ≡ 0)
none_of_both xs ys l e = go (first_applying xs) refl
  where
    go : (n : ℕ) → first_applying xs ≡ n → (first_applying xs ≡ 0) × (first_applying ys ≡ 0)
    go zero q = (q, sym (first_none xs ys l q) ∙ e)
    go (suc n) q = absurd (omega (arith, first_some xs ys n q, e))

module _ (bytes : List ℕ) (e output costs choices : ℕ) (span : Span) where
  -- what is known where none applies
  pub record Passed : Type 0 where
    pub sheet : Sheet
    pub reads : reading bytes ≡ Ok sheet
    pub enough : Enough (instance bytes) output costs choices span
    pub within : e < (instance bytes).s

  -- the number is below s
  own_fails : (t : Bool) → ◌≡◌ {A = ℕ} (cond t 14 0) 0 → t ≡ false
  own_fails true q = absurd (omega (arith, q))
  own_fails false q = refl

  -- The sheet is accepted, the memory is enough, and the number is a cabinet's.
  pub passed : first_applying (rules_before bytes e output costs choices span) ≡ 0 → Passed
  unfolding reader.rules reading answered first_applying
  passed z =
      let lenders : List Rule = lender_rules (instance bytes).r (entries (instance bytes)) output costs choices span in
      let own : List Rule = record { number = 14; applies = leb (instance bytes).s e } ∷ [] in
      let a = none_of_both (reader.rules bytes) (lenders ++ own) refl z in
      let b = none_of_both (lenders) own refl a.1 in
      record {
        sheet = header bytes;
        reads = ap (λ (n : ℕ). answered n (header bytes)) a.0;
        enough = b.0;
        within = leb-false _ _ (own_fails (leb (instance bytes).s e) b.1);
      }

  -- the number given is one of these
  pub before_listed : (n : ℕ) → first_applying (rules_before bytes e output costs choices span) ≡ suc n → one_of before_numbers (suc n) ≡ true
  unfolding reader.rules
  before_listed n q = first_listed (one_of before_numbers) (rules_before bytes e output costs choices span) refl n q

  -- and so one of an edit's
  pub before_edits : (n : ℕ) → first_applying (rules_before bytes e output costs choices span) ≡ suc n → one_of edit_numbers (suc n) ≡ true
  unfolding reader.rules
  before_edits n q = first_listed (one_of edit_numbers) (rules_before bytes e output costs choices span) refl n q

  -- the rules stand in the order of giving
  pub before_order : in_order giving (rules_before bytes e output costs choices span) ≡ true
  unfolding reader.rules in_order
  before_order = refl
