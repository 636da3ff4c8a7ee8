-- What a caller knows once it has taken the answer of `load` apart.
use Prim.Native.Nat.{ℕ}
use mathlib.Core.Path.{◌≡◌, sym, ap, ◌∙◌, subst}
use mathlib.Core.List.{List}
use native.Mathlib.Omega.{arith}
use Rattle.std.proofs.Common.{rules}
use Rattle.std.specs.Prelude.{Result, Ok, Err, IfOk, IsOk}
use Rattle.sheet.specs.Instance.{instance, WellFormed}
use Rattle.sheet.specs.Reading.{reading}
use Rattle.sheet.specs.declared.Refusal.{Refusal}
use Rattle.sheet.specs.declared.Sheet.{Sheet}
use Rattle.sheet.proofs.Promises as promises
use Rattle.records.specs.declared.Loaded.{Loaded}
use Rattle.records.specs.Told.{told, answer_of}

module _ (bytes : List ℕ) {r : Result Loaded Refusal} (answer : answer_of r ≡ reading bytes) where
  -- a refusal is the reader's
  pub refused : (f : Refusal) → r ≡ Err f → reading bytes ≡ Err f
  refused f is = sym answer ∙ ap answer_of is

  module _ {x : Loaded} (is : r ≡ Ok x) where
    -- the reader accepts the bytes
    pub accepts : reading bytes ≡ Ok x.sheet
    accepts = sym answer ∙ ap answer_of is

    module _ (records : IfOk r (λ l. told l.records ≡ instance bytes)) where
      -- the records are those of the sheet
      pub same : told x.records ≡ instance bytes
      same = subst (λ (q : Result Loaded Refusal). IfOk q (λ l. told l.records ≡ instance bytes)) is records

      pub well : WellFormed (told x.records)
      well = subst WellFormed (sym same) (promises.well_formed bytes x.sheet accepts)

-- what the reader accepts is loaded
pub is_loaded : (r : Result Loaded Refusal) (h : Sheet) → answer_of r ≡ Ok h → IsOk r
is_loaded (Ok x) h e = search rules
is_loaded (Err f) h e = absurd (let z : ◌≡◌ {A = ℕ} 0 1 = cc in omega arith)
