-- Each number has one group: a refusal that is given is the one of its number. The reader's numbers are 1 to 9, 18 and 19.
use Prim.Native.Nat.{ℕ, zero, suc}
use mathlib.Core.Path.{◌≡◌, refl, sym, ap, ◌∙◌}
use mathlib.Core.Bool.{Bool, true, false, ◌&&◌, ◌||◌, cond}
use mathlib.Core.List.{List, [], ◌∷◌, ◌++◌}
use native.Mathlib.Omega.{arith}
use lib.Dec.{eqb}
use Rattle.finite.proofs.Booleans.{clash, both_l, both_r}
use Rattle.sheet.specs.Layout.{header}
use Rattle.sheet.specs.Refusals.{sheet_writers, lenders, roads, one_of, Rule, refusal, number_of, first_applying}
use Rattle.sheet.specs.Reading.{rules, reader_numbers, answered, reading}
use Rattle.sheet.specs.declared.Refusal.{Refusal}
use Rattle.sheet.specs.declared.Refusal.TheVariants.{SheetWriter, Lender, Road, PlanWriter}
use Rattle.sheet.specs.declared.Sheet.{Sheet}
use Rattle.std.specs.Prelude.{Err}

-- the refusal of a number carries that number
pub number_refusal : (n : ℕ) → number_of (refusal n) ≡ n
unfolding refusal
number_refusal n = go (one_of sheet_writers n) (one_of lenders n) (one_of roads n)
  where
    go : (p q r : Bool) → number_of (cond p (SheetWriter n) (cond q (Lender n) (cond r (Road n) (PlanWriter n)))) ≡ n
    go true q r = refl
    go false true r = refl
    go false false true = refl
    go false false false = refl

-- a refusal of the form `refusal n` is the one of the number that it carries
pub own_group : (f : Refusal) (n : ℕ) → f ≡ refusal n → f ≡ refusal (number_of f)
own_group f n e = e ∙ ap refusal (sym (ap number_of e ∙ number_refusal n))

given : (n : ℕ) (h : Sheet) (f : Refusal) → answered n h ≡ Err f → f ≡ refusal (number_of f)
unfolding answered
given zero h f e = absurd (let z : ◌≡◌ {A = ℕ} 0 1 = cc in omega arith)
given (suc n) h f e = own_group f (suc n) (cc)

-- every refusal of the reader stands in the group of its number
pub reading_group : (bytes : List ℕ) (f : Refusal) → reading bytes ≡ Err f → f ≡ refusal (number_of f)
unfolding reading
reading_group bytes f e = given (first_applying (rules bytes)) (header bytes) f e

-- ---- the numbers of a list of rules

-- a number of the first of two lists is in both together
pub one_of_left : (ms ns : List ℕ) (n : ℕ) → one_of ms n ≡ true → one_of (ms ++ ns) n ≡ true
one_of_left [] ns n e = clash (sym e)
one_of_left (m ∷ ms) ns n e = go (eqb m n) e (one_of_left ms ns n)
  where
    go : (t : Bool) → t || one_of ms n ≡ true → (one_of ms n ≡ true → one_of (ms ++ ns) n ≡ true) → t || one_of (ms ++ ns) n ≡ true
    go true e f = refl
    go false e f = f e

-- every rule has a number that passes a test
abbrev pub listed : (ℕ → Bool) → List Rule → Bool
listed t [] = true
listed t (x ∷ xs) = t x.number && listed t xs

-- so has the one that is given
pub first_listed : (t : ℕ → Bool) (xs : List Rule) → listed t xs ≡ true → (n : ℕ) → first_applying xs ≡ suc n → t (suc n) ≡ true
unfolding first_applying
first_listed t [] b n e = absurd (omega arith)
first_listed t (x ∷ xs) b n e =
    go x.applies refl (first_listed t xs (both_r (t x.number) (listed t xs) b) n)
  where
    go : (a : Bool) → x.applies ≡ a → (first_applying xs ≡ suc n → t (suc n) ≡ true) → t (suc n) ≡ true
    go true q ih =
        let k : x.number ≡ suc n = simp q at e in
        ap t (sym k) ∙ both_l (t x.number) (listed t xs) b
    go false q ih = ih (simp q at e)

-- the reader's numbers are 1 to 9, 18 and 19
pub reading_number : (bytes : List ℕ) (f : Refusal) → reading bytes ≡ Err f → one_of reader_numbers (number_of f) ≡ true
unfolding reading rules answered
reading_number bytes f e = go (first_applying (rules bytes)) refl e
  where
    go : (m : ℕ) → first_applying (rules bytes) ≡ m → answered m (header bytes) ≡ Err f → one_of reader_numbers (number_of f) ≡ true
    go zero q e = absurd (let z : ◌≡◌ {A = ℕ} 0 1 = cc in omega arith)
    go (suc n) q e =
        let k : number_of f ≡ suc n = ap number_of (let z : f ≡ refusal (suc n) = cc in z) ∙ number_refusal (suc n) in
        ap (one_of reader_numbers) k ∙ first_listed (one_of reader_numbers) (rules bytes) refl n q
