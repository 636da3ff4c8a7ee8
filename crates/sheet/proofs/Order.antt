-- The order of giving: rules that stand in it give the first number in it that applies.
use Prim.Native.Nat.{ℕ, zero, suc, ◌+◌, ◌≤◌}
use native.Mathlib.Omega.{arith}
use mathlib.Core.Path.{◌≡◌, refl, sym, ap, ◌∙◌, subst}
use mathlib.Core.Bool.{Bool, true, false, ◌&&◌, ◌||◌, not, cond}
use mathlib.Core.List.{List, [], ◌∷◌, ◌++◌}
use lib.Dec.{eqb, leb}
use borrow.Author.Tests.{eqb-true, eq-eqb, leb-true}
use Rattle.finite.specs.Below.{only, all_below}
use Rattle.finite.proofs.Booleans.{clash, both_l, both_r, neither_l, neither_r}
use Rattle.sheet.specs.Layout.{header}
use Rattle.sheet.specs.Refusals.{sheet_writers, lenders, roads, plan_writers, one_of, refusal, number_of, giving, Rule, first_applying, some_applies, first_of, in_order}
use Rattle.sheet.specs.Reading.{rules, answered, reading, number}
use Rattle.sheet.specs.declared.Sheet.{Sheet}
use Rattle.sheet.specs.declared.Refusal.{Refusal}
use Rattle.std.specs.Prelude.{Ok, Err}
use Rattle.sheet.proofs.Groups.{number_refusal, listed}
use Rattle.sheet.proofs.Ladder.{pass}

-- ---- the groups and the order have every number

-- how many of the four groups a number is in
abbrev groups_of : ℕ → ℕ
groups_of n = only (one_of sheet_writers n) 1 + only (one_of lenders n) 1 + only (one_of roads n) 1 + only (one_of plan_writers n) 1

-- each of the numbers 1 to 28 has a place in the order of giving
pub all_numbers : all_below 28 (λ n. one_of giving (n + 1)) ≡ true
unfolding all_below
all_numbers = refl

-- and is in one of the four groups, but 17 in none
pub one_group : all_below 28 (λ n. eqb (groups_of (n + 1)) (only (not (eqb (n + 1) 17)) 1)) ≡ true
unfolding all_below only
one_group = refl

-- ---- the first in the order

-- no number is in the list twice
abbrev distinct : List ℕ → Bool
distinct [] = true
distinct (n ∷ ns) = not (one_of ns n) && distinct ns

-- what is left of the order after one of its numbers
next : (n : ℕ) (ns : List ℕ) (x : Rule) (xs : List Rule) → in_order (n ∷ ns) (x ∷ xs) ≡ true → (t : Bool) → eqb n x.number ≡ t
    → elim t [ true ↦ in_order ns xs | false ↦ in_order ns (x ∷ xs) ] ≡ true
unfolding in_order
next n ns x xs o t e = subst (λ (b : Bool). elim b [ true ↦ in_order ns xs | false ↦ in_order ns (x ∷ xs) ] ≡ true) e o

-- a number that the order has not is that of no rule
absent : (ns : List ℕ) (xs : List Rule) (n : ℕ) → in_order ns xs ≡ true → one_of ns n ≡ false → some_applies xs n ≡ false
unfolding in_order some_applies
absent [] [] n o m = refl
absent [] (x ∷ xs) n o m = clash (sym o)
absent (k ∷ ns) [] n o m = refl
absent (k ∷ ns) (x ∷ xs) n o m =
    let later = neither_r (eqb k n) (one_of ns n) m in
    go (eqb k x.number) refl (λ o'. absent ns xs n o' later) (λ o'. absent ns (x ∷ xs) n o' later)
  where
    go : (t : Bool) → eqb k x.number ≡ t
        → (in_order ns xs ≡ true → some_applies xs n ≡ false) → (in_order ns (x ∷ xs) ≡ true → some_applies (x ∷ xs) n ≡ false)
        → some_applies (x ∷ xs) n ≡ false
    go true e f g =
        let q : eqb x.number n ≡ false = ap (λ (z : ℕ). eqb z n) (sym (eqb-true k x.number e)) ∙ neither_l (eqb k n) (one_of ns n) m in
        rw q (f (next k ns x xs o true e))
    go false e f g = g (next k ns x xs o false e)

-- a rule that does not apply is passed
skip : (ns : List ℕ) (x : Rule) (xs : List Rule) → x.applies ≡ false → first_of ns (x ∷ xs) ≡ first_of ns xs
unfolding first_of some_applies
skip [] x xs e = refl
skip (n ∷ ns) x xs e = go (eqb x.number n) x.applies e (skip ns x xs e)
  where
    go : (t a : Bool) → a ≡ false → first_of ns (x ∷ xs) ≡ first_of ns xs
        → cond ((t && a) || some_applies xs n) n (first_of ns (x ∷ xs)) ≡ cond (some_applies xs n) n (first_of ns xs)
    go true false e q = ap (λ (z : ℕ). cond (some_applies xs n) n z) q
    go true true e q = clash e
    go false a e q = ap (λ (z : ℕ). cond (some_applies xs n) n z) q

nothing_applies : (ns : List ℕ) → first_of ns [] ≡ 0
unfolding first_of some_applies
nothing_applies [] = refl
nothing_applies (n ∷ ns) = nothing_applies ns

passed_by : (a s p : Bool) (n m : ℕ) → a ≡ false → s ≡ false → cond ((p && a) || s) n m ≡ m
passed_by true s p n m e f = clash e
passed_by false true p n m e f = clash f
passed_by false false true n m e f = refl
passed_by false false false n m e f = refl

failed : (t : Bool) → not t ≡ true → t ≡ false
failed true e = clash (sym e)
failed false e = refl

-- rules in the order of numbers, of which none is there twice, give the first number that applies
ordered_first : (ns : List ℕ) (xs : List Rule) → distinct ns ≡ true → in_order ns xs ≡ true → first_applying xs ≡ first_of ns xs
unfolding in_order first_applying first_of some_applies
ordered_first [] [] d o = refl
ordered_first [] (x ∷ xs) d o = clash (sym o)
ordered_first (n ∷ ns) [] d o = sym (nothing_applies ns)
ordered_first (n ∷ ns) (x ∷ xs) d o =
    let rest = both_r (not (one_of ns n)) (distinct ns) d in
    go (eqb n x.number) refl (ordered_first ns xs rest) (ordered_first ns (x ∷ xs) rest)
  where
    once : one_of ns n ≡ false
    once = failed (one_of ns n) (both_l (not (one_of ns n)) (distinct ns) d)

    at : in_order ns xs ≡ true → first_applying xs ≡ first_of ns xs → n ≡ x.number → (t : Bool) → x.applies ≡ t
        → first_applying (x ∷ xs) ≡ first_of (n ∷ ns) (x ∷ xs)
    at o' f e true a = rw (a, eq-eqb x.number n (sym e)) (sym e)
    at o' f e false a =
        pass x xs a ∙ f ∙ sym (skip ns x xs a) ∙ sym (passed_by x.applies (some_applies xs n) (eqb x.number n) n (first_of ns (x ∷ xs)) a (absent ns xs n o' once))

    go : (t : Bool) → eqb n x.number ≡ t
        → (in_order ns xs ≡ true → first_applying xs ≡ first_of ns xs)
        → (in_order ns (x ∷ xs) ≡ true → first_applying (x ∷ xs) ≡ first_of ns (x ∷ xs))
        → first_applying (x ∷ xs) ≡ first_of (n ∷ ns) (x ∷ xs)
    go true e f g =
        let o' = next n ns x xs o true e in
        at o' (f o') (eqb-true n x.number e) x.applies refl
    go false e f g =
        let o' = next n ns x xs o false e in
        rw (absent ns (x ∷ xs) n o' once) (g o')

-- rules in the order of giving give the first number in it that applies
pub given_first : (xs : List Rule) → in_order giving xs ≡ true → first_applying xs ≡ first_of giving xs
given_first xs o = ordered_first giving xs refl o

-- ---- one list of rules after another

-- where none of the first applies, the others decide
pub first_none : (xs ys : List Rule) → listed (leb 1) xs ≡ true → first_applying xs ≡ 0 → first_applying (xs ++ ys) ≡ first_applying ys
unfolding first_applying
first_none [] ys b e = refl
first_none (x ∷ xs) ys b e =
    go x.applies refl (leb-true 1 x.number (both_l (leb 1 x.number) (listed (leb 1) xs) b)) (first_none xs ys (both_r (leb 1 x.number) (listed (leb 1) xs) b))
  where
    go : (t : Bool) → x.applies ≡ t → 1 ≤ x.number → (first_applying xs ≡ 0 → first_applying (xs ++ ys) ≡ first_applying ys) → first_applying (x ∷ (xs ++ ys)) ≡ first_applying ys
    go true q l f = absurd (let k : x.number ≡ 0 = simp q at e in omega arith)
    go false q l f = rw q (f (simp q at e))

-- where one of the first applies, it decides
pub first_some : (xs ys : List Rule) (n : ℕ) → first_applying xs ≡ suc n → first_applying (xs ++ ys) ≡ suc n
unfolding first_applying
first_some [] ys n e = absurd (omega arith)
first_some (x ∷ xs) ys n e = go x.applies refl (first_some xs ys n)
  where
    go : (t : Bool) → x.applies ≡ t → (first_applying xs ≡ suc n → first_applying (xs ++ ys) ≡ suc n) → first_applying (x ∷ (xs ++ ys)) ≡ suc n
    go true q f = let k : x.number ≡ suc n = simp q at e in rw q k
    go false q f = rw q (f (simp q at e))

-- ---- the reader

-- the number of a reading is that of the first rule that applies
pub reading_first : (bytes : List ℕ) → number (reading bytes) ≡ first_applying (rules bytes)
unfolding reading answered
reading_first bytes = go (first_applying (rules bytes)) (header bytes)
  where
    go : (n : ℕ) (h : Sheet) → number (answered n h) ≡ n
    go zero h = refl
    go (suc n) h = number_refusal (suc n)

-- the reader's rules stand in the order of giving
pub reading_order : (bytes : List ℕ) → in_order giving (rules bytes) ≡ true
unfolding rules in_order
reading_order bytes = refl

-- ---- a call above the reader

-- A call with further rules gives the first rule that applies, the reader's first, if it hands the reader's refusal on
-- and on an accepted sheet gives the first of its own that applies.
pub after_reader :
    (bytes : List ℕ) (own : List Rule) (n : ℕ) →
    ((h : Sheet) → reading bytes ≡ Ok h → n ≡ first_applying own) →
    ((f : Refusal) → reading bytes ≡ Err f → n ≡ number_of f) →
    n ≡ first_applying (rules bytes ++ own)
unfolding reading rules answered
after_reader bytes own n accepted refused = go (first_applying (rules bytes)) refl
  where
    go : (m : ℕ) → first_applying (rules bytes) ≡ m → n ≡ first_applying (rules bytes ++ own)
    go zero e = accepted (header bytes) (ap (λ (k : ℕ). answered k (header bytes)) e) ∙ sym (first_none (rules bytes) own refl e)
    go (suc m) e =
        refused (refusal (suc m)) (ap (λ (k : ℕ). answered k (header bytes)) e) ∙ number_refusal (suc m) ∙ sym (first_some (rules bytes) own m e)
