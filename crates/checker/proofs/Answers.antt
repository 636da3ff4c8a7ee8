-- Laws of the check's answers.
use Prim.Native.Nat.{ℕ, zero, suc, ◌^◌, ◌<◌}
use mathlib.Core.Logic.{◌↔◌}
use mathlib.Core.Path.{◌≡◌, refl, sym, ap, ◌∙◌}
use mathlib.Core.Bool.{Bool, true, false, ◌&&◌, not, cond}
use mathlib.Core.List.{List, [], ◌∷◌}
use native.Mathlib.Omega.{arith}
use lib.Dec.{eqb}
use lib.ListN.{length}
use borrow.Author.Tests.{eqb-true, eq-eqb}
use Rattle.std.specs.Prelude.{Ok, Err}
use Rattle.finite.proofs.Booleans.{clash, both_l}
use Rattle.sheet.specs.Refusals.{one_of, first_applying, refusal, number_of, group_of, giving, in_order}
use Rattle.sheet.specs.Reading as reader
use Rattle.sheet.specs.Reading.{reading}
use Rattle.sheet.specs.Instance.{Instance, instance}
use Rattle.sheet.specs.declared.Sheet.{Sheet}
use Rattle.sheet.specs.declared.Refusal.{Refusal}
use Rattle.sheet.specs.Reading.{Reading}
use Rattle.sheet.proofs.Promises.{well_formed}
use Rattle.sheet.proofs.Groups.{number_refusal, own_group, reading_group, one_of_left, first_listed, reading_number}
use Rattle.sheet.proofs.Order.{after_reader}
use Rattle.embedding.specs.Plan.{place, in_range, bars_keep, cabinets_keep, links_keep, valid, plan_cost}
use Rattle.embedding.proofs.Theorems.{cost_bound}
use Rattle.checker.specs.Check.{Checked, rules, all_rules, check_numbers, answered, plan_checked, checked_after, checked}
use Rattle.checker.specs.Answers.{number, group, cost}
use Rattle.checker.proofs.Deciding.{handed_on, on_plan, cabinet_overfull}

-- ---- numbers and groups

plan_group : (n k : ℕ) (f : Refusal) → answered n k ≡ Err f → f ≡ refusal (number_of f)
unfolding answered
plan_group zero k f e = absurd (let z : ◌≡◌ {A = ℕ} 0 1 = cc in omega arith)
plan_group (suc n) k f e = own_group f (suc n) (let q : f ≡ refusal (suc n) = cc in q)

-- every refusal of the check is the one of its number, so each number is in its group
pub right_group : (bytes plan : List ℕ) (f : Refusal) → checked bytes plan ≡ Err f → f ≡ refusal (number_of f)
unfolding checked checked_after plan_checked
right_group bytes plan f e = go (reading bytes) refl e
  where
    go : (r : Reading) → reading bytes ≡ r → checked_after r (instance bytes) plan ≡ Err f → f ≡ refusal (number_of f)
    go (Ok h) q e = plan_group _ _ f e
    go (Err g) q e = handed g (reading_group bytes g q) (let z : g ≡ f = cc in z)
      where
        handed : (g : Refusal) → g ≡ refusal (number_of g) → g ≡ f → f ≡ refusal (number_of f)
        handed g p q = rw (sym q) p

-- the numbers of a plan's refusals are 13, 14, 20, 15 and 16
plan_number : (I : Instance) (plan : List ℕ) (f : Refusal) → plan_checked I plan ≡ Err f → one_of check_numbers (number_of f) ≡ true
unfolding plan_checked rules answered
plan_number I plan f e = go (first_applying (rules I plan)) refl e
  where
    go : (m : ℕ) → first_applying (rules I plan) ≡ m → answered m (plan_cost I (place plan)) ≡ Err f → one_of check_numbers (number_of f) ≡ true
    go zero q e = absurd (let z : ◌≡◌ {A = ℕ} 0 1 = cc in omega arith)
    go (suc n) q e =
        let k : number_of f ≡ suc n = ap number_of (let z : f ≡ refusal (suc n) = cc in z) ∙ number_refusal (suc n) in
        ap (one_of check_numbers) k ∙ first_listed (one_of check_numbers) (rules I plan) refl n q

-- the check's numbers are the reader's and those of a plan
pub check_number : (bytes plan : List ℕ) (f : Refusal) → checked bytes plan ≡ Err f → one_of check_numbers (number_of f) ≡ true
unfolding checked checked_after
check_number bytes plan f e = go (reading bytes) refl e
  where
    go : (r : Reading) → reading bytes ≡ r → checked_after r (instance bytes) plan ≡ Err f → one_of check_numbers (number_of f) ≡ true
    go (Ok h) q e = plan_number (instance bytes) plan f e
    go (Err g) q e = one_of_left reader.reader_numbers (13 ∷ 14 ∷ 20 ∷ 15 ∷ 16 ∷ []) (number_of f) (reading_number bytes f (q ∙ ap Err (let z : g ≡ f = cc in z)))

-- ---- the order of giving

own_number : (n cost : ℕ) → number (answered n cost) ≡ n
unfolding answered
own_number zero cost = refl
own_number (suc n) cost = number_refusal (suc n)

-- the number of an answer is that of the first rule that applies
pub check_first : (bytes plan : List ℕ) → number (checked bytes plan) ≡ first_applying (all_rules bytes plan)
unfolding plan_checked
check_first bytes plan =
    after_reader bytes (rules (instance bytes) plan) (number (checked bytes plan))
    (λ h e. ap number (on_plan bytes plan h e) ∙ own_number (first_applying (rules (instance bytes) plan)) (plan_cost (instance bytes) (place plan)))
    (λ f e. sym (ap number (handed_on bytes plan f e)))

-- the check's rules stand in the order of giving
pub check_order : (bytes plan : List ℕ) → in_order giving (all_rules bytes plan) ≡ true
unfolding reader.rules rules in_order
check_order bytes plan = refl

-- ---- accepted

-- the five tests and the cost
abbrev tested : Bool → Bool → Bool → Bool → Bool → ℕ → Checked
tested a b c d e cost = answered (cond (not a) 13 (cond (not b) 14 (cond (not c) 20 (cond (not d) 15 (cond (not e) 16 0))))) cost

all_passed : (a b c d e : Bool) (cost k : ℕ) → (tested a b c d e cost ≡ Ok k) ↔ ((a ≡ true) × (b && (c && (d && e)) ≡ true) × (cost ≡ k))
unfolding answered
all_passed true true true true true cost k = (λ e. (refl, refl, (cc)), λ e. ap Ok e.2)
all_passed true true true true false cost k = (λ e. absurd (let z : ◌≡◌ {A = ℕ} 0 1 = cc in omega arith), λ e. clash (sym e.1))
all_passed true true true false t cost k = (λ e. absurd (let z : ◌≡◌ {A = ℕ} 0 1 = cc in omega arith), λ e. clash (sym e.1))
all_passed true true false d t cost k = (λ e. absurd (let z : ◌≡◌ {A = ℕ} 0 1 = cc in omega arith), λ e. clash (sym e.1))
all_passed true false c d t cost k = (λ e. absurd (let z : ◌≡◌ {A = ℕ} 0 1 = cc in omega arith), λ e. clash (sym e.1))
all_passed false b c d t cost k = (λ e. absurd (let z : ◌≡◌ {A = ℕ} 0 1 = cc in omega arith), λ e. clash (sym e.0))

-- on a sheet that the reader accepts: a plan is accepted at cost k exactly when it has a place for each service, is valid and costs k
pub accepted_iff : (bytes : List ℕ) (h : Sheet) → reading bytes ≡ Ok h → (plan : List ℕ) (k : ℕ) →
    (checked bytes plan ≡ Ok k)
    ↔ ((length plan ≡ (instance bytes).r) × (valid (instance bytes) (place plan) ≡ true) × (plan_cost (instance bytes) (place plan) ≡ k))
unfolding plan_checked rules first_applying valid
accepted_iff bytes h reads plan k =
    let I = instance bytes in
    let t = all_passed (eqb (length plan) I.r) (in_range I (place plan)) (bars_keep I (place plan)) (cabinets_keep I (place plan)) (links_keep I (place plan)) (plan_cost I (place plan)) k in
    let e = on_plan bytes plan h reads in (
      λ q. let p = t.0 (sym e ∙ q) in (eqb-true _ _ p.0, p.1, p.2),
      λ p. e ∙ t.1 (eq-eqb _ _ p.0, p.1, p.2),
    )

-- a plan that passes the tests before that of the cabinets, but not that, gets 15
pub gets_15 : (bytes : List ℕ) (h : Sheet) → reading bytes ≡ Ok h → (plan : List ℕ) → length plan ≡ (instance bytes).r →
    in_range (instance bytes) (place plan) ≡ true → bars_keep (instance bytes) (place plan) ≡ true →
    cabinets_keep (instance bytes) (place plan) ≡ false → checked bytes plan ≡ Err (refusal 15)
unfolding refusal
gets_15 bytes h reads plan places range bars e = sym (cabinet_overfull bytes plan h reads (instance bytes) refl places range bars e)

-- the reader accepts the sheet of an accepted plan
pub accepted_reads : (bytes plan : List ℕ) (k : ℕ) → checked bytes plan ≡ Ok k → (h : Sheet) × (reading bytes ≡ Ok h)
unfolding checked checked_after
accepted_reads bytes plan k e = go (reading bytes) refl e
  where
    go : (r : Reading) → reading bytes ≡ r → checked_after r (instance bytes) plan ≡ Ok k → (h : Sheet) × (reading bytes ≡ Ok h)
    go (Ok h) q e = (h, q)
    go (Err g) q e = absurd (let z : ◌≡◌ {A = ℕ} 0 1 = cc in omega arith)

-- the cost in an accepted answer is below 10^15
pub cost_low : (bytes plan : List ℕ) (k : ℕ) → checked bytes plan ≡ Ok k → k < 10 ^ 15
unfolding valid
cost_low bytes plan k e =
    let I = instance bytes in
    let r = accepted_reads bytes plan k e in
    let p = (accepted_iff bytes r.0 r.1 plan k).0 e in
    let range : in_range I (place plan) ≡ true = both_l (in_range I (place plan)) _ p.1 in
    omega (arith, cost_bound I (well_formed bytes r.0 r.1) (place plan) range, p.2)

-- ---- the numbers of an answer

-- where the plan is accepted
pub numbers_accepted : (bytes plan : List ℕ) (k : ℕ) → checked bytes plan ≡ Ok k
    → (number (checked bytes plan) ≡ 0) × (group (checked bytes plan) ≡ 0) × (cost (checked bytes plan) ≡ k)
numbers_accepted bytes plan k e = (ap number e, ap group e, ap cost e)

-- in a refusal
pub numbers_refused : (bytes plan : List ℕ) (f : Refusal) → checked bytes plan ≡ Err f
    → (number (checked bytes plan) ≡ number_of f) × (group (checked bytes plan) ≡ group_of f) × (cost (checked bytes plan) ≡ 0)
numbers_refused bytes plan f e = (ap number e, ap group e, ap cost e)
