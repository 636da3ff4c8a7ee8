-- Laws of the answers of the call that makes a bill: when there is one, the numbers of its refusals, their groups and their order.
use Prim.Native.Nat.{ℕ, zero, suc, ◌≤◌, ◌<◌}
use native.Mathlib.Omega.{arith}
use mathlib.Core.Logic.{◌↔◌, ◌⊎◌, inl, inr}
use mathlib.Core.Path.{◌≡◌, refl, sym, ap, ◌∙◌, subst}
use mathlib.Core.Bool.{Bool, true, false, ◌||◌, not, cond}
use mathlib.Core.List.{List, [], ◌∷◌}
use lib.Dec.{ltb}
use borrow.Author.Tests.{lt-ltb, le-ltb, ltb-true, ltb-false}
use Rattle.std.specs.Prelude.{Ok, Err}
use Rattle.finite.proofs.Booleans.{clash}
use Rattle.sheet.specs.Reading as reader
use Rattle.sheet.specs.Instance.{Instance, instance}
use Rattle.sheet.specs.Refusals.{one_of, first_applying, refusal, number_of, giving, in_order}
use Rattle.sheet.specs.declared.Refusal.{Refusal}
use Rattle.sheet.specs.declared.Refusal.TheVariants.{Lender}
use Rattle.sheet.proofs.Promises.{well_formed}
use Rattle.sheet.proofs.Groups.{number_refusal, own_group, one_of_left, first_listed}
use Rattle.sheet.proofs.Order.{first_none, first_some}
use Rattle.embedding.specs.Plan.{place}
use Rattle.checker.specs.Check as check
use Rattle.checker.specs.Answers.{number as checked-number}
use Rattle.checker.specs.Check.{Checked, checked}
use Rattle.checker.proofs.Answers.{accepted_reads, accepted_iff, right_group, check_number, check_first}
use Rattle.bill.specs.Tariff.{within_limits}
use Rattle.bill.specs.Lines.{line_count, net, tax, total}
use Rattle.bill.specs.Answers.{Billed, bill_of, net_told, tax_told, total_told, number, lender_rules, all_rules, bill_numbers, given, plan_billed, billed_after, billed}
use Rattle.bill.specs.Inner.Billable.{Billable}
use Rattle.bill.specs.declared.tariff.Tariff.{Tariff}

-- a plan that the check accepts can be billed
pub billable : (bytes plan : List ℕ) (k : ℕ) → checked bytes plan ≡ Ok k → Billable (instance bytes) (place plan)
billable bytes plan k e =
    let r = accepted_reads bytes plan k e in
    record { well_formed = well_formed bytes r.0 r.1; is_valid = ((accepted_iff bytes r.0 r.1 plan k).0 e).1 }

-- ---- the lender's refusal

module _ (I : Instance) (π : ℕ → ℕ) (t : Tariff) (n : ℕ) where
  -- the two tests, and the answer
  abbrev tested : Bool → Bool → Billed
  tested w short = given (cond (not w || short) 22 0) I π t

  pub tariff_refused : within_limits t ≡ false → Err (Lender 22) ≡ plan_billed I π t n
  unfolding plan_billed first_applying refusal
  tariff_refused e = sym (ap (λ (w : Bool). tested w (ltb n (line_count I))) e)

  pub room_refused : within_limits t ≡ true → n < line_count I → Err (Lender 22) ≡ plan_billed I π t n
  unfolding plan_billed first_applying refusal
  room_refused e h = sym (ap (λ (w : Bool). tested w (ltb n (line_count I))) e ∙ ap (tested true) (lt-ltb n (line_count I) h))

  pub bill_made : within_limits t ≡ true → line_count I ≤ n → bill_of (net I π t) (tax I π t) (total I π t) ≡ plan_billed I π t n
  unfolding plan_billed first_applying
  bill_made e h = sym (ap (λ (w : Bool). tested w (ltb n (line_count I))) e ∙ ap (tested true) (le-ltb n (line_count I) h))

-- ---- the bill of a plan that the check accepts, and its refusals handed on

module _ (bytes plan : List ℕ) (t : Tariff) (n : ℕ) where
  abbrev I : Instance
  I = instance bytes

  abbrev π : ℕ → ℕ
  π = place plan

  accepted : (k : ℕ) → checked bytes plan ≡ Ok k → billed bytes plan t n ≡ plan_billed I π t n
  unfolding billed billed_after
  accepted k e = ap (λ (c : Checked). billed_after c I π t n) e

  handed_on : (f : Refusal) → checked bytes plan ≡ Err f → billed bytes plan t n ≡ Err f
  unfolding billed billed_after
  handed_on f e = ap (λ (c : Checked). billed_after c I π t n) e

  -- what a bill has: a plan that the check accepts, a tariff within its limits, room for the lines, and the figures of the definitions
  abbrev pub Made : ℕ → ℕ → ℕ → Type 0
  Made m x k =
      ((c : ℕ) × (checked bytes plan ≡ Ok c))
      × (within_limits t ≡ true)
      × (line_count I ≤ n)
      × (m ≡ net I π t)
      × (x ≡ tax I π t)
      × (k ≡ total I π t)

  -- the tests that are passed where there is a bill
  passed : (m x k : ℕ) → plan_billed I π t n ≡ bill_of m x k
      → (within_limits t ≡ true) × (line_count I ≤ n) × (m ≡ net I π t) × (x ≡ tax I π t) × (k ≡ total I π t)
  passed m x k e = go (within_limits t) refl (ltb n (line_count I)) refl e
    where
      none : Err (Lender 22) ≡ bill_of m x k → ⊥
      none q = let z : ◌≡◌ {A = ℕ} 0 1 = cc in omega arith

      go : (w : Bool) → within_limits t ≡ w → (s : Bool) → ltb n (line_count I) ≡ s → plan_billed I π t n ≡ bill_of m x k
          → (within_limits t ≡ true) × (line_count I ≤ n) × (m ≡ net I π t) × (x ≡ tax I π t) × (k ≡ total I π t)
      go false p s q e = absurd (none (tariff_refused I π t n p ∙ e))
      go true p true q e = absurd (none (room_refused I π t n p (ltb-true n (line_count I) q) ∙ e))
      go true p false q e =
          let l : line_count I ≤ n = ltb-false n (line_count I) q in
          let f : bill_of (net I π t) (tax I π t) (total I π t) ≡ bill_of m x k = bill_made I π t n p l ∙ e in
          (p, l, sym (ap net_told f), sym (ap tax_told f), sym (ap total_told f))

  -- there is a bill exactly when all of that is so
  pub made_iff : (m x k : ℕ) → (billed bytes plan t n ≡ bill_of m x k) ↔ Made m x k
  made_iff m x k = (
    λ e. go (checked bytes plan) refl e,
    λ h. accepted h.0.0 h.0.1 ∙ sym (bill_made I π t n h.1 h.2) ∙ sym (figures h.3 h.4 h.5),
  )
    where
      figures : m ≡ net I π t → x ≡ tax I π t → k ≡ total I π t → bill_of m x k ≡ bill_of (net I π t) (tax I π t) (total I π t)
      figures p q s = cc

      go : (c : Checked) → checked bytes plan ≡ c → billed bytes plan t n ≡ bill_of m x k → Made m x k
      go (Ok c) p e = let h = passed m x k (sym (accepted c p) ∙ e) in ((c, p), h.0, h.1, h.2, h.3, h.4)
      go (Err f) p e =
          absurd (let w : Err f ≡ bill_of m x k = sym (handed_on f p) ∙ e in let z : ◌≡◌ {A = ℕ} 0 1 = cc in omega arith)

  -- ---- every answer

  -- a bill, or one of the call's refusals in its own group
  abbrev pub Answered : Billed → Type 0
  Answered a =
      ((m : ℕ) × (x : ℕ) × (k : ℕ) × (a ≡ bill_of m x k))
      ⊎ ((f : Refusal) × (a ≡ Err f) × (f ≡ refusal (number_of f)) × (one_of bill_numbers (number_of f) ≡ true))

  lent : (m : ℕ) → first_applying (lender_rules I t n) ≡ m → Answered (given m I π t)
  lent zero e = inl (net I π t, tax I π t, total I π t, refl)
  lent (suc m) e =
      inr (
        refusal (suc m),
        refl,
        own_group (refusal (suc m)) (suc m) refl,
        ap (one_of bill_numbers) (number_refusal (suc m)) ∙ first_listed (one_of bill_numbers) (lender_rules I t n) refl m e,
      )

  pub bill_answered : Answered (billed bytes plan t n)
  unfolding plan_billed
  bill_answered = go (checked bytes plan) refl
    where
      go : (c : Checked) → checked bytes plan ≡ c → Answered (billed bytes plan t n)
      go (Ok k) e = subst Answered (sym (accepted k e)) (lent _ refl)
      go (Err f) e =
          inr (f, handed_on f e, right_group bytes plan f e, one_of_left check.check_numbers (22 ∷ []) (number_of f) (check_number bytes plan f e))

  -- ---- the order of giving

  own_number : (m : ℕ) → number (given m I π t) ≡ m
  own_number zero = refl
  own_number (suc m) = number_refusal (suc m)

  -- a refusal of the check is the first of all rules that apply
  check_refused : (f : Refusal) → checked bytes plan ≡ Err f → number_of f ≡ first_applying (all_rules bytes plan t n)
  check_refused f e = go (first_applying (check.all_rules bytes plan)) refl
    where
      given_by : number_of f ≡ first_applying (check.all_rules bytes plan)
      given_by = sym (ap checked-number e) ∙ check_first bytes plan

      go : (m : ℕ) → first_applying (check.all_rules bytes plan) ≡ m → number_of f ≡ first_applying (all_rules bytes plan t n)
      go zero q = clash (sym (sym (ap (one_of check.check_numbers) (given_by ∙ q)) ∙ check_number bytes plan f e))
      go (suc m) q = given_by ∙ q ∙ sym (first_some (check.all_rules bytes plan) (lender_rules I t n) m q)

  -- the number of an answer is that of the first rule that applies
  pub bill_first : number (billed bytes plan t n) ≡ first_applying (all_rules bytes plan t n)
  unfolding plan_billed reader.rules check.rules
  bill_first = go (checked bytes plan) refl
    where
      go : (c : Checked) → checked bytes plan ≡ c → number (billed bytes plan t n) ≡ first_applying (all_rules bytes plan t n)
      go (Ok k) e =
          ap number (accepted k e) ∙ own_number (first_applying (lender_rules I t n))
          ∙ sym (first_none (check.all_rules bytes plan) (lender_rules I t n) refl (sym (check_first bytes plan) ∙ ap checked-number e))
      go (Err f) e = ap number (handed_on f e) ∙ check_refused f e

  -- the call's rules stand in the order of giving
  pub bill_order : in_order giving (all_rules bytes plan t n) ≡ true
  unfolding reader.rules check.rules in_order
  bill_order = refl
