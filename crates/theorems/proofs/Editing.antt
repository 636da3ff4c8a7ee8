-- What the contract of an edit gives: its answers, their order, and that a plan handed out is accepted. The work behind the demands.
use Prim.Native.Nat.{ℕ, zero, suc}
use native.Mathlib.Omega.{arith}
use mathlib.Core.Logic.{◌⊎◌, inl, inr}
use mathlib.Core.Path.{◌≡◌, refl, sym, ap, ◌∙◌, subst}
use mathlib.Core.Bool.{true}
use lib.ListN.{length, take}
use Rattle.std.specs.Prelude.{Ok, Err}
use Rattle.sheet.specs.Refusals.{one_of, refusal, number_of, giving, first_of, in_order}
use Rattle.sheet.specs.declared.Refusal.{Refusal}
use Rattle.sheet.proofs.Groups.{number_refusal, own_group}
use Rattle.sheet.proofs.Order.{given_first}
use Rattle.sheet.proofs.Promises.{well_formed}
use Rattle.embedding.specs.Plan.{place}
use Rattle.embedding.proofs.Theorems.{plan_iff_mapping}
use Rattle.checker.specs.Check.{checked}
use Rattle.checker.proofs.Answers.{accepted_iff}
use Rattle.planner.specs.Answers.{Planned, plan_of, unplanned, number}
use Rattle.edit.specs.Calls.{Call, asked}
use Rattle.edit.specs.Edits.{rules_before, edit_numbers, number_before, Outcome, Edits}
use Rattle.edit.proofs.Before.{before_edits, before_order}
use Rattle.edit.proofs.Lists.{refusing, edit_passed}
use Rattle.theorems.specs.Promised.{Given, Maps}

-- a plan, or one of an edit's refusals in its own group, with a count only where it is 12
abbrev pub Answered : Planned → Type 0
Answered a =
    ((k : ℕ) × (n : ℕ) × (a ≡ plan_of k n))
    ⊎ ((f : Refusal) × (n : ℕ) × (a ≡ unplanned f n) × Given edit_numbers f × ((number_of f ≡ 12 → ⊥) → n ≡ 0))

-- one of an edit's refusals in its own group
given : (f : Refusal) (n : ℕ) → f ≡ refusal n → one_of edit_numbers n ≡ true → Given edit_numbers f
given f n e l = record { grouped = own_group f n e; listed = ap (one_of edit_numbers) (ap number_of e ∙ number_refusal n) ∙ l }

module _ (d : Call) (E : Edits d) where
  -- what comes of any tables
  of_outcome : (a : Planned) → d.answer ≡ a → Outcome d a → Answered a
  of_outcome (Ok p) q o = inl (p.cost, p.count, refl)
  of_outcome (Err u) q (inl e, o) = inr (u.refusal, u.count, refl, given u.refusal 12 e refl, λ h. absurd (h (ap number_of e ∙ number_refusal 12)))
  of_outcome (Err u) q (inr (e, c), o) = inr (u.refusal, u.count, refl, given u.refusal 23 e refl, λ h. c)

  -- Every call.
  pub answered : Answered d.answer
  answered = go (number_before d) refl
    where
      go : (n : ℕ) → number_before d ≡ n → Answered d.answer
      go zero q = of_outcome d.answer refl (E.outcome q)
      go (suc n) q =
          let R = refusing d E n q in
          inr (
            refusal (suc n),
            0,
            R.answer,
            given (refusal (suc n)) (suc n) refl
                (before_edits d.sheet d.cabinet (length d.output) (length d.costs) (length d.choices) d.span n q),
            λ h. refl,
          )

  -- the rules stand in the order of giving, and where one applies the number given is the first in that order of which a rule does
  pub gives :
      (in_order giving (rules_before d.sheet d.cabinet (length d.output) (length d.costs) (length d.choices) d.span) ≡ true)
      × (number_before d ≡ first_of giving (rules_before d.sheet d.cabinet (length d.output) (length d.costs) (length d.choices) d.span))
      × ((number_before d ≡ 0 → ⊥) → number d.answer ≡ number_before d)
  gives =
      let o = before_order d.sheet d.cabinet (length d.output) (length d.costs) (length d.choices) d.span in
      (o, given_first (rules_before d.sheet d.cabinet (length d.output) (length d.costs) (length d.choices) d.span) o, go (number_before d) refl)
    where
      go : (n : ℕ) → number_before d ≡ n → (number_before d ≡ 0 → ⊥) → number d.answer ≡ number_before d
      go zero q h = absurd (h q)
      go (suc n) q h = (refusing d E n q).number_is ∙ sym q

  -- nothing refuses an edit that gives a plan
  plan_passes : (k n : ℕ) → d.answer ≡ plan_of k n → number_before d ≡ 0
  plan_passes k n p = go (number_before d) refl
    where
      go : (m : ℕ) → number_before d ≡ m → number_before d ≡ 0
      go zero q = q
      go (suc m) q = absurd (let r = (refusing d E m q).answer in let z : ◌≡◌ {A = ℕ} 0 1 = cc in omega arith)

  -- a plan is accepted by the check at the cost answered, and so is a feasible mapping of that cost
  pub plan_accepted :
      (k n : ℕ) → d.answer ≡ plan_of k n →
      (checked d.sheet (take (asked d).r d.output') ≡ Ok k) × Maps (asked d) (place (take (asked d).r d.output')) k
  plan_accepted k n p =
      let q = plan_passes k n p in
      let P = edit_passed d q in
      let c = (subst (Outcome d) p (E.outcome q)).0 in
      let v = (accepted_iff d.sheet P.sheet P.reads (take (asked d).r d.output') k).0 c in
      (c, (plan_iff_mapping (asked d) (well_formed d.sheet P.sheet P.reads) (place (take (asked d).r d.output')) k).0 (v.1, v.2))
