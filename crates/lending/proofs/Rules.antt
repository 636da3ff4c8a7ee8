-- The lender's refusals: which of them is given, and when there is none.
use Prim.Native.Nat.{ℕ, zero, suc, ◌+◌, ◌≤◌, ◌<◌}
use native.Mathlib.Omega.{arith}
use mathlib.Core.Logic.{⊎_elim, ◌↔◌, ◌⊎◌, inl, inr}
use mathlib.Core.Path.{◌≡◌, refl, ap, ap₂, ◌∙◌}
use mathlib.Core.Bool.{Bool, true, false, ◌||◌, cond}
use mathlib.Core.List.{List, [], ◌∷◌}
use lib.Dec.{ltb}
use borrow.Author.Tests.{lt-ltb, le-ltb, ltb-true, ltb-false}
use Rattle.finite.proofs.Booleans.{either, either_l, either_r, neither, neither_l, neither_r, same_test}
use Rattle.std.specs.Prelude.{Ok, Err}
use Rattle.sheet.specs.Refusals.{Rule, one_of, first_applying, refusal}
use Rattle.sheet.specs.declared.Refusal.{Refusal}
use Rattle.sheet.proofs.Groups.{first_listed}
use Rattle.lending.specs.Spans.{whole, runs_past}
use Rattle.lending.specs.Rules.{lender_rules, room}
use Rattle.lending.specs.declared.Span.{Span}
use Rattle.lending.proofs.Spans.{whole_fits}

-- the numbers of the lender's refusals
abbrev pub lender_numbers : List ℕ
lender_numbers = 10 ∷ 24 ∷ 11 ∷ []

module _ (places entries output costs choices : ℕ) (span : Span) where
  abbrev rules : List Rule
  rules = lender_rules places entries output costs choices span

  pub short_output : output < places → first_applying rules ≡ 10
  unfolding first_applying
  short_output h = simp (lt-ltb output places h)

  module _ (long : places ≤ output) where
    pub span_past : runs_past span costs || runs_past span choices ≡ true → first_applying rules ≡ 24
    unfolding first_applying
    span_past e = simp (le-ltb output places long, e)

    module _ (past : runs_past span costs || runs_past span choices ≡ false) where
      pub short_span : span.number < entries → first_applying rules ≡ 11
      unfolding first_applying
      short_span h = simp (le-ltb output places long, past, lt-ltb span.number entries h)

      pub enough : entries ≤ span.number → first_applying rules ≡ 0
      unfolding first_applying
      enough h = simp (le-ltb output places long, past, le-ltb span.number entries h)

  -- none of three tests
  none_of : (p q r : Bool) → ◌≡◌ {A = ℕ} (cond p 10 (cond q 24 (cond r 11 0))) 0 → (p ≡ false) × (q ≡ false) × (r ≡ false)
  none_of true q r e = absurd (omega arith)
  none_of false true r e = absurd (omega arith)
  none_of false false true e = absurd (omega arith)
  none_of false false false e = (refl, refl, refl)

  -- The output has its places, neither table ends before the span does, and the span has its entries.
  pub enough_iff : (first_applying rules ≡ 0)
      ↔ ((places ≤ output) × (span.first + span.number ≤ costs) × (span.first + span.number ≤ choices) × (entries ≤ span.number))
  unfolding first_applying
  enough_iff = (
    λ e. let f = none_of _ _ _ e in (
      ltb-false _ _ f.0,
      ltb-false _ _ (neither_l _ (runs_past span choices) f.1),
      ltb-false _ _ (neither_r (runs_past span costs) _ f.1),
      ltb-false _ _ f.2,
    ),
    λ h. enough h.0 (neither _ (runs_past span choices) (le-ltb costs _ h.1) (le-ltb choices _ h.2)) h.3,
  )

  -- the number given is one of the three
  pub lender_listed : (n : ℕ) → first_applying rules ≡ suc n → one_of lender_numbers (suc n) ≡ true
  lender_listed n e = first_listed (one_of lender_numbers) rules refl n e

-- of the lengths of both tables it counts only whether the span runs past them
pub lender_past : (places entries output : ℕ) (span : Span) (costs choices costs₂ choices₂ : ℕ)
    → runs_past span costs ≡ runs_past span costs₂ → runs_past span choices ≡ runs_past span choices₂
    → lender_rules places entries output costs choices span ≡ lender_rules places entries output costs₂ choices₂ span
lender_past places entries output span costs choices costs₂ choices₂ c u =
    ap₂ (λ (p q : Bool). record { number = 10; applies = ltb output places } ∷ record { number = 24; applies = p || q } ∷ record { number = 11; applies = ltb span.number entries } ∷ []) c u

-- the span runs past one of two tables exactly if first entry plus number of entries is above the length of one of them
pub either_past : (span : Span) (costs choices : ℕ)
    → (runs_past span costs || runs_past span choices ≡ true) ↔ ((costs < span.first + span.number) ⊎ (choices < span.first + span.number))
either_past span costs choices = (
  λ e. ⊎_elim (λ p. inl (ltb-true _ _ p)) (λ p. inr (ltb-true _ _ p)) (either (runs_past span costs) (runs_past span choices) e),
  λ h. ⊎_elim (λ l. either_l _ (runs_past span choices) (lt-ltb costs _ l)) (λ l. either_r (runs_past span costs) _ (lt-ltb choices _ l)) h,
)

-- what `measure` answers tells the number
pub room_enough : (n : ℕ) → Ok tt ≡ room n → n ≡ 0
room_enough zero e = refl
room_enough (suc n) e = absurd (let z : ◌≡◌ {A = ℕ} 0 1 = cc in omega arith)

pub room_refused : (n : ℕ) (f : Refusal) → Err f ≡ room n → (m : ℕ) × (n ≡ suc m) × (f ≡ refusal (suc m))
room_refused zero f e = absurd (let z : ◌≡◌ {A = ℕ} 0 1 = cc in omega arith)
room_refused (suc n) f e = (n, refl, cc)

-- the shorter of two tables is too short exactly if one of them is
shorter : (costs choices n : ℕ) → ltb (cond (ltb choices costs) choices costs) n ≡ ltb costs n || ltb choices n
shorter costs choices n = go (ltb choices costs) refl
  where
    go : (b : Bool) → ltb choices costs ≡ b → ltb (cond b choices costs) n ≡ ltb costs n || ltb choices n
    go true e =
        same_test _ _ (either_r (ltb costs n) (ltb choices n))
        (λ h. ⊎_elim (λ l. lt-ltb choices n (omega (arith, ltb-true choices costs e, ltb-true costs n l))) (λ l. l) (either _ _ h))
    go false e =
        same_test _ _ (either_l (ltb costs n) (ltb choices n))
        (λ h. ⊎_elim (λ l. l) (λ l. lt-ltb costs n (omega (arith, ltb-false choices costs e, ltb-true choices n l))) (either _ _ h))

-- on the whole of the shorter table: 10, or 11 where a table is shorter than a plan needs, and never 24
pub whole_rules : (places entries output costs choices : ℕ)
    → first_applying (lender_rules places entries output costs choices (whole costs choices))
    ≡ first_applying (record { number = 10; applies = ltb output places } ∷ record { number = 11; applies = ltb costs entries || ltb choices entries } ∷ [])
unfolding first_applying
whole_rules places entries output costs choices =
    ap (λ (b : Bool). cond (ltb output places) 10 (cond b 24 (cond (ltb (whole costs choices).number entries) 11 0)))
    (neither _ (runs_past (whole costs choices) choices) (whole_fits costs choices).0 (whole_fits costs choices).1)
    ∙ ap (λ (b : Bool). cond (ltb output places) 10 (cond b 11 0)) (shorter costs choices entries)
