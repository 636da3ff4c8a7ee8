-- What a call that plans promises, with its answer told as numbers and its span under another name.
use Prim.Native.Nat.{ℕ}
use mathlib.Core.Path.{◌≡◌, subst}
use mathlib.Core.List.{List}
use Rattle.sheet.specs.Instance.{instance}
use Rattle.lending.specs.declared.Span.{Span}
use Rattle.planner.specs.Answers.{Planned, number}
use Rattle.planner.specs.Lent.{front_after, OutputAfter}
use Rattle.gazrieksne.specs.Plans.{answer_with, plan_answer}

module _ (bytes o o' t t' u u' costs choices : List ℕ) where
  -- the call's promise: answer, output and both tables, where it leaves these entries in front of the span
  abbrev Promise : Planned → Span → Type 0
  Promise a s =
      OutputAfter (instance bytes) a o o'
      × ((t' ≡ front_after (instance bytes) a s costs t) × (u' ≡ front_after (instance bytes) a s choices u))

  abbrev answer_on : Span → Planned
  answer_on s = answer_with bytes o t u s

  pub told_as : (a : Planned) (s s' : Span) → s ≡ s' → (a ≡ answer_on s) × Promise a s → (r : ℕ) → r ≡ number a → (n : List ℕ) → n ≡ plan_answer a
      → (r ≡ number (answer_on s')) × ((n ≡ plan_answer (answer_on s')) × Promise (answer_on s') s')
  told_as a s s' q P r e n f =
      subst (λ (z : Span). (r ≡ number (answer_on z)) × ((n ≡ plan_answer (answer_on z)) × Promise (answer_on z) z)) q
      (subst (λ (b : Planned). (r ≡ number b) × ((n ≡ plan_answer b) × Promise b s)) P.0 (e, (f, P.1)))
