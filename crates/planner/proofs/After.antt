-- A table after a call: what it then has in the span, and that all else stays.
use Rattle.std.proofs.Common.{◌≡◌, ℕ, ◌+◌, ◌<◌, ◌≤◌, Bool, true, false, cond, ◌⊎◌, List, ◌++◌, length, get_or, take, drop, sym, refl, ap, ◌∙◌, inl, inr, arith, length-append, length-drop}
use Rattle.finite.proofs.Middles.{mid_before, mid_after}
use Rattle.sheet.specs.Instance.{Instance}
use Rattle.lending.specs.Spans.{within, replaced}
use Rattle.lending.specs.declared.Span.{Span}
use Rattle.lending.proofs.Spans.{within_length, replaced_length, within_replaced, replaced_front}
use Rattle.planner.specs.Answers.{Planned, entries}
use Rattle.planner.specs.Lent.{used, part_after, front_after}
use Rattle.planner.proofs.Lending.{unused_stays}

module _ (I : Instance) (a : Planned) (span : Span) (front table : List ℕ) (long : length front ≡ entries I)
    (room : used a ≡ true → (span.first + span.number ≤ length table) × (entries I ≤ span.number)) where
  -- the span's entries where they were used
  abbrev part : List ℕ
  part = front ++ drop (entries I) (within span table)

  part_length : used a ≡ true → length part ≡ span.number
  part_length u = omega (arith, long, (room u).1, length-append front (drop (entries I) (within span table)), length-drop (entries I) (within span table), within_length span table (room u).0)

  -- the table after the call, used and not used
  pub after_used : used a ≡ true → front_after I a span front table ≡ replaced span part table
  after_used u = ap (λ (b : Bool). replaced span (cond b part (within span table)) table) u

  pub after_unused : used a ≡ false → front_after I a span front table ≡ table
  after_unused u = sym (unused_stays I a span front table u)

  -- it has the same length
  pub after_length : length (front_after I a span front table) ≡ length table
  after_length = go (used a) refl
    where
      go : (b : Bool) → used a ≡ b → length (front_after I a span front table) ≡ length table
      go true u = ap length (after_used u) ∙ replaced_length span table (room u).0 part (part_length u)
      go false u = ap length (after_unused u)

  -- in the span it has what the answer says
  pub after_within : within span (front_after I a span front table) ≡ part_after I a front (within span table)
  after_within = go (used a) refl
    where
      part_is : (b : Bool) → used a ≡ b → cond b part (within span table) ≡ part_after I a front (within span table)
      part_is b u = sym (ap (λ (b : Bool). cond b part (within span table)) u)

      go : (b : Bool) → used a ≡ b → within span (front_after I a span front table) ≡ part_after I a front (within span table)
      go true u = ap (within span) (after_used u) ∙ within_replaced span table (room u).0 part (part_length u) ∙ part_is true u
      go false u = ap (within span) (after_unused u) ∙ part_is false u

  -- no entry but the first s × 2^r of the span is another
  pub after_others : (i : ℕ) → (i < span.first) ⊎ (span.first + entries I ≤ i) → get_or (front_after I a span front table) i 0 ≡ get_or table i 0
  after_others i h = go (used a) refl h
    where
      is : used a ≡ true → front_after I a span front table ≡ take span.first table ++ (front ++ drop (entries I) (drop span.first table))
      is u = after_used u ∙ replaced_front span table (room u).0 front (entries I) (room u).1

      go : (b : Bool) → used a ≡ b → (i < span.first) ⊎ (span.first + entries I ≤ i) → get_or (front_after I a span front table) i 0 ≡ get_or table i 0
      go true u (inl l) = ap (λ (t : List ℕ). get_or t i 0) (is u) ∙ mid_before span.first (entries I) table front (omega (arith, (room u).0, (room u).1)) long i l
      go true u (inr l) = ap (λ (t : List ℕ). get_or t i 0) (is u) ∙ mid_after span.first (entries I) table front (omega (arith, (room u).0, (room u).1)) long i l
      go false u l = ap (λ (t : List ℕ). get_or t i 0) (after_unused u)
