-- The laws of one call on a span, of any kind, and of lists of calls on one span: every edit in the rule does what a keeping call does.
use Rattle.std.proofs.Common.{◌≡◌, ℕ, zero, suc, ◌+◌, ◌<◌, ◌≤◌, Bool, true, false, cond, eqb, ◌⊎◌, List, [], ◌∷◌, length, get_or, replicate, sym, refl, ap, ◌∙◌, subst, subst₂, inl, inr, arith, ne_eqb}
use lib.ListN.{length-replicate}
use Rattle.finite.proofs.Booleans.{clash}
use Rattle.subsets.specs.Costs.{Cost, none, some}
use Rattle.sheet.specs.Instance.{Instance}
use Rattle.sheet.specs.Refusals.{one_of, refusal}
use Rattle.sheet.proofs.Groups.{number_refusal}
use Rattle.embedding.specs.Plan.{cheapest}
use Rattle.embedding.specs.Splits.{weighed}
use Rattle.lending.specs.Spans.{within, Apart}
use Rattle.lending.specs.declared.Span.{Span}
use Rattle.lending.proofs.Spans.{within_same, apart_outside}
use Rattle.lending.proofs.Rules.{enough_iff}
use Rattle.planner.specs.Answers.{unplanned, number, entries, Enough, solved}
use Rattle.planner.specs.Lent.{used, part_after}
use Rattle.planner.specs.Kept as kept
use Rattle.planner.specs.Kept.{kept_costs, kept_choices, Kept}
use Rattle.planner.specs.Inner.Tables.{cost_entry, choice_entry}
use Rattle.planner.proofs.Lending.{solved_used}
use Rattle.planner.proofs.Solved.{accepted_solved, used_solved}
use Rattle.planner.proofs.After.{after_unused, after_length, after_within, after_others}
use Rattle.edit.specs.Calls.{Call, asked, Untouched, Leaves, Keeps}
use Rattle.edit.specs.Edits.{number_before, stays, Edits}
use Rattle.edit.specs.Lists as lists
use Rattle.edit.specs.Lists.{Kind, planning, keeping, editing, Does, Turn, OnSpan, Last, nothing, taken, next, Allowed, InTheRule, AsFresh, AllFresh}
use Rattle.edit.proofs.Before.{before_numbers, Passed, passed, before_listed}
use Rattle.edit.proofs.Tables.{table_length, kept_after}

-- ---- a call that leaves entries in front of the span, if it uses the tables

-- the memory has room for the rows of the call
record Room (d : Call) : Type 0 where
  pub costs : d.span.first + d.span.number ≤ length d.costs
  pub choices : d.span.first + d.span.number ≤ length d.choices
  pub rows : entries (asked d) ≤ d.span.number

-- with memory enough it has
room_of : (d : Call) → Enough (asked d) (length d.output) (length d.costs) (length d.choices) d.span → Room d
room_of d e =
    let h = (enough_iff (asked d).r (entries (asked d)) (length d.output) (length d.costs) (length d.choices) d.span).0 e in
    record { costs = h.1; choices = h.2; rows = h.3 }

module _ (d : Call) (front back : List ℕ) (L : Leaves d front back) where
  -- tables that were used have room
  leaves_room : used d.answer ≡ true → Room d
  leaves_room u =
      room_of d (used_solved d.sheet (length d.output) (length d.costs) (length d.choices) d.span (sym (ap used L.answer) ∙ u)).enough

  module _ (long : length front ≡ entries (asked d)) (long' : length back ≡ entries (asked d)) where
    -- what is needed of either table
    costs_room : used d.answer ≡ true → (d.span.first + d.span.number ≤ length d.costs) × (entries (asked d) ≤ d.span.number)
    costs_room u = ((leaves_room u).costs, (leaves_room u).rows)

    choices_room : used d.answer ≡ true → (d.span.first + d.span.number ≤ length d.choices) × (entries (asked d) ≤ d.span.number)
    choices_room u = ((leaves_room u).choices, (leaves_room u).rows)

    -- tables that were not used are as they were
    leaves_unused : used d.answer ≡ false → (d.costs' ≡ d.costs) × (d.choices' ≡ d.choices)
    leaves_unused u = (
      L.costs_after ∙ after_unused (asked d) d.answer d.span front d.costs long costs_room u,
      L.choices_after ∙ after_unused (asked d) d.answer d.span back d.choices long' choices_room u,
    )

    -- the lengths stay
    leaves_lengths : (length d.costs' ≡ length d.costs) × (length d.choices' ≡ length d.choices)
    leaves_lengths = (
      ap length L.costs_after ∙ after_length (asked d) d.answer d.span front d.costs long costs_room,
      ap length L.choices_after ∙ after_length (asked d) d.answer d.span back d.choices long' choices_room,
    )

    -- the span's entries are what the answer says
    pub leaves_within : (within d.span d.costs' ≡ part_after (asked d) d.answer front (within d.span d.costs))
        × (within d.span d.choices' ≡ part_after (asked d) d.answer back (within d.span d.choices))
    leaves_within = (
      ap (within d.span) L.costs_after ∙ after_within (asked d) d.answer d.span front d.costs long costs_room,
      ap (within d.span) L.choices_after ∙ after_within (asked d) d.answer d.span back d.choices long' choices_room,
    )

    -- all entries but the rows stay
    leaves_others : (i : ℕ) → (i < d.span.first) ⊎ (d.span.first + entries (asked d) ≤ i) → stays d.costs d.costs' i × stays d.choices d.choices' i
    leaves_others i h = (
      ap (λ (t : List ℕ). get_or t i 0) L.costs_after ∙ after_others (asked d) d.answer d.span front d.costs long costs_room i h,
      ap (λ (t : List ℕ). get_or t i 0) L.choices_after ∙ after_others (asked d) d.answer d.span back d.choices long' choices_room i h,
    )

    -- so does all that is outside the span
    leaves_outside : (i : ℕ) → (i < d.span.first) ⊎ (d.span.first + d.span.number ≤ i) → stays d.costs d.costs' i × stays d.choices d.choices' i
    leaves_outside i h = go (used d.answer) refl h
      where
        go : (b : Bool) → used d.answer ≡ b → (i < d.span.first) ⊎ (d.span.first + d.span.number ≤ i) → stays d.costs d.costs' i × stays d.choices d.choices' i
        go true u (inl l) = leaves_others i (inl l)
        go true u (inr l) = leaves_others i (inr (omega (arith, (leaves_room u).rows)))
        go false u l = (ap (λ (t : List ℕ). get_or t i 0) (leaves_unused u).0, ap (λ (t : List ℕ). get_or t i 0) (leaves_unused u).1)

-- the rows of a planning call, and those of a keeping call, are so many
pub zeros_long : (I : Instance) → length {A = ℕ} (replicate (entries I) 0) ≡ entries I
zeros_long I = length-replicate {A = ℕ} (entries I) 0

pub kept_costs_long : (I : Instance) → length (kept_costs I) ≡ entries I
unfolding kept.kept_costs
kept_costs_long I = table_length I (cost_entry I)

pub kept_choices_long : (I : Instance) → length (kept_choices I) ≡ entries I
unfolding kept.kept_choices
kept_choices_long I = table_length I (choice_entry I)

-- ---- an edit that is refused beforehand, and one that is not

module _ (d : Call) (E : Edits d) where
  -- what is known of an edit that is refused beforehand with the number n
  pub record Refusing (n : ℕ) : Type 0 where
    pub answer : d.answer ≡ unplanned (refusal n) 0
    pub untouched : Untouched d
    pub listed : one_of before_numbers n ≡ true
    pub number_is : number d.answer ≡ n
    pub unused : used d.answer ≡ false

  -- the refusal is one of those given beforehand, so it is not 12 and the tables were not used
  pub refusing : (n : ℕ) → number_before d ≡ suc n → Refusing (suc n)
  refusing n q =
      let w = E.refused (suc n) (λ z. absurd (omega (arith, z))) q in
      let l = before_listed d.sheet d.cabinet (length d.output) (length d.costs) (length d.choices) d.span n q in
      record {
        answer = w.0;
        untouched = w.1;
        listed = l;
        number_is = ap number w.0 ∙ number_refusal (suc n);
        unused = ap used w.0 ∙ ap (λ (m : ℕ). eqb m 12) (number_refusal (suc n))
            ∙ ne_eqb (suc n) 12 (λ z. clash (sym l ∙ ap (one_of before_numbers) z));
      }

-- where nothing refuses it the sheet is accepted, the memory is enough, and the number is a cabinet's
pub edit_passed : (d : Call) → number_before d ≡ 0 → Passed d.sheet d.cabinet (length d.output) (length d.costs) (length d.choices) d.span
edit_passed d z = passed d.sheet d.cabinet (length d.output) (length d.costs) (length d.choices) d.span z

-- ---- a call of any kind

-- the lengths of both tables stay
pub does_lengths : (k : Kind) (d : Call) → Does k d → (length d.costs' ≡ length d.costs) × (length d.choices' ≡ length d.choices)
does_lengths planning d D = leaves_lengths d _ _ D (zeros_long (asked d)) (zeros_long (asked d))
does_lengths keeping d D = leaves_lengths d _ _ D (kept_costs_long (asked d)) (kept_choices_long (asked d))
does_lengths editing d D = go (number_before d) refl
  where
    go : (n : ℕ) → number_before d ≡ n → (length d.costs' ≡ length d.costs) × (length d.choices' ≡ length d.choices)
    go zero q = ((D.rows q).costs_length, (D.rows q).choices_length)
    go (suc n) q = let U = (refusing d D n q).untouched in (ap length U.costs, ap length U.choices)

-- outside the span nothing changes, in any answer
pub does_outside : (k : Kind) (d : Call) → Does k d → (i : ℕ) → (i < d.span.first) ⊎ (d.span.first + d.span.number ≤ i)
    → stays d.costs d.costs' i × stays d.choices d.choices' i
does_outside planning d D i h = leaves_outside d _ _ D (zeros_long (asked d)) (zeros_long (asked d)) i h
does_outside keeping d D i h = leaves_outside d _ _ D (kept_costs_long (asked d)) (kept_choices_long (asked d)) i h
does_outside editing d D i h = go (number_before d) refl h
  where
    go : (n : ℕ) → number_before d ≡ n → (i < d.span.first) ⊎ (d.span.first + d.span.number ≤ i) → stays d.costs d.costs' i × stays d.choices d.choices' i
    go zero q (inl l) = (D.rows q).others i (inl l)
    go zero q (inr l) = (D.rows q).others i (inr (omega (arith, (room_of d (edit_passed d q).enough).rows)))
    go (suc n) q l =
        let U = (refusing d D n q).untouched in
        (ap (λ (t : List ℕ). get_or t i 0) U.costs, ap (λ (t : List ℕ). get_or t i 0) U.choices)

-- so the entries of a span apart stay
pub does_apart : (k : Kind) (d : Call) → Does k d → (other : Span) → Apart other d.span
    → (within other d.costs' ≡ within other d.costs) × (within other d.choices' ≡ within other d.choices)
does_apart k d D other h = (
  within_same other d.costs d.costs' (does_lengths k d D).0 (λ i l m. (does_outside k d D i (apart_outside other d.span h i (l, m))).0),
  within_same other d.choices d.choices' (does_lengths k d D).1 (λ i l m. (does_outside k d D i (apart_outside other d.span h i (l, m))).1),
)

-- ---- a call that does as a keeping call

-- where it used the tables the span's entries are kept of its instance
pub keeps_kept : (d : Call) → Keeps d → used d.answer ≡ true → Kept (asked d) (within d.span d.costs') (within d.span d.choices')
keeps_kept d K u =
    let R = leaves_room d _ _ K u in
    kept_after (asked d) d.answer d.span d.costs d.choices d.costs' d.choices' u R.costs R.choices R.rows K.costs_after K.choices_after

-- a plan or 12 is never 23
solved_not_23 : (f : Cost) (n : ℕ) → number (solved f n) ≡ 23 → ⊥
solved_not_23 none n e = absurd (let z : ◌≡◌ {A = ℕ} 12 23 = sym (number_refusal 12) ∙ e in omega arith)
solved_not_23 (some k) n e = absurd (omega (arith, e))

-- an edit that nothing refuses beforehand, and that does as a keeping call
module _ (d : Call) (z : number_before d ≡ 0) (K : Keeps d) where
  -- with memory enough, on a sheet that is accepted, the cheapest cost decides
  fresh_solved : d.answer ≡ solved (cheapest (asked d)) (weighed (asked d))
  fresh_solved =
      let P = edit_passed d z in
      K.answer ∙ accepted_solved d.sheet (length d.output) (length d.costs) (length d.choices) d.span (record { sheet = P.sheet; reads = P.reads; enough = P.enough })

  -- so the tables were used
  pub fresh_used : used d.answer ≡ true
  fresh_used = ap used fresh_solved ∙ solved_used (cheapest (asked d)) (weighed (asked d))

  -- and the span's entries are kept of its instance
  pub fresh_kept : Kept (asked d) (within d.span d.costs') (within d.span d.choices')
  fresh_kept = keeps_kept d K fresh_used

  -- and all is as the list's edits promise
  pub fresh_as : AsFresh d
  fresh_as = record {
    refused = λ n. absurd (n z);
    fresh = λ y. (K, fresh_used);
    never_23 = λ p. solved_not_23 (cheapest (asked d)) (weighed (asked d)) (sym (ap number fresh_solved) ∙ p);
  }

-- an edit that something refuses beforehand
refused_as : (d : Call) (E : Edits d) (n : ℕ) → number_before d ≡ suc n → AsFresh d
refused_as d E n q =
    let R = refusing d E n q in
    record {
      refused = λ y. (R.untouched, R.unused);
      fresh = λ z. absurd (omega (arith, q, z));
      never_23 = λ p. clash (sym R.listed ∙ ap (one_of before_numbers) (sym R.number_is ∙ p));
    }

-- ---- whose tables stand in the span

-- the span's entries are kept of the sheet last taken, if any
abbrev pub Holds : Last → List ℕ → List ℕ → Type 0
Holds nothing t u = Unit {0}
Holds (taken I) t u = Kept I t u

module _ (l : Last) (d : Call) (H : Holds l (within d.span d.costs) (within d.span d.choices)) where
  -- what a call holds after it, by the state
  abbrev After : Last → Type 0
  After m = Holds m (within d.span d.costs') (within d.span d.choices')

  -- they are the same after a call that leaves the tables
  holds_same : d.costs' ≡ d.costs → d.choices' ≡ d.choices → After l
  holds_same c u = subst₂ (Holds l) (ap (within d.span) (sym c)) (ap (within d.span) (sym u)) H

  -- the state by whether the tables were used
  by_use : (m : Last) → (used d.answer ≡ true → After m) → (used d.answer ≡ false → (d.costs' ≡ d.costs) × (d.choices' ≡ d.choices))
      → After (cond (used d.answer) m l)
  by_use m taking leaving = go (used d.answer) refl
    where
      go : (b : Bool) → used d.answer ≡ b → After (cond b m l)
      go true u = taking u
      go false u = holds_same (leaving u).0 (leaving u).1

  -- an edit in the rule, where nothing refuses it beforehand, does as a keeping call
  pub edit_keeps : Edits d → Allowed l editing d → number_before d ≡ 0 → Keeps d
  edit_keeps E A z =
      let w = A z in
      E.in_rule z w.0 (subst (λ (m : Last). Holds m (within d.span d.costs) (within d.span d.choices)) w.1 H) w.2

  -- so every edit in the rule is as fresh
  pub edit_fresh : Edits d → Allowed l editing d → AsFresh d
  edit_fresh E A = go (number_before d) refl
    where
      go : (n : ℕ) → number_before d ≡ n → AsFresh d
      go zero q = fresh_as d q (edit_keeps E A q)
      go (suc n) q = refused_as d E n q

  -- after a call that does as a keeping call they are kept of its instance, if it used the tables
  keeps_holds : Keeps d → After (next l keeping d)
  keeps_holds K = by_use (taken (asked d)) (keeps_kept d K) (leaves_unused d _ _ K (kept_costs_long (asked d)) (kept_choices_long (asked d)))

  -- after a call in the rule they are kept of the sheet then last taken
  holds_next : (k : Kind) → Does k d → Allowed l k d → After (next l k d)
  holds_next planning D A = by_use nothing (λ u. tt) (leaves_unused d _ _ D (zeros_long (asked d)) (zeros_long (asked d)))
  holds_next keeping D A = keeps_holds D
  holds_next editing D A = go (number_before d) refl
    where
      go : (n : ℕ) → number_before d ≡ n → After (next l editing d)
      go zero q = keeps_holds (edit_keeps D A q)
      go (suc n) q =
          let R = refusing d D n q in
          by_use (taken (asked d)) (λ u. clash (sym u ∙ R.unused)) (λ u. (R.untouched.costs, R.untouched.choices))

-- the same, said of the span s that the call is on
module _ (s : Span) (l : Last) (d : Call) (on : d.span ≡ s) where
  pub holds_now : Holds l (within s d.costs) (within s d.choices) → Holds l (within d.span d.costs) (within d.span d.choices)
  holds_now H = subst (λ (s : Span). Holds l (within s d.costs) (within s d.choices)) (sym on) H

  pub holds_then : Holds l (within s d.costs) (within s d.choices) → (k : Kind) → Does k d → Allowed l k d
      → Holds (next l k d) (within s d.costs') (within s d.choices')
  holds_then H k D A = subst (λ (s : Span). Holds (next l k d) (within s d.costs') (within s d.choices')) on (holds_next l d (holds_now H) k D A)

-- ---- lists of calls

-- Every list of calls on one span whose edits are in the rule: each edit that nothing refuses beforehand answers and leaves what a keeping call does.
pub all_fresh : (cs : List Turn) (s : Span) (l : Last) (t u : List ℕ) → Holds l t u → OnSpan s t u cs → InTheRule l cs → AllFresh cs
unfolding lists.OnSpan lists.InTheRule lists.AllFresh
all_fresh [] s l t u H O R = tt
all_fresh (c ∷ cs) s l t u H O R = (
  λ e. edit_fresh l c.call (holds_now s l c.call O.0 now) (subst (λ (k : Kind). Does k c.call) e O.2) (subst (λ (k : Kind). Allowed l k c.call) e R.0),
  all_fresh cs s (next l c.kind c.call) (within s c.call.costs') (within s c.call.choices')
      (holds_then s l c.call O.0 now c.kind O.2 R.0) O.3 R.1,
)
  where
    now : Holds l (within s c.call.costs) (within s c.call.choices)
    now = subst₂ (Holds l) (sym O.1.0) (sym O.1.1) H
