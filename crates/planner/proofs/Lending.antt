-- What `measure` says of the memory lent, and what the whole of that memory holds once parts of it were used.
use Rattle.std.specs.Prelude.{Ok, Err}
use Rattle.std.proofs.Common.{◌≡◌, ℕ, ◌+◌, ◌^◌, ◌≤◌, Bool, true, false, cond, ◌⊎◌, List, ◌++◌, length, take, drop, sym, refl, ap, ◌∙◌, ap₂, inl, inr, append-nil, arith, length-drop, take-append-drop, drop_of_length-le, length-take, length-take-le, ne_eqb}
use native.Mathlib.Nat.{pow-le-pow_right}
use borrow.Rule.Slice.PartMut.{put_mid}
use Rattle.finite.proofs.Booleans.{clash}
use Rattle.subsets.specs.Costs.{Cost, none, some}
use Rattle.sheet.specs.Limits.{max_services}
use Rattle.sheet.specs.Instance.{Instance, WellFormed, instance}
use Rattle.sheet.specs.Refusals.{one_of, first_applying, refusal, number_of}
use Rattle.sheet.specs.Reading.{reader_numbers, reading}
use Rattle.sheet.specs.declared.Sheet.{Sheet}
use Rattle.sheet.specs.declared.Refusal.{Refusal}
use Rattle.sheet.specs.Reading.{Reading}
use Rattle.sheet.proofs.Groups.{number_refusal, reading_number}
use Rattle.embedding.specs.First.{first_plan, places}
use Rattle.lending.specs.Spans.{within, replaced}
use Rattle.lending.specs.Rules.{lender_rules, room}
use Rattle.lending.specs.declared.Span.{Span}
use Rattle.lending.proofs.Spans.{replaced_same, replaced_front}
use Rattle.lending.proofs.Rules.{lender_numbers, lender_listed, room_refused}
use Rattle.planner.specs.Answers.{Planned, unplanned, entries, solved, lent, answered, planned}
use Rattle.planner.specs.Lent.{used, front_after, OutputAfter}
use Rattle.planner.specs.Inner.Prepared.{measured}

-- a row has at most as many entries as there can be sets
pub sets_le : (I : Instance) → WellFormed I → 2 ^ I.r ≤ 2 ^ max_services
sets_le I W = pow-le-pow_right {n = 2} (omega arith) W.services

-- with memory enough the tables are used
pub solved_used : (f : Cost) (n : ℕ) → used (solved f n) ≡ true
unfolding refusal
solved_used none n = refl
solved_used (some k) n = refl

-- a table that was not used is as it was
pub unused_stays : (I : Instance) (a : Planned) (span : Span) (front table : List ℕ) → used a ≡ false → table ≡ front_after I a span front table
unused_stays I a span front table e =
    sym (ap (λ (b : Bool). replaced span (cond b (front ++ drop (entries I) (within span table)) (within span table)) table) e ∙ replaced_same span table)

-- with a refusal that the reader gave the tables are not used
pub handed_on : (bytes : List ℕ) (f : Refusal) → reading bytes ≡ Err f → used (unplanned f 0) ≡ false
handed_on bytes f e = ne_eqb (number_of f) 12 (λ q. clash (sym (reading_number bytes f e) ∙ ap (one_of reader_numbers) q))

-- ---- as `measure` answers

module _ (I : Instance) (output costs choices : ℕ) (span : Span) where
  -- the number of the lender's refusal
  abbrev number_lent : ℕ
  number_lent = first_applying (lender_rules I.r (entries I) output costs choices span)

  -- a refusal of the lender
  measured_refused : (f : Refusal) → Err f ≡ room number_lent → unplanned f 0 ≡ lent number_lent I
  measured_refused f e =
      let w = room_refused number_lent f e in
      ap (λ (g : Refusal). unplanned g 0) w.2 ∙ sym (ap (λ (n : ℕ). lent n I) w.1)

  -- with it the tables are not used
  measured_unused : (f : Refusal) → Err f ≡ room number_lent → used (unplanned f 0) ≡ false
  measured_unused f e =
      let w = room_refused number_lent f e in
      let number : number_of f ≡ number_lent = ap number_of w.2 ∙ number_refusal _ ∙ sym w.1 in
      ne_eqb (number_of f) 12 (λ q. clash (sym (lender_listed I.r (entries I) output costs choices span w.0 w.1) ∙ ap (one_of lender_numbers) (sym w.1 ∙ sym number ∙ q)))

-- ---- a sheet read, and memory measured for it

module _ (bytes : List ℕ) (output costs choices : ℕ) (span : Span) where
  -- a refusal is the reader's, or the lender's for an accepted sheet
  pub refused_by : (f : Refusal) → measured (reading bytes) (instance bytes) output costs choices span ≡ Err f
      → (reading bytes ≡ Err f) ⊎ ((h : Sheet) × (reading bytes ≡ Ok h) × (Err f ≡ room (number_lent (instance bytes) output costs choices span)))
  refused_by f e = go (reading bytes) refl e
    where
      go : (r : Reading) → reading bytes ≡ r → measured r (instance bytes) output costs choices span ≡ Err f
          → (reading bytes ≡ Err f) ⊎ ((h : Sheet) × (reading bytes ≡ Ok h) × (Err f ≡ room (number_lent (instance bytes) output costs choices span)))
      go (Err g) q w = inl (q ∙ ap Err (let z : g ≡ f = cc in z))
      go (Ok h) q w = inr (h, q, sym w)

  -- it is the planner's, and with it the tables are not used
  pub refused_planned : (f : Refusal) → measured (reading bytes) (instance bytes) output costs choices span ≡ Err f
      → (unplanned f 0 ≡ planned bytes output costs choices span) × (used (unplanned f 0) ≡ false)
  unfolding planned
  refused_planned f e = go (refused_by f e)
    where
      on : (r : Reading) → reading bytes ≡ r → answered r (instance bytes) output costs choices span ≡ answered (reading bytes) (instance bytes) output costs choices span
      on r q = ap (λ (o : Reading). answered o (instance bytes) output costs choices span) (sym q)

      go : (reading bytes ≡ Err f) ⊎ ((h : Sheet) × (reading bytes ≡ Ok h) × (Err f ≡ room (number_lent (instance bytes) output costs choices span)))
          → (unplanned f 0 ≡ answered (reading bytes) (instance bytes) output costs choices span) × (used (unplanned f 0) ≡ false)
      go (inl q) = (on (Err f) q, handed_on bytes f q)
      go (inr (h, q, w)) =
          (measured_refused (instance bytes) output costs choices span f w ∙ on (Ok h) q, measured_unused (instance bytes) output costs choices span f w)

-- ---- parts put back

-- the rows are lent on as the first k entries of the span
pub rows_lent : (span : Span) (table : List ℕ) (k n : ℕ) → k ≡ n → span.first + span.number ≤ length table → n ≤ span.number
    → length (take k (drop span.first table)) ≡ n
rows_lent span table k n e fits long =
    length-take-le k (drop span.first table) (omega (arith, length-drop span.first table)) ∙ e

-- a table whose rows are back
pub table_lifted : (I : Instance) (a : Planned) (f : Cost) (n : ℕ) (span : Span) (front table part : List ℕ) (k : ℕ) → k ≡ entries I
    → span.first + span.number ≤ length table → entries I ≤ span.number → a ≡ solved f n → part ≡ front
    → put_mid span.first k table part ≡ front_after I a span front table
table_lifted I a f n span front table part k m fits long e p =
    ap₂ (λ (j : ℕ) (l : List ℕ). put_mid span.first j table l) m p
    ∙ sym (ap (λ (b : Bool). replaced span (cond b (front ++ drop (entries I) (within span table)) (within span table)) table) (ap used e ∙ solved_used f n)
    ∙ replaced_front span table fits front (entries I) long)

-- the output whose first part was written
pub output_lifted : (I : Instance) → (a : Planned) (output part : List ℕ) → OutputAfter I a (take I.r output) part → OutputAfter I a output (part ++ drop I.r output)
output_lifted I (Ok p) output part s =
    let none = drop_of_length-le (take I.r output) {i = I.r} (omega (arith, length-take I.r output)) in
    ap (λ (l : List ℕ). l ++ drop I.r output) (s ∙ ap (λ (l : List ℕ). places I.r (first_plan I) ++ l) none ∙ append-nil (places I.r (first_plan I)))
output_lifted I (Err u) output part s = ap (λ (l : List ℕ). l ++ drop I.r output) s ∙ take-append-drop I.r output
