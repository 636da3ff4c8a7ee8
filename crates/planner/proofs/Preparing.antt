-- What a call makes of a sheet that is read and of memory that is measured for it: the parts lent on, and what the whole holds once they are back.
use Rattle.std.specs.Prelude.{Err}
use Rattle.std.proofs.Common.{◌≡◌, ℕ, ◌+◌, ◌-◌, ◌≤◌, List, ◌++◌, length, take, drop, sym, refl, ap, ◌∙◌, subst, arith, length-take-le}
use borrow.Rule.Slice.PartMut.{put_mid}
use Rattle.sheet.specs.Instance.{Instance, WellFormed, instance}
use Rattle.sheet.specs.Reading.{reading}
use Rattle.sheet.specs.declared.Refusal.{Refusal}
use Rattle.sheet.proofs.Promises.{well_formed}
use Rattle.embedding.specs.Plan.{cheapest}
use Rattle.embedding.specs.Splits.{weighed}
use Rattle.records.specs.Told.{told}
use Rattle.solver.specs.declared.Kept.{Kept}
use Rattle.lending.specs.declared.Span.{Span}
use Rattle.lending.proofs.Rules.{enough_iff}
use Rattle.planner.specs.Answers.{Planned, unplanned, entries, solved, planned}
use Rattle.planner.specs.Lent.{front_after, OutputAfter}
use Rattle.planner.specs.Inner.Decided.{planned_of}
use Rattle.planner.specs.Inner.Prepared.{measured, Stands}
use Rattle.planner.specs.declared.Prepared.{Prepared}
use Rattle.planner.proofs.Kept.{Left-of}
use Rattle.planner.proofs.Lending.{unused_stays, refused_planned, rows_lent, table_lifted, output_lifted}
use Rattle.planner.proofs.Solved.{accepted_solved}

-- what a call answers and leaves that leaves these entries in front of the span, if it uses the tables
pub record Called (bytes output costs choices : List ℕ) (span : Span) (left_costs left_choices : List ℕ) (a : Planned) (output' costs' choices' : List ℕ) : Type 0 where
  pub answer : a ≡ planned bytes (length output) (length costs) (length choices) span
  pub output_after : OutputAfter (instance bytes) a output output'
  pub costs_after : costs' ≡ front_after (instance bytes) a span left_costs costs
  pub choices_after : choices' ≡ front_after (instance bytes) a span left_choices choices

-- a refusal of the reader or the lender
pub called_refused : (bytes output costs choices : List ℕ) (span : Span) (left_costs left_choices : List ℕ) (f : Refusal)
    → measured (reading bytes) (instance bytes) (length output) (length costs) (length choices) span ≡ Err f
    → Called bytes output costs choices span left_costs left_choices (unplanned f 0) output costs choices
called_refused bytes output costs choices span left_costs left_choices f e =
    let R = refused_planned bytes (length output) (length costs) (length choices) span f e in record {
      answer = R.0;
      output_after = refl;
      costs_after = unused_stays (instance bytes) (unplanned f 0) span left_costs costs R.1;
      choices_after = unused_stays (instance bytes) (unplanned f 0) span left_choices choices R.1;
    }

module _ (bytes output costs choices : List ℕ) (span : Span) (p : Prepared) (S : Stands bytes (length output) (length costs) (length choices) span p) where
  abbrev I : Instance
  I = instance bytes

  -- the records' instance is well formed, and the sheet's
  pub whole : WellFormed (told p.records)
  whole = subst WellFormed (sym S.tells) (well_formed bytes S.sheet S.reads)

  pub services_is : p.records.services ≡ I.r
  unfolding told
  services_is = ap (λ (J : Instance). J.r) S.tells

  pub cabinets_is : p.records.cabinets ≡ I.s
  unfolding told
  cabinets_is = ap (λ (J : Instance). J.s) S.tells

  -- the memory is enough
  pub room_is : (I.r ≤ length output) × (span.first + span.number ≤ length costs) × (span.first + span.number ≤ length choices) × (entries I ≤ span.number)
  room_is = (enough_iff I.r (entries I) (length output) (length costs) (length choices) span).0 S.enough

  -- so many entries are lent on
  pub rows_is : p.end - p.first ≡ entries I
  rows_is = omega (arith, S.first, S.end)

  -- the parts that are lent on are of the sizes that the records need
  entries_is : entries I ≡ entries (told p.records)
  entries_is = ap entries (sym S.tells)

  pub places_lent : length (take p.records.services output) ≡ (told p.records).r
  unfolding told
  places_lent = length-take-le _ _ S.places

  rows_lent_of : (table : List ℕ) → span.first + span.number ≤ length table → length (take (p.end - p.first) (drop p.first table)) ≡ entries (told p.records)
  rows_lent_of table fits =
      ap (λ (n : ℕ). length (take (p.end - p.first) (drop n table))) S.first
      ∙ rows_lent span table (p.end - p.first) (entries (told p.records)) (rows_is ∙ entries_is) fits (omega (arith, room_is.3, entries_is))

  pub costs_lent : length (take (p.end - p.first) (drop p.first costs)) ≡ entries (told p.records)
  costs_lent = rows_lent_of costs room_is.1

  pub choices_lent : length (take (p.end - p.first) (drop p.first choices)) ≡ entries (told p.records)
  choices_lent = rows_lent_of choices room_is.2

  -- what the core answers and leaves in the parts
  module _ (left_costs left_choices : Instance → List ℕ) (a : Kept) (o' t' u' : List ℕ)
      (L : Left-of p.records (left_costs (told p.records)) (left_choices (told p.records)) (take p.records.services output) o' t' u' a) where
    answer_is : planned_of a ≡ solved (cheapest I) (weighed I)
    answer_is = subst (λ (J : Instance). planned_of a ≡ solved (cheapest J) (weighed J)) S.tells L.answer

    output_is : OutputAfter I (planned_of a) (take I.r output) o'
    output_is =
        subst (λ (n : ℕ). OutputAfter I (planned_of a) (take n output) o') services_is
        (subst (λ (J : Instance). OutputAfter J (planned_of a) (take p.records.services output) o') S.tells L.output)

    table_is : (table left part : List ℕ) → span.first + span.number ≤ length table → part ≡ left
        → put_mid p.first (p.end - p.first) table part ≡ front_after I (planned_of a) span left table
    table_is table left part fits e =
        ap (λ (n : ℕ). put_mid n (p.end - p.first) table part) S.first
        ∙ table_lifted I (planned_of a) (cheapest I) (weighed I) span left table part (p.end - p.first) rows_is fits room_is.3 answer_is e

    pub called : Called bytes output costs choices span (left_costs I) (left_choices I) (planned_of a)
        (o' ++ drop p.records.services output) (put_mid p.first (p.end - p.first) costs t') (put_mid p.first (p.end - p.first) choices u')
    called = record {
      answer = answer_is ∙ sym (accepted_solved bytes (length output) (length costs) (length choices) span record { sheet = S.sheet; reads = S.reads; enough = S.enough });
      output_after = subst (λ (n : ℕ). OutputAfter I (planned_of a) output (o' ++ drop n output)) (sym services_is) (output_lifted I (planned_of a) output o' output_is);
      costs_after = table_is costs (left_costs I) t' room_is.1 (subst (λ (J : Instance). t' ≡ left_costs J) S.tells L.costs);
      choices_after = table_is choices (left_choices I) u' room_is.2 (subst (λ (J : Instance). u' ≡ left_choices J) S.tells L.choices);
    }
