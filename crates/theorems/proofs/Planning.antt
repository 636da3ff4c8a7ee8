-- What the planner's definition gives: the work behind the demands.
use Prim.Native.Nat.{ℕ, zero, suc, ◌+◌, ◌-◌, ◌*◌, ◌^◌, ◌≤◌, ◌<◌}
use native.Mathlib.Omega.{arith}
use mathlib.Core.Logic.{◌↔◌, ◌⊎◌, inl, inr}
use mathlib.Core.Path.{◌≡◌, refl, sym, ap, ◌∙◌, subst}
use mathlib.Core.Bool.{true, false}
use mathlib.Core.List.{List, [], ◌∷◌}
use lib.ListN.{length, get_or, take, drop, replicate}
use lib.Seq.{take_at}
use Rattle.finite.proofs.Middles.{mid_part}
use Rattle.subsets.specs.Costs.{Cost, none, some}
use Rattle.subsets.specs.Order.{NotAfter}
use Rattle.subsets.specs.Inner.Count.{triples, pairs}
use Rattle.subsets.proofs.Count.{triples_le}
use Rattle.subsets.proofs.Provided.{provided_some}
use Rattle.sheet.specs.Instance.{Instance, WellFormed, instance}
use Rattle.sheet.specs.Refusals.{Rule, one_of, first_applying, refusal, number_of}
use Rattle.sheet.specs.Reading.{reader_numbers, reading}
use Rattle.sheet.specs.declared.Sheet.{Sheet}
use Rattle.sheet.specs.declared.Refusal.{Refusal}
use Rattle.sheet.specs.Reading.{Reading}
use Rattle.std.specs.Prelude.{Ok, Err}
use Rattle.sheet.proofs.Groups.{number_refusal, own_group, reading_group, one_of_left, listed, first_listed, reading_number}
use Rattle.sheet.proofs.Promises.{well_formed}
use Rattle.embedding.specs.Definition1.{Feasible, cost}
use Rattle.embedding.specs.Limits.{Limits}
use Rattle.embedding.specs.Road.{road}
use Rattle.embedding.specs.Plan.{place, valid, plan_cost, worth, cheapest}
use Rattle.embedding.specs.First.{first_plan, places}
use Rattle.embedding.specs.Splits.{placeable, weighed}
use Rattle.embedding.proofs.Services.{worth_ext}
use Rattle.embedding.proofs.First.{places_length, places_at, first_valid}
use Rattle.embedding.proofs.Theorems.{cheapest_mapping, cheapest_none, first_mapping}
use Rattle.checker.specs.Check.{checked}
use Rattle.checker.proofs.Answers.{accepted_iff}
use Rattle.planner.specs.Answers as plans
use Rattle.lending.specs.Rules.{lender_rules}
use Rattle.lending.specs.declared.Span.{Span}
use Rattle.lending.proofs.Rules.{enough_iff}
use Rattle.lending.proofs.Spans.{replaced_front}
use Rattle.planner.specs.Answers.{Planned, plan_of, unplanned, number, entries, Enough, plan_numbers, solved, lent, planned}
use Rattle.planner.specs.Lent.{used, front_after, table_after, OutputAfter}
use Rattle.planner.specs.Kept.{kept_costs, kept_choices}
use Rattle.planner.proofs.Solved.{accepted_solved, used_solved}
use Rattle.planner.proofs.After.{after_used, after_unused, after_length, after_others}
use Rattle.edit.proofs.Tables.{kept_after}
use Rattle.edit.proofs.Lists.{zeros_long, kept_costs_long, kept_choices_long}
use Rattle.theorems.proofs.Lent.{front_written}
use Rattle.theorems.specs.Promised.{Given, Best, Stays, Written, Left, KeptLeft}

-- ---- the number of a refusal

given : (n : ℕ) → one_of plan_numbers n ≡ true → Given plan_numbers (refusal n)
given n l = record { grouped = own_group (refusal n) n refl; listed = ap (one_of plan_numbers) (number_refusal n) ∙ l }

-- the reader's refusals are the planner's
reader_given : (bytes : List ℕ) (f : Refusal) → reading bytes ≡ Err f → Given plan_numbers f
reader_given bytes f e =
    record {
      grouped = reading_group bytes f e;
      listed = one_of_left reader_numbers (10 ∷ 24 ∷ 11 ∷ 12 ∷ []) (number_of f) (reading_number bytes f e);
    }

-- ---- every answer of the planner

-- a plan, or one of the planner's refusals in its own group, with a count only where it is 12
abbrev pub Answered : Planned → Type 0
Answered a =
    ((k : ℕ) × (n : ℕ) × (a ≡ plan_of k n))
    ⊎ ((f : Refusal) × (n : ℕ) × (a ≡ unplanned f n) × Given plan_numbers f × ((number_of f ≡ 12 → ⊥) → n ≡ 0))

solved_answered : (c : Cost) (n : ℕ) → Answered (solved c n)
solved_answered none n =
    inr (refusal 12, n, refl, given 12 refl, λ h. absurd (h (number_refusal 12)))
solved_answered (some k) n = inl (k, n, refl)

lent_answered : (I : Instance) (rules : List Rule) → listed (one_of plan_numbers) rules ≡ true → (m : ℕ) → first_applying rules ≡ m → Answered (lent m I)
lent_answered I rules l zero e = solved_answered (cheapest I) (weighed I)
lent_answered I rules l (suc n) e = inr (refusal (suc n), 0, refl, given (suc n) (first_listed (one_of plan_numbers) rules l n e), λ h. refl)

pub answered : (bytes : List ℕ) (output costs choices : ℕ) (span : Span) → Answered (planned bytes output costs choices span)
unfolding planned
answered bytes output costs choices span = go (reading bytes) refl
  where
    go : (r : Reading) → reading bytes ≡ r → Answered (plans.answered r (instance bytes) output costs choices span)
    go (Err f) e = inr (f, 0, refl, reader_given bytes f e, λ h. refl)
    go (Ok h) e =
        let rules : List Rule = lender_rules (instance bytes).r (entries (instance bytes)) output costs choices span in
        lent_answered (instance bytes) rules refl (first_applying rules) refl

-- ---- a plan or 12

-- the cheapest cost is the one answered
pub plan_cheapest : (bytes : List ℕ) (output costs choices : ℕ) (span : Span) (k n : ℕ) → planned bytes output costs choices span ≡ plan_of k n →
    (h : Sheet) × (reading bytes ≡ Ok h) × Enough (instance bytes) output costs choices span × (cheapest (instance bytes) ≡ some k)
plan_cheapest bytes output costs choices span k n e =
    let s = used_solved bytes output costs choices span (ap used e) in
    (s.sheet, s.reads, s.enough, go (cheapest (instance bytes)) (sym (accepted_solved bytes output costs choices span s) ∙ e))
  where
    go : (f : Cost) → solved f (weighed (instance bytes)) ≡ plan_of k n → f ≡ some k
    go none q = absurd (let z : ◌≡◌ {A = ℕ} 0 1 = cc in omega arith)
    go (some m) q = ap some (ap plans.cost q)

module _ (I : Instance) (W : WellFormed I) where
  -- with a cheapest cost or without one, the answer is the best
  best : (f : Cost) → cheapest I ≡ f → Best I (solved f (weighed I))
  best none e = inr (refl, (cheapest_none I W).0 e)
  best (some k) e =
      let h = (cheapest_mapping I W k).0 e in
      let w = h.0 in
      inl (k, refl, (w.0, (w.1, w.2, w.3, w.4)), h.1)

  -- at most (s - 1) × 3^r splits are weighed
  pub weighed_le : weighed I ≤ (I.s - 1) * 3 ^ I.r
  unfolding weighed triples pairs
  weighed_le = triples_le I.r I.s (placeable I)

pub best_answer :
    (bytes : List ℕ) (h : Sheet) → reading bytes ≡ Ok h →
    (output costs choices : ℕ) (span : Span) → Enough (instance bytes) output costs choices span → Best (instance bytes) (planned bytes output costs choices span)
best_answer bytes h reads output costs choices span enough =
    subst (Best (instance bytes)) (sym (accepted_solved bytes output costs choices span record { sheet = h; reads = reads; enough = enough }))
    (best (instance bytes) (well_formed bytes h reads) (cheapest (instance bytes)) refl)

-- a best answer is a plan exactly when there is a mapping
pub exactly : (I : Instance) (a : Planned) → Best I a →
    (number a ≡ 0) ↔ ((π : ℕ → ℕ) × (ρ : ℕ → List ℕ) × Feasible (road I) π ρ × Limits I π ρ)
exactly I a (inl (k, e, w, r)) = (λ z. (w.0, w.1.0, w.1.1, w.1.2), λ m. ap number e)
exactly I a (inr (e, empty)) =
    (λ z. absurd (let q : number_of (refusal 12) ≡ 0 = sym (ap number e) ∙ z in omega (arith, number_refusal 12)), λ m. absurd (empty m.0 m.1 m.2 m.3))

-- ---- the plan written

-- what stands in the first r places of the output is the first of the cheapest plans
pub first_places : (I : Instance) (k n : ℕ) (output output' : List ℕ) → OutputAfter I (plan_of k n) output output' → take I.r output' ≡ places I.r (first_plan I)
first_places I k n output output' o =
    ap (take I.r) o ∙ take_at (places I.r (first_plan I)) (drop I.r output) I.r (places_length I.r (first_plan I))

-- and so it is its plan, service by service
pub first_written : (I : Instance) (k n : ℕ) (output output' : List ℕ) → OutputAfter I (plan_of k n) output output' → (i : ℕ) → i < I.r → place (take I.r output') i ≡ first_plan I i
first_written I k n output output' o i l = ap (λ (list : List ℕ). get_or list i 0) (first_places I k n output output' o) ∙ places_at I.r (first_plan I) i l

-- it is a valid plan at the cost answered
pub written :
    (bytes output output' : List ℕ) (costs choices : ℕ) (span : Span) (k n : ℕ) →
    planned bytes (length output) costs choices span ≡ plan_of k n →
    OutputAfter (instance bytes) (plan_of k n) output output' →
    (h : Sheet) × (reading bytes ≡ Ok h)
    × (length (take (instance bytes).r output') ≡ (instance bytes).r)
    × (valid (instance bytes) (place (take (instance bytes).r output')) ≡ true)
    × (plan_cost (instance bytes) (place (take (instance bytes).r output')) ≡ k)
unfolding worth
written bytes output output' costs choices span k n e o =
    let I = instance bytes in
    let s = plan_cheapest bytes (length output) costs choices span k n e in
    let W = well_formed bytes s.0 s.1 in
    let same = worth_ext I W (place (take I.r output')) (first_plan I) (first_written I k n output output' o) in
    let p =
    (provided_some (valid I (place (take I.r output'))) (plan_cost I (place (take I.r output'))) k).0
    (same ∙ (provided_some (valid I (first_plan I)) (plan_cost I (first_plan I)) k).1 (first_valid I W k s.3)) in
    (s.0, s.1, ap length (first_places I k n output output' o) ∙ places_length I.r (first_plan I), p.0, p.1)

-- the check accepts it at that cost
pub accepted :
    (bytes output output' : List ℕ) (costs choices : ℕ) (span : Span) (k n : ℕ) →
    planned bytes (length output) costs choices span ≡ plan_of k n →
    OutputAfter (instance bytes) (plan_of k n) output output' →
    checked bytes (take (instance bytes).r output') ≡ Ok k
accepted bytes output output' costs choices span k n e o =
    let p = written bytes output output' costs choices span k n e o in
    (accepted_iff bytes p.0 p.1 (take (instance bytes).r output') k).1 (p.2, p.3, p.4)

-- no mapping of that cost comes before it
pub none_before :
    (bytes output output' : List ℕ) (costs choices : ℕ) (span : Span) (k n : ℕ) →
    planned bytes (length output) costs choices span ≡ plan_of k n →
    OutputAfter (instance bytes) (plan_of k n) output output' →
    (π : ℕ → ℕ) (ρ : ℕ → List ℕ) → Feasible (road (instance bytes)) π ρ → Limits (instance bytes) π ρ → cost (road (instance bytes)) π ρ ≡ k →
    NotAfter (instance bytes).r (place (take (instance bytes).r output')) π
none_before bytes output output' costs choices span k n e o π ρ feasible limits same =
    let I = instance bytes in
    let s = plan_cheapest bytes (length output) costs choices span k n e in
    let at = first_written I k n output output' o in
    λ i l before.
    subst (λ (c : ℕ). c ≤ π i) (sym (at i l))
    (first_mapping I (well_formed bytes s.0 s.1) k s.3 π ρ feasible limits same i l (λ j m. sym (at j (omega arith)) ∙ before j m))

-- ---- the memory lent

-- the output with a plan in it
output_written : (I : Instance) (k n : ℕ) (output output' : List ℕ) → I.r ≤ length output → OutputAfter I (plan_of k n) output output' → Written I.r output output'
output_written I k n output output' h o =
    front_written I.r (places I.r (first_plan I)) output output' (places_length I.r (first_plan I)) h o

module _ (bytes output costs choices output' : List ℕ) (span : Span) (a : Planned)
    (e : a ≡ planned bytes (length output) (length costs) (length choices) span) where
  abbrev I : Instance
  I = instance bytes

  -- the memory was enough for a plan or 12
  room : used a ≡ true → (I.r ≤ length output) × (span.first + span.number ≤ length costs) × (span.first + span.number ≤ length choices) × (entries I ≤ span.number)
  room h =
      let s = used_solved bytes (length output) (length costs) (length choices) span (sym (ap used e) ∙ h) in
      (enough_iff I.r (entries I) (length output) (length costs) (length choices) span).0 s.enough

  room_of_costs : used a ≡ true → (span.first + span.number ≤ length costs) × (entries I ≤ span.number)
  room_of_costs h = let n = room h in (n.1, n.3)

  room_of_choices : used a ≡ true → (span.first + span.number ≤ length choices) × (entries I ≤ span.number)
  room_of_choices h = let n = room h in (n.2, n.3)

  module _ (o : OutputAfter I a output output') where
    planned_output : (k n : ℕ) → a ≡ plan_of k n → Written I.r output output'
    planned_output k n p = output_written I k n output output' (room (ap used p)).0 (subst (λ (b : Planned). OutputAfter I b output output') p o)

    refused_output : (f : Refusal) (n : ℕ) → a ≡ unplanned f n → output' ≡ output
    refused_output f n p = subst (λ (b : Planned). OutputAfter I b output output') p o

-- one table after a call that leaves these entries in front of the span
module _ (I : Instance) (a : Planned) (span : Span) (front table table' : List ℕ) (long : length front ≡ entries I)
    (room : used a ≡ true → (span.first + span.number ≤ length table) × (entries I ≤ span.number)) (after : table' ≡ front_after I a span front table) where
  table_stays : used a ≡ true → Stays span.first (entries I) table table'
  table_stays h = record {
    there = omega (arith, (room h).0, (room h).1);
    length_stays = ap length after ∙ after_length I a span front table long room;
    others = λ i l. ap (λ (t : List ℕ). get_or t i 0) after ∙ after_others I a span front table long room i l;
  }

  table_front : used a ≡ true → take (entries I) (drop span.first table') ≡ front
  table_front h =
      ap (λ (t : List ℕ). take (entries I) (drop span.first t)) (after ∙ after_used I a span front table long room h ∙ replaced_front span table (room h).0 front (entries I) (room h).1)
      ∙ mid_part span.first (entries I) table front (omega (arith, (room h).0, (room h).1)) long

  table_unused : used a ≡ false → table' ≡ table
  table_unused h = after ∙ after_unused I a span front table long room h

-- the memory after a planning call
pub left :
    (bytes output costs choices output' costs' choices' : List ℕ) (span : Span) (a : Planned) →
    a ≡ planned bytes (length output) (length costs) (length choices) span →
    OutputAfter (instance bytes) a output output' →
    costs' ≡ table_after (instance bytes) a span costs →
    choices' ≡ table_after (instance bytes) a span choices →
    Left (instance bytes) a span output costs choices output' costs' choices'
left bytes output costs choices output' costs' choices' span a e o t u =
    let I = instance bytes in
    let zeros : List ℕ = replicate (entries I) 0 in
    let long = zeros_long I in
    let ct = room_of_costs bytes output costs choices output' span a e in
    let cu = room_of_choices bytes output costs choices output' span a e in
    record {
      cleared = λ h. (
        record { zeros = table_front I a span zeros costs costs' long ct t h; stays = table_stays I a span zeros costs costs' long ct t h },
        record { zeros = table_front I a span zeros choices choices' long cu u h; stays = table_stays I a span zeros choices choices' long cu u h },
      );
      untouched = λ h. (table_unused I a span zeros costs costs' long ct t h, table_unused I a span zeros choices choices' long cu u h);
      planned = planned_output bytes output costs choices output' span a e o;
      refused = refused_output bytes output costs choices output' span a e o;
    }

-- the memory after a keeping call
pub left_kept :
    (bytes output costs choices output' costs' choices' : List ℕ) (span : Span) (a : Planned) →
    a ≡ planned bytes (length output) (length costs) (length choices) span →
    OutputAfter (instance bytes) a output output' →
    costs' ≡ front_after (instance bytes) a span (kept_costs (instance bytes)) costs →
    choices' ≡ front_after (instance bytes) a span (kept_choices (instance bytes)) choices →
    KeptLeft (instance bytes) a span output costs choices output' costs' choices'
left_kept bytes output costs choices output' costs' choices' span a e o t u =
    let I = instance bytes in
    let ct = room_of_costs bytes output costs choices output' span a e in
    let cu = room_of_choices bytes output costs choices output' span a e in
    let lt = kept_costs_long I in
    let lu = kept_choices_long I in
    record {
      kept = λ h. (
        kept_after I a span costs choices costs' choices' h (ct h).0 (cu h).0 (ct h).1 t u,
        table_stays I a span (kept_costs I) costs costs' lt ct t h,
        table_stays I a span (kept_choices I) choices choices' lu cu u h,
      );
      untouched = λ h. (table_unused I a span (kept_costs I) costs costs' lt ct t h, table_unused I a span (kept_choices I) choices choices' lu cu u h);
      planned = planned_output bytes output costs choices output' span a e o;
      refused = refused_output bytes output costs choices output' span a e o;
    }
