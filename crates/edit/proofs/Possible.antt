-- Some answer and some memory after an edit stand in its contract, for every sheet, number, memory and span.
use Rattle.std.specs.Prelude.{Ok, Err}
use Rattle.std.proofs.Common.{◌≡◌, ℕ, zero, suc, ◌+◌, ◌<◌, ◌≤◌, Bool, true, false, ◌&&◌, ltb, List, ◌++◌, length, take, drop, sym, refl, ap, ◌∙◌, inl, append-nil, arith, drop_of_length-le, length-take, length-take-le, ltb-true, lt-ltb}
use borrow.Rule.Slice.PartMut.{put_mid}
use Rattle.subsets.specs.Costs.{Cost, none, some}
use Rattle.subsets.specs.Tree.{under}
use Rattle.sheet.specs.Instance.{Instance, WellFormed, instance}
use Rattle.sheet.specs.Refusals.{refusal}
use Rattle.sheet.proofs.Promises.{well_formed}
use Rattle.embedding.specs.Plan.{cheapest}
use Rattle.embedding.specs.First.{first_plan, places}
use Rattle.embedding.specs.Splits.{weighed}
use Rattle.embedding.proofs.First.{places_length}
use Rattle.lending.specs.declared.Span.{Span}
use Rattle.lending.proofs.Rules.{enough_iff}
use Rattle.planner.specs.Answers.{Planned, unplanned, entries, solved}
use Rattle.planner.specs.Lent.{OutputAfter}
use Rattle.planner.specs.Kept as kept
use Rattle.planner.specs.Kept.{Kept}
use Rattle.planner.specs.Inner.Tables.{cost_entry, choice_entry}
use Rattle.edit.specs.Calls.{called}
use Rattle.edit.specs.Changed.{Changed}
use Rattle.edit.specs.Edits.{Edits}
use Rattle.edit.specs.Inner.Parts.{Comes, Reworks}
use Rattle.edit.proofs.Accepting.{first_accepted}
use Rattle.edit.proofs.Before.{Passed, passed}
use Rattle.edit.proofs.Lifting.{number_at, refused_with, lifted}
use Rattle.edit.proofs.Tables.{rows_of, rows_length, rows_stay, rows_whole, costs_off, choices_off}

module _ (sheet : List ℕ) (e : ℕ) (output costs choices : List ℕ) (span : Span) where
  abbrev I : Instance
  I = instance sheet

  -- the answer of a planning call that has memory enough
  abbrev answer : Planned
  answer = solved (cheapest I) (weighed I)

  -- its plan in the first r places of the output
  abbrev output_with : Planned → List ℕ
  output_with (Ok p) = places I.r (first_plan I)
  output_with (Err u) = take I.r output

  -- the cost rows that are written: those of the cabinets on the path
  abbrev on_path : ℕ → Bool
  on_path c = under I.parent c e

  -- the choice rows that are written: those of the cabinets whose parents are on the path
  abbrev below_path : ℕ → Bool
  below_path c = ltb 0 c && on_path (I.parent c)

  -- a choice row is not written exactly if it is the root's, or the parent is off the path
  below_off : (c : ℕ) → (0 < c → on_path (I.parent c) ≡ false) → below_path c ≡ false
  below_off c o = go (ltb 0 c) refl
    where
      go : (b : Bool) → ltb 0 c ≡ b → b && on_path (I.parent c) ≡ false
      go true q = o (ltb-true 0 c q)
      go false q = refl

  off_below : (c : ℕ) → below_path c ≡ false → 0 < c → on_path (I.parent c) ≡ false
  off_below c h z = ap (λ (b : Bool). b && on_path (I.parent c)) (sym (lt-ltb 0 c z)) ∙ h

  -- the rows lent, and the same with the written ones put in place of theirs
  abbrev rows_in : List ℕ → List ℕ
  rows_in list = take (entries I) (drop span.first list)

  abbrev costs_with : List ℕ
  costs_with = rows_of I on_path (cost_entry I) (rows_in costs)

  abbrev choices_with : List ℕ
  choices_with = rows_of I below_path (choice_entry I) (rows_in choices)

  module _ (z : number_at sheet e (length output) (length costs) (length choices) span ≡ 0) where
    P : Passed sheet e (length output) (length costs) (length choices) span
    P = passed sheet e (length output) (length costs) (length choices) span z

    W : WellFormed I
    W = well_formed sheet P.sheet P.reads

    enough : (I.r ≤ length output) × (span.first + span.number ≤ length costs) × (span.first + span.number ≤ length choices) × (entries I ≤ span.number)
    enough = (enough_iff I.r (entries I) (length output) (length costs) (length choices) span).0 P.enough

    -- the output, as long as the part that is written
    output_length : (a : Planned) → length (output_with a) ≡ I.r
    output_length (Ok p) = places_length I.r (first_plan I)
    output_length (Err u) = length-take-le I.r output enough.0

    output_after : (a : Planned) → OutputAfter I a (take I.r output) (output_with a)
    output_after (Ok p) =
        sym (ap (λ (l : List ℕ). places I.r (first_plan I) ++ l) (drop_of_length-le (take I.r output) {i = I.r} (omega (arith, length-take I.r output)))
        ∙ append-nil (places I.r (first_plan I)))
    output_after (Err u) = refl

    -- the plan is accepted by the check
    comes : (f : Cost) → cheapest I ≡ f → Comes sheet (solved f (weighed I)) (take I.r output) (output_with (solved f (weighed I)))
    comes none q = (inl refl, refl)
    comes (some k) q = first_accepted sheet P.sheet P.reads k q (places I.r (first_plan I)) refl

    -- tables kept of an instance that differs in that cabinet alone become those of a keeping call
    fresh : (J : Instance) → Kept J (rows_in costs) (rows_in choices) → Changed e J I → (costs_with ≡ kept.kept_costs I) × (choices_with ≡ kept.kept_choices I)
    unfolding kept.kept_costs kept.kept_choices
    fresh J K E = (
      rows_whole I on_path (cost_entry I) (rows_in costs) (λ c x h o l. costs_off e J I E W.parents (rows_in costs) (rows_in choices) K c x h o l),
      rows_whole I below_path (choice_entry I) (rows_in choices) (λ c x h o l. choices_off e J I E W.parents (rows_in costs) (rows_in choices) K c x h (off_below c o) l),
    )

    reworks : Reworks sheet I e (take I.r output) (output_with answer) (rows_in costs) costs_with (rows_in choices) choices_with answer
    reworks = record {
      outcome = comes (cheapest I) refl;
      costs = λ c x h o l. rows_stay I on_path (cost_entry I) (rows_in costs) c x h o l;
      choices = λ c x h o l. rows_stay I below_path (choice_entry I) (rows_in choices) c x h (below_off c o) l;
      in_rule = λ J K E. let F = fresh J K E in (refl, output_after answer, F.0, F.1);
    }

    possible : Edits (called sheet e output costs choices span answer (output_with answer ++ drop I.r output) (put_mid span.first (entries I) costs costs_with) (put_mid span.first (entries I) choices choices_with))
    possible =
        lifted sheet e output costs choices span answer (output_with answer) costs_with choices_with enough.0 enough.1 enough.2 enough.3 (output_length answer)
        (rows_length I on_path (cost_entry I) (rows_in costs)) (rows_length I below_path (choice_entry I) (rows_in choices)) reworks z

  pub some_outcome : (a : Planned) × (output' : List ℕ) × (costs' : List ℕ) × (choices' : List ℕ) × Edits (called sheet e output costs choices span a output' costs' choices')
  some_outcome = go (number_at sheet e (length output) (length costs) (length choices) span) refl
    where
      go : (n : ℕ) → number_at sheet e (length output) (length costs) (length choices) span ≡ n
          → (a : Planned) × (output' : List ℕ) × (costs' : List ℕ) × (choices' : List ℕ) × Edits (called sheet e output costs choices span a output' costs' choices')
      go zero q = (answer, output_with answer ++ drop I.r output, put_mid span.first (entries I) costs costs_with, put_mid span.first (entries I) choices choices_with, possible q)
      go (suc n) q = (unplanned (refusal (suc n)) 0, output, costs, choices, refused_with sheet e output costs choices span n q)
