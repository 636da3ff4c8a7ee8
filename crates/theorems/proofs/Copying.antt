-- What the definitions of the tidy copy give: the work behind the theorems about it.
use Prim.Native.Nat.{ℕ, ◌+◌, ◌<◌}
use mathlib.Core.Logic.{◌↔◌, ◌⊎◌, inl, inr, ⊎_elim}
use mathlib.Core.Path.{◌≡◌, sym, ap, ◌∙◌}
use mathlib.Core.List.{List, ◌++◌}
use lib.ListN.{length, take, drop, get_or}
use lib.Seq.{take_at}
use Rattle.sheet.specs.Refusals.{first_applying}
use Rattle.sheet.specs.Reading.{Reading, reading}
use Rattle.sheet.specs.Instance.{Instance, WellFormed, instance}
use Rattle.sheet.specs.Said.{Said}
use Rattle.sheet.specs.Records.{pair_record}
use Rattle.sheet.specs.declared.Sheet.{Sheet}
use Rattle.sheet.specs.declared.Pair.{Pair}
use Rattle.sheet.specs.declared.Refusal.{Refusal}
use Rattle.std.specs.Prelude.{Ok, Err, Some}
use Rattle.sheet.proofs.Promises.{well_formed, said}
use Rattle.checker.specs.Check.{plan_checked, checked_after, checked}
use Rattle.planner.specs.Answers as plans
use Rattle.lending.specs.Rules.{lender_rules}
use Rattle.lending.specs.declared.Span.{Span}
use Rattle.planner.specs.Answers.{entries, lent, planned}
use Rattle.tidy.specs.Copy.{copy_length, tidied}
use Rattle.tidy.specs.Answers as answers
use Rattle.tidy.specs.Answers.{tidy_numbers, written, tidy_answer, output_after}
use Rattle.tidy.specs.Agree.{Agree}
use Rattle.tidy.proofs.Accepted.{accepted}
use Rattle.tidy.proofs.Agreeing.{agree_iff}
use Rattle.tidy.proofs.Bounds.{copy_bytes}
use Rattle.tidy.proofs.Answers.{tidy_answered, tidy_written}
use Rattle.tidy.proofs.Copies.{same_copy}
use Rattle.tidy.proofs.Fields.{tidy_sheet}
use Rattle.tidy.proofs.Rising.{copy_rises}
use Rattle.tidy.proofs.Lengths.{copied_length}
use Rattle.theorems.proofs.Lent.{front_written}
use Rattle.theorems.specs.Promised.{Given, SheetLeft}

-- ---- the answer, and the output after it

pub either : (bytes : List ℕ) (n : ℕ) →
    ((m : ℕ) × (tidy_answer bytes n ≡ Ok m)) ⊎ ((f : Refusal) × (tidy_answer bytes n ≡ Err f) × Given tidy_numbers f)
either bytes n = ⊎_elim inl (λ a. inr (a.0, a.1, record { grouped = a.2; listed = a.3 })) (tidy_answered bytes n)

pub left : (bytes output output' : List ℕ) (a : answers.Written) →
    a ≡ tidy_answer bytes (length output) →
    output' ≡ output_after (tidied (instance bytes)) a output →
    SheetLeft (tidied (instance bytes)) a output output'
unfolding output_after
left bytes output output' a e o =
    record {
      written = λ n q.
          let w = tidy_written bytes (length output) n (sym e ∙ q) in
          let l : n ≡ length (tidied (instance bytes)) = w.1 ∙ sym (copied_length (instance bytes)) in
          let f : output' ≡ tidied (instance bytes) ++ drop n output = o ∙ ap (λ (b : answers.Written). output_after (tidied (instance bytes)) b output) q in
          (l, ap (take n) f ∙ take_at (tidied (instance bytes)) (drop n output) n (sym l), front_written n (tidied (instance bytes)) output output' (sym l) w.2 f);
      refused = λ f q. o ∙ ap (λ (b : answers.Written). output_after (tidied (instance bytes)) b output) q;
    }

-- ---- the copy

pub says_the_same : (I : Instance) → WellFormed I → Said I →
    ((k : Sheet) × (reading (tidied I) ≡ Ok k)) × (instance (tidied I) ≡ I) × ((n : ℕ) → get_or (tidied I) n 0 < 256)
says_the_same I W S = ((_, accepted I W S.root_parent), same_copy I W S, copy_bytes I W S.root_parent)

-- each pair of a copy comes before the next
pub rises : (I : Instance) → WellFormed I → Said I → (k : Sheet) → reading (tidied I) ≡ Ok k → (n : ℕ) (p q : Pair) →
    pair_record k (tidied I) n ≡ Some p → pair_record k (tidied I) (n + 1) ≡ Some q →
    (p.service < q.service) ⊎ ((p.service ≡ q.service) × (p.cabinet < q.cabinet))
rises I W S k e n p q f g =
    let h : k ≡ tidy_sheet I = its_sheet (sym e ∙ accepted I W S.root_parent) in
    copy_rises I W S.root_parent n p q
    (ap (λ (x : Sheet). pair_record x (tidied I) n) (sym h) ∙ f)
    (ap (λ (x : Sheet). pair_record x (tidied I) (n + 1)) (sym h) ∙ g)
  where
    its_sheet : {h k : Sheet} → ◌≡◌ {A = Reading} (Ok h) (Ok k) → h ≡ k
    its_sheet e = cc

-- a call that answers by the instance alone, once a sheet is accepted, answers for the copy as for the sheet
module _ (bytes : List ℕ) (h : Sheet) (reads : reading bytes ≡ Ok h) where
  abbrev I : Instance
  I = instance bytes

  abbrev copy : List ℕ
  copy = tidied I

  pub same : ((k : Sheet) × (reading copy ≡ Ok k)) × (instance copy ≡ I) × ((n : ℕ) → get_or copy n 0 < 256)
  same = says_the_same I (well_formed bytes h reads) (said bytes h reads)

  pub same_planned : (output costs choices : ℕ) (span : Span) → planned copy output costs choices span ≡ planned bytes output costs choices span
  unfolding planned
  same_planned output costs choices span =
      ap (λ (r : Reading). plans.answered r (instance copy) output costs choices span) same.0.1
      ∙ ap (λ (J : Instance). lent (first_applying (lender_rules J.r (entries J) output costs choices span)) J) same.1
      ∙ sym (ap (λ (r : Reading). plans.answered r I output costs choices span) reads)

  pub same_checked : (plan : List ℕ) → checked copy plan ≡ checked bytes plan
  unfolding checked checked_after
  same_checked plan =
      ap (λ (r : Reading). checked_after r (instance copy) plan) same.0.1
      ∙ ap (λ (J : Instance). plan_checked J plan) same.1
      ∙ sym (ap (λ (r : Reading). checked_after r I plan) reads)

  pub same_tidied : (n : ℕ) → tidy_answer copy n ≡ tidy_answer bytes n
  unfolding tidy_answer answers.answered
  same_tidied n =
      ap (λ (r : Reading). answers.answered r (instance copy) n) same.0.1
      ∙ ap (λ (J : Instance). written (copy_length J) n) same.1
      ∙ sym (ap (λ (r : Reading). answers.answered r I n) reads)

-- equal copies have the same instance
pub equal : (bytes : List ℕ) (h : Sheet) (reads : reading bytes ≡ Ok h) (others : List ℕ) (k : Sheet) (reads' : reading others ≡ Ok k) →
    (tidied (instance bytes) ≡ tidied (instance others)) ↔ Agree h bytes k others
equal bytes h reads others k reads' =
    let agree = agree_iff bytes h reads others k reads' in
    (λ e. agree.0 (sym (same bytes h reads).1 ∙ ap instance e ∙ (same others k reads').1), λ A. ap tidied (agree.1 A))
