-- Laws of the answers of the call that writes a copy: the numbers of its refusals, their groups and their order, and what is written.
use Prim.Native.Nat.{ℕ, zero, suc, ◌≤◌, ◌<◌}
use native.Mathlib.Omega.{arith}
use mathlib.Core.Logic.{◌↔◌, ◌⊎◌, inl, inr}
use mathlib.Core.Path.{◌≡◌, refl, sym, ap, ◌∙◌}
use mathlib.Core.Bool.{Bool, true, false, cond}
use mathlib.Core.List.{List, [], ◌∷◌, ◌++◌}
use lib.Dec.{ltb}
use lib.ListN.{length, drop, length-append}
use borrow.Author.Tests.{ltb-true, ltb-false}
use Rattle.sheet.specs.Reading as reader
use Rattle.sheet.specs.Reading.{reading}
use Rattle.sheet.specs.Limits.{max_services, max_cabinets, max_streams, max_pairs}
use Rattle.sheet.specs.Instance.{Instance, WellFormed, instance}
use Rattle.sheet.specs.Refusals.{one_of, first_applying, refusal, number_of, giving, in_order}
use Rattle.sheet.specs.declared.Sheet.{Sheet}
use Rattle.sheet.specs.declared.Refusal.{Refusal}
use Rattle.sheet.specs.Reading.{Reading}
use Rattle.sheet.proofs.Groups.{number_refusal, own_group, reading_group, one_of_left, first_listed, reading_number}
use Rattle.sheet.proofs.Order.{after_reader}
use Rattle.tidy.specs.Copy.{length_with, pair_count, copy_length, tidied}
use Rattle.tidy.specs.Answers.{Written, number, room_rules, all_rules, tidy_numbers, given, written, answered, tidy_answer, output_after}
use Rattle.std.specs.Prelude.{Ok, Err}
use Rattle.tidy.proofs.Barred.{pairs_most}
use Rattle.tidy.proofs.Fourth.{size_most, some_size}
use Rattle.tidy.proofs.Lengths.{copied_length}

-- ---- every answer

-- a length, or one of the call's refusals in its own group
abbrev pub Answered : Written → Type 0
Answered a = ((n : ℕ) × (a ≡ Ok n)) ⊎ ((f : Refusal) × (a ≡ Err f) × (f ≡ refusal (number_of f)) × (one_of tidy_numbers (number_of f) ≡ true))

room_answered : (size n m : ℕ) → first_applying (room_rules size n) ≡ m → Answered (given m size)
room_answered size n zero e = inl (size, refl)
room_answered size n (suc m) e =
    inr (
      refusal (suc m),
      refl,
      own_group (refusal (suc m)) (suc m) refl,
      ap (one_of tidy_numbers) (number_refusal (suc m)) ∙ first_listed (one_of tidy_numbers) (room_rules size n) refl m e,
    )

pub tidy_answered : (bytes : List ℕ) (n : ℕ) → Answered (tidy_answer bytes n)
unfolding tidy_answer answered written
tidy_answered bytes n = go (reading bytes) refl
  where
    go : (r : Reading) → reading bytes ≡ r → Answered (answered r (instance bytes) n)
    go (Ok h) e = room_answered (copy_length (instance bytes)) n _ refl
    go (Err f) e =
        inr (f, refl, reading_group bytes f e, one_of_left reader.reader_numbers (21 ∷ []) (number_of f) (reading_number bytes f e))

-- ---- the order of giving

own_number : (n size : ℕ) → number (given n size) ≡ n
own_number zero size = refl
own_number (suc n) size = number_refusal (suc n)

-- the number of an answer is that of the first rule that applies
pub tidy_first : (bytes : List ℕ) (n : ℕ) → number (tidy_answer bytes n) ≡ first_applying (all_rules bytes n)
unfolding tidy_answer answered written
tidy_first bytes n =
    after_reader bytes (room_rules (copy_length (instance bytes)) n) (number (tidy_answer bytes n))
    (λ h e. ap (λ (r : Reading). number (answered r (instance bytes) n)) e ∙ own_number (first_applying (room_rules (copy_length (instance bytes)) n)) (copy_length (instance bytes)))
    (λ f e. ap (λ (r : Reading). number (answered r (instance bytes) n)) e)

-- the call's rules stand in the order of giving
pub tidy_order : (bytes : List ℕ) (n : ℕ) → in_order giving (all_rules bytes n) ≡ true
unfolding reader.rules in_order
tidy_order bytes n = refl

-- ---- the room for a copy

-- 21 is given exactly where the output is shorter than the copy
pub room_iff : (bytes : List ℕ) (h : Sheet) → reading bytes ≡ Ok h → (n : ℕ) →
    (number (tidy_answer bytes n) ≡ 21) ↔ (n < length (tidied (instance bytes)))
unfolding tidy_answer answered written first_applying
room_iff bytes h reads n = go (ltb n size) refl
  where
    size : ℕ
    size = copy_length (instance bytes)

    told : number (tidy_answer bytes n) ≡ cond (ltb n size) 21 0
    told = ap (λ (r : Reading). number (answered r (instance bytes) n)) reads ∙ own_number (first_applying (room_rules size n)) size

    go : (t : Bool) → ltb n size ≡ t → (number (tidy_answer bytes n) ≡ 21) ↔ (n < length (tidied (instance bytes)))
    go true q = (λ e. omega (arith, ltb-true n size q, copied_length (instance bytes)), λ l. told ∙ ap (λ (t : Bool). cond t 21 0) q)
    go false q = (
      λ e. absurd (let z : ◌≡◌ {A = ℕ} 21 0 = sym e ∙ told ∙ ap (λ (t : Bool). cond t 21 0) q in omega arith),
      λ l. absurd (omega (arith, ltb-false n size q, copied_length (instance bytes))),
    )

-- no copy is longer than one with as many records of each kind as a sheet may have
pub copy_longest : (I : Instance) → WellFormed I → length (tidied I) ≤ length_with max_services max_cabinets max_streams max_pairs
copy_longest I W =
    omega (
      arith,
      copied_length I,
      size_most (pair_count I),
      pairs_most I W.services W.cabinets,
      some_size max_pairs (omega arith),
      W.services,
      W.cabinets,
      W.streams,
    )

-- ---- where a copy was written

-- the sheet is accepted, the length is that of the copy, and the output has it
pub tidy_written : (bytes : List ℕ) (n m : ℕ) → tidy_answer bytes n ≡ Ok m
    → ((h : Sheet) × (reading bytes ≡ Ok h)) × (m ≡ copy_length (instance bytes)) × (m ≤ n)
unfolding tidy_answer answered written first_applying
tidy_written bytes n m e = go (reading bytes) refl e
  where
    size : ℕ
    size = copy_length (instance bytes)

    room : (t : Bool) → ltb n size ≡ t → written size n ≡ Ok m → (m ≡ size) × (m ≤ n)
    room true q e = absurd (let w : Err (refusal 21) ≡ Ok m = simp q at e in let z : ◌≡◌ {A = ℕ} 0 1 = cc in omega arith)
    room false q e =
        let w : Ok size ≡ Ok m = simp q at e in
        let s : size ≡ m = cc in
        (sym s, omega (arith, s, ltb-false n size q))

    go : (r : Reading) → reading bytes ≡ r → answered r (instance bytes) n ≡ Ok m
        → ((h : Sheet) × (reading bytes ≡ Ok h)) × (m ≡ copy_length (instance bytes)) × (m ≤ n)
    go (Ok h) q e = let w = room (ltb n size) refl e in ((h, q), w.0, w.1)
    go (Err f) q e = absurd (let z : ◌≡◌ {A = ℕ} 0 1 = cc in omega arith)

-- the output after it is no shorter
pub written_fits : (bytes output output' : List ℕ) (a : Written) (m : ℕ) → a ≡ tidy_answer bytes (length output)
    → output' ≡ output_after (tidied (instance bytes)) a output → a ≡ Ok m → m ≤ length output'
unfolding output_after
written_fits bytes output output' a m e o q =
    let w = tidy_written bytes (length output) m (sym e ∙ q) in
    let copy = tidied (instance bytes) in
    let l : length output' ≡ length (copy ++ drop m output) = ap length (o ∙ ap (λ (b : Written). output_after copy b output) q) in
    omega (arith, l, length-append copy (drop m output), copied_length (instance bytes), w.1)
