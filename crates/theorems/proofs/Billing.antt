-- What the definitions of the bill give: the work behind the theorems about it.
use Prim.Native.Nat.{ℕ, ◌+◌, ◌-◌, ◌*◌, ◌^◌, ◌≤◌, ◌<◌}
use native.Mathlib.Omega.{arith}
use mathlib.Core.Logic.{◌⊎◌, inl, inr, ⊎_elim}
use mathlib.Core.Path.{◌≡◌, refl, sym, ap, ap₂, ◌∙◌}
use mathlib.Core.List.{List, ◌++◌}
use lib.ListN.{length, drop, get_or}
use Rattle.finite.specs.Below.{sum_below}
use Rattle.finite.proofs.Sums.{sum_ext, le_sum}
use Rattle.sheet.specs.Limits.{max_services, max_cabinets}
use Rattle.sheet.specs.Instance.{Instance, instance}
use Rattle.sheet.specs.declared.Sheet.{Sheet}
use Rattle.sheet.specs.declared.Refusal.{Refusal}
use Rattle.std.specs.Prelude.{Ok, Err}
use Rattle.sheet.specs.Reading.{reading}
use Rattle.sheet.proofs.Promises.{well_formed}
use Rattle.embedding.specs.First.{places}
use Rattle.embedding.specs.Road.{up, down}
use Rattle.embedding.specs.Plan.{place, carried}
use Rattle.embedding.proofs.First.{places_length}
use Rattle.checker.specs.Check.{Checked, checked}
use Rattle.tidy.specs.Copy.{tidied}
use Rattle.bill.specs.Lines.{started, tax_on, directions, line_count, service_line, blocks, link_line, line, tax, total}
use Rattle.bill.specs.Answers.{bill_numbers, billed_after, billed, lines_after, bill_of, Billed}
use Rattle.bill.specs.declared.tariff.Tariff.{Tariff}
use Rattle.bill.proofs.Put.{front_at}
use Rattle.bill.proofs.Figures.{line_link, line_service, lines_sum, net_low, rated_low, total_low}
use Rattle.bill.proofs.Answers.{billable, made_iff, bill_answered}
use Rattle.theorems.proofs.Copying as copying
use Rattle.theorems.proofs.Lent.{front_written}
use Rattle.theorems.specs.Promised.{Given, LinesLeft}

-- ---- the answer, and the lines after it

pub either : (bytes plan : List ℕ) (t : Tariff) (n : ℕ) →
    ((m : ℕ) × (x : ℕ) × (k : ℕ) × (billed bytes plan t n ≡ bill_of m x k)) ⊎ ((f : Refusal) × (billed bytes plan t n ≡ Err f) × Given bill_numbers f)
either bytes plan t n = ⊎_elim inl (λ a. inr (a.0, a.1, record { grouped = a.2; listed = a.3 })) (bill_answered bytes plan t n)

module _ (bytes plan lines lines' : List ℕ) (t : Tariff) where
  abbrev I : Instance
  I = instance bytes

  abbrev π : ℕ → ℕ
  π = place plan

  -- the lines after a bill
  after : (a : Billed) → lines' ≡ lines_after I π t a lines → (m x k : ℕ) → a ≡ bill_of m x k → lines' ≡ places (line_count I) (line I π t) ++ drop (line_count I) lines
  unfolding lines_after
  after a o m x k q = o ∙ ap (λ (b : Billed). lines_after I π t b lines) q

  pub left : (a : Billed) → a ≡ billed bytes plan t (length lines) → lines' ≡ lines_after I π t a lines → LinesLeft I π t a lines lines'
  unfolding lines_after
  left a e o =
      record {
        billed = λ m x k q.
            let room : line_count I ≤ length lines = ((made_iff bytes plan t (length lines) m x k).0 (sym e ∙ q)).2 in
            let w = after a o m x k q in (
              front_written (line_count I) (places (line_count I) (line I π t)) lines lines' (places_length (line_count I) (line I π t)) room w,
              λ n l. ap (λ (z : List ℕ). get_or z n 0) w ∙ front_at (line_count I) (line I π t) lines n l,
            );
        refused = λ f q. o ∙ ap (λ (b : Billed). lines_after I π t b lines) q;
      }

  -- the sums
  pub sums : (m x k : ℕ) → billed bytes plan t (length lines) ≡ bill_of m x k → lines' ≡ lines_after I π t (bill_of m x k) lines →
      (sum_below (line_count I) (λ n. get_or lines' n 0) ≡ m) × (x ≡ tax_on m t.tax_rate) × (k ≡ m + x)
  unfolding tax total
  sums m x k e o =
      let made = (made_iff bytes plan t (length lines) m x k).0 e in (
        sum_ext (line_count I) _ _ (λ n l. ((left (bill_of m x k) (sym e) o).billed m x k refl).1 n l) ∙ lines_sum I π t ∙ sym made.3,
        made.4 ∙ ap (λ (n : ℕ). tax_on n t.tax_rate) (sym made.3),
        made.5 ∙ ap₂ (λ (a b : ℕ). a + b) (sym made.3) (sym made.4),
      )

-- ---- how many lines there are, and how high the figures are

pub room : (bytes : List ℕ) (h : Sheet) → reading bytes ≡ Ok h →
    (line_count (instance bytes) ≡ 2 * ((instance bytes).s - 1) + (instance bytes).r)
    × (line_count (instance bytes) ≤ 2 * (max_cabinets - 1) + max_services)
unfolding line_count directions
room bytes h reads = let W = well_formed bytes h reads in (refl, omega (arith, W.cabinets, W.services))

pub low : (bytes plan : List ℕ) (t : Tariff) (lines m x k : ℕ) → billed bytes plan t lines ≡ bill_of m x k →
    ((n : ℕ) → n < line_count (instance bytes) → line (instance bytes) (place plan) t n ≤ m)
    × (m < 2 ^ 31)
    × (m * t.tax_rate + 500 < 2 ^ 64)
    × (k < 2 ^ 32)
low bytes plan t lines m x k e =
    let I = instance bytes in
    let π = place plan in
    let made = (made_iff bytes plan t lines m x k).0 e in
    let B = billable bytes plan made.0.0 made.0.1 in (
      λ n l. omega (arith, le_sum (line_count I) (line I π t) n l, lines_sum I π t, made.3),
      omega (arith, net_low I π B t made.1, made.3),
      omega (arith, rated_low I π B t made.1, ap (λ (z : ℕ). z * t.tax_rate) made.3),
      omega (arith, total_low I π B t made.1, made.5),
    )

-- ---- the lines, one by one

module _ (I : Instance) (π : ℕ → ℕ) (t : Tariff) where
  pub link_lines : (c : ℕ) → 0 < c → c < I.s →
      (line I π t (2 * (c - 1)) ≡ started (carried I π (up c)) * t.block_price)
      × (line I π t (2 * (c - 1) + 1) ≡ started (carried I π (down c)) * t.block_price)
  unfolding up down directions blocks link_line
  link_lines c z h = (line_link I π t (2 * (c - 1)) (omega arith), line_link I π t (2 * (c - 1) + 1) (omega arith))

  pub service_lines : (i : ℕ) → i < I.r → line I π t (2 * (I.s - 1) + i) ≡ I.demand i * t.slot_price
  unfolding directions service_line
  service_lines i h = line_service I π t i

-- ---- a tidy copy

pub same_billed : (bytes : List ℕ) (h : Sheet) → reading bytes ≡ Ok h → (plan : List ℕ) (t : Tariff) (n : ℕ) →
    billed (tidied (instance bytes)) plan t n ≡ billed bytes plan t n
unfolding billed
same_billed bytes h reads plan t n =
    ap (λ (c : Checked). billed_after c (instance (tidied (instance bytes))) (place plan) t n) (copying.same_checked bytes h reads plan)
    ∙ ap (λ (J : Instance). billed_after (checked bytes plan) J (place plan) t n) (copying.same bytes h reads).1
