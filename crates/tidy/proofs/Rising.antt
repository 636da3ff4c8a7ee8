-- The pairs of a copy rise: each has a lower service than the next, or the same and a lower cabinet.
use Prim.Native.Nat.{ℕ, zero, suc, ◌+◌, ◌*◌, ◌≤◌, ◌<◌}
use native.Mathlib.Nat.{mul-le-mul_right}
use native.Mathlib.Omega.{arith}
use mathlib.Core.Logic.{◌⊎◌, inl, inr}
use mathlib.Core.Path.{◌≡◌, refl, sym, ap, ◌∙◌, subst}
use mathlib.Core.Bool.{Bool, true, false, ◌&&◌, cond}
use mathlib.Core.List.{List, [], ◌∷◌, ◌++◌}
use lib.Dec.{ltb, leb}
use lib.ListN.{length, get_or}
use borrow.Author.Tests.{ltb-true, ltb-false}
use Rattle.finite.proofs.Booleans.{both_l}
use Rattle.sheet.specs.Layout.{part_from, pair}
use Rattle.sheet.specs.Instance.{Instance, WellFormed}
use Rattle.sheet.specs.Records.{there, pair_record}
use Rattle.sheet.specs.declared.Sheet.{Sheet}
use Rattle.sheet.specs.declared.Pair.{Pair}
use Rattle.std.specs.Prelude.{Some, None}
use Rattle.sheet.proofs.Given.{same_given, is_given}
use Rattle.tidy.specs.Words.{concat_below}
use Rattle.tidy.specs.Copy.{pair_if, service_pairs, pair_words, pair_count, tidied}
use Rattle.tidy.proofs.Accepted.{in_range}
use Rattle.tidy.proofs.Barred.{pairs_length}
use Rattle.tidy.proofs.Fields.{tidy_sheet, pair_read}

-- words that are pairs, where the pair of x and y has the number x × s + y: the numbers rise from lo on, and all are below hi
abbrev Rising : ℕ → ℕ → ℕ → List ℕ → Type 0
Rising s lo hi [] = lo ≤ hi
Rising s lo hi (x ∷ []) = ⊥
Rising s lo hi (x ∷ y ∷ ws) = (lo ≤ x * s + y) × Rising s (x * s + y + 1) hi ws

-- from a lower number on
lower : (s lo lo' hi : ℕ) (ws : List ℕ) → lo' ≤ lo → Rising s lo hi ws → Rising s lo' hi ws
lower s lo lo' hi [] h r = omega arith
lower s lo lo' hi (x ∷ []) h r = r
lower s lo lo' hi (x ∷ y ∷ ws) h r = (omega (arith, r.0), r.1)

-- one list behind another
append : (s lo mid hi : ℕ) (l k : List ℕ) → Rising s lo mid l → Rising s mid hi k → Rising s lo hi (l ++ k)
append s lo mid hi [] k r t = lower s mid lo hi k r t
append s lo mid hi (x ∷ []) k r t = absurd r
append s lo mid hi (x ∷ y ∷ l) k r t = (r.0, append s (x * s + y + 1) mid hi l k r.1 t)

-- each number is below the next
next : (s lo hi : ℕ) (ws : List ℕ) → Rising s lo hi ws → (n : ℕ) → 2 * n + 3 < length ws
    → get_or ws (2 * n) 0 * s + get_or ws (2 * n + 1) 0 < get_or ws (2 * n + 2) 0 * s + get_or ws (2 * n + 3) 0
next s lo hi [] r n h = absurd (omega arith)
next s lo hi (x ∷ []) r n h = absurd r
next s lo hi (x ∷ y ∷ []) r n h = absurd (omega arith)
next s lo hi (x ∷ y ∷ z ∷ []) r n h = absurd r.1
next s lo hi (x ∷ y ∷ z ∷ w ∷ ws) r zero h = omega (arith, r.1.0)
next s lo hi (x ∷ y ∷ z ∷ w ∷ ws) r (suc n) h =
    let all = x ∷ y ∷ z ∷ w ∷ ws in
    let a : 2 * suc n ≡ suc (suc (2 * n)) = omega arith in
    let b : 2 * suc n + 1 ≡ suc (suc (2 * n + 1)) = omega arith in
    let c : 2 * suc n + 2 ≡ suc (suc (2 * n + 2)) = omega arith in
    let d : 2 * suc n + 3 ≡ suc (suc (2 * n + 3)) = omega arith in
    let e = next s (x * s + y + 1) hi (z ∷ w ∷ ws) r.1 n (omega arith) in
    subst (λ (m : ℕ). get_or all m 0 * s + get_or all (2 * suc n + 1) 0 < get_or all (2 * suc n + 2) 0 * s + get_or all (2 * suc n + 3) 0) (sym a)
    (subst (λ (m : ℕ). get_or (z ∷ w ∷ ws) (2 * n) 0 * s + get_or all m 0 < get_or all (2 * suc n + 2) 0 * s + get_or all (2 * suc n + 3) 0) (sym b)
    (subst (λ (m : ℕ). get_or (z ∷ w ∷ ws) (2 * n) 0 * s + get_or (z ∷ w ∷ ws) (2 * n + 1) 0 < get_or all m 0 * s + get_or all (2 * suc n + 3) 0) (sym c)
    (subst (λ (m : ℕ). get_or (z ∷ w ∷ ws) (2 * n) 0 * s + get_or (z ∷ w ∷ ws) (2 * n + 1) 0 < get_or (z ∷ w ∷ ws) (2 * n + 2) 0 * s + get_or all m 0) (sym d) e)))

-- of numbers that rise, the first parts rise, or are the same and the second parts rise
in_order : (s x y z w : ℕ) → w < s → x * s + y < z * s + w → (x < z) ⊎ ((x ≡ z) × (y < w))
in_order s x y z w k h = go (ltb x z) refl
  where
    same : (t : Bool) → z ≤ x → ltb z x ≡ t → (x < z) ⊎ ((x ≡ z) × (y < w))
    same true l q =
        let m = mul-le-mul_right s (let b : suc z ≤ x = ltb-true z x q in b) in
        let d : suc z * s ≡ z * s + s = omega arith in
        absurd (omega (arith, m, d))
    same false l q =
        let e : x ≡ z = omega (arith, ltb-false z x q) in
        let f : x * s ≡ z * s = ap (λ (n : ℕ). n * s) e in
        inr (e, omega (arith, f))

    go : (t : Bool) → ltb x z ≡ t → (x < z) ⊎ ((x ≡ z) × (y < w))
    go true q = inl (ltb-true x z q)
    go false q = same (ltb z x) (ltb-false x z q) refl

module _ (I : Instance) where
  one : (t : Bool) (i c : ℕ) → Rising I.s (i * I.s + c) (i * I.s + suc c) (pair_if t i c)
  one true i c = (omega arith, omega arith)
  one false i c = omega arith

  of_service : (i n : ℕ) → Rising I.s (i * I.s) (i * I.s + n) (concat_below n (λ c. pair_if (I.barred i c) i c))
  unfolding concat_below
  of_service i zero = omega arith
  of_service i (suc n) = append I.s (i * I.s) (i * I.s + n) (i * I.s + suc n) (concat_below n (λ c. pair_if (I.barred i c) i c)) (pair_if (I.barred i n) i n) (of_service i n) (one (I.barred i n) i n)

  of_services : (n : ℕ) → Rising I.s 0 (n * I.s) (concat_below n (service_pairs I))
  unfolding concat_below service_pairs
  of_services zero = omega arith
  of_services (suc n) =
      append I.s 0 (n * I.s) (suc n * I.s) (concat_below n (service_pairs I)) (service_pairs I n) (of_services n)
      (subst (λ (h : ℕ). Rising I.s (n * I.s) h (service_pairs I n)) (let e : n * I.s + I.s ≡ suc n * I.s = omega arith in e) (of_service n I.s))

  -- the pairs of a copy rise
  pairs_rise : (n : ℕ) → 2 * n + 3 < length (pair_words I)
      → get_or (pair_words I) (2 * n) 0 * I.s + get_or (pair_words I) (2 * n + 1) 0 < get_or (pair_words I) (2 * n + 2) 0 * I.s + get_or (pair_words I) (2 * n + 3) 0
  unfolding pair_words
  pairs_rise n h = next I.s 0 (I.r * I.s) (concat_below I.r (service_pairs I)) (of_services I.r) n h

-- ---- in a copy

-- a pair that is given is the one that stands there
given : (t : Bool) (x y : Pair) → cond t (Some x) None ≡ Some y → (t ≡ true) × (y ≡ x)
given true x y e = (refl, sym (same_given x y e))
given false x y e = absurd (is_given y e)

pair_is : (h : Sheet) (bytes : List ℕ) (n : ℕ) (p : Pair) → pair_record h bytes n ≡ Some p → (n < h.pairs) × (p ≡ pair h bytes n)
unfolding pair_record there
pair_is h bytes n p e =
    let g = given (ltb n h.pairs && leb (2 + 4 * n + 4) (length (part_from h.pairs_at bytes))) (pair h bytes n) p e in
    (ltb-true n h.pairs (both_l (ltb n h.pairs) _ g.0), g.1)

module _ (I : Instance) (W : WellFormed I) (root_parent : I.parent 0 ≡ 65535) where
  -- each pair comes before the next
  pub copy_rises : (n : ℕ) (p q : Pair) → pair_record (tidy_sheet I) (tidied I) n ≡ Some p → pair_record (tidy_sheet I) (tidied I) (n + 1) ≡ Some q
      → (p.service < q.service) ⊎ ((p.service ≡ q.service) × (p.cabinet < q.cabinet))
  copy_rises n p q e f =
      let a = pair_is (tidy_sheet I) (tidied I) n p e in
      let b = pair_is (tidy_sheet I) (tidied I) (n + 1) q f in
      let below : n + 1 < pair_count I = b.0 in
      let x = a.1 ∙ pair_read I n (omega arith) in
      let y = b.1 ∙ pair_read I (n + 1) (omega arith)
      ∙ ap (λ (m : ℕ). record { service = get_or (pair_words I) m 0; cabinet = get_or (pair_words I) (m + 1) 0 }) (let z : 2 * (n + 1) ≡ 2 * n + 2 = omega arith in z)
      ∙ ap (λ (m : ℕ). record { service = get_or (pair_words I) (2 * n + 2) 0; cabinet = get_or (pair_words I) m 0 }) (let z : 2 * n + 2 + 1 ≡ 2 * n + 3 = omega arith in z) in
      let last = (in_range I W root_parent (n + 1) below).1 in
      let fits : get_or (pair_words I) (2 * n + 3) 0 < I.s = subst (λ (m : ℕ). get_or (pair_words I) m 0 < I.s) (let z : 2 * (n + 1) + 1 ≡ 2 * n + 3 = omega arith in z) last in
      rw (x, y)
      (in_order I.s (get_or (pair_words I) (2 * n) 0) (get_or (pair_words I) (2 * n + 1) 0) (get_or (pair_words I) (2 * n + 2) 0) (get_or (pair_words I) (2 * n + 3) 0)
      fits (pairs_rise I n (omega (arith, pairs_length I))))
