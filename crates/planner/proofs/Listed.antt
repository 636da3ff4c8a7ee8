-- A table by its entries and as a list: the two say the same, whatever function the entries are of.
use Rattle.std.proofs.Common.{◌≡◌, ℕ, ◌+◌, ◌*◌, ◌/◌, ◌%◌, ◌^◌, ◌<◌, ◌≤◌, List, length, get_or, take, sym, ap, ◌∙◌, ap₂, mul-le-mul_right, mod-lt, mod-eq_of_lt, div-lt_iff_lt-mul, add-mul, div-add-mod', arith, get_or-take}
use native.Mathlib.Nat.{div-eq_of_lt, mul-add-div_right, mul-add-mod_self_right, one-le-pow}
use Rattle.sheet.specs.Instance.{Instance}
use Rattle.embedding.proofs.First.{places_at, places_only}
use Rattle.planner.specs.Answers.{entries}
use Rattle.planner.specs.Kept.{table_of}
use Rattle.planner.specs.Inner.Tables.{Entries}

-- a row has an entry
row_some : (I : Instance) → 0 < 2 ^ I.r
row_some I = one-le-pow I.r 2 (omega arith)

module _ (I : Instance) (f : ℕ → ℕ → ℕ) (table : List ℕ) where
  -- a table of s rows with the entries of f is the list of f
  pub listed : Entries I f table → length table ≡ entries I → table ≡ table_of I f
  listed E long =
      places_only (entries I) (λ i. f (i / 2 ^ I.r) (i % 2 ^ I.r)) table long (λ i l.
      ap (λ (j : ℕ). get_or table j 0) (sym (div-add-mod' i (2 ^ I.r)))
      ∙ E (i / 2 ^ I.r) (i % 2 ^ I.r) ((div-lt_iff_lt-mul (row_some I)).1 l) (mod-lt i (row_some I)))

  -- a table whose first s rows are the list of f has the entries of f
  pub entries_listed : take (entries I) table ≡ table_of I f → Entries I f table
  entries_listed e p x l h =
      let rows : (p + 1) * 2 ^ I.r ≤ entries I = mul-le-mul_right (2 ^ I.r) (let z : p + 1 ≤ I.s = omega arith in z) in
      let there : p * 2 ^ I.r + x < entries I = omega (arith, rows, add-mul p 1 (2 ^ I.r)) in
      sym (get_or-take (entries I) table (p * 2 ^ I.r + x) 0 there)
      ∙ ap (λ (y : List ℕ). get_or y (p * 2 ^ I.r + x) 0) e
      ∙ places_at (entries I) (λ i. f (i / 2 ^ I.r) (i % 2 ^ I.r)) (p * 2 ^ I.r + x) there
      ∙ ap₂ f
      (mul-add-div_right {m = 2 ^ I.r} (row_some I) p x ∙ ap (λ (z : ℕ). p + z) (div-eq_of_lt h) ∙ (let q : p + 0 ≡ p = omega arith in q))
      (mul-add-mod_self_right p (2 ^ I.r) x ∙ mod-eq_of_lt h)
