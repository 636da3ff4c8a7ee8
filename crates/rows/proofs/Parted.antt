-- The rows of a table, and a table after one row of it was lent as a part in its middle.
use Prim.Native.Nat.{ℕ, ◌+◌, ◌-◌, ◌*◌, ◌≤◌, ◌<◌}
use native.Mathlib.Nat.{mul-le-mul_right}
use native.Mathlib.Omega.{arith}
use mathlib.Core.Logic.{⊎_elim, ◌⊎◌, inl, inr}
use mathlib.Core.Path.{◌≡◌, refl, ap, ◌∙◌}
use mathlib.Core.Bool.{Bool, true, false, cond}
use mathlib.Core.List.{List, ◌++◌}
use lib.Dec.{eqb, ltb}
use lib.ListN.{length, get_or, take, drop, set, replicate, length-drop, length-replicate, get_or-replicate, get_or-append}
use lib.Seq.{get_or-take, get_or-drop, get_or-set_same, get_or-set_other, length-take-le}
use borrow.Rule.Slice.PartMut.{put_mid, same_len_mid}
use borrow.Author.Tests.{eqb-true, eqb-false, ltb-true, ltb-false}
use Rattle.std.proofs.Common.{rules}
use Rattle.std.proofs.lemmas.List.{places}
use Rattle.rows.specs.Rebuilds.{entry, RowOf, RowSet}

-- ---- rows one after the other

-- the row of p ends where that of a later cabinet begins, or before
pub row_before : (size : ℕ) {p c : ℕ} → p < c → p * size + size ≤ c * size
row_before size {p} {c} h = omega (arith, mul-le-mul_right {m = p + 1} {n = c} size (omega arith))

-- and within a table of s rows
pub row_within : (size s : ℕ) {p : ℕ} → p < s → p * size + size ≤ s * size
row_within size s h = row_before size h

lt_or_ge : (i m : ℕ) → (i < m) ⊎ (m ≤ i)
lt_or_ge i m = go (ltb i m) refl
  where
    go : (b : Bool) → ltb i m ≡ b → (i < m) ⊎ (m ≤ i)
    go true e = inl (ltb-true i m e)
    go false e = inr (ltb-false i m e)

-- ---- a list whose middle is written over

module _ {A : Type 0} (none : A) (a k : ℕ) (xs ys : List A) (fits : a + k ≤ length xs) (same : length ys ≡ k) where
  mid_before : (i : ℕ) → i < a → get_or (put_mid a k xs ys) i none ≡ get_or xs i none
  mid_before i h = search (rules, places)

  mid_inside : (i : ℕ) → i < k → get_or (put_mid a k xs ys) (a + i) none ≡ get_or ys i none
  mid_inside i h = search (rules, places)

  mid_after : (i : ℕ) → a + k ≤ i → get_or (put_mid a k xs ys) i none ≡ get_or xs i none
  mid_after i h = search (rules, places)

-- ---- a row lent, of entries of any type, where one that isn't there is `none`

-- the row of p, as the code lends it, and the table once such a row is back
abbrev pub row_of : {A : Type 0} → ℕ → ℕ → List A → List A
row_of size p t = take (p * size + size - p * size) (drop (p * size) t)

abbrev pub put_row : {A : Type 0} → ℕ → ℕ → List A → List A → List A
put_row size p t ys = put_mid (p * size) (p * size + size - p * size) t ys

module _ {A : Type 0} (size p : ℕ) (t : List A) (fits : p * size + size ≤ length t) where
  -- as long as a row is
  pub row_length : length (row_of size p t) ≡ size
  row_length =
      let e : p * size + size - p * size ≡ size = omega arith in
      rw e (length-take-le size (drop (p * size) t) (omega (arith, length-drop (p * size) t)))

  -- with the table's entries
  pub row_entry : (none : A) (x : ℕ) → x < size → get_or (row_of size p t) x none ≡ get_or t (p * size + x) none
  row_entry none x h =
      get_or-take (p * size + size - p * size) (drop (p * size) t) x none (omega arith) ∙ get_or-drop (p * size) t x none

  module _ (ys : List A) (same : length ys ≡ length (row_of size p t)) where
    -- the table keeps its length
    pub put_length : length (put_row size p t ys) ≡ length t
    put_length = same_len_mid (p * size) (p * size + size - p * size) t ys same

    -- the table with another row there
    pub row_put : (none : A) (f : ℕ → A) → ((x : ℕ) → x < size → get_or ys x none ≡ f x) → RowOf A none size p f t (put_row size p t ys)
    row_put none f g =
        let long : length ys ≡ size = same ∙ row_length in
        record {
          row = λ x h. mid_inside none (p * size) (p * size + size - p * size) t ys (omega arith) (omega arith) x (omega arith) ∙ g x h;
          rest = λ d x n h. ⊎_elim
              (λ l. mid_before none (p * size) (p * size + size - p * size) t ys (omega arith) (omega arith) (d * size + x) (omega (arith, row_before size l)))
              (λ l. mid_after none (p * size) (p * size + size - p * size) t ys (omega arith) (omega arith) (d * size + x)
              (omega (arith, row_before size (let z : p < d = omega arith in z)))) (lt_or_ge d p);
        }

-- ---- a row whose first entry was written

pub first_put : (size c : ℕ) (f : ℕ → ℕ) (u u₁ : List ℕ) (m : ℕ) → c * size < length u₁ → RowSet size c f u u₁
    → RowSet size c (λ x. cond (eqb x 0) m (f x)) u (set u₁ (c * size) m)
first_put size c f u u₁ m there R = record {
  row = λ x h. go x h (eqb x 0) refl;
  rest = λ d x n h. get_or-set_other u₁ (c * size) (d * size + x) m 0 (apart d x n h) ∙ R.rest d x n h;
}
  where
    go : (x : ℕ) → x < size → (b : Bool) → eqb x 0 ≡ b → entry size (set u₁ (c * size) m) c x ≡ cond b m (f x)
    go x h true e =
        let z : c * size + x ≡ c * size = omega (arith, eqb-true x 0 e) in
        ap (λ (i : ℕ). get_or (set u₁ (c * size) m) i 0) z ∙ get_or-set_same u₁ (c * size) m 0 there
    go x h false e =
        let z : (x ≡ 0 → ⊥) = eqb-false x 0 e in
        get_or-set_other u₁ (c * size) (c * size + x) m 0 (λ q. omega arith) ∙ R.row x h

    apart : (d x : ℕ) → (d ≡ c → ⊥) → x < size → d * size + x ≡ c * size → ⊥
    apart d x n h q =
        ⊎_elim (λ l. absurd (omega (arith, row_before size l))) (λ l. absurd (omega (arith, row_before size (let z : c < d = omega arith in z)))) (lt_or_ge d c)

-- ---- a table whose first row was cleared

pub zeros_first : (size n : ℕ) (ys zs : List ℕ) (x : ℕ) → ys ≡ replicate n 0 → x < n → entry size (ys ++ zs) 0 x ≡ 0
zeros_first size n ys zs x e h =
    rw e (ap (λ (i : ℕ). get_or (replicate n 0 ++ zs) i 0) (let z : 0 * size + x ≡ x = omega arith in z)
    ∙ get_or-append (replicate n 0) zs 0 x (omega (arith, length-replicate {A = ℕ} n 0)) ∙ get_or-replicate n x 0 0 h)

-- a row copied to the beginning of a list
pub copied : (row ys rest : List ℕ) → ys ≡ row → (x : ℕ) → x < length row → get_or (ys ++ rest) x 0 ≡ get_or row x 0
copied row ys rest e x h = rw e (get_or-append row rest 0 x h)
