-- What is read of bytes that were made from words, and of records that follow each other without gaps.
use Prim.Native.Nat.{ℕ, zero, suc, ◌+◌, ◌*◌, ◌/◌, ◌%◌, ◌≤◌, ◌<◌}
use native.Mathlib.Nat.{mul-suc, mul-le-mul_left}
use native.Mathlib.Omega.{arith}
use mathlib.Core.Path.{◌≡◌, refl, sym, ap, ap₂, ◌∙◌, subst}
use mathlib.Core.Bool.{Bool, true, false}
use mathlib.Core.List.{List, [], ◌∷◌, ◌++◌}
use lib.Dec.{eqb}
use lib.ListN.{length, get_or, drop, length-append, get_or-append}
use lib.Seq.{get_or-drop, get_or-append-add}
use borrow.Author.Tests.{eqb-true, eqb-false}
use Rattle.sheet.specs.Layout.{word_at}
use Rattle.tidy.specs.Words.{from_words, concat_below}

-- ---- words

-- a word is its low byte and 256 times its high byte
pub rejoined : (w : ℕ) → w % 256 + 256 * (w / 256) ≡ w
rejoined w = omega arith

pub bytes_length : (ws : List ℕ) → length (from_words ws) ≡ 2 * length ws
bytes_length [] = refl
bytes_length (w ∷ ws) = omega (arith, bytes_length ws)

-- word k of the bytes is word k of the words; past the end both are 0
pub word_read : (ws : List ℕ) (k : ℕ) → word_at (from_words ws) (2 * k) ≡ get_or ws k 0
word_read [] k = refl
word_read (w ∷ ws) zero = rejoined w
word_read (w ∷ ws) (suc k) =
    ap (λ (n : ℕ). word_at (from_words (w ∷ ws)) n) (let q : 2 * suc k ≡ suc (suc (2 * k)) = omega arith in q)
    ∙ ap (λ (n : ℕ). get_or (from_words ws) (2 * k) 0 + 256 * get_or (from_words (w ∷ ws)) n 0) (let q : suc (suc (2 * k)) + 1 ≡ suc (suc (2 * k + 1)) = omega arith in q)
    ∙ word_read ws k

-- and in the part that starts at word m
pub part_read : (ws : List ℕ) (m k : ℕ) → word_at (drop (2 * m) (from_words ws)) (2 * k) ≡ get_or ws (m + k) 0
part_read ws m k =
    ap₂ (λ (a b : ℕ). a + 256 * b) (get_or-drop (2 * m) (from_words ws) (2 * k) 0) (get_or-drop (2 * m) (from_words ws) (2 * k + 1) 0)
    ∙ ap₂ (λ (a b : ℕ). get_or (from_words ws) a 0 + 256 * get_or (from_words ws) b 0)
    (let q : 2 * m + 2 * k ≡ 2 * (m + k) = omega arith in q) (let q : 2 * m + (2 * k + 1) ≡ 2 * (m + k) + 1 = omega arith in q)
    ∙ word_read ws (m + k)

-- ---- records, each of so many words

module _ (size : ℕ) (f : ℕ → List ℕ) (even : (i : ℕ) → length (f i) ≡ size) where
  pub concat_length : (n : ℕ) → length (concat_below n f) ≡ size * n
  unfolding concat_below
  concat_length zero = omega arith
  concat_length (suc n) = omega (arith, length-append (concat_below n f) (f n), concat_length n, even n)

  within : (n i t : ℕ) → i < n → t < size → size * i + t < size * n
  within n i t h k = omega (arith, mul-le-mul_left size (let l : suc i ≤ n = omega arith in l), mul-suc size i)

  -- field t of record i
  pub field_of : (n i t : ℕ) → i < n → t < size → get_or (concat_below n f) (size * i + t) 0 ≡ get_or (f i) t 0
  unfolding concat_below
  field_of zero i t h k = absurd (omega arith)
  field_of (suc n) i t h k = go (eqb i n) refl (field_of n i t)
    where
      go : (b : Bool) → eqb i n ≡ b → (i < n → t < size → get_or (concat_below n f) (size * i + t) 0 ≡ get_or (f i) t 0)
          → get_or (concat_below n f ++ f n) (size * i + t) 0 ≡ get_or (f i) t 0
      go true e ih =
          let q : i ≡ n = eqb-true i n e in
          rw q (ap (λ (m : ℕ). get_or (concat_below n f ++ f n) (m + t) 0) (sym (concat_length n)) ∙ get_or-append-add (concat_below n f) (f n) t 0)
      go false e ih =
          let q : (i ≡ n → ⊥) = eqb-false i n e in
          get_or-append (concat_below n f) (f n) 0 (size * i + t) (omega (arith, concat_length n, within n i t (omega arith) k)) ∙ ih (omega arith) k

  -- the same, read from the bytes of words that have the records somewhere, from an offset and at a place in bytes
  pub field_read : (ahead after : List ℕ) (n i t at x : ℕ) → i < n → t < size → at ≡ 2 * length ahead → x ≡ 2 * (size * i + t)
      → word_at (drop at (from_words (ahead ++ concat_below n f ++ after))) x ≡ get_or (f i) t 0
  field_read ahead after n i t at x h k a e =
      ap₂ (λ (u v : ℕ). word_at (drop u (from_words (ahead ++ concat_below n f ++ after))) v) a e
      ∙ part_read (ahead ++ concat_below n f ++ after) (length ahead) (size * i + t)
      ∙ get_or-append (ahead ++ concat_below n f) after 0 (length ahead + (size * i + t))
      (omega (arith, length-append ahead (concat_below n f), concat_length n, within n i t h k))
      ∙ get_or-append-add ahead (concat_below n f) (size * i + t) 0
      ∙ field_of n i t h k

-- records depend only on those that are there
concat_same : (n : ℕ) (f g : ℕ → List ℕ) → ((i : ℕ) → i < n → f i ≡ g i) → concat_below n f ≡ concat_below n g
unfolding concat_below
concat_same zero f g h = refl
concat_same (suc n) f g h = ap₂ (λ (a b : List ℕ). a ++ b) (concat_same n f g (λ i k. h i (omega arith))) (h n (omega arith))

pub concat_ext : (n m : ℕ) (f g : ℕ → List ℕ) → n ≡ m → ((i : ℕ) → i < n → f i ≡ g i) → concat_below n f ≡ concat_below m g
concat_ext n m f g e h = subst (λ (m : ℕ). concat_below n f ≡ concat_below m g) e (concat_same n f g h)
