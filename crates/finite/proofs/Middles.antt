-- The laws of a list whose middle is written over: the k elements from a on.
use Prim.Native.Nat.{ℕ, ◌+◌, ◌-◌, ◌≤◌, ◌<◌}
use native.Mathlib.Omega.{arith}
use mathlib.Core.Path.{◌≡◌, sym, ap, ◌∙◌}
use mathlib.Core.List.{List, ◌++◌}
use lib.ListN.{length, get_or, take, drop, get_or-append}
use lib.Seq.{get_or-append-add, get_or-take, get_or-drop, length-take-le, take_at, drop_at}
use borrow.Rule.Slice.PartMut.{put_mid}

module _ (a k : ℕ) (xs ys : List ℕ) (fits : a + k ≤ length xs) (same : length ys ≡ k) where
  first : length (take a xs) ≡ a
  first = length-take-le a xs (omega arith)

  -- what is before it stays
  pub mid_before : (i : ℕ) → i < a → get_or (put_mid a k xs ys) i 0 ≡ get_or xs i 0
  mid_before i h = get_or-append (take a xs) _ 0 i (omega (arith, first)) ∙ get_or-take a xs i 0 h

  shifted : (i : ℕ) → get_or (put_mid a k xs ys) (a + i) 0 ≡ get_or (ys ++ drop k (drop a xs)) i 0
  shifted i = ap (λ (n : ℕ). get_or (put_mid a k xs ys) (n + i) 0) (sym first) ∙ get_or-append-add (take a xs) (ys ++ drop k (drop a xs)) i 0

  -- what is written is there
  pub mid_inside : (i : ℕ) → i < k → get_or (put_mid a k xs ys) (a + i) 0 ≡ get_or ys i 0
  mid_inside i h = shifted i ∙ get_or-append ys (drop k (drop a xs)) 0 i (omega arith)

  -- what is behind it stays
  pub mid_after : (i : ℕ) → a + k ≤ i → get_or (put_mid a k xs ys) i 0 ≡ get_or xs i 0
  mid_after i h =
      let j : ℕ = i - (a + k) in
      let e : i ≡ a + (length ys + j) = omega arith in
      ap (λ (n : ℕ). get_or (put_mid a k xs ys) n 0) e ∙ shifted (length ys + j) ∙ get_or-append-add ys (drop k (drop a xs)) j 0
      ∙ get_or-drop k (drop a xs) j 0 ∙ get_or-drop a xs (k + j) 0 ∙ ap (λ (n : ℕ). get_or xs n 0) (omega arith)

  -- as a list, what is written
  tail : drop a (put_mid a k xs ys) ≡ ys ++ drop k (drop a xs)
  tail = drop_at (take a xs) (ys ++ drop k (drop a xs)) a first

  pub mid_part : take k (drop a (put_mid a k xs ys)) ≡ ys
  mid_part = ap (take k) tail ∙ take_at ys (drop k (drop a xs)) k same
