-- The laws of a list whose front is written over.
use Prim.Native.Nat.{ℕ, ◌+◌, ◌-◌, ◌≤◌}
use native.Mathlib.Omega.{arith}
use mathlib.Core.Path.{◌≡◌, ap, ◌∙◌}
use mathlib.Core.List.{List, ◌++◌}
use lib.ListN.{length, drop, get_or, length-append, length-drop}
use lib.Seq.{get_or-append-add, get_or-drop}

module _ (n : ℕ) (part list : List ℕ) (e : length part ≡ n) where
  -- its length stays
  pub front_length : n ≤ length list → length (part ++ drop n list) ≡ length list
  front_length h = omega (arith, length-append part (drop n list), length-drop n list)

  -- what is behind the front stays
  pub front_behind : (i : ℕ) → n ≤ i → get_or (part ++ drop n list) i 0 ≡ get_or list i 0
  front_behind i h =
      ap (λ (j : ℕ). get_or (part ++ drop n list) j 0) (let q : i ≡ length part + (i - n) = omega arith in q)
      ∙ get_or-append-add part (drop n list) (i - n) 0
      ∙ get_or-drop n list (i - n) 0
      ∙ ap (λ (j : ℕ). get_or list j 0) (let q : n + (i - n) ≡ i = omega arith in q)
